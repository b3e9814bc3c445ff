use Rattle.std.proofs.Common.{◌≡◌, ◌+◌, ◌-◌, ◌*◌, ◌^◌, ◌<◌, ◌≤◌}
use Rattle.meaning_state.specs.Shared.{frame_start}
use Rattle.eval_state.specs.Run.{here, run_of, world}
use Rattle.eval_state.proofs.Clearing.{clearing, stays}
use Rattle.eval_state.proofs.state.Machine.clear.Given as goal

abbrev pub invariant-loop : goal.invariant-loop
invariant-loop l = record {
  same : stays (run_of l.fn.self) (run_of l.self);
  rest : clearing l.words (frame_start (here (run_of l.fn.self)).object (world (run_of l.fn.self)).shared + l.offset)
      (run_of l.fn.self)
      ≡ clearing (l.words - l.counter) l.at (run_of l.self);
  units : (run_of l.self).state.units ≤ (run_of l.fn.self).state.units;
  within : l.at < 2 ^ 34 + 4 * l.counter;
}
