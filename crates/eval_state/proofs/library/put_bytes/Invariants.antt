use Rattle.std.proofs.Common.{◌≡◌, ℕ, take}
use Rattle.eval_state.specs.Library.{put_after}
use Rattle.eval_state.specs.Sound.{AreKnown}
use Rattle.eval_state.proofs.library.put_bytes.Given as goal

abbrev pub invariant-loop-b : goal.invariant-loop-b
invariant-loop-b l = record {
  all : l.events ≡ put_after l.fn.events (take l.b-index l.bytes);
  known : (n : ℕ) → AreKnown n l.fn.events → AreKnown n l.events;
}
