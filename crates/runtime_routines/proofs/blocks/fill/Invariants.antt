use Rattle.std.proofs.Common.{◌≡◌, ◌-◌, ◌++◌}
use Rattle.routine_spec.specs.Blocks.{nothing_words}
use Rattle.runtime_routines.proofs.blocks.fill.Given as goal

abbrev pub invariant-loop : goal.invariant-loop
invariant-loop l = l.found ++ nothing_words (l.count - l.counter) ≡ l.fn.found ++ nothing_words l.count
