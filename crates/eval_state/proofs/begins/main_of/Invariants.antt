use Rattle.std.proofs.Common.{◌≡◌, drop}
use Rattle.staged_meaning.specs.Source.{main_of}
use Rattle.eval_state.proofs.begins.main_of.Given as goal

abbrev pub invariant-loop-f : goal.invariant-loop-f
invariant-loop-f l = main_of l.functions ≡ main_of (drop l.f-index l.functions)
