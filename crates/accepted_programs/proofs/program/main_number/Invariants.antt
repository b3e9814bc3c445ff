use Rattle.std.proofs.Common.{◌≡◌, ◌+◌, drop}
use Rattle.accepted_programs.specs.Mains.{main_from}
use Rattle.accepted_programs.proofs.program.main_number.Given as goal

abbrev pub invariant-loop-at : goal.invariant-loop-at
invariant-loop-at l = main_from (l.at + 1) (drop l.at l.functions) ≡ main_from 1 l.functions
