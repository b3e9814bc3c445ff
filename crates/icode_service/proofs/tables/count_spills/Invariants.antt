use Rattle.std.proofs.Common.{◌≡◌, ◌+◌, ◌≤◌, drop}
use Rattle.mips_model.specs.Choices.{spilled}
use Rattle.icode_service.proofs.tables.count_spills.Given as goal

abbrev pub invariant-loop-x : goal.invariant-loop-x
invariant-loop-x l = record {
  few : l.count ≤ l.x-index;
  sum : l.count + spilled l.places (drop l.x-index l.intervals) ≡ spilled l.places l.intervals;
}
