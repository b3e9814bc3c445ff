use Rattle.std.proofs.Common.{◌≡◌, length}
use Rattle.asm_passes.specs.Collected.{known, placed_lines}
use Rattle.asm_passes.proofs.Rest.{known_with, Passed}
use Rattle.asm_passes.proofs.survey.surveyed.Given as goal

abbrev pub invariant-loop-rest : goal.invariant-loop-rest
invariant-loop-rest l = record {
  same : known_with l.labels l.at l.rest ≡ known (placed_lines l.text);
  passed : Passed l.at (length l.rest) (length l.text);
}

abbrev pub decreases-loop-rest : goal.decreases-loop-rest
decreases-loop-rest l = length l.rest
