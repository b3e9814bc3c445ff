use Rattle.std.proofs.Common.{◌≡◌, ◌+◌, length}
use Rattle.asm_passes.specs.Collected.{collected, placed_lines}
use Rattle.asm_passes.specs.Parts.{none, gathered, parts_of}
use Rattle.asm_passes.specs.Positions.{words}
use Rattle.asm_passes.specs.Values.{known_by}
use Rattle.asm_passes.proofs.Rest.{rest_of, Passed}
use Rattle.asm_passes.proofs.Gathering.{Sound}
use Rattle.asm_passes.proofs.parts.gather.Given as goal

abbrev pub invariant-loop-rest : goal.invariant-loop-rest
invariant-loop-rest l = record {
  same :
      gathered (parts_of l.parts) (collected (known_by l.survey.labels l.survey.words) (rest_of l.at l.rest))
      ≡ gathered none (collected (known_by l.survey.labels l.survey.words) (placed_lines l.text));
  words : l.at.words + words (rest_of l.at l.rest) ≡ l.survey.words;
  sound : Sound l.survey.words l.at (length l.rest) (length l.text) (parts_of l.parts);
  passed : Passed l.at (length l.rest) (length l.text);
}

abbrev pub decreases-loop-rest : goal.decreases-loop-rest
decreases-loop-rest l = length l.rest
