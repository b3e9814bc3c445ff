use Rattle.tick_lower_spec.specs.Specifications.{filled}
use Rattle.tick_lower_spec.proofs.Filled as lemmas
use Rattle.generator_spec.proofs.pieces_are_lowering.Goals as goal

pub returns : goal.returns
returns c = λ addresses captures splice tick. (lemmas.tick_same addresses (filled captures splice) tick).same
