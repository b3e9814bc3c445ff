use Rattle.generator_laws.proofs.BuildsTaken as lemmas
use Rattle.generator_laws.proofs.laws.ticks_are_taken.Goals as goal

pub returns : goal.returns
returns c = lemmas.ticks_taken
