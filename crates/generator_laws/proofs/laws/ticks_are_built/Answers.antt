use Rattle.generator_laws.proofs.Builds as lemmas
use Rattle.generator_laws.proofs.laws.ticks_are_built.Goals as goal

pub returns : goal.returns
returns c = lemmas.ticks_built
