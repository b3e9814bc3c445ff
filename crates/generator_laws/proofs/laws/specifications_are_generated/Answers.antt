use Rattle.generator_laws.proofs.Generating as lemmas
use Rattle.generator_laws.proofs.laws.specifications_are_generated.Goals as goal

pub returns : goal.returns
returns c = lemmas.generated
