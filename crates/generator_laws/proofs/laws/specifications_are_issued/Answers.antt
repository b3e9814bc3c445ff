use Rattle.generator_laws.proofs.Issued as lemmas
use Rattle.generator_laws.proofs.laws.specifications_are_issued.Goals as goal

pub returns : goal.returns
returns c = lemmas.specifications_issued
