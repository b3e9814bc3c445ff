use Rattle.icode_templates_proof.proofs.Making as lemmas
use Rattle.icode_templates_proof.proofs.parameters_are_specified.Goals as goal

pub returns : goal.returns
returns c = λ code entry shared d low has none h. lemmas.parameter_answered code entry shared d low has h none
