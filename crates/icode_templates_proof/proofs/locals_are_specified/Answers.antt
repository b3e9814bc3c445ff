use Rattle.icode_templates_proof.proofs.Making as lemmas
use Rattle.icode_templates_proof.proofs.locals_are_specified.Goals as goal

pub returns : goal.returns
returns c = λ code entry shared d low has none h. lemmas.local_answered code entry shared d low has h none
