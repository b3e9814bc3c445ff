use Rattle.icode_templates_proof.proofs.Making as lemmas
use Rattle.icode_templates_proof.proofs.local_limits_trap.Goals as goal

pub returns : goal.returns
returns c = λ code entry shared d kind low has some h. lemmas.local_ends code entry shared d low has h kind some
