use Rattle.icode_templates_proof.proofs.Making as lemmas
use Rattle.icode_templates_proof.proofs.tick_limits_trap.Goals as goal

pub returns : goal.returns
returns c = λ code entry shared d kind low has few some h. lemmas.new_ends code entry shared d low has few h kind some
