use Rattle.icode_templates_proof.proofs.Making as lemmas
use Rattle.icode_templates_proof.proofs.ticks_are_specified.Goals as goal

pub returns : goal.returns
returns c = λ code entry shared d low has few none h. lemmas.new_answered code entry shared d low has few h none
