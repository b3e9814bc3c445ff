use Rattle.compile_routine.proofs.Bodies as lemmas
use Rattle.compile_routine.proofs.bodies_give.Goals as goal

pub returns : goal.returns
returns c = lemmas.bodies_given
