use Rattle.compile_routine.proofs.Bodies as lemmas
use Rattle.compile_routine.proofs.bodies_grow.Goals as goal

pub returns : goal.returns
returns c = lemmas.bodies_grown
