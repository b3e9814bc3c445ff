use Rattle.compile_routine.proofs.Ops as lemmas
use Rattle.compile_routine.proofs.ops_make_functions.Goals as goal

pub returns : goal.returns
returns c = lemmas.ops_made
