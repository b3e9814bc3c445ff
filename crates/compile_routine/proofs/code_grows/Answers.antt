use Rattle.compile_routine.proofs.Grown as lemmas
use Rattle.compile_routine.proofs.code_grows.Goals as goal

pub returns : goal.returns
returns c = lemmas.code_grown
