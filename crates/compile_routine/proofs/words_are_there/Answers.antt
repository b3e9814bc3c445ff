use Rattle.compile_routine.proofs.Grown as lemmas
use Rattle.compile_routine.proofs.words_are_there.Goals as goal

pub returns : goal.returns
returns c = lemmas.words_there
