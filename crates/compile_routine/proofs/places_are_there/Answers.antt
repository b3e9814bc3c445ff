use Rattle.compile_routine.proofs.Places as lemmas
use Rattle.compile_routine.proofs.places_are_there.Goals as goal

pub returns : goal.returns
returns c = lemmas.places_there
