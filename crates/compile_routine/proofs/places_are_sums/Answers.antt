use Rattle.compile_routine.proofs.Bodies as lemmas
use Rattle.compile_routine.proofs.places_are_sums.Goals as goal

pub returns : goal.returns
returns c = lemmas.places_sums
