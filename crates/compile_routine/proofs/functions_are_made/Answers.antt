use Rattle.compile_routine.proofs.Made as lemmas
use Rattle.compile_routine.proofs.functions_are_made.Goals as goal

pub returns : goal.returns
returns c =
    λ text pieces functions code entry shared is_value syntax d low has hs ha whole is b table arena taken h.
    lemmas.function_made text pieces functions code entry shared is_value syntax d low has hs ha whole is b table arena
    taken h
