use Rattle.compile_routine.proofs.Compiled as lemmas
use Rattle.compile_routine.proofs.specifications_are_compiled.Goals as goal

pub returns : goal.returns
returns c =
    λ text pieces functions code entry shared is_value syntax words d low has hs ha whole is b table arena few h.
    lemmas.compile_answered text pieces functions code entry shared is_value syntax words d low has hs ha whole is b
    table
    arena few h
