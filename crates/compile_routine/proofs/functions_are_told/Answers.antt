use Rattle.compile_routine.proofs.Below as lemmas
use Rattle.compile_routine.proofs.functions_are_told.Goals as goal

pub returns : goal.returns
returns c =
    λ text pieces functions code entry shared is_value syntax d low has has_low hs ha whole is b table arena taken h. (
      lemmas.compile_below text pieces functions code entry shared is_value syntax d low has has_low hs ha whole is b
          table arena taken h,
      lemmas.compile_told text pieces functions code entry shared is_value syntax d low has has_low hs ha whole is b
          table arena taken h,
    )
