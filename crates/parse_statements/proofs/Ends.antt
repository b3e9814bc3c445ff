-- The end of a text.
use Rattle.std.proofs.Common.{◌≡◌, ◌==◌, [], ◌∷◌, length, refl, sym}
use Rattle.std.proofs.Math.Dec.{eqb-suc-zero}
use Rattle.parse_grammar.specs.Input.{Input}
use Rattle.parse_grammar.specs.Statements.{at_end}

pub at_end_is : (i : Input) → at_end i ≡ (length i == 0)
unfolding at_end
at_end_is [] = refl
at_end_is (t ∷ i) = sym (eqb-suc-zero (length i))
