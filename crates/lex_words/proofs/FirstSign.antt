-- Some bytes begin only the sign that they are.
use Rattle.std.proofs.Common.{◌≡◌, [], ◌∷◌, arith, refl, sym, subst}
use Rattle.std.specs.Prelude.{slice_index, Some}
use Rattle.lex_words.specs.Words.{Text, sign_at}
use Rattle.lex_words.specs.declared.signs.Sign.TheVariants as mark

pub at_123 : (z : Text) → slice_index z 0 ≡ 123 → Some mark.BraceOpen ≡ sign_at z
unfolding sign_at
at_123 [] e = absurd (omega (arith, e))
at_123 (b ∷ z) e = subst (λ a. Some mark.BraceOpen ≡ sign_at (a ∷ z)) (sym e) refl

pub at_125 : (z : Text) → slice_index z 0 ≡ 125 → Some mark.BraceClose ≡ sign_at z
unfolding sign_at
at_125 [] e = absurd (omega (arith, e))
at_125 (b ∷ z) e = subst (λ a. Some mark.BraceClose ≡ sign_at (a ∷ z)) (sym e) refl

pub at_40 : (z : Text) → slice_index z 0 ≡ 40 → Some mark.ParenOpen ≡ sign_at z
unfolding sign_at
at_40 [] e = absurd (omega (arith, e))
at_40 (b ∷ z) e = subst (λ a. Some mark.ParenOpen ≡ sign_at (a ∷ z)) (sym e) refl

pub at_41 : (z : Text) → slice_index z 0 ≡ 41 → Some mark.ParenClose ≡ sign_at z
unfolding sign_at
at_41 [] e = absurd (omega (arith, e))
at_41 (b ∷ z) e = subst (λ a. Some mark.ParenClose ≡ sign_at (a ∷ z)) (sym e) refl

pub at_91 : (z : Text) → slice_index z 0 ≡ 91 → Some mark.BracketOpen ≡ sign_at z
unfolding sign_at
at_91 [] e = absurd (omega (arith, e))
at_91 (b ∷ z) e = subst (λ a. Some mark.BracketOpen ≡ sign_at (a ∷ z)) (sym e) refl

pub at_93 : (z : Text) → slice_index z 0 ≡ 93 → Some mark.BracketClose ≡ sign_at z
unfolding sign_at
at_93 [] e = absurd (omega (arith, e))
at_93 (b ∷ z) e = subst (λ a. Some mark.BracketClose ≡ sign_at (a ∷ z)) (sym e) refl

pub at_59 : (z : Text) → slice_index z 0 ≡ 59 → Some mark.Semicolon ≡ sign_at z
unfolding sign_at
at_59 [] e = absurd (omega (arith, e))
at_59 (b ∷ z) e = subst (λ a. Some mark.Semicolon ≡ sign_at (a ∷ z)) (sym e) refl

pub at_44 : (z : Text) → slice_index z 0 ≡ 44 → Some mark.Comma ≡ sign_at z
unfolding sign_at
at_44 [] e = absurd (omega (arith, e))
at_44 (b ∷ z) e = subst (λ a. Some mark.Comma ≡ sign_at (a ∷ z)) (sym e) refl

pub at_63 : (z : Text) → slice_index z 0 ≡ 63 → Some mark.Question ≡ sign_at z
unfolding sign_at
at_63 [] e = absurd (omega (arith, e))
at_63 (b ∷ z) e = subst (λ a. Some mark.Question ≡ sign_at (a ∷ z)) (sym e) refl

pub at_58 : (z : Text) → slice_index z 0 ≡ 58 → Some mark.Colon ≡ sign_at z
unfolding sign_at
at_58 [] e = absurd (omega (arith, e))
at_58 (b ∷ z) e = subst (λ a. Some mark.Colon ≡ sign_at (a ∷ z)) (sym e) refl

pub at_126 : (z : Text) → slice_index z 0 ≡ 126 → Some mark.Tilde ≡ sign_at z
unfolding sign_at
at_126 [] e = absurd (omega (arith, e))
at_126 (b ∷ z) e = subst (λ a. Some mark.Tilde ≡ sign_at (a ∷ z)) (sym e) refl

pub at_36 : (z : Text) → slice_index z 0 ≡ 36 → Some mark.Dollar ≡ sign_at z
unfolding sign_at
at_36 [] e = absurd (omega (arith, e))
at_36 (b ∷ z) e = subst (λ a. Some mark.Dollar ≡ sign_at (a ∷ z)) (sym e) refl

pub at_46 : (z : Text) → slice_index z 0 ≡ 46 → Some mark.Dot ≡ sign_at z
unfolding sign_at
at_46 [] e = absurd (omega (arith, e))
at_46 (b ∷ z) e = subst (λ a. Some mark.Dot ≡ sign_at (a ∷ z)) (sym e) refl

pub at_96 : (z : Text) → slice_index z 0 ≡ 96 → Some mark.Backquote ≡ sign_at z
unfolding sign_at
at_96 [] e = absurd (omega (arith, e))
at_96 (b ∷ z) e = subst (λ a. Some mark.Backquote ≡ sign_at (a ∷ z)) (sym e) refl
