-- A sign that begins a text is within it, and has no line feed.
use Rattle.std.proofs.Common.{◌≡◌, ℕ, suc, ◌+◌, ◌<◌, ◌≤◌, Bool, true, false, List, [], ◌∷◌, length, take, arith, refl}
use Rattle.std.proofs.Common.{sym, subst, ap, ◌∙◌}
use Rattle.std.specs.Prelude.{not, ◌&&◌, ◌==◌, slice_index, Option, Some, None, if◌then◌else◌, IfSome}
use Rattle.std.specs.Option.{option_or}
use Rattle.std.specs.List.{count_by}
use Rattle.std.proofs.lemmas.Bool.{and_parts, eqb-true}
use Rattle.std.proofs.lemmas.List.{get_or_past}
use Rattle.lex_words.specs.Words.{Text, stands, first, spelling, sign_at, of_three, of_two, of_one}
use Rattle.lex_words.specs.declared.signs.Sign.{Sign}
use Rattle.lex_words.specs.declared.signs.Sign.TheVariants as mark

-- no byte is 0
abbrev solid : Text → Bool
solid [] = true
solid (b ∷ w) = not (b == 0) && solid w

spelt_solid : (s : Sign) → solid (spelling s) ≡ true
spelt_solid mark.BraceOpen = refl
spelt_solid mark.BraceClose = refl
spelt_solid mark.ParenOpen = refl
spelt_solid mark.ParenClose = refl
spelt_solid mark.BracketOpen = refl
spelt_solid mark.BracketClose = refl
spelt_solid mark.Semicolon = refl
spelt_solid mark.Comma = refl
spelt_solid mark.Question = refl
spelt_solid mark.Colon = refl
spelt_solid mark.Tilde = refl
spelt_solid mark.Not = refl
spelt_solid mark.Plus = refl
spelt_solid mark.Minus = refl
spelt_solid mark.Star = refl
spelt_solid mark.Slash = refl
spelt_solid mark.Percent = refl
spelt_solid mark.And = refl
spelt_solid mark.Or = refl
spelt_solid mark.Caret = refl
spelt_solid mark.Less = refl
spelt_solid mark.Greater = refl
spelt_solid mark.Assign = refl
spelt_solid mark.Equal = refl
spelt_solid mark.NotEqual = refl
spelt_solid mark.LessEqual = refl
spelt_solid mark.GreaterEqual = refl
spelt_solid mark.ShiftLeft = refl
spelt_solid mark.ShiftRight = refl
spelt_solid mark.AndAnd = refl
spelt_solid mark.OrOr = refl
spelt_solid mark.PlusPlus = refl
spelt_solid mark.MinusMinus = refl
spelt_solid mark.PlusAssign = refl
spelt_solid mark.MinusAssign = refl
spelt_solid mark.StarAssign = refl
spelt_solid mark.SlashAssign = refl
spelt_solid mark.PercentAssign = refl
spelt_solid mark.AndAssign = refl
spelt_solid mark.OrAssign = refl
spelt_solid mark.CaretAssign = refl
spelt_solid mark.ShiftLeftAssign = refl
spelt_solid mark.ShiftRightAssign = refl
spelt_solid mark.Dollar = refl
spelt_solid mark.Dot = refl
spelt_solid mark.Arrow = refl
spelt_solid mark.Backquote = refl

-- a byte that is read and isn't 0 is within the text
read_within : (z : Text) (at b : ℕ) → (slice_index z at == b) ≡ true → not (b == 0) ≡ true → at < length z
read_within z at b e n = grind (arith, get_or_past z at 0)

stands_within : (w z : Text) (at : ℕ) → at ≤ length z → solid w ≡ true → stands w z at ≡ true → at + length w ≤ length z
stands_within [] z at h n s = omega (arith, h)
stands_within (b ∷ w) z at h n s =
    let here = and_parts (slice_index z at == b) (stands w z (at + 1)) s in
    let whole = and_parts (not (b == 0)) (solid w) n in
    let more = stands_within w z (at + 1) (omega (arith, read_within z at b here.0 whole.0)) whole.1 here.1 in
    omega (arith, more)

-- what stands there is a front of the text
stands_behind : (w z : Text) (b at : ℕ) → stands w (b ∷ z) (suc at) ≡ stands w z at
stands_behind [] z b at = refl
stands_behind (c ∷ w) z b at =
    let e : suc at + 1 ≡ suc (at + 1) = omega arith in
    ap (λ t. slice_index z at == c && t) (ap (stands w (b ∷ z)) e ∙ stands_behind w z b (at + 1))

begins : (w z : Text) → solid w ≡ true → stands w z 0 ≡ true → take (length w) z ≡ w
begins [] z n s = refl
begins (c ∷ w) [] n s =
    let here = and_parts (0 == c) (stands w [] 1) s in
    let whole = and_parts (not (c == 0)) (solid w) n in
    let r : 0 < 0 = read_within [] 0 c here.0 whole.0 in
    absurd (omega (arith, r))
begins (c ∷ w) (b ∷ z) n s =
    let here = and_parts (b == c) (stands w (b ∷ z) 1) s in
    let whole = and_parts (not (c == 0)) (solid w) n in
    let rest : take (length w) z ≡ w = begins w z whole.1 (sym (stands_behind w z b 0) ∙ here.1) in
    let same : b ≡ c = eqb-true b c here.0 in
    ap (λ x. x ∷ take (length w) z) same ∙ ap (λ y. c ∷ y) rest

abbrev feeds : Text → ℕ
feeds z = count_by (λ b. b == 10) z

spelt_flat : (s : Sign) → feeds (spelling s) ≡ 0
spelt_flat mark.BraceOpen = refl
spelt_flat mark.BraceClose = refl
spelt_flat mark.ParenOpen = refl
spelt_flat mark.ParenClose = refl
spelt_flat mark.BracketOpen = refl
spelt_flat mark.BracketClose = refl
spelt_flat mark.Semicolon = refl
spelt_flat mark.Comma = refl
spelt_flat mark.Question = refl
spelt_flat mark.Colon = refl
spelt_flat mark.Tilde = refl
spelt_flat mark.Not = refl
spelt_flat mark.Plus = refl
spelt_flat mark.Minus = refl
spelt_flat mark.Star = refl
spelt_flat mark.Slash = refl
spelt_flat mark.Percent = refl
spelt_flat mark.And = refl
spelt_flat mark.Or = refl
spelt_flat mark.Caret = refl
spelt_flat mark.Less = refl
spelt_flat mark.Greater = refl
spelt_flat mark.Assign = refl
spelt_flat mark.Equal = refl
spelt_flat mark.NotEqual = refl
spelt_flat mark.LessEqual = refl
spelt_flat mark.GreaterEqual = refl
spelt_flat mark.ShiftLeft = refl
spelt_flat mark.ShiftRight = refl
spelt_flat mark.AndAnd = refl
spelt_flat mark.OrOr = refl
spelt_flat mark.PlusPlus = refl
spelt_flat mark.MinusMinus = refl
spelt_flat mark.PlusAssign = refl
spelt_flat mark.MinusAssign = refl
spelt_flat mark.StarAssign = refl
spelt_flat mark.SlashAssign = refl
spelt_flat mark.PercentAssign = refl
spelt_flat mark.AndAssign = refl
spelt_flat mark.OrAssign = refl
spelt_flat mark.CaretAssign = refl
spelt_flat mark.ShiftLeftAssign = refl
spelt_flat mark.ShiftRightAssign = refl
spelt_flat mark.Dollar = refl
spelt_flat mark.Dot = refl
spelt_flat mark.Arrow = refl
spelt_flat mark.Backquote = refl

-- ---- what holds of each sign that begins a text holds of the one that is found

chosen : (P : Sign → Type 0) (t : Sign) (o : Option Sign) (b : Bool) → (b ≡ true → P t) → IfSome o P →
    IfSome (if b then Some t else o) P
chosen P t o true f g = f refl
chosen P t o false f g = g

first_of : (P : Sign → Type 0) (z : Text) → ((t : Sign) → stands (spelling t) z 0 ≡ true → P t) → (ss : List Sign) →
    IfSome (first ss z) P
first_of P z each [] = tt
first_of P z each (t ∷ ss) =
    chosen P t (first ss z) (stands (spelling t) z 0) (each t) (first_of P z each ss)

either : (P : Sign → Type 0) (a b : Option Sign) → IfSome a P → IfSome b P → IfSome (option_or a b) P
either P None b f g = g
either P (Some s) b f g = f

found : (P : Sign → Type 0) (z : Text) → ((t : Sign) → stands (spelling t) z 0 ≡ true → P t) → (o : Option Sign) →
    o ≡ sign_at z → IfSome o P
unfolding sign_at
found P z each o e =
    subst (λ o. IfSome o P) (sym e) (either P (first of_three z) (option_or (first of_two z) (first of_one z))
    (first_of P z each of_three)
    (either P (first of_two z) (first of_one z) (first_of P z each of_two) (first_of P z each of_one)))

pub found_within : (z : Text) (o : Option Sign) → o ≡ sign_at z → IfSome o (λ s. length (spelling s) ≤ length z)
found_within z o e =
    found (λ s. length (spelling s) ≤ length z) z
    (λ t s. omega (arith, stands_within (spelling t) z 0 (omega arith) (spelt_solid t) s)) o e

pub found_flat : (z : Text) (o : Option Sign) → o ≡ sign_at z →
    IfSome o (λ s. count_by (λ b. b == 10) (take (length (spelling s)) z) ≡ 0)
found_flat z o e =
    found (λ s. count_by (λ b. b == 10) (take (length (spelling s)) z) ≡ 0) z
    (λ t s. ap feeds (begins (spelling t) z (spelt_solid t) s) ∙ spelt_flat t) o e
