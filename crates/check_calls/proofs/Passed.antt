-- Arguments beside the types of their parameters, one by one.
use Rattle.std.proofs.Common.{◌≡◌, ℕ, zero, suc, ◌+◌, ◌<◌, false, ◌||◌, List, [], ◌∷◌, length, drop, get_or, Some, None}
use Rattle.std.proofs.Common.{refl, sym, ap, ◌∙◌, add-one, arith}
use Rattle.std.specs.Prelude.{slice_get}
use Rattle.c_types.specs.declared.ctype.CType.{CType}
use Rattle.c_type_refs.proofs.Coded.{same_type, no_type}
use Rattle.check_operands.specs.declared.arguments.Argument.{Argument}
use Rattle.check_operands.specs.Calls.{mismatches, any_mismatches}

next : (as_ : List Argument) (ts : List CType) (i : ℕ) (a : Argument) (t : CType) → i < length as_ →
    a ≡ get_or as_ i a → slice_get ts i ≡ Some t →
    any_mismatches (drop i as_) (drop i ts) ≡ (mismatches a t || any_mismatches (drop (suc i) as_) (drop (suc i) ts))
next [] ts i a t h read found = absurd (omega (arith, h))
next (x ∷ as_) [] i a t h read found = absurd (no_type t found)
next (x ∷ as_) (y ∷ ts) zero a t h read found =
    ap (λ b. mismatches b y || any_mismatches as_ ts) (sym read) ∙
    ap (λ u. mismatches a u || any_mismatches as_ ts) (same_type y t found)
next (x ∷ as_) (y ∷ ts) (suc i) a t h read found = next as_ ts i a t (omega (arith, h)) read found

-- an argument and the type in its place
pub one_more : (as_ : List Argument) (ts : List CType) (i : ℕ) (a : Argument) (t : CType) → i < length as_ →
    a ≡ get_or as_ i a → slice_get ts i ≡ Some t →
    any_mismatches (drop i as_) (drop i ts) ≡ (mismatches a t || any_mismatches (drop (i + 1) as_) (drop (i + 1) ts))
one_more as_ ts i a t h read found = rw (add-one i) (next as_ ts i a t h read found)

none_left : (as_ : List Argument) → any_mismatches as_ [] ≡ false
none_left [] = refl
none_left (a ∷ as_) = refl

-- no type is left
pub no_more : (as_ : List Argument) (ts : List CType) (i : ℕ) → slice_get ts i ≡ None →
    any_mismatches (drop i as_) (drop i ts) ≡ false
no_more as_ [] zero found = none_left as_
no_more as_ [] (suc i) found = none_left (drop (suc i) as_)
no_more as_ (t ∷ ts) zero found = absurd (no_type t (sym found))
no_more [] (t ∷ ts) (suc i) found = refl
no_more (a ∷ as_) (t ∷ ts) (suc i) found = no_more as_ ts i found

pub none_passed : (ts : List CType) → any_mismatches [] ts ≡ false
none_passed [] = refl
none_passed (t ∷ ts) = refl
