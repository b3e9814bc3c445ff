-- Two lists of layers are the same where the codes of their first layers are, and the others one by one.
use Rattle.std.proofs.Common.{◌≡◌, ℕ, zero, suc, ◌+◌, ◌≤◌, Bool, true, false, ◌&&◌, List, [], ◌∷◌, ◌++◌, length, take}
use Rattle.std.proofs.Common.{drop, nat_eq, refl, sym, ap, ◌∙◌, arith, add-one, Some, None}
use lib.Pointwise.{pointwise}
use Rattle.std.specs.Prelude.{min, slice_get}
use Rattle.std.proofs.lemmas.List.{take-append-le, length-append, drop_all}
use Rattle.c_types.specs.declared.ctype.Layer.{Layer}
use Rattle.c_type_refs.specs.declared.code.Code.{Code}
use Rattle.c_types.specs.Types.{same_layer, same_layers}
use Rattle.c_type_refs.specs.Codes.{codes, end_of}
use Rattle.c_type_refs.specs.Shared.{AreLent}
use Rattle.c_type_refs.proofs.CodeLaws.{codes_same}
use Rattle.c_type_refs.proofs.Coded.{first_coded, coded_within}

-- the first and the others
pub split : (k : ℕ) (xs ys : List Layer) → k ≤ length xs → length xs ≡ length ys →
    same_layers xs ys ≡ (same_layers (take k xs) (take k ys) && same_layers (drop k xs) (drop k ys))
split zero xs ys h e = refl
split (suc k) [] ys h e = absurd (omega (arith, h))
split (suc k) (x ∷ xs) [] h e = absurd (omega (arith, e))
split (suc k) (x ∷ xs) (y ∷ ys) h e = grind (arith, split k xs ys)

-- ---- two types, by the tags of their first layers and then layer by layer

module _ (ra ma rb mb as_ bs : List Layer) (ca cb ea eb : List ℕ) (la lb : List (List Code)) (k : ℕ)
    (ha : AreLent ra ca ea la) (hb : AreLent rb cb eb lb) (va : ra ++ ma ≡ as_) (vb : rb ++ mb ≡ bs)
    (both : k ≡ min (length ea) (length eb)) (fa fb : List ℕ) (sa : fa ≡ take (end_of ea k) ca)
    (sb : fb ≡ take (end_of eb k) cb) (long : length as_ ≡ length bs) where
  within : k ≤ length as_
  within =
      let all : length ra + length ma ≡ length as_ = sym (length-append ra ma) ∙ ap length va in
      omega (arith, both, all, coded_within ra ea ha.ended)

  first_same : pointwise nat_eq fa fb ≡ same_layers (take k as_) (take k bs)
  first_same =
      ap (λ c. pointwise nat_eq c fb) (sa ∙ first_coded ra ca ea k ha.coded ha.ended (omega (arith, both)))
      ∙ ap (λ c. pointwise nat_eq (codes (take k ra)) c)
      (sb ∙ first_coded rb cb eb k hb.coded hb.ended (omega (arith, both)))
      ∙ codes_same (take k ra) (take k rb)
      ∙ ap (λ l. same_layers l (take k rb))
      (sym (take-append-le k ra ma (omega (arith, both, coded_within ra ea ha.ended))) ∙ ap (take k) va)
      ∙ ap (λ l. same_layers (take k as_) l)
      (sym (take-append-le k rb mb (omega (arith, both, coded_within rb eb hb.ended))) ∙ ap (take k) vb)

  pub codes_differ : pointwise nat_eq fa fb ≡ false → false ≡ same_layers as_ bs
  codes_differ h =
      let first : same_layers (take k as_) (take k bs) ≡ false = sym first_same ∙ h in
      sym (split k as_ bs within long ∙ ap (λ b. b && same_layers (drop k as_) (drop k bs)) first)

  pub codes_agree : pointwise nat_eq fa fb ≡ true → same_layers (drop k as_) (drop k bs) ≡ same_layers as_ bs
  codes_agree h =
      let first : same_layers (take k as_) (take k bs) ≡ true = sym first_same ∙ h in
      sym (split k as_ bs within long ∙ ap (λ b. b && same_layers (drop k as_) (drop k bs)) first)

same_item : (x y : Layer) → Some x ≡ Some y → x ≡ y
same_item x y h = cc

no_item : (x : Layer) → None ≡ Some x → ⊥
no_item x h = cc

after_item : (i : ℕ) (xs ys : List Layer) (u v : Layer) → slice_get xs i ≡ Some u → slice_get ys i ≡ Some v →
    same_layers (drop i xs) (drop i ys) ≡ (same_layer u v && same_layers (drop (suc i) xs) (drop (suc i) ys))
after_item i [] ys u v h e = absurd (no_item u h)
after_item i (x ∷ xs) [] u v h e = absurd (no_item v e)
after_item zero (x ∷ xs) (y ∷ ys) u v h e =
    ap (λ l. same_layer l y && same_layers xs ys) (same_item x u h) ∙
    ap (λ l. same_layer u l && same_layers xs ys) (same_item y v e)
after_item (suc i) (x ∷ xs) (y ∷ ys) u v h e = after_item i xs ys u v h e

-- one layer further
pub further : (i : ℕ) (xs ys : List Layer) (u v : Layer) (b : Bool) → slice_get xs i ≡ Some u →
    slice_get ys i ≡ Some v → b ≡ same_layer u v →
    same_layers (drop i xs) (drop i ys) ≡ (b && same_layers (drop (i + 1) xs) (drop (i + 1) ys))
further i xs ys u v b h e s = rw (add-one i, s) (after_item i xs ys u v h e)

pub at_the_end : (i : ℕ) (xs ys : List Layer) → length xs ≤ i → length xs ≡ length ys →
    same_layers (drop i xs) (drop i ys) ≡ true
at_the_end i xs ys h e = rw (drop_all i xs h, drop_all i ys (omega (arith, h, e))) refl
