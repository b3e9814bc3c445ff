-- The registers of places, and the spots that they give.
use Rattle.std.proofs.Common.{◌≡◌, ◌≢◌, inl, inr, ℕ, suc, ◌+◌, ◌*◌, ◌%◌, ◌<◌, ◌≤◌, true, false, ◌||◌, List, [], ◌∷◌}
use Rattle.std.proofs.Common.{length, sym, ap, ◌∙◌, subst, arith, nat_eq, nat_lt}
use Rattle.std.proofs.lemmas.Bool.{cases_eq, cases_lt, ne_eqb}
use Rattle.std.proofs.lemmas.Bool.Decides.{nat_tests}
use Rattle.icode_templates.specs.Layout.{place_register, slot_offset, slot, spot_of}
use Rattle.icode_saves.specs.Places.{has}
use Rattle.icode_saves.specs.Laws.{AllPlaces, Rising}
use Rattle.icode_templates_proof.specs.Spots.{Usable, IsPlace}
use Rattle.icode_expand_proof.specs.Frames.{place_number}

pub place_bounds : (p : ℕ) → p < 12 → IsPlace (place_register p)
place_bounds p l = elim (cases_lt p 8) [
  | inl s ↦ let t : nat_lt p 8 ≡ true = grind (arith, nat_tests) in rw t (omega arith, omega arith, inr (omega arith))
  | inr s ↦ let t : nat_lt p 8 ≡ false = grind (arith, nat_tests) in rw t (omega arith, omega arith, inl (omega arith))
]

pub place_differs : (p q : ℕ) → p < 12 → q < 12 → p ≢ q → place_register p ≢ place_register q
place_differs p q l k ne = grind (arith, nat_tests)

pub number_of_place : (p : ℕ) → p < 12 → place_number (place_register p) ≡ p
number_of_place p l = grind (arith, nat_tests)

pub register_of_number : (r : ℕ) → place_number r < 12 → place_register (place_number r) ≡ r
register_of_number r l = grind (arith, nat_tests)

pub has_low : (kept : List ℕ) (n : ℕ) → AllPlaces kept → has kept n ≡ true → n < 12
has_low [] n all h = absurd cc
has_low (p ∷ ps) n all h = elim (cases_eq p n) [
  | inl e ↦ subst (λ x. x < 12) e all.0
  | inr ne ↦ let f : nat_eq p n ≡ false = ne_eqb p n ne in has_low ps n all.1 (sym (ap (λ b. b || has ps n) f) ∙ h)
]

-- at most twelve places are saved
pub few_places : (n : ℕ) (ps : List ℕ) → n ≤ 12 → AllPlaces ps → Rising n ps → length ps + n ≤ 12
few_places n [] h all rising = omega (arith, h)
few_places n (p ∷ ps) h all rising =
    let ih = few_places (suc p) ps (omega (arith, all.0)) all.1 rising.1 in
    let e : length (p ∷ ps) ≡ length ps + 1 = omega arith in
    omega (arith, ih, e, rising.0)

-- the spots of registers can be used
pub slot_usable : (bytes offset : ℕ) → offset + 4 ≤ bytes → offset % 4 ≡ 0 → Usable bytes (slot offset)
slot_usable bytes offset room even = elim (cases_lt offset 32768) [
  | inl s ↦ let t : nat_lt offset 32768 ≡ true = grind (arith, nat_tests) in rw t (s, room, even)
  | inr s ↦ let t : nat_lt offset 32768 ≡ false = grind (arith, nat_tests) in rw t (room, even)
]

pub spot_usable : (bytes registers place v : ℕ) → v < registers → 128 + 4 * registers ≤ bytes
    → Usable bytes (spot_of place v)
spot_usable bytes registers place v inside room = elim (cases_lt place 12) [
  | inl l ↦ let t : nat_lt place 12 ≡ true = grind (arith, nat_tests) in rw t (place_bounds place l)
  | inr g ↦ let t : nat_lt place 12 ≡ false =
      grind (arith, nat_tests) in rw t (slot_usable bytes (slot_offset v) (omega (arith, inside, room)) (omega arith))
]
