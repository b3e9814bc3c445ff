-- Laws of the definitions.
use Rattle.std.proofs.Common.{◌≡◌, ℕ, zero, suc, ◌+◌, ◌-◌, ◌*◌, ◌<◌, ◌≤◌, true, false, List, [], ◌∷◌, ◌++◌, length}
use Rattle.std.proofs.Common.{drop, get_or, length-drop, add-zero, add-one, refl, sym, ap, ◌∙◌, arith, drop-cons}
use Rattle.std.proofs.Common.{append_assoc}
use Rattle.std.specs.Prelude.{◌==◌, slice_index, Some, None}
use Rattle.std.proofs.Math.Nat.{mul-le-mul_left}
use Rattle.std.proofs.lemmas.List.{drop-drop, get_or-drop}
use Rattle.lex_literals.specs.Literals.{Text, value_of, digit_value, closes, character_at, bytes_from}
use Rattle.lex_literals.specs.declared.characters.Character.{Character}
use Rattle.lex_literals.specs.declared.closings.Closing.TheVariants.{Wrong}

-- a number only grows
pub value_of_grows : (base n : ℕ) (z : Text) → 1 ≤ base → n ≤ value_of base n z
value_of_grows base n [] h = omega arith
value_of_grows base n (b ∷ z) h =
    let rest = value_of_grows base (n * base + digit_value b) z h in
    let m : n * 1 ≤ n * base = mul-le-mul_left n h in
    omega (arith, rest, m)

-- one digit on
pub value_of_at : (base n i : ℕ) (z : Text) → i < length z →
    value_of base n (drop i z) ≡ value_of base (n * base + digit_value (get_or z i 0)) (drop (i + 1) z)
value_of_at base n i z h = rw (add-one, drop-cons z i 0 h) refl

-- ---- the front of a text at a place

drop_pred : {X : Type 0} (n : ℕ) (b : X) (z : List X) → 1 ≤ n → drop (n - 1) z ≡ drop n (b ∷ z)
drop_pred zero b z h = absurd (omega arith)
drop_pred (suc n) b z h = let e : suc n - 1 ≡ n = omega arith in ap (λ k. drop k z) e

front : (z : Text) (at : ℕ) → slice_index (drop at z) 0 ≡ get_or z at 0
front z at = get_or-drop at z 0 0 ∙ ap (λ k. get_or z k 0) (add-zero at)

some_left : (z : Text) (at : ℕ) → at < length z → 0 < length (drop at z)
some_left z at h = omega (arith, length-drop at z)

-- ---- where a literal ends

-- the bytes of a character are passed
closes_passes : (quote chars n at : ℕ) (z : Text) → closes quote chars n at z ≡ closes quote chars 0 (at + n) (drop n z)
closes_passes quote chars zero at z = let e : at ≡ at + 0 = omega arith in ap (λ k. closes quote chars 0 k z) e
closes_passes quote chars (suc n) at [] = refl
closes_passes quote chars (suc n) at (b ∷ z) =
    let e : at + 1 + n ≡ at + suc n = omega arith in
    closes_passes quote chars n (at + 1) z ∙ ap (λ k. closes quote chars 0 k (drop n z)) e

closes_goes : (quote chars at : ℕ) (z : Text) (c : Character) → 0 < length z → (slice_index z 0 == quote) ≡ false →
    (slice_index z 0 == 10) ≡ false → character_at z ≡ Some c → 1 ≤ c.len →
    closes quote chars 0 at z ≡ closes quote (chars + 1) 0 (at + c.len) (drop c.len z)
closes_goes quote chars at [] c some other same_line e h = absurd (omega (arith, some))
closes_goes quote chars at (b ∷ z) c some other same_line e h =
    let passed : at + 1 + (c.len - 1) ≡ at + c.len = omega arith in
    rw (other, same_line, e)
    (closes_passes quote (chars + 1) (c.len - 1) (at + 1) z
    ∙ ap (λ k. closes quote (chars + 1) 0 k (drop (c.len - 1) z)) passed
    ∙ ap (λ y. closes quote (chars + 1) 0 (at + c.len) y) (drop_pred c.len b z h))

-- one character on
pub closes_goes_at : (quote chars at : ℕ) (z : Text) (c : Character) → at < length z →
    (get_or z at 0 == quote) ≡ false → (get_or z at 0 == 10) ≡ false → character_at (drop at z) ≡ Some c → 1 ≤ c.len →
    closes quote chars 0 at (drop at z) ≡ closes quote (chars + 1) 0 (at + c.len) (drop (at + c.len) z)
closes_goes_at quote chars at z c some other same_line e h =
    closes_goes quote chars at (drop at z) c (some_left z at some) (ap (λ x. x == quote) (front z at) ∙ other)
    (ap (λ x. x == 10) (front z at) ∙ same_line) e h
    ∙ ap (λ y. closes quote (chars + 1) 0 (at + c.len) y) (drop-drop c.len at z)

closes_wrong : (quote chars at : ℕ) (z : Text) → 0 < length z → (slice_index z 0 == quote) ≡ false →
    (slice_index z 0 == 10) ≡ false → character_at z ≡ None → closes quote chars 0 at z ≡ Wrong chars
closes_wrong quote chars at [] some other same_line e = absurd (omega (arith, some))
closes_wrong quote chars at (b ∷ z) some other same_line e = rw (other, same_line, e) refl

-- a wrong escape
pub closes_wrong_at : (quote chars at : ℕ) (z : Text) → at < length z → (get_or z at 0 == quote) ≡ false →
    (get_or z at 0 == 10) ≡ false → character_at (drop at z) ≡ None → closes quote chars 0 at (drop at z) ≡ Wrong chars
closes_wrong_at quote chars at z some other same_line e =
    closes_wrong quote chars at (drop at z) (some_left z at some) (ap (λ x. x == quote) (front z at) ∙ other)
    (ap (λ x. x == 10) (front z at) ∙ same_line) e

-- ---- the bytes of a string

bytes_pass : (n : ℕ) (z : Text) → bytes_from n z ≡ bytes_from 0 (drop n z)
bytes_pass zero z = refl
bytes_pass (suc n) [] = refl
bytes_pass (suc n) (b ∷ z) = bytes_pass n z

bytes_go : (z : Text) (c : Character) → 0 < length z → (slice_index z 0 == 34) ≡ false → character_at z ≡ Some c →
    1 ≤ c.len → bytes_from 0 z ≡ c.value ∷ bytes_from 0 (drop c.len z)
bytes_go [] c some other e h = absurd (omega (arith, some))
bytes_go (b ∷ z) c some other e h =
    rw (other, e) (ap (λ y. c.value ∷ y) (bytes_pass (c.len - 1) z ∙ ap (bytes_from 0) (drop_pred c.len b z h)))

-- one character on
pub bytes_go_at : (front_bytes : List ℕ) (at : ℕ) (z : Text) (c : Character) → at < length z →
    (get_or z at 0 == 34) ≡ false → character_at (drop at z) ≡ Some c → 1 ≤ c.len →
    front_bytes ++ bytes_from 0 (drop at z) ≡ (front_bytes ++ c.value ∷ []) ++ bytes_from 0 (drop (at + c.len) z)
bytes_go_at front_bytes at z c some other e h =
    ap (λ y. front_bytes ++ y)
    (bytes_go (drop at z) c (some_left z at some) (ap (λ x. x == 34) (front z at) ∙ other) e h)
    ∙ ap (λ y. front_bytes ++ c.value ∷ bytes_from 0 y) (drop-drop c.len at z)
    ∙ sym (append_assoc front_bytes (c.value ∷ []) (bytes_from 0 (drop (at + c.len) z)))

bytes_stop : (z : Text) → 0 < length z → (slice_index z 0 == 34) ≡ true → bytes_from 0 z ≡ []
bytes_stop [] some e = refl
bytes_stop (b ∷ z) some e = rw e refl

pub bytes_stop_at : (at : ℕ) (z : Text) → at < length z → (get_or z at 0 == 34) ≡ true → bytes_from 0 (drop at z) ≡ []
bytes_stop_at at z some e = bytes_stop (drop at z) (some_left z at some) (ap (λ x. x == 34) (front z at) ∙ e)

bytes_wrong : (z : Text) → 0 < length z → (slice_index z 0 == 34) ≡ false → character_at z ≡ None → bytes_from 0 z ≡ []
bytes_wrong [] some other e = refl
bytes_wrong (b ∷ z) some other e = rw (other, e) refl

pub bytes_wrong_at : (at : ℕ) (z : Text) → at < length z → (get_or z at 0 == 34) ≡ false →
    character_at (drop at z) ≡ None → bytes_from 0 (drop at z) ≡ []
bytes_wrong_at at z some other e =
    bytes_wrong (drop at z) (some_left z at some) (ap (λ x. x == 34) (front z at) ∙ other) e
