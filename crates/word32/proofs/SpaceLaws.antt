-- Laws of a space of words under loads and stores: what was stored is read back, all else stays, and a load and a
-- store are those of the bytes by address.
use Rattle.std.proofs.Common.{◌≡◌, ◌≢◌, ◌⊎◌, inl, inr, ℕ, zero, suc, ◌+◌, ◌*◌, ◌/◌, ◌%◌, ◌-◌, ◌<◌, ◌≤◌, ◌^◌, refl, ap}
use Rattle.std.proofs.Common.{sym, ◌∙◌, subst, arith}
use Rattle.std.specs.Prelude.{nat_eq, ◌==◌, true, false}
use Rattle.std.proofs.lemmas.Bool.{ne_eqb, eq-eqb, cases_eq}
use Rattle.std.proofs.lemmas.Bool.Decides.{nat_tests}
use Rattle.word32.specs.Words.{widened_byte, widened_half}
use Rattle.word32.specs.Parts.{is_aligned, byte_of, half_of, with_byte, with_half, loaded_part, stored_part, narrowed}
use Rattle.word32.specs.Parts.{size}
use Rattle.word32.specs.Space.{update, load, store, byte_at, number_at, AreWords}
use Rattle.word32.specs.declared.width.Width.{Width}
use Rattle.word32.specs.declared.width.Width.TheVariants.{SignedByte, Byte, SignedHalf, Half, Word}
use Rattle.word32.proofs.Places.{at_place, side_same, side_other, side_bytes, word_bytes, place_is}
use Rattle.word32.proofs.PartLaws.{byte_range, half_range, byte_same, byte_other, stored_range, stored_loaded}

pub update_same : {A : Type 0} (k : ℕ) (v : A) (f : ℕ → A) (n : ℕ) → n ≡ k → update k v f n ≡ v
update_same k v f n e = let t : nat_eq n k ≡ true = eq-eqb n k e in rw t refl

pub update_other : {A : Type 0} (k : ℕ) (v : A) (f : ℕ → A) (n : ℕ) → n ≢ k → update k v f n ≡ f n
update_other k v f n d = let t : nat_eq n k ≡ false = ne_eqb n k d in rw t refl

pub load_same :
    (space : ℕ → ℕ) (at : ℕ) (width : Width) (w : ℕ) → load (store at width w space) at width ≡ narrowed width w
load_same space at width w =
    ap (λ x. loaded_part x at width)
    (update_same (at / 4) (stored_part (space (at / 4)) at width w) space (at / 4) refl)
    ∙ stored_loaded (space (at / 4)) at width w

-- an aligned word elsewhere
pub word_other :
    (space : ℕ → ℕ) (at w b : ℕ) → (b + 4 ≤ at) ⊎ (at + 4 ≤ b) → store at Word w space (b / 4) ≡ space (b / 4)
word_other space at w b h = update_other (at / 4) w space (b / 4) (λ e. absurd (grind arith))

pub store_words :
    (space : ℕ → ℕ) (at : ℕ) (width : Width) (w : ℕ) → AreWords space → w < 4294967296 →
    AreWords (store at width w space)
store_words space at width w all h n =
    let P : ℕ → Type 0 = λ x. x < 4294967296 in
    let stored = stored_part (space (at / 4)) at width w in
    elim (cases_eq n (at / 4)) [
      | inl e ↦ subst P (sym (update_same (at / 4) stored space n e))
          (stored_range (space (at / 4)) at width w (all (at / 4)) h)
      | inr d ↦ subst P (sym (update_other (at / 4) stored space n d)) (all n)
    ]

-- an aligned half stands on an even address, and an aligned word on a multiple of 4
even : (at : ℕ) → (at % 2 == 0) ≡ true → at % 2 ≡ 0
even at h = grind (arith, nat_tests)

fourth : (at : ℕ) → (at % 4 == 0) ≡ true → at % 4 ≡ 0
fourth at h = grind (arith, nat_tests)

-- a byte of a word that was changed
byte_in : (space : ℕ → ℕ) (k x b : ℕ) → b / 4 ≡ k → byte_at (update k x space) b ≡ byte_of x b
byte_in space k x b e = ap (λ y. byte_of y b) (update_same k x space (b / 4) e)

half_byte_in : (word at w i : ℕ) → at % 2 ≡ 0 → i < 2 → byte_of (with_half word at w) (at + i) ≡ w / 256 ^ (1 - i) % 256
unfolding byte_of with_half
half_byte_in word at w i e h =
    side_same word w (at % 4 / 2) ((at + i) % 4) (omega arith) (omega arith) (omega arith)
    ∙ ap (λ n. w / 256 ^ n % 256) (omega arith)

word_byte_in : (at w i : ℕ) → at % 4 ≡ 0 → i < 4 → byte_of w (at + i) ≡ w / 256 ^ (3 - i) % 256
unfolding byte_of
word_byte_in at w i e h = place_is w ((at + i) % 4) (omega arith) ∙ ap (λ n. w / 256 ^ n % 256) (omega arith)

one_byte_in : (word at w i : ℕ) → i < 1 → byte_of (with_byte word at w) (at + i) ≡ w / 256 ^ (1 - 1 - i) % 256
one_byte_in word at w zero h = byte_same word at w (at + 0) (omega arith) ∙ omega arith
one_byte_in word at w (suc i) h = absurd (omega arith)

-- the bytes that a store writes: those of w, the most significant first
pub store_inside :
    (space : ℕ → ℕ) (at : ℕ) (width : Width) (w i : ℕ) → is_aligned at width ≡ true → i < size width →
    byte_at (store at width w space) (at + i) ≡ w / 256 ^ (size width - 1 - i) % 256
store_inside space at SignedByte w i ok h =
    byte_in space (at / 4) (with_byte (space (at / 4)) at w) (at + i) (omega arith) ∙
    one_byte_in (space (at / 4)) at w i h
store_inside space at Byte w i ok h =
    byte_in space (at / 4) (with_byte (space (at / 4)) at w) (at + i) (omega arith) ∙
    one_byte_in (space (at / 4)) at w i h
store_inside space at SignedHalf w i ok h =
    let e = even at ok in
    byte_in space (at / 4) (with_half (space (at / 4)) at w) (at + i) (omega arith)
    ∙ half_byte_in (space (at / 4)) at w i e h
store_inside space at Half w i ok h =
    let e = even at ok in
    byte_in space (at / 4) (with_half (space (at / 4)) at w) (at + i) (omega arith)
    ∙ half_byte_in (space (at / 4)) at w i e h
store_inside space at Word w i ok h =
    let e = fourth at ok in
    byte_in space (at / 4) w (at + i) (omega arith) ∙ word_byte_in at w i e h

half_byte_other : (word at w b : ℕ) → word < 4294967296 → b % 4 / 2 ≢ at % 4 / 2 →
    byte_of (with_half word at w) b ≡ byte_of word b
unfolding byte_of with_half
half_byte_other word at w b l d = side_other word w (at % 4 / 2) (b % 4) l (omega arith) (omega arith) d

-- within the word that holds the access
stored_other :
    (word at : ℕ) (width : Width) (w b : ℕ) → word < 4294967296 → is_aligned at width ≡ true → b / 4 ≡ at / 4 →
    (b < at) ⊎ (at + size width ≤ b) → byte_of (stored_part word at width w) b ≡ byte_of word b
stored_other word at SignedByte w b l ok e h = byte_other word at w b (λ d. absurd (grind arith))
stored_other word at Byte w b l ok e h = byte_other word at w b (λ d. absurd (grind arith))
stored_other word at SignedHalf w b l ok e h =
    let even_at = even at ok in half_byte_other word at w b l (λ d. absurd (grind arith))
stored_other word at Half w b l ok e h =
    let even_at = even at ok in half_byte_other word at w b l (λ d. absurd (grind arith))
stored_other word at Word w b l ok e h = let fourth_at = fourth at ok in absurd (grind arith)

-- all other bytes stay
pub store_outside :
    (space : ℕ → ℕ) (at : ℕ) (width : Width) (w b : ℕ) → AreWords space → is_aligned at width ≡ true →
    (b < at) ⊎ (at + size width ≤ b) → byte_at (store at width w space) b ≡ byte_at space b
store_outside space at width w b all ok h =
    let stored = stored_part (space (at / 4)) at width w in
    elim (cases_eq (b / 4) (at / 4)) [
      | inl e ↦ byte_in space (at / 4) stored b e
          ∙ (stored_other (space (at / 4)) at width w b (all (at / 4)) ok e h
          ∙ ap (λ k. byte_of (space k) b) (sym e))
      | inr d ↦ ap (λ x. byte_of x b) (update_other (at / 4) stored space (b / 4) d)
    ]

byte_moved : (space : ℕ → ℕ) (a b : ℕ) → a ≡ b → byte_at space a ≡ byte_at space b
byte_moved space a b e = ap (byte_at space) e

byte_number : (space : ℕ → ℕ) (at : ℕ) → number_at space at 1 ≡ byte_of (space (at / 4)) at
byte_number space at = omega (arith, byte_moved space (at + 0) at (omega arith))

half_number :
    (space : ℕ → ℕ) (at : ℕ) → space (at / 4) < 4294967296 → at % 2 ≡ 0 →
    number_at space at 2 ≡ half_of (space (at / 4)) at
unfolding half_of byte_of
half_number space at l e =
    let word = space (at / 4) in
    let second : byte_at space (at + 1) ≡ at_place word (2 * (at % 4 / 2) + 1) =
    ap (λ k. at_place (space k) ((at + 1) % 4)) (omega arith) ∙ ap (at_place word) (omega arith) in
    let first : byte_at space (at + 0) ≡ at_place word (2 * (at % 4 / 2)) =
    byte_moved space (at + 0) at (omega arith) ∙ ap (at_place word) (omega arith) in
    omega (arith, first, second, side_bytes word (at % 4 / 2) l (omega arith))

word_byte : (space : ℕ → ℕ) (at i : ℕ) → at % 4 ≡ 0 → i < 4 → byte_at space (at + i) ≡ at_place (space (at / 4)) i
unfolding byte_of
word_byte space at i e h =
    ap (λ k. at_place (space k) ((at + i) % 4)) (omega arith) ∙ ap (at_place (space (at / 4))) (omega arith)

word_number :
    (space : ℕ → ℕ) (at : ℕ) → space (at / 4) < 4294967296 → at % 4 ≡ 0 → number_at space at 4 ≡ space (at / 4)
word_number space at l e =
    omega (
      arith,
      word_byte space at 0 e (omega arith),
      word_byte space at 1 e (omega arith),
      word_byte space at 2 e (omega arith),
      word_byte space at 3 e (omega arith),
      word_bytes (space (at / 4)) l,
    )

under : (n m : ℕ) → n < m → n ≡ n % m
under n m h = grind arith

-- a load is the number that its bytes make, widened as the width says
pub load_bytes :
    (space : ℕ → ℕ) (at : ℕ) (width : Width) → space (at / 4) < 4294967296 → is_aligned at width ≡ true →
    load space at width ≡ narrowed width (number_at space at (size width))
load_bytes space at SignedByte l ok =
    ap widened_byte (under (byte_of (space (at / 4)) at) 256 (byte_range (space (at / 4)) at)
    ∙ ap (λ n. n % 256) (sym (byte_number space at)))
load_bytes space at Byte l ok =
    under (byte_of (space (at / 4)) at) 256 (byte_range (space (at / 4)) at)
    ∙ ap (λ n. n % 256) (sym (byte_number space at))
load_bytes space at SignedHalf l ok =
    ap widened_half (under (half_of (space (at / 4)) at) 65536 (half_range (space (at / 4)) at l)
    ∙ ap (λ n. n % 65536) (sym (half_number space at l (even at ok))))
load_bytes space at Half l ok =
    under (half_of (space (at / 4)) at) 65536 (half_range (space (at / 4)) at l)
    ∙ ap (λ n. n % 65536) (sym (half_number space at l (even at ok)))
load_bytes space at Word l ok = sym (word_number space at l (fourth at ok))

number_same :
    (f g : ℕ → ℕ) (at n : ℕ) → ((i : ℕ) → i < n → byte_at f (at + i) ≡ byte_at g (at + i)) →
    number_at f at n ≡ number_at g at n
number_same f g at zero h = refl
number_same f g at (suc n) h =
    let before = number_same f g at n (λ i k. h i (omega arith)) in
    let last = h n (omega arith) in
    omega (arith, before, last)

-- a load of other bytes
pub load_other :
    (space : ℕ → ℕ) (at : ℕ) (width : Width) (w b : ℕ) (other : Width) → AreWords space → w < 4294967296 →
    is_aligned at width ≡ true → is_aligned b other ≡ true → (b + size other ≤ at) ⊎ (at + size width ≤ b) →
    load (store at width w space) b other ≡ load space b other
load_other space at width w b other all l ok there h =
    load_bytes (store at width w space) b other (store_words space at width w all l (b / 4)) there
    ∙ (ap (narrowed other) (number_same (store at width w space) space b (size other)
    (λ i k. store_outside space at width w (b + i) all ok (grind arith)))
    ∙ sym (load_bytes space b other (all (b / 4)) there))
