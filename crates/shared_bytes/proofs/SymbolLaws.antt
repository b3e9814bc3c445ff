-- Symbols, two to a byte: how many they are, where two rows of them are the same, and one more.
use Rattle.std.proofs.Common.{◌≡◌, ℕ, zero, suc, ◌+◌, ◌*◌, ◌<◌, ◌≤◌, Bool, true, false, ◌&&◌, ◌||◌, List, [], ◌∷◌, ◌++◌}
use Rattle.std.proofs.Common.{length, take, get_or, set, nat_eq, ◌/◌, ◌%◌, not, refl, sym, ap, ◌∙◌, arith}
use lib.Pointwise.{pointwise}
use Rattle.std.proofs.lemmas.List.{length-take-le}
use Rattle.shared_bytes.specs.Symbols.{halves}

-- two symbols to each byte
pub halves_long : (bs : List ℕ) → length (halves bs) ≡ 2 * length bs
halves_long [] = refl
halves_long (b ∷ bs) = omega (arith, halves_long bs)

-- twice as many
abbrev double : ℕ → ℕ
double zero = zero
double (suc w) = suc (suc (double w))

double_is : (w : ℕ) → double w ≡ 2 * w
double_is zero = refl
double_is (suc w) = omega (arith, double_is w)

-- ---- where two rows are the same

-- a byte by its halves
by_half : (a b : ℕ) (r : Bool) → (nat_eq (a / 16) (b / 16) && (nat_eq (a % 16) (b % 16) && r)) ≡ (nat_eq a b && r)
by_half a b r = grind (arith)

-- by whole bytes
whole : (w : ℕ) (as_ bs : List ℕ) →
    pointwise nat_eq (take (double w) (halves as_)) (take (double w) (halves bs)) ≡
    pointwise nat_eq (take w as_) (take w bs)
whole zero as_ bs = refl
whole (suc w) [] [] = refl
whole (suc w) [] (b ∷ bs) = refl
whole (suc w) (a ∷ as_) [] = refl
whole (suc w) (a ∷ as_) (b ∷ bs) =
    ap (λ r. nat_eq (a / 16) (b / 16) && (nat_eq (a % 16) (b % 16) && r)) (whole w as_ bs)
    ∙ by_half a b (pointwise nat_eq (take w as_) (take w bs))

pub and_assoc : (a b c : Bool) → (a && (b && c)) ≡ ((a && b) && c)
and_assoc true b c = refl
and_assoc false b c = refl

pub and_true : (a : Bool) → (a && true) ≡ a
and_true true = refl
and_true false = refl

-- by whole bytes and half of one more
half_more : (w : ℕ) (as_ bs : List ℕ) → w < length as_ → w < length bs →
    pointwise nat_eq (take (suc (double w)) (halves as_)) (take (suc (double w)) (halves bs)) ≡
    (pointwise nat_eq (take w as_) (take w bs) && nat_eq (get_or as_ w 0 / 16) (get_or bs w 0 / 16))
half_more w [] bs h e = absurd (omega (arith, h))
half_more w (a ∷ as_) [] h e = absurd (omega (arith, e))
half_more zero (a ∷ as_) (b ∷ bs) h e = and_true (nat_eq (a / 16) (b / 16))
half_more (suc w) (a ∷ as_) (b ∷ bs) h e =
    ap (λ r. nat_eq (a / 16) (b / 16) && (nat_eq (a % 16) (b % 16) && r)) (half_more w as_ bs (omega (arith, h))
    (omega (arith, e)))
    ∙ by_half a b (pointwise nat_eq (take w as_) (take w bs) && nat_eq (get_or as_ w 0 / 16) (get_or bs w 0 / 16))
    ∙ and_assoc (nat_eq a b) (pointwise nat_eq (take w as_) (take w bs))
    (nat_eq (get_or as_ w 0 / 16) (get_or bs w 0 / 16))

-- ---- one more

high : (s : ℕ) → s * 16 / 16 ≡ s
high s = omega arith

same_high : (n s : ℕ) → s < 16 → (n * 16 + s) / 16 ≡ n
same_high n s small = omega (arith, small)

new_low : (n s : ℕ) → s < 16 → (n * 16 + s) % 16 ≡ s
new_low n s small = omega (arith, small)

-- in a byte of its own
pushed : (w : ℕ) (bs : List ℕ) (s : ℕ) → length bs ≡ w →
    take (suc (double w)) (halves (bs ++ s * 16 ∷ [])) ≡ take (double w) (halves bs) ++ s ∷ []
pushed zero [] s h = ap (λ n. n ∷ []) (high s)
pushed zero (b ∷ bs) s h = absurd (omega (arith, h))
pushed (suc w) [] s h = absurd (omega (arith, h))
pushed (suc w) (b ∷ bs) s h = ap (λ l. b / 16 ∷ b % 16 ∷ l) (pushed w bs s (omega (arith, h)))

-- in the low half of a byte
filled : (w : ℕ) (bs : List ℕ) (s : ℕ) → w < length bs → s < 16 →
    take (suc (suc (double w))) (halves (set bs w (get_or bs w 0 / 16 * 16 + s))) ≡
    take (suc (double w)) (halves bs) ++ s ∷ []
filled w [] s h small = absurd (omega (arith, h))
filled zero (b ∷ bs) s h small =
    ap (λ n. n ∷ (b / 16 * 16 + s) % 16 ∷ []) (same_high (b / 16) s small) ∙
    ap (λ n. b / 16 ∷ n ∷ []) (new_low (b / 16) s small)
filled (suc w) (b ∷ bs) s h small = ap (λ l. b / 16 ∷ b % 16 ∷ l) (filled w bs s (omega (arith, h)) small)

-- ---- so many symbols

-- as many symbols as are counted
pub long : (n : ℕ) (bs xs : List ℕ) → n ≤ length (halves bs) → take n (halves bs) ≡ xs → n ≡ length xs
long n bs xs h e = sym (length-take-le n (halves bs) h) ∙ ap length e

-- a byte for each two
pub held : (n : ℕ) (bs : List ℕ) → length bs ≡ (n + 1) / 2 → n ≤ length (halves bs)
held n bs h = omega (arith, h, halves_long bs)

pub whole_within : (n : ℕ) (bs : List ℕ) → n ≤ length (halves bs) → n / 2 ≤ length bs
whole_within n bs h = omega (arith, h, halves_long bs)

pub half_within : (n : ℕ) (bs : List ℕ) → n ≤ length (halves bs) → (n % 2 ≡ 0 → ⊥) → n / 2 < length bs
half_within n bs h o = omega (arith, h, o, halves_long bs)

even_is : (n : ℕ) → n % 2 ≡ 0 → n ≡ double (n / 2)
even_is n h = omega (arith, h, double_is (n / 2))

odd_is : (n : ℕ) → (n % 2 ≡ 0 → ⊥) → n ≡ suc (double (n / 2))
odd_is n h = omega (arith, h, double_is (n / 2))

zero_is : (n : ℕ) → nat_eq n 0 ≡ true → n ≡ 0
zero_is n h = grind (arith)

not_zero : (n : ℕ) → nat_eq n 0 ≡ false → n ≡ 0 → ⊥
not_zero n h e = grind (arith)

is_zero : (n : ℕ) → n ≡ 0 → nat_eq n 0 ≡ true
is_zero n h = grind (arith)

no_zero : (n : ℕ) → (n ≡ 0 → ⊥) → nat_eq n 0 ≡ false
no_zero n h = grind (arith)

same_by : (n : ℕ) (as_ bs : List ℕ) (b : Bool) → nat_eq (n % 2) 0 ≡ b → n ≤ length (halves as_) →
    n ≤ length (halves bs) →
    pointwise nat_eq (take n (halves as_)) (take n (halves bs)) ≡
    (pointwise nat_eq (take (n / 2) as_) (take (n / 2) bs) && (b || nat_eq (get_or as_ (n / 2) 0 / 16)
    (get_or bs (n / 2) 0 / 16)))
same_by n as_ bs true is h e =
    ap (λ m. pointwise nat_eq (take m (halves as_)) (take m (halves bs))) (even_is n (zero_is (n % 2) is))
    ∙ whole (n / 2) as_ bs
    ∙ sym (and_true (pointwise nat_eq (take (n / 2) as_) (take (n / 2) bs)))
same_by n as_ bs false is h e =
    let o = not_zero (n % 2) is in
    ap (λ m. pointwise nat_eq (take m (halves as_)) (take m (halves bs))) (odd_is n o)
    ∙ half_more (n / 2) as_ bs (half_within n as_ h o) (half_within n bs e o)

not_so : (b : Bool) → not b ≡ true → b ≡ false
not_so true h = sym h
not_so false h = refl

is_so : (b : Bool) → not b ≡ false → b ≡ true
is_so true h = refl
is_so false h = sym h

-- two rows of as many symbols: by whole bytes and, where they are odd, half of one more
module _ (n m : ℕ) (as_ bs xs ys : List ℕ) (h : n ≤ length (halves as_)) (e : m ≤ length (halves bs))
    (va : take n (halves as_) ≡ xs) (vb : take m (halves bs) ≡ ys) (is : n ≡ m) where
  both : (b : Bool) → nat_eq (n % 2) 0 ≡ b →
      pointwise nat_eq xs ys ≡
      (pointwise nat_eq (take (n / 2) as_) (take (n / 2) bs) && (b || nat_eq (get_or as_ (n / 2) 0 / 16)
      (get_or bs (n / 2) 0 / 16)))
  both b parity =
      ap (λ l. pointwise nat_eq l ys) (sym va)
      ∙ ap (λ l. pointwise nat_eq (take n (halves as_)) l) (sym vb ∙ ap (λ k. take k (halves bs)) (sym is))
      ∙ same_by n as_ bs b parity h (omega (arith, e, is))

  pub bytes_differ : not (pointwise nat_eq (take (n / 2) as_) (take (n / 2) bs)) ≡ true → false ≡ pointwise nat_eq xs ys
  bytes_differ other =
      sym (both (nat_eq (n % 2) 0) refl ∙ ap (λ w. w && (nat_eq (n % 2) 0 || nat_eq (get_or as_ (n / 2) 0 / 16)
      (get_or bs (n / 2) 0 / 16))) (not_so _ other))

  pub bytes_agree : not (pointwise nat_eq (take (n / 2) as_) (take (n / 2) bs)) ≡ false → n % 2 ≡ 0 →
      nat_eq (n % 2) 0 ≡ pointwise nat_eq xs ys
  bytes_agree like even =
      let parity = is_zero (n % 2) even in
      parity ∙ sym (both true parity ∙ ap (λ w. w && true) (is_so _ like))

  pub halves_agree : not (pointwise nat_eq (take (n / 2) as_) (take (n / 2) bs)) ≡ false → (n % 2 ≡ 0 → ⊥) →
      nat_eq (get_or as_ (n / 2) 0 / 16) (get_or bs (n / 2) 0 / 16) ≡ pointwise nat_eq xs ys
  halves_agree like o =
      sym (both false (no_zero (n % 2) o) ∙ ap (λ w. w && nat_eq (get_or as_ (n / 2) 0 / 16) (get_or bs (n / 2) 0 / 16))
      (is_so _ like))

-- one more, in a byte of its own
pub push_whole : (n : ℕ) (bs : List ℕ) (s : ℕ) → n % 2 ≡ 0 → length bs ≡ (n + 1) / 2 →
    take (n + 1) (halves (bs ++ s * 16 ∷ [])) ≡ take n (halves bs) ++ s ∷ []
push_whole n bs s is h =
    let more : n + 1 ≡ suc (double (n / 2)) = omega (arith, even_is n is) in
    ap (λ k. take k (halves (bs ++ s * 16 ∷ []))) more
    ∙ pushed (n / 2) bs s (omega (arith, is, h))
    ∙ ap (λ k. take k (halves bs) ++ s ∷ []) (sym (even_is n is))

-- one more, in the low half of the last byte
pub push_half : (n : ℕ) (bs : List ℕ) (s : ℕ) → (n % 2 ≡ 0 → ⊥) → length bs ≡ (n + 1) / 2 → s < 16 →
    take (n + 1) (halves (set bs (n / 2) (get_or bs (n / 2) 0 / 16 * 16 + s))) ≡ take n (halves bs) ++ s ∷ []
push_half n bs s is h small =
    let more : n + 1 ≡ suc (suc (double (n / 2))) = omega (arith, odd_is n is) in
    ap (λ k. take k (halves (set bs (n / 2) (get_or bs (n / 2) 0 / 16 * 16 + s)))) more
    ∙ filled (n / 2) bs s (omega (arith, is, h)) small
    ∙ ap (λ k. take k (halves bs) ++ s ∷ []) (sym (odd_is n is))
