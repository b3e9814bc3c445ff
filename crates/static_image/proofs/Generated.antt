-- The functions that generate the code of ticks: how many words they have, where they stand, and which one is found at
-- an address.
use Rattle.std.proofs.Common.{◌≡◌, ℕ, zero, suc, ◌+◌, ◌-◌, ◌*◌, ◌%◌, ◌<◌, ◌≤◌, Bool, true, false, List, [], ◌∷◌, ◌++◌}
use Rattle.std.proofs.Common.{length, Option, None, Some, refl, sym, ap, ◌∙◌, subst, arith, length-append, nat_eq}
use Rattle.std.proofs.Common.{if◌then◌else◌, slice_get, slice_index}
use Rattle.std.proofs.lemmas.Bool.{eqb-true, eq-eqb, ne_eqb}
use Rattle.icode_ir.specs.Sound.{Each}
use Rattle.icode_ir.proofs.Sounds.{Each-append}
use Rattle.staged_meaning.specs.Program.{Tick}
use Rattle.tick_lower_spec.specs.TickPieces.{tick_pieces}
use Rattle.routine_spec.specs.Generator.{generator_code, HasRoom}
use Rattle.routine_spec.proofs.Short.{generator_long, generators_short}
use Rattle.routine_spec.proofs.Fitting.{generator_fits}
use Rattle.static_image.specs.Layout.{functions_at, generator_of, generator_starts, generators}
use Rattle.static_image.specs.Served.{most_generated}
use Rattle.static_image.proofs.Lows.{AreWords, words_low}

module _ (functions : List ℕ) where
  -- they have at most as many words as are charged for the ticks
  pub most : (ts : List Tick) → length (generators functions ts) ≤ most_generated ts
  most [] = omega arith
  most (t ∷ ts) =
      omega (
        arith,
        length-append (generator_of functions t) (generators functions ts),
        generators_short (functions_at functions) t,
        most ts,
      )

  some : (t : Tick) → 7 ≤ length (generator_of functions t)
  some t = omega (arith, generator_long (tick_pieces (functions_at functions) t))

  -- the address of each is none behind all
  pub starts_low : (at : ℕ) (ts : List Tick) (k : ℕ) →
      slice_index (generator_starts functions at ts) k ≤ at + 4 * length (generators functions ts)
  starts_low at [] k = omega arith
  starts_low at (t ∷ ts) zero = omega arith
  starts_low at (t ∷ ts) (suc k) =
      omega (
        arith,
        starts_low (at + 4 * length (generator_of functions t)) ts k,
        length-append (generator_of functions t) (generators functions ts),
      )

  starts_from : (at : ℕ) (ts : List Tick) (k : ℕ) → k < length ts →
      at ≤ slice_index (generator_starts functions at ts) k
  starts_from at [] k low = absurd (omega (arith, low))
  starts_from at (t ∷ ts) zero low = omega arith
  starts_from at (t ∷ ts) (suc k) low =
      omega (arith, starts_from (at + 4 * length (generator_of functions t)) ts k (omega (arith, low)))

  pub starts_many : (at : ℕ) (ts : List Tick) → length (generator_starts functions at ts) ≡ length ts
  starts_many at [] = refl
  starts_many at (t ∷ ts) = ap suc (starts_many (at + 4 * length (generator_of functions t)) ts)

  -- each of their words is one
  pub are_words : (ts : List Tick) → Each (λ t. Each HasRoom (tick_pieces (functions_at functions) t)) ts →
      AreWords (generators functions ts)
  are_words [] h = tt
  are_words (t ∷ ts) h =
      let ps = tick_pieces (functions_at functions) t in
      Each-append (λ w. w < 4294967296) (generator_of functions t) (generators functions ts)
      (words_low (generator_code ps) (generator_fits ps h.0)) (are_words ts h.1)

-- ---- by address

-- the tick whose function has this address, where the first of these has this number
abbrev pub tick_in : (starts : List ℕ) → (number : ℕ) → (address : ℕ) → Option ℕ
tick_in [] n a = None
tick_in (s ∷ ss) n a = if nat_eq a s then Some n else tick_in ss (suc n) a

found : (ss : List ℕ) (n a t : ℕ) → tick_in ss n a ≡ Some t → (n ≤ t) × (a ≡ slice_index ss (t - n))
found [] n a t e = absurd cc
found (s ∷ ss) n a t e = by (λ more. found ss (suc n) a t more) (nat_eq a s) refl e
  where
    later : (k : ℕ) → suc n ≤ t → t - suc n ≡ k → a ≡ slice_index ss (t - suc n) → a ≡ slice_index (s ∷ ss) (t - n)
    later k le is same =
        let next : t - n ≡ suc k = omega (arith, le, is) in
        same ∙ ap (slice_index ss) is ∙ sym (ap (slice_index (s ∷ ss)) next)

    by : (tick_in ss (suc n) a ≡ Some t → (suc n ≤ t) × (a ≡ slice_index ss (t - suc n))) → (b : Bool) → nat_eq a s ≡ b
        → (if b then Some n else tick_in ss (suc n) a) ≡ Some t → (n ≤ t) × (a ≡ slice_index (s ∷ ss) (t - n))
    by rest true is e =
        let here : n ≡ t = cc in
        let none : t - n ≡ 0 = omega (arith, here) in
        (omega (arith, here), eqb-true a s is ∙ sym (ap (slice_index (s ∷ ss)) none))
    by rest false is e = let h = rest e in (omega (arith, h.0), later (t - suc n) h.0 refl h.1)

-- what is found has the address
pub tick_found : (ss : List ℕ) (a t : ℕ) → tick_in ss 0 a ≡ Some t → a ≡ slice_index ss t
tick_found ss a t e =
    let h = found ss 0 a t e in
    let same : t - 0 ≡ t = omega arith in
    h.1 ∙ ap (slice_index ss) same

-- and each tick is found
pub tick_there : (functions : List ℕ) (at : ℕ) (ts : List Tick) (n k : ℕ) → k < length ts →
    tick_in (generator_starts functions at ts) n (slice_index (generator_starts functions at ts) k) ≡ Some (n + k)
tick_there functions at [] n k low = absurd (omega (arith, low))
tick_there functions at (t ∷ ts) n zero low =
    let next = at + 4 * length (generator_of functions t) in
    let same : n ≡ n + 0 = omega arith in
    ap (λ (b : Bool). if b then Some n else tick_in (generator_starts functions next ts) (suc n) at)
    (eq-eqb at at refl) ∙ ap Some same
tick_there functions at (t ∷ ts) n (suc k) low =
    let next = at + 4 * length (generator_of functions t) in
    let x = slice_index (generator_starts functions next ts) k in
    let from = starts_from functions next ts k (omega (arith, low)) in
    let other : nat_eq x at ≡ false =
    ne_eqb x at (λ same. omega (arith, same, from, some functions t)) in
    let number : suc n + k ≡ n + suc k = omega arith in
    ap (λ (b : Bool). if b then Some n else tick_in (generator_starts functions next ts) (suc n) x) other
    ∙ tick_there functions next ts (suc n) k (omega (arith, low)) ∙ ap Some number
