-- Places that are found by first fit.
use Rattle.std.proofs.Common.{◌≡◌, ◌⊎◌, inl, inr, ℕ, zero, suc, ◌+◌, ◌<◌, ◌≤◌, Bool, true, false, List, [], ◌∷◌}
use Rattle.std.proofs.Common.{◌++◌, length, Some, None, refl, sym, ap, ◌∙◌, subst, arith, slice_get, nat_le}
use Rattle.std.proofs.Common.{if◌then◌else◌}
use Rattle.std.proofs.lemmas.Bool.{cases_lt}
use Rattle.std.proofs.lemmas.Bool.Decides.{nat_tests}
use Rattle.word32.specs.declared.map.TheConstants.{ARENA_WORDS}
use Rattle.history.specs.Syntax.{Syntax}
use Rattle.free_ranges.specs.Ranges.{IsTaken, IsLeast, with_range}
use Rattle.meaning_state.specs.Bodies.{Body, held, held_with, place_for, new_body, freed, charged, AreHeld, AreSummed}
use Rattle.free_ranges.proofs.Fits.{first_fit_is_least}
use Rattle.free_ranges.proofs.Stays.{takes_these}
use Rattle.meaning_state.proofs.Steps.{steps_keep_held}
use Rattle.meaning_state.proofs.Held.{held_by_each}
use Rattle.meaning_state.proofs.Sums.{summed_more}
use Rattle.mips_model.specs.State.{Code}
use Rattle.meaning_state.specs.Shared.{Shared}
use Rattle.meaning_state.specs.Rows.{arena_words, made, placed}
use Rattle.compile_routine.specs.Places.{place_address, AreApart}
use Rattle.compile_routine.specs.Made.{with_words, IsFree}
use Rattle.compile_routine.specs.Bodies.{PlacesAreSums, IsFreeElse, BodiesGrow, BodiesGive}
use Rattle.compile_routine.proofs.Places.{made_behind, sum_place}
use Rattle.compile_routine.proofs.Grown.{same_state}

-- ---- the sum

module _ (shared : Shared) (size function : ℕ) (syntax : Syntax) (are : AreSummed ARENA_WORDS shared.bodies) where
  pub sum_behind : AreSummed ARENA_WORDS (made function syntax size shared).bodies
  sum_behind = by (nat_le (charged shared.bodies + arena_words size) ARENA_WORDS) refl
    where
      by : (b : Bool) → nat_le (charged shared.bodies + arena_words size) ARENA_WORDS ≡ b
          → AreSummed ARENA_WORDS (made function syntax size shared).bodies
      by true t =
          let room : charged shared.bodies + arena_words size ≤ ARENA_WORDS = grind (arith, nat_tests, t) in
          subst (AreSummed ARENA_WORDS) (sym (made_behind size shared are room function syntax))
          (summed_more ARENA_WORDS shared.bodies (arena_words size) (omega arith) are syntax room)
      by false t =
          subst (λ o. AreSummed ARENA_WORDS (placed o syntax (arena_words size) shared.bodies))
          (sym (sum_place size shared are
          ∙ ap (λ b. if b then Some (charged shared.bodies) else None) t)) are

pub places_sums : PlacesAreSums
places_sums shared size are = (sum_place size shared are, λ function syntax. sum_behind shared size function syntax are)

-- ---- any place

-- what was taken is, with more ranges
taken_on : (k : ℕ) (others : List (ℕ × ℕ)) (bs : List Body) → IsTaken k others → IsTaken k (held_with others bs)
taken_on k others [] h = h
taken_on k others (b ∷ bs) h =
    taken_on k (if b.live then with_range (b.first, b.count) others else others) bs (by b.live)
  where
    by : (t : Bool) → IsTaken k (if t then with_range (b.first, b.count) others else others)
    by true = (takes_these b.count b.first others k).1 (inr h)
    by false = h

-- so the words of each body that isn't given back are
body_taken : (k i : ℕ) (b : Body) (others : List (ℕ × ℕ)) (bs : List Body) → slice_get bs i ≡ Some b → b.live ≡ true
    → b.first ≤ k → k < b.first + b.count → IsTaken k (held_with others bs)
body_taken k i b others [] e live low high = absurd cc
body_taken k zero b others (x ∷ bs) e live low high =
    let same : b ≡ x = cc in
    subst (λ (y : Body). IsTaken k (held_with others (y ∷ bs))) same
    (subst (λ t. IsTaken k (held_with (if t then with_range (b.first, b.count) others else others) bs)) (sym live)
    (taken_on k (with_range (b.first, b.count) others) bs ((takes_these b.count b.first others k).1 (inl (low, high)))))
body_taken k (suc i) b others (x ∷ bs) e live low high =
    body_taken k i b (if x.live then with_range (x.first, x.count) others else others) bs e live low high

module _ (syntax : Syntax) (bodies : List Body) (count place : ℕ) (words : List ℕ) (c : Code)
    (are : AreHeld ARENA_WORDS bodies)
    (free : IsFreeElse bodies c) (some : 0 < count) (few : length words ≤ count)
    (there : place_for count ARENA_WORDS bodies ≡ Some place) where
  abbrev more : List Body
  more = bodies ++ new_body syntax place count ∷ []

  least : IsLeast count 0 ARENA_WORDS (held bodies) (Some place)
  least =
      subst (IsLeast count 0 ARENA_WORDS (held bodies)) there
      (first_fit_is_least count 0 ARENA_WORDS (held bodies) some are.ranges)

  pub within : place + count ≤ ARENA_WORDS
  within = least.1.within

  pub range_free : IsFree place count c
  range_free k low high = let room = within in free k (omega (arith, high, room)) (least.1.free k low high)

  pub apart : (i : ℕ) (b : Body) → slice_get bodies i ≡ Some b → b.live ≡ true → 0 < b.count
      → AreApart place count b.first b.count
  apart i b e live positive = elim (cases_lt b.first (place + count)) [
    | inr l ↦ inl l
    | inl l ↦ elim (cases_lt place (b.first + b.count)) [
      | inr m ↦ inr m
      | inl m ↦ absurd (elim (cases_lt place b.first) [
        | inl n ↦ least.1.free b.first (omega (arith, n)) l
            (body_taken b.first i b [] bodies e live (omega arith) (omega (arith, positive)))
        | inr n ↦ least.1.free place (omega arith) (omega (arith, some)) (body_taken place i b [] bodies e live n m)
      ])
    ]
  ]

  pub held_behind : AreHeld ARENA_WORDS more
  held_behind = (steps_keep_held ARENA_WORDS bodies are).0 syntax count place some there

  taken_is : held more ≡ with_range (place, count) (held bodies)
  taken_is = (held_by_each bodies).0 syntax place count

  pub free_behind : IsFreeElse more (with_words (place_address place) words c)
  free_behind k low none =
      let ranges = takes_these count place (held bodies) k in
      let taken : IsTaken k (with_range (place, count) (held bodies)) → ⊥ =
      λ t. none (subst (IsTaken k) (sym taken_is) t) in
      elim (cases_lt k place) [
        | inl l ↦ (λ is. free k low (λ t. taken (ranges.1 (inr t)))
            (sym (same_state place count words c few within k (inl l)) ∙ is))
        | inr l ↦ elim (cases_lt k (place + count)) [
          | inl m ↦ absurd (taken (ranges.1 (inl (l, m))))
          | inr m ↦ (λ is. free k low (λ t. taken (ranges.1 (inr t)))
              (sym (same_state place count words c few within k (inr m)) ∙ is))
        ]
      ]

pub bodies_grown : BodiesGrow
bodies_grown syntax bodies count place words c are free some few there = (
  within syntax bodies count place words c are free some few there,
  range_free syntax bodies count place words c are free some few there,
  apart syntax bodies count place words c are free some few there,
  held_behind syntax bodies count place words c are free some few there,
  free_behind syntax bodies count place words c are free some few there,
)

-- ---- a body is given back

-- what is taken besides other ranges is, where those take no less
taken_mono : (k : ℕ) (others more : List (ℕ × ℕ)) (bs : List Body) → (IsTaken k others → IsTaken k more) →
    IsTaken k (held_with others bs) → IsTaken k (held_with more bs)
taken_mono k others more [] f h = f h
taken_mono k others more (b ∷ bs) f h =
    taken_mono k (if b.live then with_range (b.first, b.count) others else others)
    (if b.live then with_range (b.first, b.count) more else more) bs (by b.live) h
  where
    either : ((b.first ≤ k) × (k < b.first + b.count)) ⊎ IsTaken k others → IsTaken k
        (with_range (b.first, b.count) more)
    either (inl l) = (takes_these b.count b.first more k).1 (inl l)
    either (inr h) = (takes_these b.count b.first more k).1 (inr (f h))

    by : (t : Bool) → IsTaken k (if t then with_range (b.first, b.count) others else others) →
        IsTaken k (if t then with_range (b.first, b.count) more else more)
    by true h = either ((takes_these b.count b.first others k).0 h)
    by false h = f h

-- a word outside of the range is taken without the body too
taken_less : (k i : ℕ) (b : Body) (others : List (ℕ × ℕ)) (bs : List Body) → slice_get bs i ≡ Some b →
    (k < b.first) ⊎ (b.first + b.count ≤ k) → IsTaken k (held_with others bs) →
    IsTaken k (held_with others (freed i bs))
taken_less k i b others [] e out h = absurd cc
taken_less k zero b others (x ∷ bs) e out h =
    let same : b ≡ x = cc in
    taken_mono k (if x.live then with_range (x.first, x.count) others else others) others bs
    (by x.live (subst (λ (y : Body). (k < y.first) ⊎ (y.first + y.count ≤ k)) same out)) h
  where
    either : (k < x.first) ⊎ (x.first + x.count ≤ k) → ((x.first ≤ k) × (k < x.first + x.count)) ⊎ IsTaken k others →
        IsTaken k others
    either (inl l) (inl r) = absurd (omega (arith, l, r.0))
    either (inr l) (inl r) = absurd (omega (arith, l, r.1))
    either out (inr h) = h

    by : (t : Bool) → (k < x.first) ⊎ (x.first + x.count ≤ k) →
        IsTaken k (if t then with_range (x.first, x.count) others else others) → IsTaken k others
    by true out h = either out ((takes_these x.count x.first others k).0 h)
    by false out h = h
taken_less k (suc i) b others (x ∷ bs) e out h =
    taken_less k i b (if x.live then with_range (x.first, x.count) others else others) bs e out h

pub bodies_given : BodiesGive
bodies_given bodies i b c after e free none same k low not = elim (cases_lt k b.first) [
  | inl l ↦ (λ is. free k low (λ t. not (taken_less k i b [] bodies e (inl l) t)) (sym (same k (inl l)) ∙ is))
  | inr l ↦ elim (cases_lt k (b.first + b.count)) [
    | inl m ↦ none k l m
    | inr m ↦ (λ is. free k low (λ t. not (taken_less k i b [] bodies e (inr m) t)) (sym (same k (inr m)) ∙ is))
  ]
]
