-- The place of a function's words, and the meaning's limit.
use Rattle.std.proofs.Common.{◌≡◌, ℕ, ◌+◌, ◌<◌, ◌≤◌, Bool, true, false, List, [], ◌∷◌, ◌++◌, Some, None, refl, sym, ap}
use Rattle.std.proofs.Common.{subst, ◌∙◌, arith, nat_le, if◌then◌else◌}
use Rattle.std.proofs.lemmas.Bool.Decides.{nat_tests}
use Rattle.word32.specs.declared.map.TheConstants.{ARENA_WORDS}
use Rattle.host_edge.specs.declared.ending.TrapKind.TheVariants.{ArenaLimit}
use Rattle.history.specs.Syntax.{Syntax}
use Rattle.free_ranges.specs.Ranges.{IsLeast}
use Rattle.meaning_state.specs.Bodies.{new_body, charged, held, AreHeld, AreSummed}
use Rattle.free_ranges.proofs.Fits.{first_fit_is_least}
use Rattle.meaning_state.proofs.Sums.{place_there, summed_place}
use Rattle.meaning_state.specs.Shared.{Shared}
use Rattle.meaning_state.specs.Rows.{arena_words, arena_trap, next_place, place_trap, placed, made}
use Rattle.compile_routine.specs.Places.{PlacesAreThere}

positive : (size : ℕ) → 0 < arena_words size
positive size = omega arith

-- ---- where no body was freed

-- a place that there is lies behind all that was charged, with room for the words
pub record IsPlace (count : ℕ) (shared : Shared) (place : ℕ) : Type 0 where
  pub is : place ≡ charged shared.bodies
  pub within : place + count ≤ ARENA_WORDS

module _ (size : ℕ) (shared : Shared) (are : AreSummed ARENA_WORDS shared.bodies) where
  pub sum_place : next_place (arena_words size) shared
      ≡ (if nat_le (charged shared.bodies + arena_words size) ARENA_WORDS then Some (charged shared.bodies) else None)
  sum_place = summed_place ARENA_WORDS shared.bodies (arena_words size) (positive size) are

  pub place_is : (place : ℕ) → next_place (arena_words size) shared ≡ Some place
      → IsPlace (arena_words size) shared place
  place_is place e = by (nat_le (charged shared.bodies + arena_words size) ARENA_WORDS) refl (sym sum_place ∙ e)
    where
      by : (b : Bool) → nat_le (charged shared.bodies + arena_words size) ARENA_WORDS ≡ b
          → (if b then Some (charged shared.bodies) else None) ≡ Some place → IsPlace (arena_words size) shared place
      by true t e =
          let same : charged shared.bodies ≡ place = cc in
          let room : charged shared.bodies + arena_words size ≤ ARENA_WORDS = grind (arith, nat_tests, t) in
          record { is = sym same; within = omega (arith, same, room) }
      by false t e = absurd cc

  -- the meaning's limit, by the test of the sum
  pub limit_is : (b : Bool) → nat_le (charged shared.bodies + arena_words size) ARENA_WORDS ≡ b
      → arena_trap size shared ≡ place_trap (if b then Some (charged shared.bodies) else None)
  limit_is b t =
      ap place_trap (sum_place ∙ ap (λ b. if b then Some (charged shared.bodies) else None) t)

  pub made_behind : charged shared.bodies + arena_words size ≤ ARENA_WORDS → (function : ℕ) (syntax : Syntax)
      → (made function syntax size shared).bodies
      ≡ shared.bodies ++ new_body syntax (charged shared.bodies) (arena_words size) ∷ []
  made_behind most function syntax =
      ap (λ o. placed o syntax (arena_words size) shared.bodies)
      (place_there ARENA_WORDS shared.bodies (arena_words size) (positive size) are most)

-- ---- any place

-- where there is one the meaning has no trap
pub no_trap : (size : ℕ) (shared : Shared) (place : ℕ) → next_place (arena_words size) shared ≡ Some place
    → arena_trap size shared ≡ None
no_trap size shared place e = ap place_trap e

limit : (size : ℕ) (shared : Shared) → next_place (arena_words size) shared ≡ None
    → arena_trap size shared ≡ Some ArenaLimit
limit size shared e = ap place_trap e

within : (size : ℕ) (shared : Shared) (place : ℕ) → AreHeld ARENA_WORDS shared.bodies
    → next_place (arena_words size) shared ≡ Some place → place + arena_words size ≤ ARENA_WORDS
within size shared place are e =
    (subst (IsLeast (arena_words size) 0 ARENA_WORDS (held shared.bodies)) e
    (first_fit_is_least (arena_words size) 0 ARENA_WORDS (held shared.bodies) (positive size) are.ranges)).1.within

pub places_there : PlacesAreThere
places_there size shared are =
    (limit size shared, (λ place e. (no_trap size shared place e, within size shared place are e)))
