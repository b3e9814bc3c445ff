-- The place of a function where bodies hold ranges of the arena and may give them back: it is the first range that is
-- free and has room. So all that is said of a place here is said of that one. Where none was given back it is the sum's
-- place. The rule is this project's own.
use Rattle.std.specs.Prelude.{◌≡◌, ◌≢◌, ◌⊎◌, ℕ, ◌+◌, ◌<◌, ◌≤◌, true, nat_le, if◌then◌else◌, List, [], ◌∷◌, ◌++◌}
use Rattle.std.specs.Prelude.{length, slice_get, Some, None}
use Rattle.word32.specs.declared.map.TheConstants.{ARENA_WORDS}
use Rattle.history.specs.Syntax.{Syntax}
use Rattle.code_arena.specs.declared.arena.WordState.TheVariants.{Flushed}
use Rattle.free_ranges.specs.Ranges.{IsTaken}
use Rattle.meaning_state.specs.Bodies.{Body, held, place_for, new_body, freed, charged, AreHeld, AreSummed}
use Rattle.mips_model.specs.State.{Code}
use Rattle.meaning_state.specs.Shared.{Shared}
use Rattle.meaning_state.specs.Rows.{arena_words, made, next_place}
use Rattle.compile_routine.specs.Places.{place_address, AreApart}
use Rattle.compile_routine.specs.Made.{with_words, IsFree}

-- ---- the sum

-- Where no body was freed, first fit is the place behind all of them, and that is so behind each compile.
abbrev pub PlacesAreSums : Type 0
PlacesAreSums =
    (shared : Shared) (size : ℕ) → AreSummed ARENA_WORDS shared.bodies
    → (next_place (arena_words size) shared
    ≡ (if nat_le (charged shared.bodies + arena_words size) ARENA_WORDS then Some (charged shared.bodies) else None))
    × ((function : ℕ) (syntax : Syntax) → AreSummed ARENA_WORDS (made function syntax size shared).bodies)

-- ---- any place

-- no word of the arena that no body holds can be executed
abbrev pub IsFreeElse : List Body → Code → Type 0
IsFreeElse bodies c = (k : ℕ) → k < ARENA_WORDS → (IsTaken k (held bodies) → ⊥) → c.arena.states k ≢ Flushed

-- The range of a compile is within the arena and free, it has no word in common with that of a body that isn't given
-- back,
-- and behind the compile the bodies, with the new one, hold all that can be executed.
abbrev pub BodiesGrow : Type 0
BodiesGrow =
    (syntax : Syntax) (bodies : List Body) (count place : ℕ) (words : List ℕ) (c : Code) → AreHeld ARENA_WORDS bodies
    → IsFreeElse bodies c → 0 < count → length words ≤ count → place_for count ARENA_WORDS bodies ≡ Some place
    → (place + count ≤ ARENA_WORDS) × IsFree place count c
    × ((i : ℕ) (b : Body) → slice_get bodies i ≡ Some b → b.live ≡ true → 0 < b.count
    → AreApart place count b.first b.count)
    × AreHeld ARENA_WORDS (bodies ++ new_body syntax place count ∷ [])
    × IsFreeElse (bodies ++ new_body syntax place count ∷ []) (with_words (place_address place) words c)

-- A body is given back: where none of its range can be executed from then on, and the states of all other words are as
-- they were, the bodies that are left hold all that can be.
abbrev pub BodiesGive : Type 0
BodiesGive =
    (bodies : List Body) (i : ℕ) (b : Body) (c after : Code) → slice_get bodies i ≡ Some b → IsFreeElse bodies c
    → IsFree b.first b.count after
    → ((k : ℕ) → (k < b.first) ⊎ (b.first + b.count ≤ k) → after.arena.states k ≡ c.arena.states k)
    → IsFreeElse (freed i bodies) after
