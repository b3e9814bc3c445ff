-- Where in the arena a function's words go: to a place, the first of so many words that are free.
use Rattle.std.specs.Prelude.{◌≡◌, ℕ, ◌+◌, ◌*◌, ◌<◌, ◌≤◌, ◌⊎◌, Some, None}
use Rattle.word32.specs.declared.map.TheConstants.{ARENA, ARENA_WORDS}
use Rattle.host_edge.specs.declared.ending.TrapKind.TheVariants.{ArenaLimit}
use Rattle.mips_model.specs.State.{Code}
use Rattle.mips_model.specs.Steps.{fetch}
use Rattle.meaning_state.specs.Shared.{Shared}
use Rattle.meaning_state.specs.Bodies.{AreHeld}
use Rattle.meaning_state.specs.Rows.{arena_words, arena_trap, next_place}

-- a place's address
abbrev pub place_address : ℕ → ℕ
place_address place = ARENA + 4 * place

-- There is a place exactly where the meaning has no trap, and where bodies hold ranges the words are within the arena.
abbrev pub PlacesAreThere : Type 0
PlacesAreThere =
    (size : ℕ) (shared : Shared) → AreHeld ARENA_WORDS shared.bodies
    → (next_place (arena_words size) shared ≡ None → arena_trap size shared ≡ Some ArenaLimit)
    × ((place : ℕ) → next_place (arena_words size) shared ≡ Some place
    → (arena_trap size shared ≡ None) × (place + arena_words size ≤ ARENA_WORDS))

-- ---- ranges of words

-- two ranges, by their first words and their words, have no word in common
abbrev pub AreApart : (first count other more : ℕ) → Type 0
AreApart first count other more = (first + count ≤ other) ⊎ (other + more ≤ first)

-- outside of these addresses all is fetched as it was before
abbrev pub KeepsOutside : (from to : ℕ) → (c after : Code) → Type 0
KeepsOutside from to c after = (x : ℕ) → (x < from) ⊎ (to ≤ x) → fetch after x ≡ fetch c x
