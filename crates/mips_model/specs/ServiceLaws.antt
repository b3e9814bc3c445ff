-- What a choice of places by linear scan is, how great an answer is, and what words that are written leave.
use Rattle.std.specs.Prelude.{ℕ, ◌≡◌, ◌<◌, ◌≤◌, ◌+◌, ◌⊎◌, List, length, slice_index}
use Rattle.word32.specs.declared.map.TheConstants.{ARENA_WORDS}
use Rattle.code_arena.specs.Arena.{Arena}
use Rattle.code_arena.specs.declared.arena.WordState.TheVariants.{Written}
use Rattle.icode_ops.specs.declared.op.Op.{Op}
use Rattle.icode_ops.specs.Places.{IsLegal}
use Rattle.mips_model.specs.Choices.{Choice, IsScanned}
use Rattle.mips_model.specs.CodeServices.{Generator, Rows, Does, service, written_from}

-- the places of a choice by linear scan are legal
abbrev pub ChoicesAreLegal : Type 0
ChoicesAreLegal =
    (ops : List Op) (registers : ℕ) (choice : Choice) → IsScanned ops registers choice →
    IsLegal ops registers choice.places

-- no service answers more than there are words in the arena
abbrev pub AnswersAreSmall : Type 0
AnswersAreSmall =
    (choice : Choice) (number first second third answer : ℕ) (g made : Generator) (change : Arena → Arena)
    (set : Rows → Rows) → service choice number first second third g ≡ Does answer made change set →
    answer ≤ ARENA_WORDS

-- the words stand one behind another from a word on, written and not flushed, and all others are as they were
pub record Stand (first : ℕ) (words : List ℕ) (before after : Arena) : Type 0 where
  pub each : (k : ℕ) → k < length words → after.words (first + k) ≡ slice_index words k
  pub written : (k : ℕ) → k < length words → after.states (first + k) ≡ Written
  pub others : (i : ℕ) → (i < first) ⊎ (first + length words ≤ i) →
      (after.words i ≡ before.words i) × (after.states i ≡ before.states i)

abbrev pub WordsStand : Type 0
WordsStand = (first : ℕ) (words : List ℕ) (a : Arena) → Stand first words a (written_from first words a)
