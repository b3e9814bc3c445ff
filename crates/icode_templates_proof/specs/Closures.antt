-- Closures: how specifications stand in memory. A closure has four words (the address of the function that generates
-- its code, or the key of a variable; its kind; its size; how many parameters its code has), then its captured words.
-- Closures stand one behind another, and the row of a number has the address of its closure. The layout is this
-- project's own.
use Rattle.std.specs.Prelude.{◌≡◌, ℕ, zero, suc, ◌+◌, ◌-◌, ◌*◌, ◌/◌, ◌%◌, ◌≤◌, List, [], ◌∷◌, length, Some, slice_get}
use Rattle.word32.specs.Space.{update, AreWords}
use Rattle.word32.specs.declared.map.TheConstants.{CLOSURES, CLOSURE_BYTES, SPEC_ROWS, NEXT_CLOSURE_CELL}
use Rattle.word32.specs.declared.map.TheConstants.{SPEC_COUNT_CELL, SIZE_CELL, PARAMETERS_CELL, CLOSURE_CELL}
use Rattle.word32.specs.declared.map.TheConstants.{GLOBAL_POINTER}
use Rattle.meaning_state.specs.Rows.{closure_bytes}
use Rattle.mips_model.specs.State.{Data}

-- the word at an address in bytes, and a space of words with another one there
abbrev pub word_at : (ℕ → ℕ) → ℕ → ℕ
word_at space at = space (at / 4)

abbrev pub with_word : ℕ → ℕ → (ℕ → ℕ) → ℕ → ℕ
with_word at x space = update (at / 4) x space

-- so many words from an address on
abbrev pub words_at : (ℕ → ℕ) → (at count : ℕ) → List ℕ
words_at space at zero = []
words_at space at (suc count) = word_at space at ∷ words_at space (at + 4) count

-- ---- a closure

-- its first four words
pub record Head : Type 0 where
  pub first : ℕ
  pub kind : ℕ
  pub size : ℕ
  pub parameters : ℕ

pub record Closure : Type 0 where
  pub head : Head
  pub captured : List ℕ

-- Kinds: 1 and 2 are those of ticks, of an expression and of a statement; these are those of variables.
abbrev pub local_kind : ℕ
local_kind = 3

abbrev pub parameter_kind : ℕ
parameter_kind = 4

-- a variable of generated code has the key 7 more than its number, and a parameter's key is its index
abbrev pub local_head : (number : ℕ) → Head
local_head number = record { first = 7 + number; kind = local_kind; size = 0; parameters = 0 }

abbrev pub parameter_head : (index : ℕ) → Head
parameter_head index = record { first = index; kind = parameter_kind; size = 0; parameters = suc index }

-- the closure at an address, read back
abbrev pub head_at : (ℕ → ℕ) → ℕ → Head
head_at space at = record {
  first = word_at space at;
  kind = word_at space (at + 4);
  size = word_at space (at + 8);
  parameters = word_at space (at + 12);
}

abbrev pub closure_at : (ℕ → ℕ) → (at captures : ℕ) → Closure
closure_at space at captures =
    record { head = head_at space at; captured = words_at space (at + closure_bytes 0) captures }

-- and written, but for its captured words
abbrev pub with_head : ℕ → Head → (ℕ → ℕ) → ℕ → ℕ
with_head at k space =
    with_word (at + 12) k.parameters (with_word (at + 8) k.size (with_word (at + 4) k.kind
    (with_word at k.first space)))

-- ---- rows and cells

-- the row of a number, counted from 1
abbrev pub row_place : ℕ → ℕ
row_place number = SPEC_ROWS + 4 * (number - 1)

-- the address of the closure of a number
abbrev pub closure_of : Data → (number : ℕ) → ℕ
closure_of d number = word_at d.spec_rows (row_place number)

-- how many specifications there are, and the address behind their closures
abbrev pub row_count : Data → ℕ
row_count d = word_at d.cells SPEC_COUNT_CELL

abbrev pub next_closure : Data → ℕ
next_closure d = word_at d.cells NEXT_CLOSURE_CELL

-- of the specification that is being made: the size and the parameters so far
abbrev pub size_so_far : Data → ℕ
size_so_far d = word_at d.cells SIZE_CELL

abbrev pub parameters_so_far : Data → ℕ
parameters_so_far d = word_at d.cells PARAMETERS_CELL

-- ---- what the routines write

-- the size and the parameters so far
abbrev pub with_so_far : (size parameters : ℕ) → Data → Data
with_so_far size parameters d =
    record d { cells = with_word PARAMETERS_CELL parameters (with_word SIZE_CELL size d.cells) }

-- A specification more, with room for so many captured words: its closure stands behind all others and is the newest,
-- and its row behind all rows.
abbrev pub appended : Head → (captures : ℕ) → Data → Data
appended k captures d = record d {
  closures = with_head (next_closure d) k d.closures;
  spec_rows = with_word (row_place (suc (row_count d))) (next_closure d) d.spec_rows;
  cells = with_word CLOSURE_CELL (next_closure d)
      (with_word NEXT_CLOSURE_CELL (next_closure d + closure_bytes captures)
      (with_word SPEC_COUNT_CELL (suc (row_count d)) d.cells));
}

-- ---- the closures of a run

-- the closure of a number stands in memory, below the place of the next one
pub record Stands (d : Data) (number : ℕ) (k : Closure) : Type 0 where
  pub from : CLOSURES ≤ closure_of d number
  pub to : closure_of d number + closure_bytes (length k.captured) ≤ next_closure d
  pub even : closure_of d number % 4 ≡ 0
  pub reads : closure_at d.closures (closure_of d number) (length k.captured) ≡ k

-- the bytes of closures
abbrev pub bytes_of : List Closure → ℕ
bytes_of [] = 0
bytes_of (k ∷ ks) = closure_bytes (length k.captured) + bytes_of ks

-- these closures stand in memory, by their numbers, and no others are counted
pub record HasClosures (ks : List Closure) (d : Data) : Type 0 where
  pub global : d.registers 28 ≡ GLOBAL_POINTER
  pub count : row_count d ≡ length ks
  pub next : next_closure d ≡ CLOSURES + bytes_of ks
  pub within : bytes_of ks ≤ CLOSURE_BYTES
  pub stand : (n : ℕ) (k : Closure) → slice_get ks n ≡ Some k → Stands d (suc n) k
  pub words : AreWords d.closures
