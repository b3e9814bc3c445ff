-- The functions and the programs of which an image is made: those of every accepted text are such.
use Rattle.std.specs.Prelude.{◌≡◌, ℕ, ◌+◌, ◌*◌, ◌<◌, ◌≤◌, List, [], ◌∷◌, length, slice_get, slice_index, Some}
use Rattle.icode_ir.specs.Sound.{Each}
use Rattle.meaning_state.specs.Rows.{numbered}
use Rattle.typed_tree.specs.Nodes.{Function}
use Rattle.staged_meaning.specs.Scope.{IsReadyIn}
use Rattle.staged_meaning.specs.Size.{size_of}
use Rattle.staged_meaning.specs.Program.{Program, Tick, tick_size}
use Rattle.typed_tree.specs.declared.expression.CaptureKind.{CaptureKind}
use Rattle.word32.specs.declared.map.TheConstants.{GLOBAL_BYTES, SEGMENT_BYTES}
use Rattle.tick_lower_spec.specs.TickPieces.{tick_pieces}
use Rattle.routine_spec.specs.Generator.{HasRoom}
use Rattle.static_image.specs.Layout.{functions_at}
use Rattle.limits.specs.declared.program.TheConstants.{CHARGE_LIMIT, FRONT_WORDS, SIZE_LIMIT, WORDS_OF_A_BODY}
use Rattle.limits.specs.declared.program.TheConstants.{WORDS_OF_A_NODE}
use Rattle.static_image.specs.Words.{HasWordsStmt}

-- a function among these that is ready to be lowered, where the ticks of the program capture this, of words
pub record IsStatic (functions : List Function) (ticks : List (List CaptureKind)) (function : Function) : Type 0 where
  pub ready : IsReadyIn functions ticks function
  pub words : HasWordsStmt function.body

-- the most words that functions have
abbrev pub most_words : List Function → ℕ
most_words [] = 0
most_words (f ∷ fs) = WORDS_OF_A_NODE * size_of f + WORDS_OF_A_BODY + most_words fs

-- and the functions of ticks
abbrev pub most_generated : List Tick → ℕ
most_generated [] = 0
most_generated (t ∷ ts) = WORDS_OF_A_NODE * tick_size (Some t) + WORDS_OF_A_BODY + most_generated ts

-- Functions and ticks of which an image is made, where the ticks capture this: each function is such a one among them,
-- no tick is larger than a function may be or has more captures, and there is room in the text for all.
pub record AreStatic (functions : List Function) (captures : List (List CaptureKind)) (ticks : List Tick) : Type 0 where
  pub each : Each (IsStatic functions captures) functions
  pub as_many : length captures ≡ length ticks
  pub sizes : (tick : ℕ) → tick_size (slice_get ticks tick) ≤ SIZE_LIMIT
  pub few : (tick : ℕ) (kinds : List CaptureKind) → slice_get captures tick ≡ Some kinds → length kinds ≤ SIZE_LIMIT
  -- wherever functions stand, what a tick's function names are words, and captured words that a closure has room for
  pub written : (starts : List ℕ) → ((k : ℕ) → slice_index starts k < SEGMENT_BYTES)
      → Each (λ t. Each HasRoom (tick_pieces (functions_at starts) t)) ticks
  pub room : FRONT_WORDS + most_words functions + most_generated ticks ≤ CHARGE_LIMIT

-- A program of such functions, whose function main has this number, counted from 1, and no parameters. Its globals and
-- strings are bytes, and there is room for them.
pub record IsImaged (program : Program) (main : ℕ) : Type 0 where
  pub main_is : numbered main program.functions ≡ Some program.main
  pub no_parameters : program.main.parameters ≡ 0
  -- what its ticks capture
  pub captures : List (List CaptureKind)
  pub static : AreStatic program.functions captures program.ticks
  pub each_byte_fits : (k : ℕ) → slice_index program.image k < 256
  pub bytes_are_few : length program.image ≤ GLOBAL_BYTES
