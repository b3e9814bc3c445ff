-- The image of a program. It is entered at the start, which sets the pointers and the cells of the run-time routines,
-- calls main and exits with its answer. The start and each routine have a block of 64 words. The functions follow the
-- blocks, in the order of the text, and behind them stand the functions that generate the code of ticks, in theirs.
-- These are the project's own rules.
use Rattle.std.specs.Prelude.{◌≡◌, ℕ, ◌+◌, ◌-◌, ◌*◌, ◌/◌, false, List, [], ◌∷◌, ◌++◌, length, map}
use Rattle.word32.specs.declared.map.TheConstants.{ARENA, CLOSURES, FRAMES, FUNCTIONS, GLOBAL_POINTER, HEAP, STACK_TOP}
use Rattle.word32.specs.declared.map.TheConstants.{START}
use Rattle.image_file.specs.Image.{ImageParts}
use Rattle.image_file.specs.declared.image.FunctionEntry.{FunctionEntry}
use Rattle.mips_encoder.specs.declared.instruction.Instr.{Instr}
use Rattle.icode_ops.specs.declared.op.Op.{Op}
use Rattle.icode_ops.specs.Places.{IsLegal}
use Rattle.icode_ir.specs.Sound.{Each}
use Rattle.mips_assembly.specs.Assembly.{v0, a0, t8, gp, sp, fp, addu, ori, lui, sw, jal, syscall, nop, constant}
use Rattle.icode_templates.specs.Words.{words}
use Rattle.icode_templates.specs.Expansion.{expanded}
use Rattle.routine_spec.specs.Generator.{generator_code}
use Rattle.routine_spec.specs.Blocks.{filled, routine_words}
use Rattle.staged_meaning.specs.Program.{Tick}
use Rattle.tick_lower_spec.specs.TickPieces.{tick_pieces}
use Rattle.typed_tree.specs.Nodes as node
use Rattle.staged_meaning.specs.Size.{size_of, charge_of}
use Rattle.tick_lower_spec.specs.Lower.{Addresses, listed}
use Rattle.tick_lower_proof.specs.Laws.{code_of, registers_of}

-- a word to a register whose lower half is 0
abbrev pub upper : ℕ → ℕ → Instr
upper register word = lui register (word / 65536)

-- a cell takes a word; the cells stand below $gp
abbrev pub set_cell : ℕ → ℕ → List Instr
set_cell below word = constant t8 word ++ sw t8 (65536 - below) gp ∷ []

-- The stack ends where $sp begins, $gp is the end of the cells, and frame objects begin at $fp. The cells take the next
-- address of the heap and of the closures, the number that the next function will have, and the next address of the
-- arena; all other cells begin as 0, as all memory does.
abbrev pub set_up : (functions : ℕ) → List Instr
set_up functions =
    upper sp STACK_TOP
    ∷ upper gp GLOBAL_POINTER
    ∷ upper fp FRAMES
    ∷ (set_cell 4 HEAP ++ (set_cell 8 CLOSURES ++ (set_cell 16 (functions + 1) ++ set_cell 20 ARENA)))

-- the service that ends a run takes main's answer
abbrev pub exit_with_answer : List Instr
exit_with_answer = addu a0 v0 0 ∷ ori v0 0 10 ∷ syscall ∷ []

-- the start of an image of so many functions, with main at an address
abbrev pub start_code : (main functions : ℕ) → List Instr
start_code main functions = set_up functions ++ (jal main ∷ nop ∷ exit_with_answer)

-- The block of the start, and behind it those of the routines: in front of the functions are 16 blocks.
abbrev pub start_block : (main functions : ℕ) → List ℕ
start_block main functions = filled (words (start_code main functions))

abbrev pub front : (main functions : ℕ) → List ℕ
front main functions = start_block main functions ++ routine_words

-- ---- functions

-- a function of a program, and the places of its registers
pub record Placed : Type 0 where
  pub function : node.Function
  pub places : List ℕ

-- its ops, and how many registers they have, where calls go to these addresses
abbrev pub ops_of : Addresses → Placed → List Op
ops_of addresses x = code_of addresses x.function

abbrev pub registers_in : Addresses → Placed → ℕ
registers_in addresses x = registers_of addresses x.function

-- its words, from an address on
abbrev pub words_of : Addresses → (at : ℕ) → Placed → List ℕ
words_of addresses at x =
    expanded (ops_of addresses x) x.places at (charge_of (size_of x.function)) x.function.object false

-- Static functions stand at these addresses. No tick is known yet, nor needed by what calls functions alone.
abbrev pub functions_at : List ℕ → Addresses
functions_at addresses = listed addresses [] []

-- no address is known yet
abbrev pub unknown : Addresses
unknown = functions_at []

-- How many words it has. Wherever functions stand, they have as many words, so these are counted before any address is
-- known.
abbrev pub length_of : Placed → ℕ
length_of x = length (words_of unknown FUNCTIONS x)

-- the address behind a function
abbrev pub behind : (at : ℕ) → Placed → ℕ
behind at x = at + 4 * length_of x

-- Functions stand one behind another from an address on: the address of each, the row of each, which has its address
-- and how many parameters it takes, and the words of all.
abbrev pub starts : (at : ℕ) → List Placed → List ℕ
starts at [] = []
starts at (x ∷ xs) = at ∷ starts (behind at x) xs

abbrev pub rows_of : (at : ℕ) → List Placed → List FunctionEntry
rows_of at [] = []
rows_of at (x ∷ xs) = record { address = at; count = x.function.parameters } ∷ rows_of (behind at x) xs

abbrev pub words_from : Addresses → (at : ℕ) → List Placed → List ℕ
words_from addresses at [] = []
words_from addresses at (x ∷ xs) = words_of addresses at x ++ words_from addresses (behind at x) xs

-- the address behind them
abbrev pub ends : (at : ℕ) → List Placed → ℕ
ends at [] = at
ends at (x ∷ xs) = ends (behind at x) xs

-- ---- the functions that generate the code of ticks

-- The words of a tick's: it calls functions of the image alone, since a tick has no ticks of its own.
abbrev pub generator_of : (functions : List ℕ) → Tick → List ℕ
generator_of functions tick = words (generator_code (tick_pieces (functions_at functions) tick))

-- They stand one behind another from an address on: the address of each, and the words of all.
abbrev pub generator_starts : (functions : List ℕ) → (at : ℕ) → List Tick → List ℕ
generator_starts functions at [] = []
generator_starts functions at (tick ∷ ticks) =
    at ∷ generator_starts functions (at + 4 * length (generator_of functions tick)) ticks

abbrev pub generators : (functions : List ℕ) → List Tick → List ℕ
generators functions [] = []
generators functions (tick ∷ ticks) = generator_of functions tick ++ generators functions ticks

-- ---- the whole

-- the functions of a program stand behind the blocks, and those of its ticks behind them
abbrev pub function_starts : List Placed → List ℕ
function_starts xs = starts FUNCTIONS xs

abbrev pub addresses_of : List Tick → List Placed → Addresses
addresses_of ticks xs =
    listed (function_starts xs) (generator_starts (function_starts xs) (ends FUNCTIONS xs) ticks) ticks

-- The image of a program whose globals and strings are these bytes, whose ticks are these and whose function main has
-- this number, counted from 1: the start, the blocks, the functions, each of which has a row, and the functions of the
-- ticks.
abbrev pub image_of : (bytes : List ℕ) → List Tick → (main : ℕ) → List Placed → ImageParts
image_of bytes ticks main xs = record {
  entry = START;
  text = front ((addresses_of ticks xs).function_at main) (length xs)
      ++ (words_from (addresses_of ticks xs) FUNCTIONS xs ++ generators (function_starts xs) ticks);
  bytes = bytes;
  functions = rows_of FUNCTIONS xs;
}

-- ---- choices of places

abbrev pub functions_of : List Placed → List node.Function
functions_of xs = map (λ x. x.function) xs

abbrev pub IsLegalChoice : Addresses → Placed → Type 0
IsLegalChoice addresses x = IsLegal (ops_of addresses x) (registers_in addresses x) x.places

-- the functions of a program, whose ticks are these, with a legal choice of places for the registers of each
pub record IsChoice (functions : List node.Function) (ticks : List Tick) (xs : List Placed) : Type 0 where
  pub same : functions_of xs ≡ functions
  pub legal : Each (IsLegalChoice (addresses_of ticks xs)) xs
