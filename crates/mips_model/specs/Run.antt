-- The run of an image: its first state, and what is seen of so many instructions of it on an input. An image is what
-- this project's compiler and assembler make; a run of one is this project's own, on the machine of the other pages.
use Rattle.std.specs.Prelude.{◌≡◌, ◌≢◌, ◌⊎◌, ℕ, zero, suc, ◌+◌, ◌*◌, ◌/◌, ◌%◌, ◌<◌, ◌≤◌, Bool, true, false, ◌&&◌, not}
use Rattle.std.specs.Prelude.{nat_eq}
use Rattle.std.specs.Prelude.{List, [], map, Option, Some, None, is_some, if◌then◌else◌, ⊤}
use Rattle.std.specs.Fn.{iterate}
use Rattle.pace.specs.Pace.{Seen}
use Rattle.history.specs.Events.{Item, End, Input}
use Rattle.word32.specs.declared.map.TheConstants.{ARENA, ARENA_WORDS}
use Rattle.flat_memory.specs.Spaces as space
use Rattle.code_arena.specs.Arena as arena
use Rattle.code_arena.specs.Rows as rows
use Rattle.code_arena.specs.declared.arena.WordState.TheVariants.{Unwritten, Written, Flushed}
use Rattle.image_file.specs.Image.{ImageParts}
use Rattle.image_file.specs.declared.image.FunctionEntry.{FunctionEntry}
use Rattle.icode_ir.specs.Build.{Build, finished}
use Rattle.icode_ops.specs.Places.{IsLegal}
use Rattle.mips_model.specs.Choices.{Choice}
use Rattle.mips_model.specs.CodeServices.{fresh, finish_refusal}
use Rattle.mips_encoder.specs.declared.instruction.Instr.TheVariants.{Syscall}
use Rattle.mips_model.specs.State.{Making, Outside, Data, State, World, register}
use Rattle.mips_model.specs.Services.{generator_of, next_choice}
use Rattle.mips_model.specs.Steps.{run, step, going, is_hazard}
use Rattle.mips_model.specs.Beside.{is_at_service}

-- nothing was read and nothing put out yet
abbrev pub first_making : List Choice → Making
first_making row = record {
  generator = fresh;
  issued = record { parameters = 0; ops = [] };
  finishes = [];
  row = row;
  ops = 0;
  functions = 0;
  words = 0;
}

abbrev pub first_outside : Input → List Choice → Outside
first_outside input row =
    record { input = input; at_end = false; history = []; flushes = 0; making = first_making row }

-- the row of a function: its address and how many arguments it takes
abbrev pub row_of : FunctionEntry → ℕ × ℕ
row_of f = (f.address, f.count)

-- Registers, HI and LO are 0. The text is the image's, the objects begin with its bytes, its functions are the rows
-- from 1 on, in their order, and everything else is 0; no word of the arena is written, and no other function
-- published.
abbrev pub first_data : List ℕ → List FunctionEntry → Input → List Choice → Data
first_data bytes functions input row = record {
  registers = λ r. 0;
  hi = 0;
  lo = 0;
  objects = (space.first [] bytes).objects;
  closures = λ n. 0;
  spec_rows = λ n. 0;
  cells = λ n. 0;
  emit_stack = λ n. 0;
  stack = λ n. 0;
  table = rows.numbered (map row_of functions);
  outside = first_outside input row;
}

abbrev pub first_state : ImageParts → Input → List Choice → State
first_state image input row = record {
  pc = image.entry;
  next = image.entry + 4;
  loaded = 0;
  recent = 0;
  slot = false;
  code = record { text = space.text_of image.text; arena = arena.first };
  d = first_data image.bytes image.functions input row;
}

abbrev pub begins : ImageParts → Input → List Choice → World
begins image input row = going (first_state image input row)

abbrev pub see : World → Seen Item End
see w = record { history = w.state.d.outside.history; ending = w.ending }

-- What is seen of n instructions of an image on an input, for a row of choices of register places. The service that
-- finishes a function takes the next choice of the row, whatever it is.
abbrev pub runs : ImageParts → Input → List Choice → ℕ → Seen Item End
runs image input choices n = see (run n (begins image input choices))

-- whether the next instruction is executed, and is the service of this number
abbrev pub is_serving : ℕ → World → Bool
is_serving number w =
    if is_some w.ending then false
    else (is_at_service w.state && (nat_eq (register 2 w.state.d) number && not (is_hazard Syscall w.state)))

-- the places are legal, where the function that is begun gets as far as that
abbrev pub IsLegalFor : Option Build → (at most frame : ℕ) → Choice → Type 0
IsLegalFor None at most frame choice = ⊤
IsLegalFor (Some b) at most frame choice =
    finish_refusal b at most frame ≡ None → IsLegal (finished b) b.registers choice.places

abbrev pub IsWellChosen : World → Type 0
IsWellChosen w =
    is_serving 66 w ≡ true → IsLegalFor (generator_of w.state.d).build (register 4 w.state.d) (register 5 w.state.d)
    (register 6 w.state.d) (next_choice w.state.d.outside.making.row)

-- each choice that is met in so many instructions is a legal one
abbrev pub IsFine : ℕ → World → Type 0
IsFine n w = (i : ℕ) → i < n → IsWellChosen (iterate step i w)

-- A run is defined for n instructions where each function that is finished in them takes a legal choice. A row that has
-- come to its end gives the choice without places, which is legal for a function without registers alone.
abbrev pub IsDefined : ImageParts → Input → List Choice → ℕ → Type 0
IsDefined image input choices n = (i : ℕ) → i < n → IsWellChosen (run i (begins image input choices))

-- how many of n instructions are executed before the run ends, the last one included
abbrev pub steps_within : ℕ → World → ℕ
steps_within zero w = 0
steps_within (suc n) w = if is_some w.ending then 0 else (1 + steps_within n (step w))

-- The instruction behind the first i is the arena's word k. It was written, was never unwritten from then on, and is
-- flushed: since every write leaves a word unflushed, the flush came after its last write.
pub record IsCleanWord (image : ImageParts) (input : Input) (choices : List Choice) (i k : ℕ) : Type 0 where
  pub at : (run i (begins image input choices)).state.pc ≡ ARENA + 4 * k
  pub is_word : k < ARENA_WORDS
  pub flushed : (run i (begins image input choices)).state.code.arena.states k ≡ Flushed
  pub since : ℕ
  pub before : since ≤ i
  pub written : (run since (begins image input choices)).state.code.arena.states k ≡ Written
  pub kept : (j : ℕ) → since ≤ j → j ≤ i → (run j (begins image input choices)).state.code.arena.states k ≢ Unwritten

abbrev pub IsTextWord : ImageParts → ℕ → Type 0
IsTextWord image at = (at % 4 ≡ 0) × ((word : ℕ) × (space.text_of image.text (at / 4) ≡ Some word))

-- each of n instructions that is executed, since the run had not ended before, is a word of the text or a clean one
abbrev pub IsClean : ImageParts → Input → List Choice → ℕ → Type 0
IsClean image input choices n =
    (i : ℕ) → i < n → (run i (begins image input choices)).ending ≡ None
    → IsTextWord image (run i (begins image input choices)).state.pc ⊎ ((k : ℕ) × IsCleanWord image input choices i k)
