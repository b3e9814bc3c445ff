-- The start brings a run of an image to main, with the stack empty and the cells set, and waits with its exit.
use Rattle.std.proofs.Common.{◌≡◌, ℕ, ◌+◌, ◌-◌, ◌*◌, ◌/◌, ◌%◌, ◌<◌, ◌≤◌, Bool, true, false, List, [], ◌∷◌}
use Rattle.std.proofs.Common.{◌++◌, length, Option, None, Some, refl, sym, ap, map, ◌∙◌, subst, arith, append_assoc}
use Rattle.std.proofs.Common.{append-nil, length-append, nat_lt, if◌then◌else◌, slice_get, slice_index, replicate}
use Rattle.std.specs.Fn.{iterate}
use Rattle.std.proofs.lemmas.List.{length-replicate}
use Rattle.std.proofs.lemmas.Bool.Decides.{nat_tests}
use Rattle.limits.specs.declared.program.TheConstants.{MOST_FUNCTIONS}
use Rattle.word32.specs.declared.map.TheConstants.{ARENA, CLOSURES, HEAP, OBJECTS, SEGMENT_BYTES, TEXT}
use Rattle.word32.specs.Bytes.{word_in}
use Rattle.word32.specs.Space.{bytes_from}
use Rattle.flat_memory.specs.Spaces.{text_of}
use Rattle.code_arena.specs.Rows.{numbered}
use Rattle.image_file.specs.declared.image.FunctionEntry.{FunctionEntry}
use Rattle.mips_model.specs.Choices.{Choice}
use Rattle.history.specs.Events.{Input}
use Rattle.mips_encoder.specs.Table.{word_of}
use Rattle.mips_encoder.specs.Addresses.{past}
use Rattle.mips_model.specs.State.{Code, Data, set_register}
use Rattle.mips_model.specs.Steps.{step, going}
use Rattle.mips_model.specs.Run as machine
use Rattle.mips_model.specs.Run.{row_of}
use Rattle.mips_model.specs.Laws.{HasAt, at, Reaches}
use Rattle.mips_model.proofs.Loaded.{AllFit, all_fit_append, loaded}
use Rattle.mips_model.proofs.Reach.{through, through_runs, reaches_on, step_acts, front, back}
use Rattle.mips_assembly.specs.Assembly.{jal, nop}
use Rattle.icode_templates_proof.specs.Closures.{HasClosures}
use Rattle.icode_templates_proof.proofs.Jumps.{in_slot, slot_runs}
use Rattle.icode_expand_proof.specs.Standing.{WordsAt, exit_code}
use Rattle.icode_expand_proof.specs.Settings.{Setting, Published}
use Rattle.icode_expand_proof.specs.Relation.{MemoryAgrees, ExtentsAgree, SameWritten, SameMade}
use Rattle.staged_meaning.specs.Program as meaning
use Rattle.staged_meaning.specs.Meaning.{at_start}
use Rattle.routine_spec.specs.Blocks.{filled}
use Rattle.static_image.specs.Layout.{set_cell, set_up, start_code, exit_with_answer}

-- words stand behind those that are in front of them in a text
get_behind : (xs : List ℕ) (w : ℕ) (rest : List ℕ) → slice_get (xs ++ w ∷ rest) (length xs) ≡ Some w
get_behind [] w rest = refl
get_behind (x ∷ xs) w rest = get_behind xs w rest

word_there : (xs : List ℕ) (w : ℕ) (rest : List ℕ) (a : ℕ) → a ≡ TEXT + 4 * length xs →
    text_of (xs ++ w ∷ rest) (a / 4) ≡ Some w
word_there xs w rest a is =
    let l : nat_lt (a / 4) (TEXT / 4) ≡ false = grind (arith, nat_tests) in
    let i : a / 4 - TEXT / 4 ≡ length xs = omega (arith, is) in
    rw (l, i) (get_behind xs w rest)

pub words_there : (xs ws rest : List ℕ) (a : ℕ) → a ≡ TEXT + 4 * length xs →
    WordsAt (loaded (xs ++ (ws ++ rest))) a ws
words_there xs [] rest a is = tt
words_there xs (w ∷ ws) rest a is =
    let one = length-append xs (w ∷ []) in
    let next : a + 4 ≡ TEXT + 4 * length (xs ++ w ∷ []) = omega (arith, one, is) in (
      word_there xs w (ws ++ rest) a is,
      subst (λ (text : List ℕ). WordsAt (loaded text) (a + 4) ws) (append_assoc xs (w ∷ []) (ws ++ rest))
          (words_there (xs ++ w ∷ []) ws rest (a + 4) next),
    )

-- the words of a text's first part, and of its last
pub first_words : (ws more rest : List ℕ) → WordsAt (loaded ((ws ++ more) ++ rest)) TEXT ws
first_words ws more rest =
    subst (λ (text : List ℕ). WordsAt (loaded text) TEXT ws) (sym (append_assoc ws more rest))
    (words_there [] ws (more ++ rest) TEXT refl)

pub last_words : (xs ws : List ℕ) (a : ℕ) → a ≡ TEXT + 4 * length xs → WordsAt (loaded (xs ++ ws)) a ws
last_words xs ws a is = subst (λ (text : List ℕ). WordsAt (loaded (xs ++ text)) a ws) (append-nil ws)
    (words_there xs ws [] a is)

pub filled_length : (ws : List ℕ) → length ws ≤ 64 → length (filled ws) ≡ 64
filled_length ws le =
    omega (
      arith,
      le,
      length-append ws (replicate (64 - length ws) (word_of nop)),
      length-replicate (64 - length ws) (word_of nop),
    )

-- each instruction of the start has a word
cell_fits : (below word : ℕ) → 0 < below → word < 4294967296 → AllFit (set_cell below word)
cell_fits below word some small = (
  (omega arith, omega (arith, small)),
  ((omega arith, omega arith, omega arith), ((omega arith, omega (arith, some), omega arith), tt)),
)

set_up_fits : (functions : ℕ) → functions ≤ MOST_FUNCTIONS → AllFit (set_up functions)
set_up_fits n few = (
  (omega arith, omega arith),
  (
    (omega arith, omega arith),
    (
      (omega arith, omega arith),
      all_fit_append (set_cell 4 HEAP) (set_cell 8 CLOSURES ++ (set_cell 16 (n + 1) ++ set_cell 20 ARENA))
          (cell_fits 4 HEAP (omega arith) (omega arith))
          (all_fit_append (set_cell 8 CLOSURES) (set_cell 16 (n + 1) ++ set_cell 20 ARENA)
          (cell_fits 8 CLOSURES (omega arith) (omega arith))
          (all_fit_append (set_cell 16 (n + 1)) (set_cell 20 ARENA)
          (cell_fits 16 (n + 1) (omega arith) (omega (arith, few)))
          (cell_fits 20 ARENA (omega arith) (omega arith)))),
    ),
  ),
)

call_fits : (main : ℕ) → main < SEGMENT_BYTES → AllFit (jal main ∷ nop ∷ exit_with_answer)
call_fits main low = (
  omega (arith, low),
  (
    (omega arith, omega arith, omega arith),
    ((omega arith, omega arith, omega arith), ((omega arith, omega arith, omega arith), (tt, tt))),
  ),
)

pub start_fits : (main functions : ℕ) → main < SEGMENT_BYTES → functions ≤ MOST_FUNCTIONS →
    AllFit (start_code main functions)
start_fits main n low few =
    all_fit_append (set_up n) (jal main ∷ nop ∷ exit_with_answer) (set_up_fits n few) (call_fits main low)

-- the data behind straight code that runs through
abbrev pub data_of : Option (ℕ × Data) → Data → Data
data_of None d = d
data_of (Some r) d = r.1

-- the objects begin with words that bytes make
word_small : (bytes : List ℕ) → ((k : ℕ) → slice_index bytes k < 256) → (at : ℕ) → word_in bytes at < 4294967296
word_small bytes small at = omega (arith, small at, small (at + 1), small (at + 2), small (at + 3))

bytes_small : (bytes : List ℕ) → ((k : ℕ) → slice_index bytes k < 256) → (n : ℕ) →
    bytes_from (OBJECTS / 4) bytes n < 4294967296
bytes_small bytes small n = by (nat_lt n (OBJECTS / 4))
  where
    by : (b : Bool) → (if b then 0 else word_in bytes (4 * (n - OBJECTS / 4))) < 4294967296
    by true = omega arith
    by false = word_small bytes small (4 * (n - OBJECTS / 4))

-- where main is called, and where the start waits with its exit
abbrev pub call_at : ℕ
call_at = past TEXT (set_up 1)

abbrev pub exit_at : ℕ
exit_at = call_at + 8

-- main stands in the first 256 megabytes, there are so many functions, each of which has a row, and the objects begin
-- with these bytes
module _ (main functions : ℕ) (even : main % 4 ≡ 0) (low : main < SEGMENT_BYTES) (bytes : List ℕ)
    (rows : List FunctionEntry) (c : Code) (input : Input) (row : List Choice)
    (h : HasAt c TEXT (start_code main functions)) where
  abbrev pub first : Data
  first = machine.first_data bytes rows input row

  abbrev pub set : Data
  set = data_of (through (set_up functions) 0 first) first

  sets_up : Reaches (length (set_up functions)) (at c TEXT 0 first) (at c call_at 0 set)
  sets_up = through_runs (set_up functions) c 0 TEXT first (0, set) refl
      (front c TEXT (set_up functions) (jal main ∷ nop ∷ exit_with_answer) h)

  rest : HasAt c call_at (jal main ∷ nop ∷ exit_with_answer)
  rest = back c TEXT (set_up functions) (jal main ∷ nop ∷ exit_with_answer) h

  -- main is called
  abbrev pub called : Data
  called = set_register 31 exit_at set

  target : (call_at + 4) / SEGMENT_BYTES * SEGMENT_BYTES + 4 * (main / 4) ≡ main
  target = omega (arith, even, low)

  calls : Reaches 2 (at c call_at 0 set) (at c main 0 called)
  calls =
      slot_runs c call_at 0 main set called
      (step_acts (jal main) (at c call_at 0 set) rest.0 refl ∙ ap (λ t. going (in_slot c call_at t called)) target)
      rest.1.0

  pub reaches : Reaches 17 (at c TEXT 0 first) (at c main 0 called)
  reaches = reaches_on sets_up calls

  pub comes : iterate step 17 (going (at c TEXT 0 first)) ≡ going (at c main 0 called)
  comes = reaches.by

  -- no closure stands in memory yet
  pub no_closures : HasClosures [] called
  no_closures = record {
    global = refl;
    count = refl;
    next = refl;
    within = omega arith;
    stand = λ n k e. absurd cc;
    words = λ n. omega arith;
  }

  pub waits : HasAt c exit_at exit_code
  waits = rest.1.1

  -- the rows and the bytes are the image's, and nothing was read or put out
  pub agrees : (s : Setting) (program : meaning.Program) → program.image ≡ bytes
      → ((k : ℕ) → slice_index bytes k < 256) → Published s.program (numbered (map row_of rows))
      → s.making ≡ machine.first_making row → s.flushes ≡ 0 → s.history ≡ [] → SameWritten s.written called
      → SameMade s.made (at_start program input) → MemoryAgrees s (at_start program input) 0 called
  agrees s program same small published unmade unflushed none written made = record {
    history = record { since = []; passes = tt; history_is = rw none refl; outside_is = rw none refl };
    input = refl;
    at_end = λ e. absurd cc;
    objects = ap (λ (bs : List ℕ). bytes_from (OBJECTS / 4) bs) (sym same);
    object_words = λ n. rw same (bytes_small bytes small n);
    heap = refl;
    heap_place = (omega arith, refl);
    active_calls = refl;
    active_word = omega arith;
    table = published;
    making = record { making = sym unmade; flushes = sym unflushed };
    written = written;
    made = made;
  }

  pub extents : (program : meaning.Program) → ExtentsAgree (at_start program input) called
  extents program = record { used = refl; frames = refl }
