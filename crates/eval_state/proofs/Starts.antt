-- How a run begins: what the parts are then, and that the run which they stand for is the first.
use Rattle.std.proofs.Common.{◌≡◌, ℕ, suc, ◌+◌, ◌-◌, ◌*◌, ◌/◌, List, [], ◌∷◌, map, refl, ap, sym, ◌∙◌, Some, None}
use Rattle.std.proofs.Common.{if◌then◌else◌, Bool, true, false, ◌≤◌, arith}
use Rattle.std.specs.Prelude.{nat_lt, slice_get, slice_index, codes, nat_eq}
use Rattle.std.specs.Cmp.Lexicographic.{pointwise}
use Rattle.std.specs.Option.{option_map}
use Rattle.std.proofs.lemmas.Option.{slice_get-map}
use Rattle.word32.specs.Bytes.{word_in}
use Rattle.word32.specs.Space.{bytes_from, words_from}
use Rattle.word32.specs.declared.map.TheConstants.{HEAP, OBJECTS}
use Rattle.limits.specs.declared.program.TheConstants.{MOST_ARGUMENTS, SIZE_LIMIT}
use Rattle.wellformed.specs.Program.{IsWellFormed}
use Rattle.typed_tree.specs.declared.program.Function.{Function}
use Rattle.typed_tree.specs.declared.program.TypedParts.{TypedParts}
use Rattle.typed_tree.specs.View.{function_view, stmt_view}
use Rattle.staged_meaning.specs.Program.{Program}
use Rattle.staged_meaning.specs.Size.{charge_of, size_of}
use Rattle.staged_meaning.specs.Source.{main_of, program_from, program_view}
use Rattle.staged_meaning.specs.Meaning.{keys_at_entry}
use Rattle.eval_state.specs.declared.state.Body.{Body}
use Rattle.eval_state.specs.declared.state.Entry.{Entry}
use Rattle.eval_state.specs.declared.state.Parts.{Parts}
use Rattle.eval_state.specs.Begins.{first_run}
use Rattle.eval_state.specs.Kept.{body_view, compiled_view, entry_view, event_view, rows_view}
use Rattle.eval_state.specs.Run.{Run, program_of, run_of}

-- the body of main, with nothing set
abbrev pub first_body : (object : ℕ) → Body
first_body object = record {
  variables = [];
  arguments = [];
  generated = record { arguments = []; values = [] };
  object = object;
  row = 0;
}

-- the parts as a run begins
pub record AreFirst (p : Parts) : Type 0 where
  pub turns : p.turns ≡ p.units
  pub depth : p.depth ≡ p.units
  pub entries : p.entries ≡ []
  pub body : p.body ≡ first_body p.main.now.object
  pub events : p.events ≡ []
  pub objects : (i : ℕ) → slice_index p.objects.items i ≡ word_in p.typed.now.image (4 * i)
  pub heap : p.heap ≡ HEAP
  pub used : p.used ≡ charge_of (size_of (function_view p.main.now))
  pub frames : p.frames ≡ p.main.now.object
  pub rows : p.rows ≡ []
  pub closures : p.closures ≡ 0
  pub compiled : p.compiled ≡ []

-- the words of the image are its bytes
image_stands : (first : ℕ) (words bytes : List ℕ) → ((i : ℕ) → slice_index words i ≡ word_in bytes (4 * i))
    → (n : ℕ) → words_from first words n ≡ bytes_from first bytes n
image_stands first words bytes h n = ap (λ k. if nat_lt n first then 0 else k) (h (n - first))

either : (b : Bool) → ◌≡◌ {A = ℕ} (if b then 0 else 0) 0
either true = refl
either false = refl

no_keys : (key : ℕ) → keys_at_entry [] key ≡ 0
no_keys key = either (nat_lt key MOST_ARGUMENTS)

from_zero : (n : ℕ) → n ≡ 0 + n
from_zero n = omega arith

-- the first run, with these variables of generated code
abbrev first_with : (ℕ → ℕ) → Parts → Run
first_with generated p =
    let r = first_run (program_of p) (record { bytes = p.input.now; failing = false }) p.units in
    record r { state = record r.state { body = record r.state.body { generated = generated } } }

pub starts : (p : Parts) → AreFirst p
    → run_of p ≡ first_run (program_of p) (record { bytes = p.input.now; failing = false }) p.units
unfolding run_of
starts p h =
    parts_start
    ∙ ap (λ (f : ℕ → ℕ). first_with f p) (λ i key. no_keys key i)
  where
    parts_start : run_of p ≡ first_with (keys_at_entry []) p
    parts_start = λ i. record {
      program = program_of p;
      turns = suc (h.turns i);
      state = record {
        body = body_view (rows_view (h.rows i)) (h.body i);
        shared = record {
          history = map (event_view (rows_view (h.rows i))) (h.events i);
          input = record { bytes = p.input.now; failing = false };
          objects = λ n. image_stands (OBJECTS / 4) p.objects.items p.typed.now.image h.objects n i;
          heap = h.heap i;
          used = (h.used ∙ from_zero _) i;
          frames = (h.frames ∙ from_zero _) i;
          specifications = rows_view (h.rows i);
          closures = h.closures i;
          bodies = map (compiled_view (rows_view (h.rows i))) (h.compiled i);
        };
        units = p.units;
        depth = h.depth i;
        frames = map (entry_view (rows_view (h.rows i))) (h.entries i);
      };
    }

-- ---- the function main

-- it is one of the functions
pub main_is_there : (fs : List Function) (f : Function) → main_of fs ≡ Some f → (n : ℕ) × (slice_get fs n ≡ Some f)
main_is_there (g ∷ fs) f h = go (pointwise nat_eq g.name (codes "main")) refl (main_is_there fs f)
  where
    go : (b : Bool) → pointwise nat_eq g.name (codes "main") ≡ b
        → (main_of fs ≡ Some f → (n : ℕ) × (slice_get fs n ≡ Some f))
        → (n : ℕ) × (slice_get (g ∷ fs) n ≡ Some f)
    go true e rest = (0, sym (ap (λ (b : Bool). if b then Some g else main_of fs) e) ∙ h)
    go false e rest =
        let found = rest (sym (ap (λ (b : Bool). if b then Some g else main_of fs) e) ∙ h) in
        (suc found.0, found.1)
main_is_there [] f h = absurd (none_is_some h)
  where
    none_is_some : None ≡ Some f → ⊥
    none_is_some e = cc

-- and the program begins with it
pub main_of_program : (p : Parts) (program : Program) → main_of p.typed.now.functions ≡ Some p.main.now
    → program_view p.typed.now ≡ Some program → program_of p ≡ program
main_of_program p program h e = some_is (sym (ap (λ o. program_from o p.typed.now) h) ∙ e)
  where
    some_is : {a b : Program} → Some a ≡ Some b → a ≡ b
    some_is e = cc

-- its size is a count of its nodes, within the limit
pub size_of_main : (t : TypedParts) (f : Function) → IsWellFormed t → main_of t.functions ≡ Some f
    → (f.size ≡ size_of (function_view f)) × (f.size ≤ SIZE_LIMIT)
size_of_main t f h e =
    let there = main_is_there t.functions f e in
    let size = h.function_sizes there.0 f there.1 in
    let viewed = slice_get-map function_view t.functions there.0 ∙ ap (option_map function_view) there.1 in
    let small = (h.program.functions there.0 (function_view f) viewed).small in
    (size, omega (arith, size, small))

-- ---- what is read of it

pub main_body : (p : Parts) → (run_of p).program.main.body ≡ stmt_view p.main.now.body
unfolding run_of
main_body p = refl

-- nothing is pending where no frame is
pub none_pending : (p : Parts) → p.entries ≡ [] → (run_of p).state.frames ≡ []
unfolding run_of
none_pending p h = ap (map (entry_view (rows_view p.rows))) h

pub some_pending : (p : Parts) → (run_of p).state.frames ≡ [] → p.entries ≡ []
unfolding run_of
some_pending p h = go p.entries h
  where
    go : (es : List Entry) → map (entry_view (rows_view p.rows)) es ≡ [] → es ≡ []
    go [] e = refl
    go (x ∷ es) e = absurd (some_is_none e)
      where
        some_is_none : {A : Type 0} {y : A} {ys : List A} → y ∷ ys ≡ [] → ⊥
        some_is_none e = cc
