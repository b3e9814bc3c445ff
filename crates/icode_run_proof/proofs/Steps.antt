-- What calls are about isn't what specifications are about: each can be changed without the other.
use Rattle.std.proofs.Common.{◌≡◌, ℕ, ◌+◌, ◌/◌, ◌<◌, false, List, []}
use Rattle.std.proofs.Common.{Option, None, refl, sym, ap, ◌∙◌, subst}
use Rattle.history.specs.Events.{Input}
use Rattle.word32.specs.declared.map.TheConstants.{FRAMES, NEXT_HEAP_CELL, ACTIVE_CALLS_CELL}
use Rattle.mips_model.specs.State.{Data, Outside}
use Rattle.meaning_state.specs.Shared.{Shared}
use Rattle.icode_meaning.specs.State.{Frame, Log, nothing}
use Rattle.icode_templates_proof.specs.Spots.{pointer, frame_word}
use Rattle.icode_expand_proof.specs.Frames.{Alike, CallersWait, unwound, IsCalleeSaved}
use Rattle.icode_expand_proof.specs.Relation.{MemoryAgrees, Holds, IsHeapPlace}
use Rattle.icode_expand_proof.specs.Settings.{Setting, places_of, Standing, Published}
use Rattle.icode_expand_proof.proofs.Frames.{suits_known, ready_alike, stacked_alike, unwound_alike, pointer_alike}
use Rattle.icode_expand_proof.proofs.Frames.{held_30}
use Rattle.icode_expand_proof.proofs.Paying.{none_passed}
use Rattle.icode_expand_proof.specs.Relation.{SameWritten}
use Rattle.icode_expand_proof.specs.Settings.{Changed, AllStay}
use Rattle.icode_expand_proof.proofs.Growing.{ready_grown, stacked_grown}
use Rattle.icode_expand_proof.proofs.Memory.{made_as_it_is}
use Rattle.std.proofs.Common.{true, ◌∷◌}
use Rattle.history.specs.Events.{Item}
use Rattle.icode_expand_proof.specs.Relation.{HistoryAgrees}

-- callee-saved registers, stack, objects, table, outside, and the cells of the heap and of the active calls are the
-- same
pub record SameCalls (d after : Data) : Type 0 where
  pub registers : (r : ℕ) → IsCalleeSaved r → after.registers r ≡ d.registers r
  pub stack : after.stack ≡ d.stack
  pub objects : after.objects ≡ d.objects
  pub table : after.table ≡ d.table
  pub outside : after.outside ≡ d.outside
  pub heap : after.cells (NEXT_HEAP_CELL / 4) ≡ d.cells (NEXT_HEAP_CELL / 4)
  pub active : after.cells (ACTIVE_CALLS_CELL / 4) ≡ d.cells (ACTIVE_CALLS_CELL / 4)

-- and of what outlives calls all but specifications and what was compiled
pub record SameLeft (shared shared' : Shared) : Type 0 where
  pub history : shared'.history ≡ shared.history
  pub input : shared'.input ≡ shared.input
  pub objects : shared'.objects ≡ shared.objects
  pub heap : shared'.heap ≡ shared.heap
  pub used : shared'.used ≡ shared.used
  pub frames : shared'.frames ≡ shared.frames

pub left_as_it_is : (shared : Shared) → SameLeft shared shared
left_as_it_is shared = record {
  history = refl;
  input = refl;
  objects = refl;
  heap = refl;
  used = refl;
  frames = refl;
}

calls_alike : {d after : Data} → SameCalls d after → Alike d after
calls_alike q = record {
  registers = q.registers;
  stack = λ n le. ap (λ (f : ℕ → ℕ). f n) q.stack;
}

-- the setting behind data and rows that were made
abbrev pub with_made : Data → Shared → Setting → Setting
with_made d shared s = record s { written = d; made = shared }

pub standing_with : (d : Data) (shared : Shared) (s : Setting) → Standing s → Standing (with_made d shared s)
standing_with d shared s st =
    record { functions = st.functions; fronts = st.fronts; routines = st.routines; exits = st.exits }

pub written_as_it_is : (d : Data) → SameWritten d d
written_as_it_is d = record { closures = refl; spec_rows = refl; emit_stack = refl; cells = λ n h k. refl }

pub history_with : (s : Setting) {d : Data} {shared : Shared} {h o : List Item}
    → HistoryAgrees (with_made d shared s) h o → HistoryAgrees s h o
history_with s a = record {
  since = a.since;
  passes = a.passes;
  history_is = a.history_is;
  outside_is = a.outside_is;
}

pub same_setting : (d : Data) (shared : Shared) (s : Setting) → Changed (λ a. true) s (with_made d shared s)
same_setting d shared s = record { functions = λ a f t e. e; places = λ a f t e. refl; exit = refl }

pub all_stay : (ws : List Frame) → AllStay (λ a. true) ws
all_stay [] = tt
all_stay (w ∷ ws) = (refl, all_stay ws)

memory_made : (s : Setting) (shared shared' : Shared) (active : ℕ) (d e after : Data) → SameLeft shared shared'
    → SameCalls d after → SameWritten e after → MemoryAgrees s shared active d
    → MemoryAgrees (with_made e shared' s) shared' active after
memory_made s shared shared' active d e after l q same h = record {
  history = record {
    since = h.history.since;
    passes = h.history.passes;
    history_is = l.history ∙ h.history.history_is;
    outside_is = ap (λ (o : Outside). o.history) q.outside ∙ h.history.outside_is;
  };
  input = ap (λ (o : Outside). o.input) q.outside ∙ h.input ∙ sym l.input;
  at_end =
      λ t. subst (λ (i : Input). (i.bytes ≡ []) × (i.failing ≡ false)) (sym l.input)
      (h.at_end (sym (ap (λ (o : Outside). o.at_end) q.outside) ∙ t));
  objects = q.objects ∙ h.objects ∙ sym l.objects;
  object_words = subst (λ (m : ℕ → ℕ). (k : ℕ) → m k < 4294967296) (sym l.objects) h.object_words;
  heap = q.heap ∙ h.heap ∙ sym l.heap;
  heap_place = subst IsHeapPlace (sym l.heap) h.heap_place;
  active_calls = q.active ∙ h.active_calls;
  active_word = h.active_word;
  table = subst (Published s.program) (sym q.table) h.table;
  making = record {
    making = ap (λ (o : Outside). o.making) q.outside ∙ h.making.making;
    flushes = ap (λ (o : Outside). o.flushes) q.outside ∙ h.making.flushes;
  };
  written = same;
  made = made_as_it_is shared';
}

-- So the calls hold on, with what the next op finds, in the setting with what was made: `e` has what was written.
pub holds_made : (s : Setting) → Standing s → (w : Frame) (arguments : ℕ → Option ℕ) (answer : Option ℕ)
    (waiting : List Frame) (log log' : Log) (d e after : Data) → SameLeft log.shared log'.shared
    → log'.active ≡ log.active → SameCalls d after → SameWritten e after
    → Holds s w arguments answer waiting log d
    → Holds (with_made e log'.shared s) w nothing None waiting log' after
holds_made s st w arguments answer waiting log log' d e after l same q written h =
    let f = w.function in
    let s' = with_made e log'.shared s in
    let g = same_setting e log'.shared s in
    let al = calls_alike q in
    let sp : pointer after ≡ pointer d = pointer_alike al in
    let fp : after.registers 30 ≡ d.registers 30 = q.registers 30 held_30 in
    let back : frame_word after 80 ≡ frame_word d 80 =
    ap (λ (g : ℕ → ℕ). g ((pointer after + 80) / 4)) q.stack ∙ ap (λ n. d.stack ((n + 80) / 4)) sp in
    record {
      known = h.known;
      ready = ready_grown (λ a. true) s s' g w after refl h.known
          (ready_alike s w (suits_known s st f h.known) al h.ready);
      memory = subst (λ n. MemoryAgrees s' log'.shared n after) (sym same)
          (memory_made s log.shared log'.shared log.active d e after l q written h.memory);
      extents = record {
        used = ap (λ n. n + log'.shared.used) sp ∙ ap (λ n. pointer d + n) l.used ∙ h.extents.used;
        frames = fp ∙ h.extents.frames ∙ sym (ap (λ n. FRAMES + n) l.frames);
      };
      passed = none_passed after;
      answered = tt;
      waits = stacked_grown (λ a. true) s s' g waiting (unwound f (places_of s f) after) (frame_word after 80)
          (all_stay waiting)
          (subst (CallersWait s waiting (unwound f (places_of s f) after)) (sym back)
          (stacked_alike s st waiting (frame_word d 80) (unwound_alike f (places_of s f) al) h.waits));
    }
