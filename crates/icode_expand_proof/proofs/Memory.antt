-- The memory that outlives calls agrees on, where it is as it was but for the count of active calls.
use Rattle.std.proofs.Common.{◌≡◌, ◌≢◌, ℕ, ◌+◌, ◌/◌, ◌<◌, Bool, true, false, List, [], ◌∷◌, ◌++◌, refl, sym, ap, ◌∙◌}
use Rattle.std.proofs.Common.{subst, arith, append_assoc}
use Rattle.word32.specs.Words.{wrap}
use Rattle.word32.specs.declared.map.TheConstants.{NEXT_HEAP_CELL, ACTIVE_CALLS_CELL}
use Rattle.history.specs.Events.{Input, Item, Out, In, Made, Entered, outs}
use Rattle.mips_model.specs.State.{Data, Outside}
use Rattle.meaning_state.specs.Shared.{Shared}
use Rattle.icode_meaning.specs.Steps.{counted}
use Rattle.icode_templates_proof.specs.Spots.{SameWorld}
use Rattle.icode_templates_proof.proofs.Memory.{update_same, update_other}
use Rattle.icode_expand_proof.specs.Settings.{Setting, Published}
use Rattle.icode_expand_proof.specs.Frames.{Counted, counted_cells}
use Rattle.icode_expand_proof.specs.Relation.{MemoryAgrees, IsHeapPlace, passing, AllPass, HistoryAgrees, HasLeft}
use Rattle.icode_expand_proof.specs.Relation.{SameWritten, SameMade}

count_is : (counts : Bool) (by : ℕ) (cells : ℕ → ℕ)
    → counted_cells counts by cells (ACTIVE_CALLS_CELL / 4) ≡ counted counts by (cells (ACTIVE_CALLS_CELL / 4))
count_is false by cells = refl
count_is true by cells = update_same (ACTIVE_CALLS_CELL / 4) (wrap (cells (ACTIVE_CALLS_CELL / 4) + by)) cells

heap_stays : (counts : Bool) (by : ℕ) (cells : ℕ → ℕ)
    → counted_cells counts by cells (NEXT_HEAP_CELL / 4) ≡ cells (NEXT_HEAP_CELL / 4)
heap_stays false by cells = refl
heap_stays true by cells =
    update_other (ACTIVE_CALLS_CELL / 4) (wrap (cells (ACTIVE_CALLS_CELL / 4) + by)) cells (NEXT_HEAP_CELL / 4)
    (omega arith)

counted_word : (counts : Bool) (by x : ℕ) → x < 4294967296 → counted counts by x < 4294967296
counted_word false by x l = l
counted_word true by x l = omega arith

pub nothing_counted : {d after : Data} → SameWorld d after → Counted false 0 d after
nothing_counted w = record {
  objects = w.objects;
  closures = w.closures;
  spec_rows = w.spec_rows;
  emit_stack = w.emit_stack;
  table = w.table;
  outside = w.outside;
  cells = w.cells;
}

-- ---- histories

passes_on : (xs ys : List Item) → AllPass xs → AllPass ys → AllPass (xs ++ ys)
passes_on [] ys e1 e2 = e2
passes_on (Out b ∷ xs) ys e1 e2 = passes_on xs ys e1 e2
passes_on (In w ∷ xs) ys e1 e2 = passes_on xs ys e1 e2
passes_on (Made f syntax ∷ xs) ys e1 e2 = absurd e1
passes_on (Entered f ∷ xs) ys e1 e2 = absurd e1

pub outs_pass : (bytes : List ℕ) → AllPass (outs bytes)
outs_pass [] = tt
outs_pass (b ∷ bytes) = outs_pass bytes

pub history_as : (s : Setting) {h h' o o' : List Item} → h ≡ h' → o ≡ o' → HistoryAgrees s h o → HistoryAgrees s h' o'
history_as s e1 e2 a = record {
  since = a.since;
  passes = a.passes;
  history_is = sym e1 ∙ a.history_is;
  outside_is = sym e2 ∙ a.outside_is;
}

-- the same passed on both sides
pub history_more : (s : Setting) (items : List Item) {h o : List Item} → AllPass items → HistoryAgrees s h o
    → HistoryAgrees s (h ++ items) (o ++ items)
history_more s items e a = record {
  since = a.since ++ items;
  passes = passes_on a.since items a.passes e;
  history_is = ap (λ (l : List Item). l ++ items) a.history_is ∙ append_assoc s.history a.since items;
  outside_is = ap (λ (l : List Item). l ++ items) a.outside_is ∙ append_assoc (passing s.history) a.since items;
}

pub left_as : (s : Setting) {o o' : Outside} → o ≡ o' → HasLeft s o → HasLeft s o'
left_as s e h = subst (HasLeft s) e h

pub left_out : (s : Setting) (o' o : Outside) → o'.making ≡ o.making → o'.flushes ≡ o.flushes → HasLeft s o
    → HasLeft s o'
left_out s o' o e1 e2 h = record { making = e1 ∙ h.making; flushes = e2 ∙ h.flushes }

-- ---- what the making of specifications and functions alone writes

pub then_written : {d e f : Data} → SameWritten d e → SameWritten e f → SameWritten d f
then_written a b = record {
  closures = b.closures ∙ a.closures;
  spec_rows = b.spec_rows ∙ a.spec_rows;
  emit_stack = b.emit_stack ∙ a.emit_stack;
  cells = λ n h k. b.cells n h k ∙ a.cells n h k;
}

-- what has the same of these
pub written_as : {e d after : Data} → after.closures ≡ d.closures → after.spec_rows ≡ d.spec_rows
    → after.emit_stack ≡ d.emit_stack → after.cells ≡ d.cells → SameWritten e d → SameWritten e after
written_as e1 e2 e3 e4 w = record {
  closures = e1 ∙ w.closures;
  spec_rows = e2 ∙ w.spec_rows;
  emit_stack = e3 ∙ w.emit_stack;
  cells = λ n h k. ap (λ (c : ℕ → ℕ). c n) e4 ∙ w.cells n h k;
}

pub then_made : {x y z : Shared} → SameMade x y → SameMade y z → SameMade x z
then_made a b = record {
  specifications = b.specifications ∙ a.specifications;
  closures = b.closures ∙ a.closures;
  bodies = b.bodies ∙ a.bodies;
}

pub same_made : (x y : Shared) → y.specifications ≡ x.specifications → y.closures ≡ x.closures
    → y.bodies ≡ x.bodies → SameMade x y
same_made x y e1 e2 e3 = record { specifications = e1; closures = e2; bodies = e3 }

pub made_as_it_is : (shared : Shared) → SameMade shared shared
made_as_it_is shared = record { specifications = refl; closures = refl; bodies = refl }

counted_other : (counts : Bool) (by : ℕ) (cells : ℕ → ℕ) (n : ℕ) → n ≢ ACTIVE_CALLS_CELL / 4
    → counted_cells counts by cells n ≡ cells n
counted_other false by cells n k = refl
counted_other true by cells n k =
    update_other (ACTIVE_CALLS_CELL / 4) (wrap (cells (ACTIVE_CALLS_CELL / 4) + by)) cells n k

counted_written : (counts : Bool) (by : ℕ) (d after : Data) → Counted counts by d after → SameWritten d after
counted_written counts by d after n = record {
  closures = n.closures;
  spec_rows = n.spec_rows;
  emit_stack = n.emit_stack;
  cells = λ k h a. ap (λ (c : ℕ → ℕ). c k) n.cells ∙ counted_other counts by d.cells k a;
}

-- the extents of stack and frame objects may have changed on the staged machine's side
pub memory_counted : (s : Setting) (shared shared' : Shared) (active : ℕ) (counts : Bool) (by : ℕ)
    (d after : Data)
    → shared'.history ≡ shared.history → shared'.input ≡ shared.input → shared'.objects ≡ shared.objects
    → shared'.heap ≡ shared.heap → SameMade shared shared' → Counted counts by d after → MemoryAgrees s shared active d
    → MemoryAgrees s shared' (counted counts by active) after
memory_counted s shared shared' active counts by d after eh ei eo ep made n h = record {
  history = history_as s (sym eh) (sym (ap (λ (o : Outside). o.history) n.outside)) h.history;
  input = ap (λ (o : Outside). o.input) n.outside ∙ h.input ∙ sym ei;
  at_end =
      λ e. subst (λ (i : Input). (i.bytes ≡ []) × (i.failing ≡ false)) (sym ei)
      (h.at_end (sym (ap (λ (o : Outside). o.at_end) n.outside) ∙ e));
  objects = n.objects ∙ h.objects ∙ sym eo;
  object_words = subst (λ (m : ℕ → ℕ). (k : ℕ) → m k < 4294967296) (sym eo) h.object_words;
  heap = ap (λ (c : ℕ → ℕ). c (NEXT_HEAP_CELL / 4)) n.cells ∙ heap_stays counts by d.cells ∙ h.heap ∙ sym ep;
  heap_place = subst IsHeapPlace (sym ep) h.heap_place;
  active_calls =
      ap (λ (c : ℕ → ℕ). c (ACTIVE_CALLS_CELL / 4)) n.cells ∙ count_is counts by d.cells
      ∙ ap (λ x. counted counts by x) h.active_calls;
  active_word = counted_word counts by active h.active_word;
  table = subst (Published s.program) (sym n.table) h.table;
  making = left_as s (sym n.outside) h.making;
  written = then_written h.written (counted_written counts by d after n);
  made = then_made h.made made;
}

pub memory_kept : (s : Setting) (shared : Shared) (active : ℕ) (d after : Data) → SameWorld d after
    → MemoryAgrees s shared active d → MemoryAgrees s shared active after
memory_kept s shared active d after w h =
    memory_counted s shared shared active false 0 d after refl refl refl refl (made_as_it_is shared) (nothing_counted w)
    h
