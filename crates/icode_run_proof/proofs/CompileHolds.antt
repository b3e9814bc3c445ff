-- The calls hold on behind a compile, in the setting that has the new function, whatever legal places the choice gave.
use Rattle.std.proofs.Common.{◌≡◌, ℕ, suc, ◌+◌, ◌/◌, ◌<◌, true, List, [], ◌∷◌, ◌++◌, length}
use Rattle.std.proofs.Common.{Option, Some, None, refl, sym, ap, ◌∙◌, subst, arith, slice_get, append-nil}
use Rattle.word32.specs.declared.map.TheConstants.{NEXT_HEAP_CELL, ACTIVE_CALLS_CELL}
use Rattle.history.specs.Events.{Input, Item}
use Rattle.history.specs.Events as item
use Rattle.history.specs.Syntax.{Syntax}
use Rattle.code_arena.specs.Rows.{published}
use Rattle.mips_model.specs.State.{Built, Code, Data, Making, Outside}
use Rattle.meaning_state.specs.Bodies.{Body, new_body}
use Rattle.meaning_state.specs.Shared.{Shared}
use Rattle.meaning_state.specs.Rows.{parameters_of, arena_words, next_function, next_place, made, placed}
use Rattle.staged_meaning.specs.Program.{syntax_size}
use Rattle.icode_ops.specs.declared.op.Op.TheVariants.{Run}
use Rattle.icode_ops.specs.declared.kind.RunKind.TheVariants as run
use Rattle.icode_meaning.specs.State.{Function, Frame, Log, nothing}
use Rattle.icode_meaning.specs.Steps.{paid, set, sharing}
use Rattle.icode_templates_proof.specs.Spots.{frame_word, PutsTo}
use Rattle.icode_expand_proof.specs.Frames.{CallersWait, unwound}
use Rattle.icode_expand_proof.specs.Relation.{MemoryAgrees, Holds}
use Rattle.icode_expand_proof.specs.Settings.{Setting, places_of, Standing, Published}
use Rattle.icode_expand_proof.specs.Standing.{layout_of}
use Rattle.icode_expand_proof.proofs.Frames.{suits_known, ready_alike, stacked_alike, unwound_alike}
use Rattle.icode_expand_proof.proofs.Growing.{ready_grown, stacked_grown}
use Rattle.icode_expand_proof.proofs.Paying.{none_passed}
use Rattle.icode_expand_proof.proofs.Writes.{holds_set}
use Rattle.compile_routine.specs.Made.{making_with}
use Rattle.compile_routine.specs.Ops.{OpMakes}
use Rattle.compile_routine.specs.Places.{place_address}
use Rattle.compile_routine.proofs.Ops.{saved_kept}
use Rattle.icode_run_proof.specs.Relation.{Base, text_of, functions_of, Stood}
use Rattle.icode_run_proof.proofs.Behind.{IsNew, s', changed, standing', published'}
use Rattle.icode_run_proof.proofs.Between.{between, between_alike, between_put}
use Rattle.icode_run_proof.proofs.Entering.{passing_more}
use Rattle.icode_run_proof.proofs.Steps.{all_stay}

module _ (b : Base) (c : Code) (s : Setting) (stood : Stood b c s) (w : Frame) (arguments : ℕ → Option ℕ)
    (answer : Option ℕ) (waiting : List Frame) (log : Log) (d : Data) (h : Holds s w arguments answer waiting log d)
    (to from : ℕ) (i : slice_get w.function.ops w.index ≡ Some (Run run.Compile to from)) (syntax : Syntax) (place : ℕ)
    (place_is : next_place (arena_words (syntax_size b.program.source syntax)) log.shared ≡ Some place) (built : Built)
    (places words : List ℕ) (cost a behind : ℕ)
    (m : OpMakes (text_of b) (functions_of b) syntax built words log.shared place
    ((layout_of w.function (places_of s w.function)).spot to) cost c a behind d) where
  abbrev pub size : ℕ
  size = syntax_size b.program.source syntax

  abbrev pub x : Body
  x = new_body syntax place (arena_words size)

  abbrev pub shared' : Shared
  shared' = made (next_function (functions_of b) log.shared) syntax size log.shared

  pub bodies_is : shared'.bodies ≡ s.made.bodies ++ x ∷ []
  bodies_is =
      ap (λ (o : Option ℕ). placed o syntax (arena_words size) log.shared.bodies) place_is
      ∙ ap (λ (l : List Body). l ++ x ∷ []) h.memory.made.bodies

  -- the new function's number is that of the row behind the last
  pub number_is : next_function (functions_of b) log.shared ≡ suc (functions_of b + length s.made.bodies)
  number_is = ap (λ (l : List Body). suc (functions_of b + length l)) h.memory.made.bodies

  module _ (new : IsNew b c s x places words) where
    abbrev pub after : Setting
    after = s' b c s stood x places words built m.after shared' bodies_is new

    abbrev f : Function
    f = w.function

    standing : Standing after
    standing = standing' b c s stood x places words built m.after shared' bodies_is new

    same_places : places_of after f ≡ places_of s f
    same_places = (changed b c s stood x places words built m.after shared' bodies_is new).places f.address f refl
        h.known

    abbrev mid : Data
    mid = between d m.after

    memory : MemoryAgrees after shared' log.active mid
    memory = record {
      history = record {
        since = [];
        passes = tt;
        history_is = sym (append-nil shared'.history);
        outside_is = ap (λ (o : Outside). o.history) m.passed
            ∙ passing_more s (item.Made (next_function (functions_of b) log.shared) syntax) refl log.shared.history
            d.outside.history h.memory.history;
      };
      input = ap (λ (o : Outside). o.input) m.passed ∙ h.memory.input;
      at_end = λ e. h.memory.at_end (sym (ap (λ (o : Outside). o.at_end) m.passed) ∙ e);
      objects = m.objects ∙ h.memory.objects;
      object_words = h.memory.object_words;
      heap = m.cells (NEXT_HEAP_CELL / 4) (omega arith) (omega arith) ∙ h.memory.heap;
      heap_place = h.memory.heap_place;
      active_calls = m.cells (ACTIVE_CALLS_CELL / 4) (omega arith) (omega arith) ∙ h.memory.active_calls;
      active_word = h.memory.active_word;
      table = subst (Published after.program)
          (sym (m.table ∙ ap (λ n. published n (place_address place) (parameters_of syntax) d.table) number_is))
          (published' b c s stood x places words built m.after shared' bodies_is new d.table h.memory.table);
      making = record {
        making = ap (λ (o : Outside). o.making) m.passed
            ∙ ap (λ (k : Making). making_with (place_address place) built (length words) k) h.memory.making.making;
        flushes = ap (λ (o : Outside). o.flushes) m.passed ∙ ap (λ n. n + 1) h.memory.making.flushes;
      };
      written = record { closures = refl; spec_rows = refl; emit_stack = refl; cells = λ n p q. refl };
      made = record { specifications = refl; closures = refl; bodies = refl };
    }

    module _ (least most : ℕ) where
      abbrev log' : Log
      log' = sharing shared' (record log { least = least; most = most })

      held : Holds after w nothing None waiting log' mid
      held =
          let al = between_alike d m.after in
          let g = changed b c s stood x places words built m.after shared' bodies_is new in
          let places' = places_of after f in
          let known = g.functions f.address f refl h.known in
          record {
            known = known;
            ready = ready_alike after w (suits_known after standing f known) al
                (ready_grown (λ a. true) s after g w d refl h.known h.ready);
            memory = memory;
            extents = record { used = h.extents.used; frames = h.extents.frames };
            passed = none_passed mid;
            answered = tt;
            waits = stacked_alike after standing waiting (frame_word d 80) (unwound_alike f places' al)
                (subst (λ (p : List ℕ). CallersWait after waiting (unwound f p d) (frame_word d 80)) (sym same_places)
                (stacked_grown (λ a. true) s after g waiting (unwound f (places_of s f) d) (frame_word d 80)
                (all_stay waiting) h.waits));
          }

      pub holds_compiled : next_function (functions_of b) log.shared < 4294967296
          → Holds after (set to (next_function (functions_of b) log.shared) w) nothing None waiting
          (paid (Run run.Compile to from) log') m.after
      holds_compiled small =
          let put = between_put ((layout_of f (places_of s f)).spot to) (next_function (functions_of b) log.shared) d
          m.after m.number (λ r k ne. m.registers r (saved_kept r k.0 k.1 k.2) ne) m.stack in
          holds_set after standing w nothing None waiting log' (Run run.Compile to from) to
          (next_function (functions_of b) log.shared) mid m.after i refl refl small held
          (subst (λ (p : List ℕ). PutsTo ((layout_of f p).spot to) (next_function (functions_of b) log.shared) mid
          m.after) (sym same_places) put)
