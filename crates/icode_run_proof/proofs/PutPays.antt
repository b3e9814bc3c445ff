-- A Put and a New, as steps that pay.
use Rattle.std.proofs.Common.{◌≡◌, ℕ, suc, ◌+◌, ◌<◌, ◌≤◌, Bool, true, false, List, [], ◌∷◌, ◌++◌}
use Rattle.std.proofs.Common.{length, Option, Some, None, refl, sym, ◌∙◌, subst, arith, slice_get, ◌&&◌}
use Rattle.std.specs.Fn.{iterate}
use Rattle.mips_model.specs.State as machine
use Rattle.mips_model.specs.State.{Data}
use Rattle.mips_model.specs.Laws.{at}
use Rattle.mips_model.specs.Steps.{step, going}
use Rattle.icode_ops.specs.declared.op.Op.{Op}
use Rattle.icode_ops.specs.declared.op.Op.TheVariants.{Put}
use Rattle.icode_templates.specs.Layout.{Spot}
use Rattle.icode_meaning.specs.State.{Function, Frame, Log, nothing}
use Rattle.icode_meaning.specs.Steps.{uses_on, paid, moved_on}
use Rattle.icode_templates_proof.specs.Spots.{value}
use Rattle.icode_templates_proof.specs.Closures.{Head}
use Rattle.icode_templates_proof.proofs.Leaves.{runs_to}
use Rattle.icode_templates_proof.proofs.Keeping.{keeps_same, value_kept}
use Rattle.icode_expand_proof.specs.Relation.{Holds}
use Rattle.icode_expand_proof.specs.Settings.{Setting, places_of, Standing}
use Rattle.icode_expand_proof.specs.Standing.{layout_of, op_stands_at, OpsStand}
use Rattle.icode_expand_proof.proofs.Codes.{one_stands, next_at}
use Rattle.icode_expand_proof.proofs.Frames.{spots}
use Rattle.icode_expand_proof.proofs.Liveness.{next_follows, live_before}
use Rattle.icode_expand_proof.proofs.Paying.{first_operand, none_passed, extents_kept}
use Rattle.icode_expand_proof.proofs.Memory.{memory_kept}
use Rattle.icode_expand_proof.proofs.Within.{holds_next, keeps_within}
use Rattle.closures_proof.specs.Ops.{with_captured}
use Rattle.closures_proof.specs.OpLaws.{PutIsDone}
use Rattle.closures_proof.specs.Relation.{Text}
use Rattle.icode_run_proof.specs.Making.{Filled}
use Rattle.icode_run_proof.proofs.Arena.{SameArena, same_cells}
use Rattle.icode_run_proof.proofs.Puts.{put_filled, place_filled}
use Rattle.icode_run_proof.proofs.Steps.{SameCalls, left_as_it_is, with_made, standing_with, written_as_it_is}
use Rattle.icode_run_proof.proofs.Steps.{holds_made}

-- the machine comes to a call's next op, where its data hold it and are so, within what was paid
pub record PaysTo (s : Setting) (w : Frame) (waiting : List Frame) (log' log : Log) (from : machine.State)
    (Also : Data → Type 0) : Type 0 where
  pub count : ℕ
  pub low : log'.least ≤ log.least + count
  pub high : log.most + count ≤ log'.most
  -- with what was written
  pub written : Data
  pub d : Data
  pub holds : Holds (with_made written log'.shared s) w nothing None waiting log' d
  pub also : Also written
  pub arena : SameArena log.shared log'.shared from.d written
  pub is : iterate step count (going from)
      ≡ going (at s.code (op_stands_at w.function (places_of s w.function) w.index) 0 d)

captured_calls : (c x : ℕ) (d : Data) → SameCalls d (with_captured c x d)
captured_calls c x d = record {
  registers = λ r k. refl;
  stack = refl;
  objects = refl;
  table = refl;
  outside = refl;
  heap = refl;
  active = refl;
}

module _ (law : PutIsDone) (s : Setting) (st : Standing s) (w : Frame) (arguments : ℕ → Option ℕ) (answer : Option ℕ)
    (waiting : List Frame) (log : Log) (d : Data) (h : Holds s w arguments answer waiting log d) where
  abbrev f : Function
  f = w.function

  abbrev places : List ℕ
  places = places_of s f

  abbrev spot : ℕ → Spot
  spot = (layout_of f places).spot

  stands : OpsStand s.code f places
  stands = (st.functions f.address f h.known).1

  pub put_pays : (text : Text) (head : Head) (captures : ℕ) (words : List ℕ) (from : ℕ)
      → slice_get f.ops w.index ≡ Some (Put (length words) from)
      → uses_on (Put (length words) from) w.on ≡ true → Filled text log.shared head captures words d
      → length words < captures
      → PaysTo s (moved_on w) waiting (paid (Put (length words) from) log) log
      (at s.code (op_stands_at f places w.index) 0 d)
      (Filled text log.shared head captures (words ++ w.values from ∷ []))
  put_pays text head captures words from i u filled l =
      let o : Op = Put (length words) from in
      let a = op_stands_at f places w.index in
      let x = first_operand s st w d o from h.known h.ready i refl (first_on (w.on from) u) in
      let done = law s.code a f.charge (length words) d (spot from) h.ready.framed
      (spots f places from stands.suits x.inside) x.word (place_filled text log.shared head captures words d filled l)
      (one_stands s.code f places stands w.index o i) in
      let mid = with_captured (length words) (value d (spot from)) d in
      let s' = with_made mid log.shared s in
      let st' = standing_with mid log.shared s st in
      let held = holds_made s st w arguments answer waiting log log d mid mid (left_as_it_is log.shared) refl
      (captured_calls (length words) (value d (spot from)) d) (written_as_it_is mid) h in
      let comes = runs_to (sym (next_at f places w.index o i)) done.runs in
      let over = comes.over in
      let under = comes.under in
      record {
        count = comes.count;
        low = omega (arith, over);
        high = omega (arith, under);
        written = mid;
        d = done.after;
        holds = holds_next s' st' w nothing nothing None waiting log (paid o log) (suc w.index) w.values w.on mid
            done.after held (keeps_within f places done.keeps)
            (λ v l live t. value_kept f.charge mid done.after (spot v) (spots f places v stands.suits l) done.keeps
            ∙ held.ready.agrees v l (live_before f.ops v w.index (suc w.index) o i
            (next_follows f.ops v w.index o i refl live) refl live) t)
            held.ready.words (memory_kept s' log.shared log.active mid done.after done.keeps.world held.memory)
            (extents_kept log.shared mid done.after done.keeps held.extents) (none_passed done.after);
        also = subst (λ n. Filled text log.shared head captures (words ++ n ∷ []) mid) x.value_is
            (put_filled text log.shared head captures words (value d (spot from)) d mid filled x.word
            (keeps_same mid));
        arena = same_cells log.shared log.shared d mid refl refl;
        is = comes.reaches.by;
      }
    where
      first_on : (b : Bool) → (b && true) ≡ true → b ≡ true
      first_on true e = refl
      first_on false e = absurd cc
