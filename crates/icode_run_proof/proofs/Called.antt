-- An op that calls a routine and puts its answer to a register, as a step that pays; and a specification that is begun.
use Rattle.std.proofs.Common.{◌≡◌, ℕ, ◌+◌, ◌/◌, ◌<◌, ◌≤◌, true, List, ◌++◌}
use Rattle.std.proofs.Common.{Option, Some, None, refl, sym, ◌∙◌, subst, arith, slice_get}
use Rattle.std.proofs.lemmas.Bool.{and_parts}
use Rattle.word32.specs.declared.map.TheConstants.{NEXT_HEAP_CELL, ACTIVE_CALLS_CELL, SIZE_CELL, PARAMETERS_CELL}
use Rattle.word32.specs.declared.map.TheConstants.{SEGMENT_BYTES}
use Rattle.mips_encoder.specs.Addresses.{past}
use Rattle.mips_model.specs.State.{Data}
use Rattle.mips_model.specs.Laws.{at, HasAt}
use Rattle.mips_model.proofs.Reach.{past_append}
use Rattle.meaning_state.specs.Shared.{Shared}
use Rattle.icode_ops.specs.Kinds.{run_number}
use Rattle.icode_ops.specs.Flow.{defined, falls}
use Rattle.icode_ops.specs.declared.op.Op.{Op}
use Rattle.icode_ops.specs.declared.op.Op.TheVariants.{Run}
use Rattle.icode_ops.specs.declared.kind.RunKind.{RunKind}
use Rattle.icode_ops.specs.declared.kind.RunKind.TheVariants as run
use Rattle.icode_templates.specs.Layout.{Spot}
use Rattle.icode_templates.specs.Templates.{in_code, out_code, routine_code, routine_address}
use Rattle.icode_meaning.specs.State.{Function, Frame, Log, nothing}
use Rattle.icode_meaning.specs.Steps.{uses_on, paid, set}
use Rattle.icode_meaning.specs.Costs.{least_of, most_of}
use Rattle.icode_templates_proof.specs.Spots.{value, Usable}
use Rattle.icode_templates_proof.specs.Moves.{Writes}
use Rattle.icode_templates_proof.specs.MallocLaws.{linked, return_address}
use Rattle.icode_templates_proof.specs.Closures.{with_so_far, with_word}
use Rattle.icode_templates_proof.specs.Routines.{begin_code}
use Rattle.icode_templates_proof.specs.RoutineLaws.{BeginIsCalled}
use Rattle.icode_templates_proof.proofs.Leaves.{runs_to}
use Rattle.icode_templates_proof.proofs.Memory.{update_same, update_other}
use Rattle.icode_expand_proof.specs.Relation.{Holds}
use Rattle.icode_expand_proof.specs.Settings.{Setting, places_of, Standing}
use Rattle.icode_expand_proof.specs.Standing.{layout_of, op_stands_at, OpsStand}
use Rattle.icode_expand_proof.proofs.Addresses.{past_rises}
use Rattle.icode_expand_proof.proofs.Codes.{op_code, one_stands, next_at, code_low}
use Rattle.icode_expand_proof.proofs.Frames.{spots}
use Rattle.icode_expand_proof.proofs.Paying.{Operand, first_operand}
use Rattle.icode_expand_proof.proofs.Writes.{defined_inside, holds_set}
use Rattle.closures_proof.specs.Relation.{Text, HasSpecifications}
use Rattle.closures_proof.specs.Laws.{SpecificationsStayWithSums}
use Rattle.icode_run_proof.specs.Making.{Summing, DraftAgrees, SameRows}
use Rattle.icode_run_proof.proofs.Filling.{same_rows, specifications_same}
use Rattle.icode_run_proof.proofs.Steps.{SameCalls, SameLeft, left_as_it_is, with_made, standing_with, written_as_it_is}
use Rattle.icode_run_proof.proofs.Steps.{holds_made}
use Rattle.icode_run_proof.proofs.PutPays.{PaysTo}
use Rattle.icode_run_proof.proofs.Arena.{SameArena, sums_arena}

-- ---- what a call of a routine leaves

-- the address to return to keeps closures, rows and cells
pub linked_rows : (to : ℕ) (d : Data) → SameRows d (linked to d)
linked_rows to d = same_rows (update_other 31 to d.registers 28 (omega arith)) refl refl refl

-- sizes and parameters are in no call's cells
pub sums_calls : (size parameters to : ℕ) (d : Data) → SameCalls d (with_so_far size parameters (linked to d))
sums_calls size parameters to d =
    let c = with_word SIZE_CELL size d.cells in
    record {
      registers = λ r k. update_other 31 to d.registers r k.1;
      stack = refl;
      objects = refl;
      table = refl;
      outside = refl;
      heap = update_other (PARAMETERS_CELL / 4) parameters c (NEXT_HEAP_CELL / 4) (omega arith)
          ∙ update_other (SIZE_CELL / 4) size d.cells (NEXT_HEAP_CELL / 4) (omega arith);
      active = update_other (PARAMETERS_CELL / 4) parameters c (ACTIVE_CALLS_CELL / 4) (omega arith)
          ∙ update_other (SIZE_CELL / 4) size d.cells (ACTIVE_CALLS_CELL / 4) (omega arith);
    }

-- what was added up so far is in its cells
pub sums_agree : SpecificationsStayWithSums → (text : Text) (size parameters to : ℕ)
    → (shared : Shared) (d : Data) → HasSpecifications text shared d
    → DraftAgrees text (Summing size parameters) shared (with_so_far size parameters (linked to d))
sums_agree stay text size parameters to shared d has =
    let c = with_word SIZE_CELL size d.cells in (
      stay text shared size parameters (linked to d) (specifications_same text shared d (linked to d)
          (linked_rows to d) has),
      update_other (PARAMETERS_CELL / 4) parameters c (SIZE_CELL / 4) (omega arith)
          ∙ update_same (SIZE_CELL / 4) size d.cells,
      update_same (PARAMETERS_CELL / 4) parameters c,
    )

-- ---- steps

module _ (s : Setting) (st : Standing s) (w : Frame) (arguments : ℕ → Option ℕ) (answer : Option ℕ)
    (waiting : List Frame) (log : Log) (d : Data) (h : Holds s w arguments answer waiting log d) where
  abbrev f : Function
  f = w.function

  abbrev places : List ℕ
  places = places_of s f

  abbrev a : ℕ
  a = op_stands_at f places w.index

  abbrev spot : ℕ → Spot
  spot = (layout_of f places).spot

  pub op_stands : OpsStand s.code f places
  op_stands = (st.functions f.address f h.known).1

  -- the call of a routine is in the segment of code
  pub run_low : (kind : RunKind) (to from : ℕ) → slice_get f.ops w.index ≡ Some (Run kind to from)
      → past a (in_code (spot from)) + 12 < SEGMENT_BYTES
  run_low kind to from i =
      let o : Op = Run kind to from in
      let code = in_code (spot from) in
      let rest = routine_code (run_number kind) ++ out_code (spot to) in
      let low = code_low s.code f places op_stands w.index o i in
      let e : past a (op_code f places o) ≡ past (past a code + 4 + 4 + 4 + 4) (out_code (spot to)) =
      past_append a code rest in
      let rises = past_rises (past a code + 4 + 4 + 4 + 4) (out_code (spot to)) in
      omega (arith, low, e, rises)

  pub operand_of : (kind : RunKind) (to from : ℕ) → slice_get f.ops w.index ≡ Some (Run kind to from)
      → uses_on (Run kind to from) w.on ≡ true → Operand s w d from
  operand_of kind to from i u =
      first_operand s st w d (Run kind to from) from h.known h.ready i refl (and_parts (w.on from) true u).0

  pub usable_operand : (v : ℕ) → Operand s w d v → Usable f.charge (spot v)
  usable_operand v x = spots f places v op_stands.suits x.inside

  pub usable_result : (o : Op) (to : ℕ) → slice_get f.ops w.index ≡ Some o → defined o ≡ Some to
      → Usable f.charge (spot to)
  usable_result o to i df = spots f places to op_stands.suits (defined_inside s st w o to h.known i df)

  -- What the routine left stands in `mid`, and what it made, if anything, in `log'`.
  pub called_pays : (log' : Log) (o : Op) (to x l m : ℕ) (mid : Data) (Also : Data → Type 0)
      → slice_get f.ops w.index ≡ Some o → defined o ≡ Some to → falls o ≡ true → x < 4294967296
      → SameLeft log.shared log'.shared → log'.active ≡ log.active → log'.least ≡ log.least → log'.most ≡ log.most
      → SameCalls d mid → SameArena log.shared log'.shared d mid → least_of o ≤ l → m ≤ most_of o
      → Also mid
      → Writes (spot to) x l m (at s.code a 0 d) s.code (past a (op_code f places o)) mid
      → PaysTo s (set to x w) waiting (paid o log') log (at s.code a 0 d) Also
  called_pays log' o to x l m mid Also i df fo word left active e1 e2 calls arena lo hi also wr =
      let s' = with_made mid log'.shared s in
      let st' = standing_with mid log'.shared s st in
      let held = holds_made s st w arguments answer waiting log log' d mid mid left active calls
      (written_as_it_is mid) h in
      let comes = runs_to (sym (next_at f places w.index o i)) wr.runs in
      let over = comes.over in
      let under = comes.under in
      record {
        count = comes.count;
        low = omega (arith, over, lo, e1);
        high = omega (arith, under, hi, e2);
        written = mid;
        d = wr.after;
        holds = holds_set s' st' w nothing None waiting log' o to x mid wr.after i df fo word held wr.puts;
        also = also;
        arena = arena;
        is = comes.reaches.by;
      }

  -- a specification is begun: its own size is the size so far
  pub begin_pays : BeginIsCalled → SpecificationsStayWithSums → (text : Text) (to from : ℕ)
      → slice_get f.ops w.index ≡ Some (Run run.Begin to from) → uses_on (Run run.Begin to from) w.on ≡ true
      → HasSpecifications text log.shared d
      → HasAt s.code (routine_address (run_number run.Begin)) begin_code
      → PaysTo s (set to 0 w) waiting (paid (Run run.Begin to from) log) log (at s.code a 0 d)
      (DraftAgrees text (Summing (w.values from) 0) log.shared)
  begin_pays law stay text to from i u has routine =
      let o : Op = Run run.Begin to from in
      let x = operand_of run.Begin to from i u in
      let back = return_address a (spot from) in
      let v = value d (spot from) in
      let agree : DraftAgrees text (Summing (w.values from) 0) log.shared (with_so_far v 0 (linked back d)) =
      subst (λ n. DraftAgrees text (Summing n 0) log.shared (with_so_far v 0 (linked back d))) x.value_is
      (sums_agree stay text v 0 back log.shared d has) in
      called_pays log o to 0 11 16 (with_so_far v 0 (linked back d))
      (DraftAgrees text (Summing (w.values from) 0) log.shared) i refl refl (omega arith) (left_as_it_is log.shared)
      refl refl refl (sums_calls v 0 back d) (sums_arena v 0 back log.shared d) (omega arith) (omega arith)
      agree
      (law s.code a f.charge d (spot to) (spot from) (run_low run.Begin to from i) h.ready.framed
      (usable_result o to i refl) (usable_operand from x) x.word h.ready.global routine
      (one_stands s.code f places op_stands w.index o i))
