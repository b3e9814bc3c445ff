-- The check of a captured number, as a step that pays; and where the number is no live one of its kind, the run ends.
use Rattle.std.proofs.Common.{◌≡◌, inl, inr, ℕ, ◌+◌, ◌<◌, max, Bool, true, false, if◌then◌else◌, List}
use Rattle.std.proofs.Common.{Option, Some, None, refl, ap, ◌∙◌, subst, arith, slice_get}
use Rattle.std.proofs.lemmas.Bool.{cases_Bool}
use Rattle.host_edge.specs.declared.ending.Ending.TheVariants.{Trap}
use Rattle.host_edge.specs.declared.ending.TrapKind.TheVariants.{BadSpec}
use Rattle.history.specs.Events.{Ended}
use Rattle.mips_model.specs.State.{Data}
use Rattle.mips_model.specs.Laws.{at, HasAt}
use Rattle.icode_ops.specs.Kinds.{run_number}
use Rattle.icode_ops.specs.declared.op.Op.{Op}
use Rattle.icode_ops.specs.declared.op.Op.TheVariants.{Run}
use Rattle.meaning_state.specs.Shared.{Specification}
use Rattle.meaning_state.specs.Rows.{numbered, specification_at}
use Rattle.staged_meaning.specs.Specifications.{fits}
use Rattle.icode_templates.specs.Templates.{out_code, routine_address}
use Rattle.icode_meaning.specs.State.{Function, Frame, Log}
use Rattle.icode_meaning.specs.Steps.{uses_on, paid, set}
use Rattle.icode_templates_proof.specs.Spots.{value}
use Rattle.icode_templates_proof.specs.Moves.{EndsIn}
use Rattle.icode_templates_proof.specs.MallocLaws.{linked, return_address}
use Rattle.icode_templates_proof.specs.Closures.{Closure, size_so_far, parameters_so_far}
use Rattle.icode_templates_proof.specs.Routines.{Named, check_code}
use Rattle.icode_templates_proof.specs.RoutineLaws.{more_of, added, named_trap}
use Rattle.icode_expand_proof.specs.Relation.{Holds}
use Rattle.icode_expand_proof.specs.Settings.{Setting, places_of, Standing}
use Rattle.icode_expand_proof.specs.Standing.{layout_of, op_stands_at}
use Rattle.icode_expand_proof.proofs.Codes.{one_stands}
use Rattle.icode_expand_proof.proofs.Operators.{end_pays}
use Rattle.closures_proof.specs.Ops.{check_of}
use Rattle.closures_proof.specs.OpLaws.{CheckIsCalled, CheckOpTraps}
use Rattle.closures_proof.specs.Relation.{Text}
use Rattle.closures_proof.specs.Laws.{ChecksAgree, SpecificationsStayWithSums}
use Rattle.icode_run_proof.specs.Making.{Draft, Summing, DraftAgrees}
use Rattle.icode_run_proof.specs.Steps.{kind_named, row_size, row_parameters, Unless}
use Rattle.icode_run_proof.proofs.Steps.{left_as_it_is}
use Rattle.icode_run_proof.proofs.PutPays.{PaysTo}
use Rattle.icode_run_proof.proofs.Arena.{sums_arena}
use Rattle.icode_run_proof.proofs.Counting.{checked, more_is_max, named_is}
use Rattle.icode_run_proof.proofs.Called.{sums_calls, sums_agree, op_stands, run_low, operand_of, usable_operand}
use Rattle.icode_run_proof.proofs.Called.{usable_result, called_pays}

-- what is added up behind a number that fits
abbrev pub more : Text → (size parameters : ℕ) → Option Specification → Draft
more text size parameters row =
    Summing (size + row_size text.program row) (max parameters (row_parameters row))

module _ (s : Setting) (st : Standing s) (w : Frame) (arguments : ℕ → Option ℕ) (answer : Option ℕ)
    (waiting : List Frame) (log : Log) (d : Data) (h : Holds s w arguments answer waiting log d) where
  abbrev f : Function
  f = w.function

  abbrev a : ℕ
  a = op_stands_at f (places_of s f) w.index

  module _ (text : Text) (agree : ChecksAgree) (named : Named) (to from size parameters : ℕ)
      (i : slice_get f.ops w.index ≡ Some (Run (check_of named) to from))
      (u : uses_on (Run (check_of named) to from) w.on ≡ true)
      (summing : DraftAgrees text (Summing size parameters) log.shared d)
      (routine : HasAt s.code (routine_address (run_number (check_of named))) (check_code named)) where
    abbrev o : Op
    o = Run (check_of named) to from

    abbrev row : Option Specification
    row = specification_at (w.values from) log.shared

    abbrev ks : List Closure
    ks = summing.0.closures

    pub check_pays : CheckIsCalled → SpecificationsStayWithSums → fits (kind_named named) row ≡ true
        → size + row_size text.program row < 4294967296
        → PaysTo s (set to 0 w) waiting (paid o log) log (at s.code a 0 d)
        (DraftAgrees text (more text size parameters row) log.shared)
    check_pays law stay fitting small =
        let rows = log.shared.specifications in
        let x = operand_of s st w arguments answer waiting log d h (check_of named) to from i u in
        let spot = (layout_of f (places_of s f)).spot in
        let v = value d (spot from) in
        let back = return_address a (spot from) in
        let c = checked agree text rows ks named (w.values from) summing.0.stand_for fitting in
        let k = c.closure.head in
        let mid = added k (linked back d) in
        let size' = size_so_far d + k.size in
        let parameters' = more_of (parameters_so_far d) k.parameters in
        let e1 : size' ≡ size + row_size text.program row =
        ap (λ n. n + k.size) summing.1 ∙ ap (λ n. size + n) c.size in
        let e2 : parameters' ≡ max parameters (row_parameters row) =
        ap (λ n. more_of n k.parameters) summing.2 ∙ more_is_max parameters k.parameters
        ∙ ap (max parameters) c.parameters in
        let sums : DraftAgrees text (Summing size' parameters') log.shared mid =
        sums_agree stay text size' parameters' back log.shared d summing.0 in
        let sums1 : DraftAgrees text (more text size parameters row) log.shared mid =
        subst (λ n. DraftAgrees text (Summing (size + row_size text.program row) n) log.shared mid) e2
        (subst (λ n. DraftAgrees text (Summing n parameters') log.shared mid) e1 sums) in
        called_pays s st w arguments answer waiting log d h log o to 0 34 40 mid
        (DraftAgrees text (more text size parameters row) log.shared) i refl refl (omega arith)
        (left_as_it_is log.shared) refl refl refl (sums_calls size' parameters' back d)
        (sums_arena size' parameters' back log.shared d) (omega arith) (omega arith)
        sums1
        (law named s.code a f.charge ks c.closure d (spot to) (spot from)
        (run_low s st w arguments answer waiting log d h (check_of named) to from i) h.ready.framed
        (usable_result s st w arguments answer waiting log d h o to i refl)
        (usable_operand s st w arguments answer waiting log d h from x) x.word summing.0.memory
        (ap (λ n. numbered n ks) x.value_is ∙ c.is) c.kind (omega (arith, e1, small)) routine
        (one_stands s.code f (places_of s f) (op_stands s st w arguments answer waiting log d h) w.index o i))

    -- a number that doesn't fit
    pub check_ends : CheckOpTraps → fits (kind_named named) row ≡ false
        → EndsIn 10 23 (Ended (Trap BadSpec)) (at s.code a 0 d) s.code d.outside
    check_ends law other =
        let rows = log.shared.specifications in
        let x = operand_of s st w arguments answer waiting log d h (check_of named) to from i u in
        let spot = (layout_of f (places_of s f)).spot in
        let bad : named_trap named (numbered (value d (spot from)) ks) ≡ Some BadSpec =
        ap (λ n. named_trap named (numbered n ks)) x.value_is
        ∙ agree text rows ks (kind_named named) named (w.values from) summing.0.stand_for (named_is named)
        ∙ ap (λ (b : Bool). if b then None else Some BadSpec) other in
        law named s.code a f.charge ks d (spot from) (out_code (spot to)) BadSpec
        (run_low s st w arguments answer waiting log d h (check_of named) to from i) h.ready.framed
        (usable_operand s st w arguments answer waiting log d h from x) x.word summing.0.memory bad routine
        (one_stands s.code f (places_of s f) (op_stands s st w arguments answer waiting log d h) w.index o i)

    -- both, as the staged machine has it
    pub check_step : CheckIsCalled → CheckOpTraps → SpecificationsStayWithSums
        → Unless s (if fits (kind_named named) row then None else Some BadSpec) (paid o log) log (at s.code a 0 d)
        (size + row_size text.program row < 4294967296
        → PaysTo s (set to 0 w) waiting (paid o log) log (at s.code a 0 d)
        (DraftAgrees text (more text size parameters row) log.shared))
    check_step law traps stay = elim (cases_Bool (fits (kind_named named) row)) [
      | inl t ↦ rw t (check_pays law stay t)
      | inr t ↦ rw t (end_pays s log (paid o log) (at s.code a 0 d) 10 23 (Ended (Trap BadSpec)) d.outside
          (omega arith) (omega arith) h.memory.history h.memory.making tt (check_ends traps t))
    ]
