-- A New behind the checks of its tick, with its traps in the order of the meaning.
use Rattle.std.proofs.Common.{◌≡◌, ℕ, ◌+◌, ◌<◌, ◌≤◌, List, [], ◌∷◌}
use Rattle.std.proofs.Common.{Option, Some, None, refl, ap, ◌∙◌, subst, arith, slice_get}
use Rattle.limits.specs.declared.ops.TheConstants.{MOST_CAPTURES}
use Rattle.host_edge.specs.declared.ending.Ending.TheVariants.{Trap}
use Rattle.host_edge.specs.declared.ending.TrapKind.{TrapKind}
use Rattle.history.specs.Events.{Ended}
use Rattle.word32.specs.declared.map.TheConstants.{SEGMENT_BYTES}
use Rattle.mips_encoder.specs.declared.instruction.Instr.{Instr}
use Rattle.mips_encoder.specs.Addresses.{past}
use Rattle.mips_assembly.specs.Assembly.{v0, t8, addu}
use Rattle.mips_model.specs.State.{Data}
use Rattle.mips_model.specs.Laws.{at, HasAt}
use Rattle.meaning_state.specs.Rows.{closure_trap, next_number, size_trap}
use Rattle.icode_ops.specs.declared.op.Op.{Op}
use Rattle.icode_ops.specs.declared.op.Op.TheVariants.{New}
use Rattle.icode_ops.specs.declared.kind.ClosureKind.{ClosureKind}
use Rattle.icode_templates.specs.Templates.{new_address, out_code}
use Rattle.icode_meaning.specs.State.{Function, Frame, Log, Halted}
use Rattle.icode_meaning.specs.Steps.{paid, set}
use Rattle.icode_templates_proof.specs.Moves.{EndsIn}
use Rattle.icode_templates_proof.specs.Closures.{size_so_far, parameters_so_far}
use Rattle.icode_templates_proof.specs.Routines.{new_code}
use Rattle.icode_templates_proof.specs.RoutineLaws.{new_trap, first_trap}
use Rattle.icode_expand_proof.specs.Relation.{Holds, Pays}
use Rattle.icode_expand_proof.specs.Settings.{Setting, places_of, Standing}
use Rattle.icode_expand_proof.specs.Standing.{layout_of, op_stands_at}
use Rattle.icode_expand_proof.proofs.Addresses.{past_rises}
use Rattle.icode_expand_proof.proofs.Codes.{op_code, one_stands, code_low}
use Rattle.icode_expand_proof.proofs.Operators.{end_pays}
use Rattle.closures_proof.specs.Ops.{new_return_address, tick_head}
use Rattle.closures_proof.specs.OpLaws.{NewIsCalled, NewOpTraps}
use Rattle.closures_proof.specs.Relation.{Text}
use Rattle.closures_proof.specs.Laws.{RowsAreThere}
use Rattle.icode_run_proof.specs.Making.{Summing, Filling, Filled, DraftAgrees}
use Rattle.icode_run_proof.specs.Steps.{Unless}
use Rattle.icode_run_proof.proofs.PutPays.{PaysTo}
use Rattle.icode_run_proof.proofs.NewPays.{new_pays}
use Rattle.icode_run_proof.proofs.Called.{op_stands}
use Rattle.icode_run_proof.proofs.VariablePays.{next_is_word}
use Rattle.icode_run_proof.specs.Ticking.{head_of}

module _ (s : Setting) (st : Standing s) (w : Frame) (arguments : ℕ → Option ℕ) (answer : Option ℕ)
    (waiting : List Frame) (log : Log) (d : Data) (h : Holds s w arguments answer waiting log d) where
  abbrev f : Function
  f = w.function

  abbrev a : ℕ
  a = op_stands_at f (places_of s f) w.index

  module _ (text : Text) (rows : RowsAreThere) (to address : ℕ) (kind : ClosureKind) (captures size parameters : ℕ)
      (i : slice_get f.ops w.index ≡ Some (New to address kind captures))
      (summing : DraftAgrees text (Summing size parameters) log.shared d) (few : captures ≤ MOST_CAPTURES)
      (routine : HasAt s.code new_address new_code) where
    abbrev o : Op
    o = New to address kind captures

    new_low : new_return_address a < SEGMENT_BYTES
    new_low =
        let spot = (layout_of f (places_of s f)).spot to in
        let rest : List Instr = addu t8 v0 0 ∷ out_code spot in
        let low = code_low s.code f (places_of s f) (op_stands s st w arguments answer waiting log d h) w.index o i in
        let e : past a (op_code f (places_of s f) o) ≡ past (new_return_address a) rest = refl in
        let rises = past_rises (new_return_address a + 4) (out_code spot) in
        omega (arith, low, e, rises)

    pub new_is_filled : NewIsCalled → size_trap size ≡ None → closure_trap captures log.shared ≡ None
        → PaysTo s (set to (next_number log.shared) w) waiting (paid o log) log (at s.code a 0 d)
        (DraftAgrees text (Filling (head_of address kind size parameters) captures []) log.shared)
    new_is_filled law small room =
        let number = next_number log.shared in
        let none : new_trap (size_so_far d) captures log.shared ≡ None =
        ap (λ n. new_trap n captures log.shared) summing.1
        ∙ ap (λ t. first_trap t (closure_trap captures log.shared)) small ∙ room in
        let e : tick_head address kind d ≡ head_of address kind size parameters =
        ap (λ n. head_of address kind n (parameters_so_far d)) summing.1
        ∙ ap (head_of address kind size) summing.2 in
        subst (λ k. PaysTo s (set to number w) waiting (paid o log) log (at s.code a 0 d)
        (Filled text log.shared k captures [])) e
        (new_pays law rows s st w arguments answer waiting log d h routine text to address kind captures i summing.0
        new_low few (next_is_word log.shared d (rows text log.shared d summing.0)) none)

    pub new_ends : NewOpTraps → (trap : TrapKind) → new_trap size captures log.shared ≡ Some trap
        → EndsIn 14 22 (Ended (Trap trap)) (at s.code a 0 d) s.code d.outside
    new_ends law trap none =
        law s.code a address kind captures log.shared d ((layout_of f (places_of s f)).spot to) trap new_low
        (rows text log.shared d summing.0) few
        (ap (λ n. new_trap n captures log.shared) summing.1 ∙ none) routine
        (one_stands s.code f (places_of s f) (op_stands s st w arguments answer waiting log d h) w.index o i)

    pub new_step : NewIsCalled → NewOpTraps
        → Unless s (size_trap size) (paid o log) log (at s.code a 0 d)
        (Unless s (closure_trap captures log.shared) (paid o log) log (at s.code a 0 d)
        (PaysTo s (set to (next_number log.shared) w) waiting (paid o log) log (at s.code a 0 d)
        (DraftAgrees text (Filling (head_of address kind size parameters) captures []) log.shared)))
    new_step law traps = by (size_trap size) (closure_trap captures log.shared) refl refl
      where
        ended : (trap : TrapKind) → new_trap size captures log.shared ≡ Some trap
            → Pays s (Halted (Ended (Trap trap)) (paid o log)) log (at s.code a 0 d)
        ended trap e =
            end_pays s log (paid o log) (at s.code a 0 d) 14 22 (Ended (Trap trap)) d.outside (omega arith)
            (omega arith) h.memory.history h.memory.making tt (new_ends traps trap e)

        by : (t r : Option TrapKind) → size_trap size ≡ t → closure_trap captures log.shared ≡ r
            → Unless s t (paid o log) log (at s.code a 0 d)
            (Unless s r (paid o log) log (at s.code a 0 d)
            (PaysTo s (set to (next_number log.shared) w) waiting (paid o log) log (at s.code a 0 d)
            (DraftAgrees text (Filling (head_of address kind size parameters) captures []) log.shared)))
        by (Some trap) r e1 e2 = ended trap (ap (λ t. first_trap t (closure_trap captures log.shared)) e1)
        by None (Some trap) e1 e2 =
            ended trap (ap (λ t. first_trap t (closure_trap captures log.shared)) e1 ∙ e2)
        by None None e1 e2 = new_is_filled law e1 e2
