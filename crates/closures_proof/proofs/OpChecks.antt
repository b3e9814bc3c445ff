-- The ops that check captured numbers, and those that make variables where they end the run.
use Rattle.std.proofs.Common.{◌≡◌, ℕ, ◌+◌, ◌<◌, true, List, ◌++◌, Some, refl, sym, ap, ◌∙◌, subst, arith}
use Rattle.word32.specs.declared.map.TheConstants.{SEGMENT_BYTES, SIZE_CELL, PARAMETERS_CELL}
use Rattle.host_edge.specs.declared.ending.Ending.TheVariants.{Trap}
use Rattle.host_edge.specs.declared.ending.TrapKind.{TrapKind}
use Rattle.history.specs.Events.{Ended}
use Rattle.mips_encoder.specs.declared.instruction.Instr.{Instr}
use Rattle.mips_model.specs.State.{Code, Data}
use Rattle.mips_model.specs.Laws.{HasAt, at}
use Rattle.mips_encoder.specs.Addresses.{past}
use Rattle.icode_ops.specs.Kinds.{run_number}
use Rattle.icode_ops.specs.declared.kind.RunKind.TheVariants.{Local, Parameter}
use Rattle.meaning_state.specs.Shared.{Shared}
use Rattle.meaning_state.specs.Rows.{numbered, closure_trap}
use Rattle.icode_templates.specs.Layout.{Spot}
use Rattle.icode_templates.specs.Templates.{in_code, out_code, routine_code, routine_address}
use Rattle.icode_templates_proof.specs.Spots.{pointer, value, Framed, Usable, KeepsSpots}
use Rattle.icode_templates_proof.specs.Moves.{Writes, EndsIn}
use Rattle.icode_templates_proof.proofs.Leaves.{runs_to}
use Rattle.icode_templates_proof.proofs.Keeping.{keeps_on}
use Rattle.icode_templates_proof.specs.MallocLaws.{linked, return_address}
use Rattle.icode_templates_proof.specs.Closures.{Head, Closure, word_at, with_so_far, size_so_far, HasClosures}
use Rattle.icode_templates_proof.specs.Routines.{Named, AnExpression, AStatement, AVariable, check_code, local_code}
use Rattle.icode_templates_proof.specs.Routines.{parameter_code}
use Rattle.icode_templates_proof.specs.RoutineLaws.{HasRows, is_named, named_trap, more_of, added, parameter_trap}
use Rattle.icode_templates_proof.proofs.Checking.{check_answered, check_ends}
use Rattle.icode_templates_proof.proofs.Making.{local_ends, parameter_ends}
use Rattle.icode_templates_proof.proofs.Calling.{routine_called, routine_ends}
use Rattle.icode_templates_proof.proofs.Called.{so_far_keeps}
use Rattle.closures_proof.specs.Ops.{check_of}
use Rattle.closures_proof.proofs.Kept.{closures_kept, closures_same, rows_found, returns_to}

-- the blocks of the routines lie in the segment of code
near : (named : Named) → routine_address (run_number (check_of named)) + 256 < SEGMENT_BYTES
near AnExpression = omega arith
near AStatement = omega arith
near AVariable = omega arith

-- what is added on both sides
added_keeps : (k : Head) (d e : Data) → KeepsSpots d e → KeepsSpots (added k d) (added k e)
added_keeps k d e q =
    let size = ap (λ (f : ℕ → ℕ). word_at f SIZE_CELL + k.size) q.world.cells in
    let parameters = ap (λ (f : ℕ → ℕ). more_of (word_at f PARAMETERS_CELL) k.parameters) q.world.cells in
    subst (λ n. KeepsSpots (added k d) (with_so_far n (more_of (word_at e.cells PARAMETERS_CELL) k.parameters) e))
    (sym size)
    (subst (λ n. KeepsSpots (added k d) (with_so_far (size_so_far d + k.size) n e)) (sym parameters)
    (so_far_keeps (size_so_far d + k.size) (more_of (word_at d.cells PARAMETERS_CELL) k.parameters) d e q))

-- the routine finds the closures that stood before the op
found : (ks : List Closure) (to : ℕ) (d e : Data) → HasClosures ks d → KeepsSpots (linked to d) e → HasClosures ks e
found ks to d e has q =
    closures_kept ks (linked to d) e q (closures_same ks d (linked to d) refl refl refl refl refl has)

module _ (named : Named) (c : Code) (a bytes : ℕ) (ks : List Closure) (d : Data) (v : Spot) (low : past a (in_code v) +
    12 < SEGMENT_BYTES) (f : Framed (pointer d) bytes) (u : Usable bytes v) (b : value d v < 4294967296) (has :
    HasClosures ks d) (stands : HasAt c (routine_address (run_number (check_of named))) (check_code named)) where
  abbrev to : ℕ
  to = return_address a v

  abbrev number : ℕ
  number = run_number (check_of named)

  pub check_called : (k : Closure) (w : Spot) → Usable bytes w → numbered (value d v) ks ≡ Some k →
      is_named named k.head.kind ≡ true → size_so_far d + k.head.size < 4294967296
      → HasAt c a (in_code v ++ (routine_code number ++ out_code w))
      → Writes w 0 34 40 (at c a 0 d) c (past a (in_code v ++ (routine_code number ++ out_code w)))
      (added k.head (linked to d))
  check_called k w u' live kind small h =
      let n = near named in
      routine_called number 0 28 29 c a bytes d (added k.head (linked to d)) w v low (omega (arith, n)) f u' u b
      (omega arith) (λ e q is.
      let same = ap (λ (g : ℕ → ℕ). word_at g SIZE_CELL + k.head.size) q.world.cells in
      let y = check_answered named c (routine_address number) ks k e (omega (arith, n)) (found ks to d e has q)
      (subst (λ x. x < 4294967296) (sym is) b) (ap (λ x. numbered x ks) is ∙ live) kind
      (subst (λ x. x < 4294967296) (sym same) small) stands in
      record {
        after = y.after;
        runs = runs_to {d = y.after} (returns_to to d e q) y.runs;
        answer = y.answer;
        keeps = keeps_on (added_keeps k.head (linked to d) e q) y.keeps;
      }) refl h

  pub check_op_ends : (rest : List Instr) (kind : TrapKind) → named_trap named (numbered (value d v) ks) ≡ Some kind
      → HasAt c a (in_code v ++ (routine_code number ++ rest))
      → EndsIn 10 23 (Ended (Trap kind)) (at c a 0 d) c d.outside
  check_op_ends rest kind some h =
      let n = near named in
      routine_ends number 6 16 (Ended (Trap kind)) c a bytes d v rest low (omega (arith, n)) f u b
      (λ e q is. check_ends named c (routine_address number) ks e kind (omega (arith, n)) (found ks to d e has q)
      (subst (λ x. x < 4294967296) (sym is) b) stands (ap (λ x. named_trap named (numbered x ks)) is ∙ some)) h

module _ (c : Code) (a bytes : ℕ) (shared : Shared) (d : Data) (v : Spot) (rest : List Instr) (kind : TrapKind) (low :
    past a (in_code v) + 12 < SEGMENT_BYTES) (f : Framed (pointer d) bytes) (u : Usable bytes v) (b : value d v <
    4294967296) (has : HasRows shared d) where
  pub local_op_ends : closure_trap 0 shared ≡ Some kind → HasAt c (routine_address (run_number Local)) local_code
      → HasAt c a (in_code v ++ (routine_code (run_number Local) ++ rest))
      → EndsIn 19 22 (Ended (Trap kind)) (at c a 0 d) c d.outside
  local_op_ends some stands h =
      routine_ends 3 15 15 (Ended (Trap kind)) c a bytes d v rest low (omega arith) f u b
      (λ e q is. local_ends c (routine_address 3) shared e (omega arith)
      (rows_found shared (return_address a v) d e has q) stands kind some) h

  pub parameter_op_ends : parameter_trap (value d v) shared ≡ Some kind
      → HasAt c (routine_address (run_number Parameter)) parameter_code
      → HasAt c a (in_code v ++ (routine_code (run_number Parameter) ++ rest))
      → EndsIn 8 23 (Ended (Trap kind)) (at c a 0 d) c d.outside
  parameter_op_ends some stands h =
      routine_ends 4 4 16 (Ended (Trap kind)) c a bytes d v rest low (omega arith) f u b
      (λ e q is. parameter_ends c (routine_address 4) shared e (omega arith)
      (rows_found shared (return_address a v) d e has q) stands kind (ap (λ x. parameter_trap x shared) is ∙ some)) h
