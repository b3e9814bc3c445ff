-- The ops that make variables of generated code, and the one that begins a tick's specification.
use Rattle.std.proofs.Common.{◌≡◌, ℕ, suc, ◌+◌, ◌<◌, ◌++◌, None, refl, ap, ◌∙◌, subst, arith}
use Rattle.word32.specs.declared.map.TheConstants.{NEXT_CLOSURE_CELL, SPEC_COUNT_CELL, SIZE_CELL, PARAMETERS_CELL}
use Rattle.word32.specs.declared.map.TheConstants.{CLOSURE_CELL, GLOBAL_POINTER, SEGMENT_BYTES}
use Rattle.mips_model.specs.State.{Code, Data}
use Rattle.mips_encoder.specs.Addresses.{past}
use Rattle.mips_model.specs.Laws.{HasAt, at}
use Rattle.icode_ops.specs.Kinds.{run_number}
use Rattle.icode_ops.specs.declared.kind.RunKind.TheVariants.{Local, Parameter, Begin}
use Rattle.meaning_state.specs.Shared.{Shared}
use Rattle.meaning_state.specs.Rows.{closure_bytes, closure_trap, next_number}
use Rattle.icode_templates.specs.Layout.{Spot}
use Rattle.icode_templates.specs.Templates.{in_code, out_code, routine_code, routine_address}
use Rattle.icode_templates_proof.specs.Spots.{pointer, value, Framed, Usable, KeepsSpots}
use Rattle.icode_templates_proof.specs.Moves.{Writes}
use Rattle.icode_templates_proof.proofs.Leaves.{runs_to}
use Rattle.icode_templates_proof.proofs.Keeping.{keeps_on}
use Rattle.icode_templates_proof.specs.MallocLaws.{linked, return_address}
use Rattle.icode_templates_proof.specs.Closures.{Head, word_at, with_word, with_head, local_head, parameter_head}
use Rattle.icode_templates_proof.specs.Closures.{row_place}
use Rattle.icode_templates_proof.specs.Closures.{row_count, next_closure, with_so_far, appended}
use Rattle.icode_templates_proof.specs.Routines.{local_code, parameter_code, begin_code}
use Rattle.icode_templates_proof.specs.RoutineLaws.{HasRows, parameter_trap}
use Rattle.icode_templates_proof.proofs.Making.{local_answered, parameter_answered}
use Rattle.icode_templates_proof.proofs.Checking.{begin_answered}
use Rattle.icode_templates_proof.proofs.Calling.{routine_called}

-- what is written on both sides
pub appended_keeps : (k : Head) (captures : ℕ) (d e : Data) → KeepsSpots d e →
    KeepsSpots (appended k captures d) (appended k captures e)
appended_keeps k captures d e q = record {
  registers = q.registers;
  stack = q.stack;
  world = record {
    objects = q.world.objects;
    closures =
        ap (λ (f : ℕ → ℕ). with_head (word_at f NEXT_CLOSURE_CELL) k e.closures) q.world.cells
        ∙ ap (with_head (next_closure d) k) q.world.closures;
    spec_rows =
        ap (λ (f : ℕ → ℕ). with_word (row_place (suc (word_at f SPEC_COUNT_CELL))) (word_at f NEXT_CLOSURE_CELL)
        e.spec_rows) q.world.cells
        ∙ ap (with_word (row_place (suc (row_count d))) (next_closure d)) q.world.spec_rows;
    cells =
        ap (λ (f : ℕ → ℕ). with_word CLOSURE_CELL (word_at f NEXT_CLOSURE_CELL)
        (with_word NEXT_CLOSURE_CELL (word_at f NEXT_CLOSURE_CELL + closure_bytes captures)
        (with_word SPEC_COUNT_CELL (suc (word_at f SPEC_COUNT_CELL)) f))) q.world.cells;
    emit_stack = q.world.emit_stack;
    table = q.world.table;
    outside = q.world.outside;
  };
}

pub so_far_keeps : (size parameters : ℕ) (d e : Data) → KeepsSpots d e →
    KeepsSpots (with_so_far size parameters d) (with_so_far size parameters e)
so_far_keeps size parameters d e q = record {
  registers = q.registers;
  stack = q.stack;
  world = record {
    objects = q.world.objects;
    closures = q.world.closures;
    spec_rows = q.world.spec_rows;
    cells =
        ap (λ (f : ℕ → ℕ). with_word PARAMETERS_CELL parameters (with_word SIZE_CELL size f)) q.world.cells;
    emit_stack = q.world.emit_stack;
    table = q.world.table;
    outside = q.world.outside;
  };
}

-- the rows as the routine finds them
rows_kept : (shared : Shared) (to : ℕ) (d e : Data) → HasRows shared d → KeepsSpots (linked to d) e → HasRows shared e
rows_kept shared to d e has q = record {
  global = q.registers 28 (omega arith, omega arith, omega arith) ∙ has.global;
  count = ap (λ (f : ℕ → ℕ). word_at f SPEC_COUNT_CELL) q.world.cells ∙ has.count;
  next = ap (λ (f : ℕ → ℕ). word_at f NEXT_CLOSURE_CELL) q.world.cells ∙ has.next;
  within = has.within;
  even = has.even;
  few = has.few;
}

-- $ra is kept
returns_to : (to : ℕ) (d e : Data) → KeepsSpots (linked to d) e → e.registers 31 ≡ to
returns_to to d e q = q.registers 31 (omega arith, omega arith, omega arith)

number_word : (shared : Shared) (d : Data) → HasRows shared d → next_number shared < 4294967296
number_word shared d has = omega (arith, has.few, has.within)

module _ (c : Code) (a bytes : ℕ) (d : Data) (w v : Spot) (low : past a (in_code v) + 12 < SEGMENT_BYTES) (f :
    Framed (pointer d) bytes) (u : Usable bytes w) (u' : Usable bytes v) (b : value d v < 4294967296) where
  abbrev to : ℕ
  to = return_address a v

  pub begin_called : d.registers 28 ≡ GLOBAL_POINTER → HasAt c (routine_address (run_number Begin)) begin_code
      → HasAt c a (in_code v ++ (routine_code (run_number Begin) ++ out_code w))
      → Writes w 0 11 16 (at c a 0 d) c (past a (in_code v ++ (routine_code (run_number Begin) ++ out_code w)))
      (with_so_far (value d v) 0 (linked to d))
  begin_called g stands h =
      routine_called 5 0 5 5 c a bytes d (with_so_far (value d v) 0 (linked to d)) w v low (omega arith) f u u' b
      (omega arith) (λ e q is.
      let y = begin_answered c (routine_address 5) e
      (q.registers 28 (omega arith, omega arith, omega arith) ∙ g) stands in
      record {
        after = y.after;
        runs = runs_to {d = y.after} (returns_to to d e q) y.runs;
        answer = y.answer;
        keeps = keeps_on (so_far_keeps (value d v) 0 (linked to d) e q)
            (subst (λ x. KeepsSpots (with_so_far x 0 e) y.after) is y.keeps);
      }) refl h

  module _ (shared : Shared) (has : HasRows shared d) where
    pub local_called : closure_trap 0 shared ≡ None → HasAt c (routine_address (run_number Local)) local_code
        → HasAt c a (in_code v ++ (routine_code (run_number Local) ++ out_code w))
        → Writes w (next_number shared) 36 41 (at c a 0 d) c
        (past a (in_code v ++ (routine_code (run_number Local) ++ out_code w)))
        (appended (local_head (next_number shared)) 0 (linked to d))
    local_called none stands h =
        routine_called 3 (next_number shared) 30 30 c a bytes d
        (appended (local_head (next_number shared)) 0 (linked to d)) w v low (omega arith) f u u' b
        (number_word shared d has) (λ e q is.
        let y = local_answered c (routine_address 3) shared e (omega arith) (rows_kept shared to d e has q) stands
        none in
        record {
          after = y.after;
          runs = runs_to {d = y.after} (returns_to to d e q) y.runs;
          answer = y.answer;
          keeps = keeps_on (appended_keeps (local_head (next_number shared)) 0 (linked to d) e q) y.keeps;
        }) refl h

    pub parameter_called : parameter_trap (value d v) shared ≡ None
        → HasAt c (routine_address (run_number Parameter)) parameter_code
        → HasAt c a (in_code v ++ (routine_code (run_number Parameter) ++ out_code w))
        → Writes w (next_number shared) 37 42 (at c a 0 d) c
        (past a (in_code v ++ (routine_code (run_number Parameter) ++ out_code w)))
        (appended (parameter_head (value d v)) 0 (linked to d))
    parameter_called none stands h =
        routine_called 4 (next_number shared) 31 31 c a bytes d
        (appended (parameter_head (value d v)) 0 (linked to d)) w v low (omega arith) f u u' b
        (number_word shared d has) (λ e q is.
        let y = parameter_answered c (routine_address 4) shared e (omega arith) (rows_kept shared to d e has q) stands
        (ap (λ x. parameter_trap x shared) is ∙ none) in
        record {
          after = y.after;
          runs = runs_to {d = y.after} (returns_to to d e q) y.runs;
          answer = y.answer;
          keeps = keeps_on (appended_keeps (parameter_head (value d v)) 0 (linked to d) e q)
              (subst (λ x. KeepsSpots (appended (parameter_head x) 0 e) y.after) is y.keeps);
        }) refl h
