-- What was compiled, and its cells, through ops that compile nothing.
use Rattle.std.proofs.Common.{◌≡◌, ℕ, suc, ◌+◌, ◌/◌, refl, ap, ◌∙◌, arith}
use Rattle.word32.specs.declared.map.TheConstants.{NEXT_FUNCTION_CELL, NEXT_ARENA_CELL}
use Rattle.word32.specs.declared.map.TheConstants.{SIZE_CELL, PARAMETERS_CELL, CLOSURE_CELL, NEXT_CLOSURE_CELL}
use Rattle.word32.specs.declared.map.TheConstants.{SPEC_COUNT_CELL}
use Rattle.mips_model.specs.State.{Data}
use Rattle.meaning_state.specs.Shared.{Shared}
use Rattle.meaning_state.specs.Rows.{closure_bytes}
use Rattle.icode_templates_proof.specs.MallocLaws.{linked}
use Rattle.icode_templates_proof.specs.Closures.{Head, word_at, with_word, appended, with_so_far, next_closure}
use Rattle.icode_templates_proof.specs.Closures.{row_count}
use Rattle.icode_templates_proof.proofs.Memory.{update_other}

pub record SameArena (shared shared' : Shared) (d after : Data) : Type 0 where
  pub function : word_at after.cells NEXT_FUNCTION_CELL ≡ word_at d.cells NEXT_FUNCTION_CELL
  pub next : word_at after.cells NEXT_ARENA_CELL ≡ word_at d.cells NEXT_ARENA_CELL
  pub bodies : shared'.bodies ≡ shared.bodies

pub same_cells : (shared shared' : Shared) (d after : Data) → shared'.bodies ≡ shared.bodies
    → after.cells ≡ d.cells → SameArena shared shared' d after
same_cells shared shared' d after bodies cells = record {
  function = ap (λ (f : ℕ → ℕ). word_at f NEXT_FUNCTION_CELL) cells;
  next = ap (λ (f : ℕ → ℕ). word_at f NEXT_ARENA_CELL) cells;
  bodies = bodies;
}

-- behind cells that are the same
pub then_cells : {shared shared' : Shared} {d e f : Data} → SameArena shared shared' d e → f.cells ≡ e.cells
    → SameArena shared shared' d f
then_cells a cells = record {
  function = ap (λ (f : ℕ → ℕ). word_at f NEXT_FUNCTION_CELL) cells ∙ a.function;
  next = ap (λ (f : ℕ → ℕ). word_at f NEXT_ARENA_CELL) cells ∙ a.next;
  bodies = a.bodies;
}

-- what is told of more
pub told_arena : {x y z : Shared} {d e : Data} → SameArena x y d e → z.bodies ≡ y.bodies → SameArena x z d e
told_arena a e1 = record {
  function = a.function;
  next = a.next;
  bodies = e1 ∙ a.bodies;
}

pub sums_arena : (size parameters to : ℕ) (shared : Shared) (d : Data)
    → SameArena shared shared d (with_so_far size parameters (linked to d))
sums_arena size parameters to shared d =
    let c = with_word SIZE_CELL size d.cells in
    record {
      function = update_other (PARAMETERS_CELL / 4) parameters c (NEXT_FUNCTION_CELL / 4) (omega arith)
          ∙ update_other (SIZE_CELL / 4) size d.cells (NEXT_FUNCTION_CELL / 4) (omega arith);
      next = update_other (PARAMETERS_CELL / 4) parameters c (NEXT_ARENA_CELL / 4) (omega arith)
          ∙ update_other (SIZE_CELL / 4) size d.cells (NEXT_ARENA_CELL / 4) (omega arith);
      bodies = refl;
    }

pub appended_arena : (k : Head) (captures to : ℕ) (shared shared' : Shared) (d : Data)
    → shared'.bodies ≡ shared.bodies
    → SameArena shared shared' d (appended k captures (linked to d))
appended_arena k captures to shared shared' d bodies =
    let c1 = with_word SPEC_COUNT_CELL (suc (row_count d)) d.cells in
    let c2 = with_word NEXT_CLOSURE_CELL (next_closure d + closure_bytes captures) c1 in
    record {
      function = update_other (CLOSURE_CELL / 4) (next_closure d) c2 (NEXT_FUNCTION_CELL / 4) (omega arith)
          ∙ update_other (NEXT_CLOSURE_CELL / 4) (next_closure d + closure_bytes captures) c1 (NEXT_FUNCTION_CELL / 4)
          (omega arith)
          ∙ update_other (SPEC_COUNT_CELL / 4) (suc (row_count d)) d.cells (NEXT_FUNCTION_CELL / 4) (omega arith);
      next = update_other (CLOSURE_CELL / 4) (next_closure d) c2 (NEXT_ARENA_CELL / 4) (omega arith)
          ∙ update_other (NEXT_CLOSURE_CELL / 4) (next_closure d + closure_bytes captures) c1 (NEXT_ARENA_CELL / 4)
          (omega arith)
          ∙ update_other (SPEC_COUNT_CELL / 4) (suc (row_count d)) d.cells (NEXT_ARENA_CELL / 4) (omega arith);
      bodies = bodies;
    }
