-- The closures of a run, kept by what keeps all spots and by adding up.
use Rattle.std.proofs.Common.{◌≡◌, ℕ, suc, ◌/◌, ◌%◌, List, length, refl, sym, ap, ◌∙◌, subst}
use Rattle.std.proofs.Common.{arith}
use Rattle.word32.specs.Space.{update, AreWords}
use Rattle.word32.specs.declared.map.TheConstants.{NEXT_CLOSURE_CELL, SPEC_COUNT_CELL, SIZE_CELL}
use Rattle.word32.specs.declared.map.TheConstants.{PARAMETERS_CELL}
use Rattle.mips_model.specs.State.{Data}
use Rattle.meaning_state.specs.Shared.{Shared}
use Rattle.meaning_state.specs.Rows.{closure_bytes}
use Rattle.icode_templates_proof.specs.Spots.{KeepsSpots}
use Rattle.icode_templates_proof.proofs.Memory.{update_other}
use Rattle.icode_templates_proof.specs.Closures.{Closure, word_at, closure_at, row_place, closure_of, row_count}
use Rattle.icode_templates_proof.specs.Closures.{next_closure}
use Rattle.icode_templates_proof.specs.Closures.{with_so_far, Stands, HasClosures}
use Rattle.icode_templates_proof.specs.MallocLaws.{linked}
use Rattle.icode_templates_proof.specs.RoutineLaws.{HasRows}

-- a closure stands where closures, rows and the next place are the same
pub stands_same : (number : ℕ) (k : Closure) (d e : Data) → e.closures ≡ d.closures → e.spec_rows ≡ d.spec_rows →
    next_closure e ≡ next_closure d → Stands d number k → Stands e number k
stands_same number k d e same rows next s =
    let at : closure_of e number ≡ closure_of d number = ap (λ (f : ℕ → ℕ). word_at f (row_place number)) rows in
    let bytes = closure_bytes (length k.captured) in
    record {
      from = omega (arith, at, s.from);
      to = omega (arith, at, next, s.to);
      even = ap (λ n. n % 4) at ∙ s.even;
      reads = ap (λ (f : ℕ → ℕ). closure_at f (closure_of e number) (length k.captured)) same
          ∙ ap (λ n. closure_at d.closures n (length k.captured)) at ∙ s.reads;
    }

pub closures_same : (ks : List Closure) (d e : Data) → e.registers 28 ≡ d.registers 28 → e.closures ≡ d.closures →
    e.spec_rows ≡ d.spec_rows → row_count e ≡ row_count d → next_closure e ≡ next_closure d → HasClosures ks d →
    HasClosures ks e
closures_same ks d e global same rows count next has = record {
  global = global ∙ has.global;
  count = count ∙ has.count;
  next = next ∙ has.next;
  within = has.within;
  stand = λ n k is. stands_same (suc n) k d e same rows next (has.stand n k is);
  words = subst AreWords (sym same) has.words;
}

pub closures_kept : (ks : List Closure) (d e : Data) → KeepsSpots d e → HasClosures ks d → HasClosures ks e
closures_kept ks d e q has =
    closures_same ks d e (q.registers 28 (omega arith, omega arith, omega arith)) q.world.closures q.world.spec_rows
    (ap (λ (f : ℕ → ℕ). word_at f SPEC_COUNT_CELL) q.world.cells)
    (ap (λ (f : ℕ → ℕ). word_at f NEXT_CLOSURE_CELL) q.world.cells) has

pub sums_keep : (size parameters : ℕ) (ks : List Closure) (d : Data) → HasClosures ks d →
    HasClosures ks (with_so_far size parameters d)
sums_keep size parameters ks d has =
    let f1 = update (SIZE_CELL / 4) size d.cells in
    closures_same ks d (with_so_far size parameters d) refl refl refl
    (update_other (PARAMETERS_CELL / 4) parameters f1 (SPEC_COUNT_CELL / 4) (omega arith)
    ∙ update_other (SIZE_CELL / 4) size d.cells (SPEC_COUNT_CELL / 4) (omega arith))
    (update_other (PARAMETERS_CELL / 4) parameters f1 (NEXT_CLOSURE_CELL / 4) (omega arith)
    ∙ update_other (SIZE_CELL / 4) size d.cells (NEXT_CLOSURE_CELL / 4) (omega arith)) has

-- the rows as a routine finds them that an op calls, and the address to return to
pub rows_found : (shared : Shared) (to : ℕ) (d e : Data) → HasRows shared d → KeepsSpots (linked to d) e →
    HasRows shared e
rows_found shared to d e has q = record {
  global = q.registers 28 (omega arith, omega arith, omega arith) ∙ has.global;
  count = ap (λ (f : ℕ → ℕ). word_at f SPEC_COUNT_CELL) q.world.cells ∙ has.count;
  next = ap (λ (f : ℕ → ℕ). word_at f NEXT_CLOSURE_CELL) q.world.cells ∙ has.next;
  within = has.within;
  even = has.even;
  few = has.few;
}

pub returns_to : (to : ℕ) (d e : Data) → KeepsSpots (linked to d) e → e.registers 31 ≡ to
returns_to to d e q = q.registers 31 (omega arith, omega arith, omega arith)
