-- The ops of a tick stay below the arena.
use Rattle.std.proofs.Common.{◌≡◌, ℕ, suc, List, [], ◌∷◌, refl, ap, ◌∙◌, arith}
use Rattle.mips_model.specs.State.{Outside, Code, Data}
use Rattle.mips_encoder.specs.Addresses.{past}
use Rattle.mips_model.specs.Laws.{HasAt, at}
use Rattle.icode_ops.specs.Kinds.{run_number}
use Rattle.icode_ops.specs.declared.kind.RunKind.TheVariants as run
use Rattle.icode_templates.specs.Templates.{routine_address, new_address}
use Rattle.mips_model_laws.specs.Laws.{bare}
use Rattle.mips_model_laws.proofs.Standing.{text_there}
use Rattle.mips_model_laws.proofs.Below.{runs_below, runs_carried}
use Rattle.icode_templates_proof.specs.Routines.{Named, AnExpression, AStatement, AVariable, begin_code, check_code}
use Rattle.icode_templates_proof.specs.Routines.{new_code}
use Rattle.closures_proof.specs.Ops.{check_of, with_captured}
use Rattle.closures_proof.specs.Laws.{puts}
use Rattle.closures_proof.specs.Ticks.{HasRoutines, tick_code}
use Rattle.closures_proof.specs.Below.{TicksStayBelow}
use Rattle.closures_proof.proofs.TickMade.{ticks_made}

-- the routines stand in bare code too
bare_routines : (c : Code) → HasRoutines c → HasRoutines (bare c)
bare_routines c h = record {
  begin = text_there c (bare c) (routine_address (run_number run.Begin)) begin_code (omega arith) refl h.begin;
  check = check;
  new = text_there c (bare c) new_address new_code (omega arith) refl h.new;
}
  where
    check : (named : Named) → HasAt (bare c) (routine_address (run_number (check_of named))) (check_code named)
    check AnExpression =
        text_there c (bare c) (routine_address (run_number (check_of AnExpression))) (check_code AnExpression)
        (omega arith) refl (h.check AnExpression)
    check AStatement =
        text_there c (bare c) (routine_address (run_number (check_of AStatement))) (check_code AStatement)
        (omega arith) refl (h.check AStatement)
    check AVariable =
        text_there c (bare c) (routine_address (run_number (check_of AVariable))) (check_code AVariable) (omega arith)
        refl (h.check AVariable)

puts_outside : (i : ℕ) (words : List ℕ) (b : Data) → (puts i words b).outside ≡ b.outside
puts_outside i [] b = refl
puts_outside i (x ∷ words) b = puts_outside (suc i) words (with_captured i x b)

pub ticks_below : TicksStayBelow
ticks_below text shared tick r xs words layout address bytes c a d g none low =
    let code = tick_code text tick r xs layout address in
    let s = ticks_made text shared tick r xs words layout address bytes (bare c) a d (record {
      routines = bare_routines c g.routines;
      specifications = g.specifications;
      spots = g.spots;
      size = g.size;
      generator = g.generator;
      few = g.few;
      stands = text_there c (bare c) a code low refl g.stands;
      low = g.low;
    }) none in
    let passed : s.after.outside ≡ d.outside = s.left.world.outside ∙ puts_outside 0 words _ in
    let flushes = ap (λ (o : Outside). o.flushes) passed in (
      record {
        after = s.after;
        runs = record {
          count = s.runs.count;
          over = s.runs.over;
          under = s.runs.under;
          reaches = runs_carried s.runs.count (at c a 0 d) (at c (past a code) 0 s.after) s.runs.reaches flushes;
        };
        number = s.number;
        specifications = s.specifications;
        left = s.left;
      },
      runs_below s.runs.count (at c a 0 d) (at (bare c) (past a code) 0 s.after) s.runs.reaches flushes,
      passed,
    )
