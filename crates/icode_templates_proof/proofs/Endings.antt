-- A run that ends behind straight code.
use Rattle.std.proofs.Common.{◌≡◌, ℕ, ◌+◌, ◌≤◌, ap, ◌∙◌, subst, arith}
use Rattle.std.specs.Fn.{iterate}
use Rattle.pace.proofs.Runs.{iterate_add}
use Rattle.history.specs.Events.{End}
use Rattle.mips_model.specs.State.{Outside, Code, Data, State, World}
use Rattle.mips_model.specs.Steps.{going, ended, step}
use Rattle.mips_model.specs.Laws.{at}
use Rattle.icode_templates_proof.specs.Moves.{Runs}
use Rattle.icode_templates_proof.specs.Moves.{EndsIn}

-- the next instruction ends the run
pub ends_now : (end : End) (c : Code) (a : ℕ) (d : Data) → step (going (at c a 0 d)) ≡ ended end (at c a 0 d) →
    EndsIn 1 1 end (at c a 0 d) c d.outside
ends_now end c a d e = record {
  count = 1;
  over = omega arith;
  under = omega arith;
  ending = ap (λ (w : World). w.ending) e;
  outside_is = ap (λ (w : World). w.state.d.outside) e;
  code_is = ap (λ (w : World). w.state.code) e;
}

-- it ends behind another run
pub ends_behind : {l m l' m' : ℕ} {s mid : State} {end : End} {c : Code} {outside : Outside} → Runs l m s mid →
    EndsIn l' m' end mid c outside → EndsIn (l + l') (m + m') end s c outside
ends_behind {l} {m} {l'} {m'} {s} {mid} {end} {c} {outside} r e =
    let by : iterate step (r.count + e.count) (going s) ≡ iterate step e.count (going mid) =
    iterate_add step r.count e.count (going s) ∙ ap (iterate step e.count) r.reaches.by in
    record {
      count = r.count + e.count;
      over = omega (arith, r.over, e.over);
      under = omega (arith, r.under, e.under);
      ending = ap (λ (w : World). w.ending) by ∙ e.ending;
      outside_is = ap (λ (w : World). w.state.d.outside) by ∙ e.outside_is;
      code_is = ap (λ (w : World). w.state.code) by ∙ e.code_is;
    }

pub ends_wider : {l m l' m' : ℕ} {s : State} {end : End} {c : Code} {outside : Outside} → l' ≤ l → m ≤ m' →
    EndsIn l m end s c outside → EndsIn l' m' end s c outside
ends_wider lo hi e = record {
  count = e.count;
  over = omega (arith, lo, e.over);
  under = omega (arith, hi, e.under);
  ending = e.ending;
  outside_is = e.outside_is;
  code_is = e.code_is;
}

pub ends_with : {l m : ℕ} {s : State} {end : End} {c : Code} {outside outside' : Outside} → outside ≡ outside' →
    EndsIn l m end s c outside → EndsIn l m end s c outside'
ends_with {l} {m} {s} {end} {c} {outside} {outside'} q e = subst (λ o. EndsIn l m end s c o) q e
