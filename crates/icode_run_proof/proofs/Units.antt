-- The steps of a compile: a unit, in which the machine goes on towards the place before the function is published; and
-- the last, behind which it is there.
use Rattle.std.proofs.Common.{◌≡◌, inl, inr, ℕ, suc, ◌+◌, ◌-◌, ◌*◌, ◌≤◌, List, sym, ap}
use Rattle.std.proofs.Common.{◌∙◌, subst, arith}
use Rattle.std.specs.Fn.{iterate}
use Rattle.std.proofs.lemmas.Bool.{cases_lt}
use Rattle.pace.proofs.Runs.{iterate_add}
use Rattle.history.specs.Syntax.{Syntax}
use Rattle.mips_model.specs.State.{World}
use Rattle.mips_model.specs.Steps.{step}
use Rattle.mips_model.specs.Run.{IsWellChosen, IsFine}
use Rattle.mips_model_laws.specs.Tales.{Tale, tell}
use Rattle.mips_model_laws.specs.Clean.{IsUnspoiled}
use Rattle.mips_model_laws.proofs.Seam.{world_of_tale, unspoiled_tale}
use Rattle.mips_model_laws.proofs.Unspoiled.{unspoiled_front, unspoiled_behind}
use Rattle.icode_meaning.specs.State.{Frame, Log, Compiling}
use Rattle.icode_meaning.specs.Steps.{compiled, node_paid}
use Rattle.icode_run_proof.specs.Relation.{Base, CompilesAt, OnWay}
use Rattle.icode_run_proof.proofs.Stepping.{Stepped}

-- fine at first and fine from there on
fine_on : (m n : ℕ) (w : World) → IsFine m w → IsFine n (iterate step m w) → IsFine (m + n) w
fine_on m n w first second i l = elim (cases_lt i m) [
  | inl less ↦ first i less
  | inr more ↦ (let e : m + (i - m) ≡ i = omega (arith, more) in
      subst (λ k. IsWellChosen (iterate step k w)) e
      (subst IsWellChosen (sym (iterate_add step m (i - m) w)) (second (i - m) (omega (arith, l, more)))))
]

-- how far a unit goes: as far as leaves one instruction for each node, and 512 at most
record Far (more rest : ℕ) : Type 0 where
  by : ℕ
  within : by ≤ rest
  least : 1 ≤ by
  most : by ≤ 512
  low : more ≤ rest - by
  high : rest - by ≤ 512 * more

far : (more rest : ℕ) → suc more ≤ rest → rest ≤ 512 * suc more → Far more rest
far more rest low high = elim (cases_lt (rest - more) 512) [
  | inl few ↦ record {
    by = rest - more;
    within = omega arith;
    least = omega (arith, low);
    most = omega (arith, few);
    low = omega (arith, low);
    high = omega (arith, low);
  }
  | inr many ↦ record {
    by = 512;
    within = omega (arith, many);
    least = omega arith;
    most = omega arith;
    low = omega (arith, many);
    high = omega (arith, high);
  }
]

-- Where the choices of the next 512 instructions are legal, a unit is done in at least one of them and at most these.
pub unit_step : (b : Base) (more : ℕ) (syntax : Syntax) (to : ℕ) (w : Frame) (waiting : List Frame) (log : Log)
    (t : Tale) → CompilesAt b (suc more) syntax to w waiting log t → IsFine 512 t.world
    → Stepped b log (Compiling more syntax to w waiting (node_paid log)) t
unit_step b more syntax to w waiting log t c fine =
    let f = far more c.rest c.low c.high in
    let by = f.by in
    let left = c.rest - by in
    let within = f.within in
    let most = f.most in
    let same : by + (left + c.after) ≡ c.rest + c.after = omega (arith, within) in
    record {
      count = by;
      low = omega (arith, f.least);
      high = omega (arith, f.most);
      related = record {
        told_is = c.quiet by within ∙ c.told_is;
        rest = left;
        low = f.low;
        high = f.high;
        goes = λ k l. ap (λ (x : Tale). x.world.ending) (sym (iterate_add tell by k t))
            ∙ c.goes (by + k) (omega (arith, l, within));
        quiet = λ k l. ap (λ (x : Tale). x.told) (sym (iterate_add tell by k t))
            ∙ c.quiet (by + k) (omega (arith, l, within)) ∙ sym (c.quiet by within);
        after = c.after;
        unspoiled = subst (IsUnspoiled (left + c.after)) (sym (world_of_tale by t))
            (unspoiled_behind by (left + c.after) t.world
            (subst (λ n. IsUnspoiled n t.world) (sym same) c.unspoiled));
        least = c.least;
        most = c.most;
        comes = λ later least most_paid.
            let all : IsFine (c.rest + c.after) t.world =
            subst (λ n. IsFine n t.world) same
            (fine_on by (left + c.after) t.world (λ i l. fine i (omega (arith, l, most)))
            (subst (IsFine (left + c.after)) (world_of_tale by t) later)) in
            subst (OnWay b (compiled b.program syntax to w waiting (record log { least = least; most = most_paid })))
            (ap (λ n. iterate tell n t) (sym same) ∙ iterate_add tell by (left + c.after) t)
            (c.comes all least most_paid);
      };
      calm = unspoiled_tale by t (unspoiled_front by (c.rest + c.after) t.world (omega (arith, within)) c.unspoiled);
    }

-- And behind the last node the function is there, where the choices are legal for what the op still costs.
pub last_step : (b : Base) (syntax : Syntax) (to : ℕ) (w : Frame) (waiting : List Frame) (log : Log) (t : Tale)
    → CompilesAt b 0 syntax to w waiting log t → IsFine 75 t.world
    → Stepped b log (compiled b.program syntax to w waiting log) t
last_step b syntax to w waiting log t c fine =
    let none = c.high in
    let count = c.rest + c.after in
    record {
      count = count;
      low = omega (arith, c.least);
      high = omega (arith, none, c.most);
      related = c.comes (λ i l. fine i (omega (arith, l, none, c.most))) log.least log.most;
      calm = unspoiled_tale count t c.unspoiled;
    }
