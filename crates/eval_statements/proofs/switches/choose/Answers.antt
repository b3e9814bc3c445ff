use Rattle.std.proofs.Common.{◌≡◌, ◌≢◌, ◌-◌, List, ap, refl, sym, arith, ◌∙◌}
use Rattle.typed_tree.specs.declared.expression.Stmt.{Stmt}
use Rattle.eval_state.specs.Rest.{left}
use Rattle.eval_state.specs.Run.{Run, leads, run_of, with_units, world}
use Rattle.eval_state.specs.Views.{items_view}
use Rattle.eval_simple.proofs.Going.{same_as}
use Rattle.eval_statements.proofs.Labels.{choose_lightens, comparing, goes_on, runs_behind, spent_still}
use Rattle.eval_statements.proofs.switches.choose.Goals as goal

pub returns-then-value-v-clause-same : goal.returns-then-value-v-clause-same
returns-then-value-v-clause-same c =
    let r = run_of c.loop-s.m in
    let s = c.in-Some.s.now in
    let more = c.in-Some.more.now in
    same_as c.push.result (run_of c.push.new.self) _ _ c.push.ensures.same
    (runs_behind r c.args.v c.args.items.now s more (run_of c.spend_one.new.self) c.in-Some-label_of.value
    (sym c.in-Some-label_of.ensures) (c.if-not-spend_one.ensures.some refl) c.if-value-v.true
    ∙ ap (λ (l : List Stmt). leads r (left (comparing r c.args.v c.args.items.now l))) (sym c.in-Some.ensures.cases.0)
    ∙ c.loop-s.invariant.same)

pub returns-clause-less : goal.returns-clause-less
returns-clause-less c =
    choose_lightens c.otherwise.result (run_of c.otherwise.new.m) (run_of c.loop-s.m) (run_of c.args.m.now) c.args.v
    (items_view c.args.items.now) c.loop-s.invariant.units c.loop-s.invariant.still c.otherwise.ensures.units
    c.otherwise.ensures.less

pub loop-s-preserved-else-value-v : goal.loop-s-preserved-else-value-v
loop-s-preserved-else-value-v c =
    let r = run_of c.loop-s.m in
    let s = c.in-Some.s.now in
    let more = c.in-Some.more.now in
    let one : ((world r).units ≢ 0) × (run_of c.spend_one.new.self ≡ with_units ((world r).units - 1) r) =
    c.if-not-spend_one.ensures.some refl in
    let fewer : (run_of c.spend_one.new.self).state.units ≡ r.state.units - 1 = ap (λ (q : Run). q.state.units) one.1 in
    record {
      same = goes_on r c.args.v c.args.items.now s more (run_of c.spend_one.new.self) c.in-Some-label_of.value
          (sym c.in-Some-label_of.ensures) one c.if-value-v.false
          ∙ ap (λ (l : List Stmt). leads r (left (comparing r c.args.v c.args.items.now l)))
          (sym c.in-Some.ensures.cases.0)
          ∙ c.loop-s.invariant.same;
      units = omega (arith, fewer, c.loop-s.invariant.units);
      still = spent_still r (run_of c.spend_one.new.self) (run_of c.args.m.now) one c.loop-s.invariant.still;
    }
