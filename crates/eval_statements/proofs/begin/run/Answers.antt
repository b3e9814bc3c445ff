use Rattle.std.proofs.Common.{◌≡◌, ◌≤◌, List, refl, ap, sym, subst, ◌∙◌, arith}
use Rattle.typed_tree.specs.declared.expression.Stmt.{Stmt}
use Rattle.typed_tree.specs.Nodes as node
use Rattle.typed_tree.specs.View.{stmt_view}
use Rattle.staged_meaning.specs.World as world
use Rattle.eval_state.specs.Pending as pending
use Rattle.eval_state.specs.Less.{heft}
use Rattle.eval_state.specs.Run.{outcome, run_of}
use Rattle.eval_state.specs.Views.{items_view, now_view}
use Rattle.eval_simple.proofs.Going as going
use Rattle.eval_statements.specs.Ran.{IsGoing}
use Rattle.eval_statements.proofs.AtOnce as once
use Rattle.eval_simple.proofs.Going.{same_as}
use Rattle.eval_statements.proofs.Starts as start
use Rattle.eval_statements.proofs.begin.run.Goals as goal

pub loop-s-preserved : goal.loop-s-preserved
loop-s-preserved c =
    let s = stmt_view c.in-Some.s.now in
    let more = items_view c.in-Some.more.now in
    let r = run_of c.loop-s.m in
    let t = run_of c.going.new.m in
    let it : IsGoing s (pending.Left world.Normal) r t =
    subst (λ n. IsGoing s n r t) (c.if-not-is_through.ensures refl) c.in_ok-next.ensures in
    record {
      same = start.goes_behind s more r t it
          ∙ ap (λ (l : List Stmt). outcome (pending.Run (items_view l)) r) (sym c.in-Some.ensures.cases.0)
          ∙ c.loop-s.invariant.same;
      units = omega (arith, start.goes_fewer s (pending.Left world.Normal) r t it, c.loop-s.invariant.units);
      less = start.lightens_on r t (run_of c.args.m.now) (heft (pending.Run more) t)
          (heft (pending.Run (node.Item s more)) r) (heft (pending.Run (items_view c.args.list.now)) (run_of
          c.args.m.now))
          (start.goes_fewer s (pending.Left world.Normal) r t it) c.loop-s.invariant.units
          (start.behind_lighter s (pending.Left world.Normal) more r t it)
          (subst (λ (l : List Stmt). r.state.units ≡ (run_of c.args.m.now).state.units
          → heft (pending.Run (items_view l)) r ≤ heft (pending.Run (items_view c.args.list.now)) (run_of
          c.args.m.now))
          c.in-Some.ensures.cases.0 c.loop-s.invariant.less);
    }

pub returns-then-not-is_through-clause-same : goal.returns-then-not-is_through-clause-same
returns-then-not-is_through-clause-same c =
    same_as c.before_items.result (run_of c.before_items.new.m) _ _ c.before_items.ensures.same
    (start.leads_behind (stmt_view c.in-Some.s.now) (now_view c.in_ok-next.next) (items_view c.in-Some.more.now)
    (run_of c.loop-s.m) (run_of c.going.new.m) c.in_ok-next.ensures
    ∙ ap (λ (l : List Stmt). outcome (pending.Run (items_view l)) (run_of c.loop-s.m))
    (sym c.in-Some.ensures.cases.0)
    ∙ c.loop-s.invariant.same)

pub returns-then-not-is_through-clause-units : goal.returns-then-not-is_through-clause-units
returns-then-not-is_through-clause-units c =
    once.units_behind c.before_items.result (run_of c.going.new.m) (run_of c.before_items.new.m)
    (run_of c.args.m.now)
    (omega (
      arith,
      start.goes_fewer (stmt_view c.in-Some.s.now) (now_view c.in_ok-next.next) (run_of c.loop-s.m)
          (run_of c.going.new.m) c.in_ok-next.ensures,
      c.loop-s.invariant.units,
    ))
    c.before_items.ensures.units

pub returns-then-not-is_through-clause-less : goal.returns-then-not-is_through-clause-less
returns-then-not-is_through-clause-less c =
    let s = stmt_view c.in-Some.s.now in
    let more = items_view c.in-Some.more.now in
    let n = now_view c.in_ok-next.next in
    let r = run_of c.loop-s.m in
    let t = run_of c.going.new.m in
    let u = run_of c.before_items.new.m in
    going.lighter_yet c.before_items.result (run_of c.args.m.now) r u (heft (pending.Run (node.Item s more)) r)
    (heft (pending.Run (items_view c.args.list.now)) (run_of c.args.m.now)) c.loop-s.invariant.units
    (subst (λ (l : List Stmt). r.state.units ≡ (run_of c.args.m.now).state.units
    → heft (pending.Run (items_view l)) r ≤ heft (pending.Run (items_view c.args.list.now)) (run_of c.args.m.now))
    c.in-Some.ensures.cases.0 c.loop-s.invariant.less)
    (once.units_behind c.before_items.result t u r (start.goes_fewer s n r t c.in_ok-next.ensures)
    c.before_items.ensures.units)
    (start.items_lighter c.before_items.result more s n r t u c.in_ok-next.ensures c.before_items.ensures.units
    c.before_items.ensures.less)
