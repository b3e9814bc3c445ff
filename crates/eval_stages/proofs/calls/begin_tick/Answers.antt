use Rattle.std.proofs.Common.{slice_get, arith, Some, None, ap, sym, ◌∙◌}
use Rattle.std.specs.Option.{option_map}
use Rattle.typed_tree.specs.declared.expression.Expr.{Expr}
use Rattle.typed_tree.specs.declared.expression.Stmt.{Stmt}
use Rattle.typed_tree.specs.declared.program.Tick.{Tick}
use Rattle.typed_tree.specs.declared.program.TickBody.{TickBody}
use Rattle.meaning_state.specs.Rows.{numbered}
use Rattle.typed_tree.specs.View.{expr_view, stmt_view}
use Rattle.staged_meaning.specs.Program.{OfExpression, OfStatement}
use Rattle.staged_meaning.specs.Source.{tick_view}
use Rattle.eval_state.specs.declared.state.Parts.{Parts}
use Rattle.eval_state.proofs.Codes.{tick_begins, tick_there}
use Rattle.eval_state.specs.Burden.{weight_of_tick}
use Rattle.eval_state.specs.Run.{run_of}
use Rattle.eval_state.proofs.Lightens.{weighed}
use Rattle.eval_stages.proofs.calls.begin_tick.Goals as goal

pub returns-in-None-find-clause-same : goal.returns-in-None-find-clause-same
returns-in-None-find-clause-same c =
    let p = c.args.m.now in
    let row = c.in-Some.row.now in
    let named = ap (λ (q : Parts). numbered q.body.row c.args.m.now.rows) (sym c.m.view_is)
    ∙ sym c.in-Some.ensures in
    let ticks = c.ticks.ensures ∙ ap (λ (p : Parts). p.typed.now.ticks) c.m.view_is in
    let at = ap (λ ts. slice_get ts row.tick) (sym ticks) ∙ sym c.in-None-find.ensures in
    tick_begins p row None c.keeps_law.ensures named c.requires
    (ap (option_map (λ (t : Tick). tick_view t.body)) at)

pub returns-in-Expression-clause-same : goal.returns-in-Expression-clause-same
returns-in-Expression-clause-same c =
    let p = c.args.m.now in
    let row = c.in-Some.row.now in
    let named = ap (λ (q : Parts). numbered q.body.row c.args.m.now.rows) (sym c.m.view_is)
    ∙ sym c.in-Some.ensures in
    let ticks = c.ticks.ensures ∙ ap (λ (p : Parts). p.typed.now.ticks) c.m.view_is in
    let at = ap (λ ts. slice_get ts row.tick) (sym ticks) ∙ sym c.in-Some-find.ensures in
    let is = ap (λ (b : TickBody). Some (tick_view b)) c.in-Expression.is
    ∙ ap (λ (e : Expr). Some (OfExpression (expr_view e))) (sym c.get.ensures) in
    tick_begins p row (Some (OfExpression (expr_view c.get.result.now))) c.keeps_law.ensures named c.requires
    (ap (option_map (λ (t : Tick). tick_view t.body)) at ∙ is)

pub returns-in-Statement-clause-same : goal.returns-in-Statement-clause-same
returns-in-Statement-clause-same c =
    let p = c.args.m.now in
    let row = c.in-Some.row.now in
    let named = ap (λ (q : Parts). numbered q.body.row c.args.m.now.rows) (sym c.m.view_is)
    ∙ sym c.in-Some.ensures in
    let ticks = c.ticks.ensures ∙ ap (λ (p : Parts). p.typed.now.ticks) c.m.view_is in
    let at = ap (λ ts. slice_get ts row.tick) (sym ticks) ∙ sym c.in-Some-find.ensures in
    let is = ap (λ (b : TickBody). Some (tick_view b)) c.in-Statement.is
    ∙ ap (λ (s : Stmt). Some (OfStatement (stmt_view s))) (sym c.get-in-Statement.ensures) in
    tick_begins p row (Some (OfStatement (stmt_view c.get-in-Statement.result.now))) c.keeps_law.ensures named
    c.requires
    (ap (option_map (λ (t : Tick). tick_view t.body)) at ∙ is)

pub returns-in-Expression-clause-less : goal.returns-in-Expression-clause-less
returns-in-Expression-clause-less c =
    let p = c.args.m.now in
    let row = c.in-Some.row.now in
    let named = ap (λ (q : Parts). numbered q.body.row c.args.m.now.rows) (sym c.m.view_is)
    ∙ sym c.in-Some.ensures in
    let ticks = c.ticks.ensures ∙ ap (λ (p : Parts). p.typed.now.ticks) c.m.view_is in
    let at = ap (λ ts. slice_get ts row.tick) (sym ticks) ∙ sym c.in-Some-find.ensures in
    let is = ap (λ (b : TickBody). Some (tick_view b)) c.in-Expression.is
    ∙ ap (λ (e : Expr). Some (OfExpression (expr_view e))) (sym c.get.ensures) in
    let weighs = ap (weight_of_tick (weighed (run_of p))) (tick_there p row
    (Some (OfExpression (expr_view c.get.result.now)))
    c.keeps_law.ensures named c.requires (ap (option_map (λ (t : Tick). tick_view t.body)) at ∙ is)) in
    omega (arith, weighs)

pub returns-in-Statement-clause-less : goal.returns-in-Statement-clause-less
returns-in-Statement-clause-less c =
    let p = c.args.m.now in
    let row = c.in-Some.row.now in
    let named = ap (λ (q : Parts). numbered q.body.row c.args.m.now.rows) (sym c.m.view_is)
    ∙ sym c.in-Some.ensures in
    let ticks = c.ticks.ensures ∙ ap (λ (p : Parts). p.typed.now.ticks) c.m.view_is in
    let at = ap (λ ts. slice_get ts row.tick) (sym ticks) ∙ sym c.in-Some-find.ensures in
    let is = ap (λ (b : TickBody). Some (tick_view b)) c.in-Statement.is
    ∙ ap (λ (s : Stmt). Some (OfStatement (stmt_view s))) (sym c.get-in-Statement.ensures) in
    let weighs = ap (weight_of_tick (weighed (run_of p))) (tick_there p row
    (Some (OfStatement (stmt_view c.get-in-Statement.result.now)))
    c.keeps_law.ensures named c.requires (ap (option_map (λ (t : Tick). tick_view t.body)) at ∙ is)) in
    omega (arith, weighs)
