-- How far each statement goes with nothing pending.
use Rattle.std.proofs.Common.{◌≡◌, ap, sym, ◌∙◌}
use Rattle.typed_tree.specs.declared.expression.Stmt.TheVariants as st
use Rattle.typed_tree.specs.View.{expr_view, stmt_view}
use Rattle.typed_tree.proofs.Views.{stmt_view_block, stmt_view_if, stmt_view_ifelse, stmt_view_returnvalue}
use Rattle.eval_state.specs.Run.{run_of}
use Rattle.eval_state.specs.Views.{items_view}
use Rattle.eval_simple.proofs.Going as once
use Rattle.eval_statements.proofs.Starts as start
use Rattle.eval_statements.proofs.started.+going.Goals as goal

pub returns-then-is_empty : goal.returns-then-is_empty
returns-then-is_empty t c =
    start.like _ _ _ _ _ (ap stmt_view (c.in-Block.is ∙ ap (λ q. st.Block q c.in-Block.items) (sym c.as_slice.ensures)
    ∙ ap (λ q. st.Block c.as_slice.result.now q) (sym c.as_slice-in-Block.ensures)) ∙ stmt_view_block _ _)
    (start.block_bare (items_view c.as_slice.result.now) (items_view c.as_slice-in-Block.result.now) _
    (run_of c.args.m.now) (run_of c.ran_all.new.m) (start.none_left c.as_slice.result.now c.if-not-is_empty.ensures)
    (start.block_done (items_view c.as_slice-in-Block.result.now) (items_view c.in_ok-rest-in-Block.rest.now)
    (run_of c.args.m.now) (run_of c.ran_all.new.m) c.in_ok-rest-in-Block.ensures
    (start.none_left c.in_ok-rest-in-Block.rest.now c.if-is_empty.ensures)))

pub returns-else-is_empty : goal.returns-else-is_empty
returns-else-is_empty t c =
    start.like _ _ _ _ _ (ap stmt_view (c.in-Block.is ∙ ap (λ q. st.Block q c.in-Block.items) (sym c.as_slice.ensures)
    ∙ ap (λ q. st.Block c.as_slice.result.now q) (sym c.as_slice-in-Block.ensures)) ∙ stmt_view_block _ _)
    (start.block_bare (items_view c.as_slice.result.now) (items_view c.as_slice-in-Block.result.now) _
    (run_of c.args.m.now) (run_of c.ran_all.new.m) (start.none_left c.as_slice.result.now c.if-not-is_empty.ensures)
    (start.block_left (items_view c.as_slice-in-Block.result.now) (items_view c.in_ok-rest-in-Block.rest.now)
    (run_of c.args.m.now) (run_of c.ran_all.new.m) c.in_ok-rest-in-Block.ensures))

pub returns-then-v-eq0 : goal.returns-then-v-eq0
returns-then-v-eq0 t c =
    start.like _ _ _ _ _ (ap stmt_view (c.in-If.is ∙ ap (λ q. st.If q c.in-If.then) (sym c.get.ensures)) ∙
    stmt_view_if _ _)
    (start.test_fails _ _ c.in-Some.v _ (run_of c.at_once.new.m) c.if-v-eq0.true
    (once.done c.in_ok-at_once-in-If.field-0 (expr_view c.get.result.now) c.args.m.now c.at_once.new.m c.in-Some.v
    c.in_ok-at_once-in-If.ensures c.in-Some.is))

pub returns-else-v-eq0 : goal.returns-else-v-eq0
returns-else-v-eq0 t c =
    start.then_goes c.going.result _ _ _ c.in-Some.v _ (run_of c.at_once.new.m) _
    (ap stmt_view (c.in-If.is ∙ ap (λ q. st.If q c.in-If.then) (sym c.get.ensures) ∙ ap (λ q. st.If
    c.get.result.now q) (sym c.get-in-Some.ensures)) ∙ stmt_view_if _ _)
    c.if-v-eq0.false
    (once.done c.in_ok-at_once-in-If.field-0 (expr_view c.get.result.now) c.args.m.now c.at_once.new.m c.in-Some.v
    c.in_ok-at_once-in-If.ensures c.in-Some.is)
    c.going.ensures

pub returns-then-v-eq0-2 : goal.returns-then-v-eq0-2
returns-then-v-eq0-2 t c =
    start.second_goes c.going-then-v-eq0-2.result _ _ _ _ c.in-Some-2.v _ (run_of c.at_once-in-IfElse.new.m) _
    (ap stmt_view (c.in-IfElse.is ∙ ap (λ q. st.IfElse q c.in-IfElse.then c.in-IfElse.other) (sym
    c.get-in-IfElse.ensures) ∙ ap (λ q. st.IfElse c.get-in-IfElse.result.now c.in-IfElse.then q) (sym
    c.get-then-v-eq0-2.ensures)) ∙ stmt_view_ifelse _ _ _)
    c.if-v-eq0-2.true
    (once.done c.in_ok-at_once-in-IfElse.field-0 (expr_view c.get-in-IfElse.result.now) c.args.m.now
    c.at_once-in-IfElse.new.m c.in-Some-2.v c.in_ok-at_once-in-IfElse.ensures c.in-Some-2.is)
    c.going-then-v-eq0-2.ensures

pub returns-else-v-eq0-2 : goal.returns-else-v-eq0-2
returns-else-v-eq0-2 t c =
    start.first_goes c.going-in-Some-2.result _ _ _ _ c.in-Some-2.v _ (run_of c.at_once-in-IfElse.new.m) _
    (ap stmt_view (c.in-IfElse.is ∙ ap (λ q. st.IfElse q c.in-IfElse.then c.in-IfElse.other) (sym
    c.get-in-IfElse.ensures) ∙ ap (λ q. st.IfElse c.get-in-IfElse.result.now q c.in-IfElse.other) (sym
    c.get-in-Some-2.ensures)) ∙ stmt_view_ifelse _ _ _)
    c.if-v-eq0-2.false
    (once.done c.in_ok-at_once-in-IfElse.field-0 (expr_view c.get-in-IfElse.result.now) c.args.m.now
    c.at_once-in-IfElse.new.m c.in-Some-2.v c.in_ok-at_once-in-IfElse.ensures c.in-Some-2.is)
    c.going-in-Some-2.ensures

pub returns-in-Some-3 : goal.returns-in-Some-3
returns-in-Some-3 t c =
    start.like _ _ _ _ _ (ap stmt_view (c.in-ReturnValue.is ∙ ap (λ q. st.ReturnValue q) (sym
    c.get-in-ReturnValue.ensures)) ∙ stmt_view_returnvalue _)
    (start.returns _ c.in-Some-3.v _ (run_of c.at_once-in-ReturnValue.new.m)
    (once.done c.in_ok-at_once-in-ReturnValue.field-0 (expr_view c.get-in-ReturnValue.result.now) c.args.m.now
    c.at_once-in-ReturnValue.new.m c.in-Some-3.v c.in_ok-at_once-in-ReturnValue.ensures c.in-Some-3.is))
