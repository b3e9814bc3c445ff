-- What each statement does as it begins.
use Rattle.std.proofs.Common.{ap, sym, ◌∙◌}
use Rattle.typed_tree.specs.declared.expression.Stmt.TheVariants as st
use Rattle.typed_tree.specs.View.{stmt_view}
use Rattle.typed_tree.proofs.Views.{stmt_view_eval, stmt_view_block, stmt_view_variable, stmt_view_object}
use Rattle.typed_tree.proofs.Views.{stmt_view_parameter, stmt_view_parameterobject, stmt_view_if, stmt_view_ifelse}
use Rattle.typed_tree.proofs.Views.{stmt_view_while, stmt_view_do, stmt_view_for, stmt_view_forstep}
use Rattle.typed_tree.proofs.Views.{stmt_view_switch, stmt_view_case, stmt_view_default, stmt_view_break}
use Rattle.typed_tree.proofs.Views.{stmt_view_continue, stmt_view_return, stmt_view_returnvalue}
use Rattle.eval_state.specs.Run.{run_of}
use Rattle.eval_statements.proofs.Executed as done
use Rattle.eval_statements.proofs.begin.begin.Goals as goal

pub returns-in-Eval : goal.returns-in-Eval
returns-in-Eval c =
    done.opens _ _ _ _ _ _ _ (ap stmt_view (c.in-Eval.is ∙ ap (λ q. st.Eval q) (sym c.get.ensures)) ∙ stmt_view_eval
    _) (done.dropped _) c.wait.ensures

pub returns-in-Block : goal.returns-in-Block
returns-in-Block c =
    done.begins _ _ _ _ _ (ap stmt_view (c.in-Block.is ∙ ap (λ q. st.Block q c.in-Block.items) (sym
    c.as_slice.ensures) ∙ ap (λ q. st.Block c.as_slice.result.now q) (sym c.as_slice-in-Block.ensures)) ∙
    stmt_view_block _ _) c.block.ensures.same c.block.ensures.units c.block.ensures.less

pub returns-in_ok-set_variable-in-Variable : goal.returns-in_ok-set_variable-in-Variable
returns-in_ok-set_variable-in-Variable c =
    done.variable _ _ _ (run_of c.args.m.now) (run_of c.set_variable.new.self) (run_of c.spend.new.self)
    (ap stmt_view (c.in-Variable.is) ∙ stmt_view_variable _) c.in_ok-set_variable-in-Variable.ensures
    c.spend.ensures.same c.spend.ensures.units c.spend.ensures.less

pub returns-in-Object : goal.returns-in-Object
returns-in-Object c =
    done.object _ _ _ _ _ _ (ap stmt_view (c.in-Object.is) ∙ stmt_view_object _ _) c.clear.ensures.same
    c.clear.ensures.units c.clear.ensures.less

pub returns-in_ok-set_variable-in-Parameter : goal.returns-in_ok-set_variable-in-Parameter
returns-in_ok-set_variable-in-Parameter c =
    done.parameter _ _ _ _ (run_of c.args.m.now) (run_of c.set_variable-in-Parameter.new.self)
    (ap stmt_view (c.in-Parameter.is) ∙ stmt_view_parameter _ _) c.passed-v.ensures
    c.in_ok-set_variable-in-Parameter.ensures

pub returns-in-Ok : goal.returns-in-Ok
returns-in-Ok c =
    done.parameter_object _ _ _ _ _ _ (run_of c.args.m.now) (run_of c.store.new.self)
    (ap stmt_view (c.in-ParameterObject.is) ∙ stmt_view_parameterobject _ _ _) c.passed-v-in-ParameterObject.ensures
    c.in_ok-at-in-ParameterObject.ensures c.in-Ok.ensures.1

pub returns-in-If : goal.returns-in-If
returns-in-If c =
    done.opens _ _ _ _ _ _ _ (ap stmt_view (c.in-If.is ∙ ap (λ q. st.If c.in-If.e q) (sym c.get-in-If.ensures) ∙ ap
    (λ q. st.If q c.get-in-If.result.now) (sym c.get-in-If-2.ensures)) ∙ stmt_view_if _ _) (done.if_then _ _)
    c.wait-in-If.ensures

pub returns-in-IfElse : goal.returns-in-IfElse
returns-in-IfElse c =
    done.opens _ _ _ _ _ _ _ (ap stmt_view (c.in-IfElse.is ∙ ap (λ q. st.IfElse c.in-IfElse.e q c.in-IfElse.t) (sym
    c.get-in-IfElse.ensures) ∙ ap (λ q. st.IfElse c.in-IfElse.e c.get-in-IfElse.result.now q) (sym
    c.get-in-IfElse-2.ensures) ∙ ap (λ q. st.IfElse q c.get-in-IfElse.result.now c.get-in-IfElse-2.result.now) (sym
    c.get-in-IfElse-3.ensures)) ∙ stmt_view_ifelse _ _ _) (done.if_else _ _ _) c.wait-in-IfElse.ensures

pub returns-in-While : goal.returns-in-While
returns-in-While c =
    done.while_loop _ _ _ _ _ _ _ (ap stmt_view (c.in-While.is ∙ ap (λ q. st.While q c.in-While.s) (sym
    c.get-in-While.ensures) ∙ ap (λ q. st.While c.get-in-While.result.now q) (sym c.get-in-While-2.ensures)) ∙
    stmt_view_while _ _) c.turns-more.ensures c.turn.ensures

pub returns-in-Do : goal.returns-in-Do
returns-in-Do c =
    done.do_loop _ _ _ _ _ _ _ (ap stmt_view (c.in-Do.is ∙ ap (λ q. st.Do q c.in-Do.e) (sym c.get-s.ensures) ∙ ap
    (λ q. st.Do c.get-s.result.now q) (sym c.get-in-Do.ensures)) ∙ stmt_view_do _ _) c.turns-more-in-Do.ensures
    c.push.ensures.same c.push.ensures.units c.push.ensures.less

pub returns-in-For : goal.returns-in-For
returns-in-For c =
    done.for_loop _ _ _ _ _ _ _ (ap stmt_view (c.in-For.is ∙ ap (λ q. st.For q c.in-For.s) (sym c.get-in-For.ensures)
    ∙ ap (λ q. st.For c.get-in-For.result.now q) (sym c.get-in-For-2.ensures)) ∙ stmt_view_for _ _)
    c.turns-more-in-For.ensures c.turn-in-For.ensures

pub returns-in-ForStep : goal.returns-in-ForStep
returns-in-ForStep c =
    done.for_step _ _ _ _ _ _ _ _ (ap stmt_view (c.in-ForStep.is ∙ ap (λ q. st.ForStep q c.in-ForStep.step
    c.in-ForStep.s) (sym c.get-in-ForStep.ensures) ∙ ap (λ q. st.ForStep c.get-in-ForStep.result.now q
    c.in-ForStep.s) (sym c.get-in-ForStep-2.ensures) ∙ ap (λ q. st.ForStep c.get-in-ForStep.result.now
    c.get-in-ForStep-2.result.now q) (sym c.get-in-ForStep-3.ensures)) ∙ stmt_view_forstep _ _ _)
    c.turns-more-in-ForStep.ensures c.turn-in-ForStep.ensures

pub returns-in-Switch : goal.returns-in-Switch
returns-in-Switch c =
    done.opens _ _ _ _ _ _ _ (ap stmt_view (c.in-Switch.is ∙ ap (λ q. st.Switch c.in-Switch.e q c.in-Switch.items)
    (sym c.as_slice-in-Switch.ensures) ∙ ap (λ q. st.Switch c.in-Switch.e c.as_slice-in-Switch.result.now q) (sym
    c.as_slice-in-Switch-2.ensures) ∙ ap (λ q. st.Switch q c.as_slice-in-Switch.result.now
    c.as_slice-in-Switch-2.result.now) (sym c.get-in-Switch.ensures)) ∙ stmt_view_switch _ _ _) (done.switch_on _ _
    _) c.wait-in-Switch.ensures

pub returns-in-Case : goal.returns-in-Case
returns-in-Case c = done.case_ends _ _ _ (ap stmt_view (c.in-Case.is) ∙ stmt_view_case _)

pub returns-in-Default : goal.returns-in-Default
returns-in-Default c = done.default_ends _ _ (ap stmt_view c.in-Default.is ∙ stmt_view_default)

pub returns-in-Break : goal.returns-in-Break
returns-in-Break c = done.break_ends _ _ (ap stmt_view c.in-Break.is ∙ stmt_view_break)

pub returns-in-Continue : goal.returns-in-Continue
returns-in-Continue c = done.continue_ends _ _ (ap stmt_view c.in-Continue.is ∙ stmt_view_continue)

pub returns-in-Return : goal.returns-in-Return
returns-in-Return c = done.return_ends _ _ (ap stmt_view c.in-Return.is ∙ stmt_view_return)

pub returns-in-ReturnValue : goal.returns-in-ReturnValue
returns-in-ReturnValue c =
    done.opens _ _ _ _ _ _ _ (ap stmt_view (c.in-ReturnValue.is ∙ ap (λ q. st.ReturnValue q) (sym
    c.get-in-ReturnValue.ensures)) ∙ stmt_view_returnvalue _) (done.return_value _) c.wait-in-ReturnValue.ensures
