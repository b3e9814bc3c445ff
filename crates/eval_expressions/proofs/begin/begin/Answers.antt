-- What each node does as it begins.
use Rattle.std.proofs.Common.{ap, sym, ◌∙◌}
use Rattle.typed_tree.specs.declared.expression.Expr.TheVariants as e
use Rattle.typed_tree.specs.View.{expr_view}
use Rattle.eval_state.specs.Views.{args_view}
use Rattle.typed_tree.proofs.Views.{view_const, view_captured, view_var, view_setvar, view_postvar, view_vget}
use Rattle.typed_tree.proofs.Views.{view_vset, view_vpost, view_frame, view_load, view_store, view_modify}
use Rattle.typed_tree.proofs.Views.{view_post, view_bin, view_un, view_and, view_or, view_cond, view_comma}
use Rattle.typed_tree.proofs.Views.{view_void, view_call, view_callnumber, view_getchar, view_lib, view_tick}
use Rattle.typed_tree.proofs.Views.{view_capture, view_splice, view_compile, view_local, view_paramof}
use Rattle.eval_expressions.proofs.Begun as leaf
use Rattle.eval_expressions.proofs.Nodes as opened
use Rattle.eval_expressions.proofs.Steps.{begins, opens}
use Rattle.eval_expressions.proofs.begin.begin.Goals as goal

pub returns-in-Const : goal.returns-in-Const
returns-in-Const c = leaf.constant _ _ _ _ _ (ap expr_view (c.in-Const.is) ∙ view_const _) c.give.ensures

pub returns-in-Captured : goal.returns-in-Captured
returns-in-Captured c =
    leaf.captured _ _ _ _ _ _ _ (ap expr_view (c.in-Captured.is) ∙ view_captured _ _) c.captured-word.ensures
    c.give-in-Captured.ensures

pub returns-in-Var : goal.returns-in-Var
returns-in-Var c =
    leaf.variable _ _ _ _ _ _ (ap expr_view (c.in-Var.is) ∙ view_var _) c.variable-v.ensures c.give-in-Var.ensures

pub returns-in-SetVar : goal.returns-in-SetVar
returns-in-SetVar c =
    opens _ _ _ _ _ _ _ (ap expr_view (c.in-SetVar.is) ∙ view_setvar _ _) (opened.set_var _ _) c.open.ensures

pub returns-in-PostVar : goal.returns-in-PostVar
returns-in-PostVar c = begins _ _ _ _ _ (ap expr_view (c.in-PostVar.is) ∙ view_postvar _ _ _) c.post_variable.ensures

pub returns-in-VGet : goal.returns-in-VGet
returns-in-VGet c =
    leaf.generated _ _ _ _ _ _ (ap expr_view (c.in-VGet.is) ∙ view_vget _) c.generated-v.ensures
    c.give-in-VGet.ensures

pub returns-in-VSet : goal.returns-in-VSet
returns-in-VSet c =
    opens _ _ _ _ _ _ _ (ap expr_view (c.in-VSet.is) ∙ view_vset _ _) (opened.set_generated _ _)
    c.open-in-VSet.ensures

pub returns-in-VPost : goal.returns-in-VPost
returns-in-VPost c = begins _ _ _ _ _ (ap expr_view (c.in-VPost.is) ∙ view_vpost _ _) c.post_generated.ensures

pub returns-in-Frame : goal.returns-in-Frame
returns-in-Frame c = begins _ _ _ _ _ (ap expr_view (c.in-Frame.is) ∙ view_frame _) c.object.ensures

pub returns-in-Load : goal.returns-in-Load
returns-in-Load c =
    opens _ _ _ _ _ _ _ (ap expr_view (c.in-Load.is) ∙ view_load _ _) (opened.load _ _) c.open-in-Load.ensures

pub returns-in-Store : goal.returns-in-Store
returns-in-Store c =
    opens _ _ _ _ _ _ _ (ap expr_view (c.in-Store.is ∙ ap (λ q. e.Store c.in-Store.width c.in-Store.a q) (sym
    c.get.ensures)) ∙ view_store _ _ _) (opened.store _ _ _) c.open-in-Store.ensures

pub returns-in-Modify : goal.returns-in-Modify
returns-in-Modify c =
    opens _ _ _ _ _ _ _ (ap expr_view (c.in-Modify.is ∙ ap (λ q. e.Modify c.in-Modify.width c.in-Modify.kind
    c.in-Modify.a q) (sym c.get-in-Modify.ensures)) ∙ view_modify _ _ _ _) (opened.modify _ _ _ _)
    c.open-in-Modify.ensures

pub returns-in-Post : goal.returns-in-Post
returns-in-Post c =
    opens _ _ _ _ _ _ _ (ap expr_view (c.in-Post.is) ∙ view_post _ _ _) (opened.post _ _ _) c.open-in-Post.ensures

pub returns-in-Bin : goal.returns-in-Bin
returns-in-Bin c =
    begins _ _ _ _ _ (ap expr_view (c.in-Bin.is ∙ ap (λ q. e.Bin c.in-Bin.kind q c.in-Bin.b) (sym
    c.get-in-Bin.ensures) ∙ ap (λ q. e.Bin c.in-Bin.kind c.get-in-Bin.result.now q) (sym c.get-in-Bin-2.ensures)) ∙
    view_bin _ _ _) c.binary.ensures

pub returns-in-Un : goal.returns-in-Un
returns-in-Un c =
    opens _ _ _ _ _ _ _ (ap expr_view (c.in-Un.is) ∙ view_un _ _) (opened.unary _ _) c.open-in-Un.ensures

pub returns-in-And : goal.returns-in-And
returns-in-And c =
    opens _ _ _ _ _ _ _ (ap expr_view (c.in-And.is ∙ ap (λ q. e.And c.in-And.a q) (sym c.get-in-And.ensures)) ∙
    view_and _ _) (opened.both _ _) c.open-in-And.ensures

pub returns-in-Or : goal.returns-in-Or
returns-in-Or c =
    opens _ _ _ _ _ _ _ (ap expr_view (c.in-Or.is ∙ ap (λ q. e.Or c.in-Or.a q) (sym c.get-in-Or.ensures)) ∙ view_or
    _ _) (opened.either _ _) c.open-in-Or.ensures

pub returns-in-Cond : goal.returns-in-Cond
returns-in-Cond c =
    opens _ _ _ _ _ _ _ (ap expr_view (c.in-Cond.is ∙ ap (λ q. e.Cond c.in-Cond.test q c.in-Cond.b) (sym
    c.get-in-Cond.ensures) ∙ ap (λ q. e.Cond c.in-Cond.test c.get-in-Cond.result.now q) (sym
    c.get-in-Cond-2.ensures)) ∙ view_cond _ _ _) (opened.choice _ _ _) c.open-in-Cond.ensures

pub returns-in-Comma : goal.returns-in-Comma
returns-in-Comma c =
    opens _ _ _ _ _ _ _ (ap expr_view (c.in-Comma.is ∙ ap (λ q. e.Comma c.in-Comma.a q) (sym
    c.get-in-Comma.ensures)) ∙ view_comma _ _) (opened.comma _ _) c.open-in-Comma.ensures

pub returns-in-Void : goal.returns-in-Void
returns-in-Void c =
    opens _ _ _ _ _ _ _ (ap expr_view (c.in-Void.is) ∙ view_void _) (opened.void _) c.open-in-Void.ensures

pub returns-in-Call : goal.returns-in-Call
returns-in-Call c =
    leaf.call _ _ _ _ _ _ _ (ap expr_view (c.in-Call.is ∙ ap (λ q. e.Call c.in-Call.answer c.in-Call.f q) (sym
    c.as_slice.ensures)) ∙ view_call _ _ _) c.first_argument.ensures

pub returns-in-CallNumber : goal.returns-in-CallNumber
returns-in-CallNumber c =
    opens _ _ _ _ _ _ _ (ap expr_view (c.in-CallNumber.is ∙ ap (λ q. e.CallNumber c.in-CallNumber.answer
    c.in-CallNumber.a q) (sym c.as_slice-in-CallNumber.ensures)) ∙ view_callnumber _ _ _) (opened.function_number _
    _ _) c.open-in-CallNumber.ensures

pub returns-in-Getchar : goal.returns-in-Getchar
returns-in-Getchar c = begins _ _ _ _ _ (ap expr_view c.in-Getchar.is ∙ view_getchar) c.getchar.ensures

pub returns-in-Lib : goal.returns-in-Lib
returns-in-Lib c =
    opens _ _ _ _ _ _ _ (ap expr_view (c.in-Lib.is) ∙ view_lib _ _) (opened.library_call _ _) c.open-in-Lib.ensures

pub returns-in-Tick : goal.returns-in-Tick
returns-in-Tick c =
    leaf.ticks _ c.in-Tick.tick (args_view c.as_slice-in-Tick-2.result.now) (args_view c.as_slice-in-Tick.result.now)
    _ _ _ (ap args_view (c.as_slice-in-Tick.ensures ∙ sym c.as_slice-in-Tick-2.ensures)) (ap expr_view (c.in-Tick.is ∙
    ap (λ q. e.Tick c.in-Tick.tick q) (sym c.as_slice-in-Tick-2.ensures)) ∙ view_tick _ _)
    c.first_argument-in-Tick.ensures

pub returns-in-Capture : goal.returns-in-Capture
returns-in-Capture c =
    opens _ _ _ _ _ _ _ (ap expr_view (c.in-Capture.is) ∙ view_capture _ _) (opened.capture _ _)
    c.open-in-Capture.ensures

pub returns-in-Splice : goal.returns-in-Splice
returns-in-Splice c =
    leaf.splice _ _ _ _ _ _ (ap expr_view (c.in-Splice.is) ∙ view_splice _ _) c.splice.ensures.same
    c.splice.ensures.units c.splice.ensures.less

pub returns-in-Compile : goal.returns-in-Compile
returns-in-Compile c =
    opens _ _ _ _ _ _ _ (ap expr_view (c.in-Compile.is) ∙ view_compile _) (opened.compile _)
    c.open-in-Compile.ensures

pub returns-in-Local : goal.returns-in-Local
returns-in-Local c =
    leaf.specify_local _ _ _ _ (ap expr_view c.in-Local.is ∙ view_local) c.specify_local.ensures.same
    c.specify_local.ensures.units c.specify_local.ensures.less

pub returns-in-ParamOf : goal.returns-in-ParamOf
returns-in-ParamOf c =
    opens _ _ _ _ _ _ _ (ap expr_view (c.in-ParamOf.is) ∙ view_paramof _) (opened.parameter _)
    c.open-in-ParamOf.ensures
