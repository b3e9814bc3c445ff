use Rattle.std.proofs.Common.{List, ℕ, ap, refl, sym, subst, ◌∙◌, arith}
use Rattle.typed_tree.specs.declared.expression.Expr.{Expr}
use Rattle.typed_tree.specs.Nodes as node
use Rattle.typed_tree.specs.View.{expr_view}
use Rattle.eval_state.specs.Run.{run_of}
use Rattle.eval_state.specs.Views.{args_view, now_view, target_view}
use Rattle.eval_simple.specs.Simple.{IsDone}
use Rattle.eval_simple.proofs.Going as going
use Rattle.eval_simple.proofs.Stepped.{unmoved}
use Rattle.eval_expressions.specs.Arguments.{IsComing, coming}
use Rattle.eval_expressions.proofs.AtOnce as once
use Rattle.eval_expressions.proofs.AtOnce.{IsLeft}
use Rattle.eval_expressions.proofs.arguments.next_argument.Goals as goal

pub loop-e-init : goal.loop-e-init
loop-e-init c = record { same = refl; units = omega arith; less = λ still. omega arith }

pub returns-in-None : goal.returns-in-None
returns-in-None c =
    let target = target_view c.args.target in
    let e = expr_view c.in-Some.e.now in
    let more = args_view c.in-Some.more.now in
    let left = subst (λ (l : List Expr). IsLeft target (args_view l) (args_view c.args.list.now) c.loop-e.done
    c.args.done (run_of c.loop-e.m) (run_of c.args.m.now)) c.in-Some.ensures.cases.0 c.loop-e.invariant in
    once.comes_on c.push.result target (node.Arg e more) (args_view c.args.list.now) c.loop-e.done c.args.done
    (run_of c.loop-e.m) (run_of c.args.m.now) (run_of c.push.new.self) left
    (unmoved c.push.result c.loop-e.m c.at_once.new.m
    (λ n r. IsComing target (node.Arg e more) c.loop-e.done (now_view n) r (run_of c.push.new.self))
    (going.undone c.in_ok-at_once.field-0 e c.loop-e.m c.at_once.new.m c.in_ok-at_once.ensures c.in-None.is)
    (once.argument_waits c.push.result target e more c.loop-e.done (run_of c.at_once.new.m) (run_of c.push.new.self)
    c.push.ensures.same c.push.ensures.units c.push.ensures.less))

pub loop-e-preserved : goal.loop-e-preserved
loop-e-preserved c =
    let target = target_view c.args.target in
    let e = expr_view c.in-Some.e.now in
    let more = args_view c.in-Some.more.now in
    let r = run_of c.loop-e.m in
    let t = run_of c.at_once.new.m in
    let v = c.in-Some-2.v in
    let it : IsDone e v r t =
    going.done c.in_ok-at_once.field-0 e c.loop-e.m c.at_once.new.m v c.in_ok-at_once.ensures c.in-Some-2.is in
    record {
      same = ap (λ (l : List ℕ). coming target more l t) c.in_ok-push-in-Some-2.ensures.ok
          ∙ once.argument_there target e more c.loop-e.done v r t it
          ∙ ap (λ (l : List Expr). coming target (args_view l) c.loop-e.done r) (sym c.in-Some.ensures.cases.0)
          ∙ c.loop-e.invariant.same;
      units = omega (arith, going.spends_most r t e v it, c.loop-e.invariant.units);
      less = once.spends_yet r t (run_of c.args.m.now) e v _ _ it c.loop-e.invariant.units;
    }

pub returns-in-Direct : goal.returns-in-Direct
returns-in-Direct c =
    let target = target_view c.args.target in
    let left = subst (λ (l : List Expr). IsLeft target (args_view l) (args_view c.args.list.now) c.loop-e.done
    c.args.done (run_of c.loop-e.m) (run_of c.args.m.now)) (once.none_left c.loop-e.rest.now c.in_default.ensures.cases)
    c.loop-e.invariant in
    once.comes_on c.call.result target node.NoArg (args_view c.args.list.now) c.loop-e.done c.args.done
    (run_of c.loop-e.m) (run_of c.args.m.now) (run_of c.call.new.m) left
    (once.all_there c.call.result target _ c.loop-e.done (run_of c.loop-e.m) (run_of c.call.new.m)
    (ap target_view c.in-Direct.is) c.call.ensures.same c.call.ensures.units c.call.ensures.less)

pub returns-in-Numbered : goal.returns-in-Numbered
returns-in-Numbered c =
    let target = target_view c.args.target in
    let left = subst (λ (l : List Expr). IsLeft target (args_view l) (args_view c.args.list.now) c.loop-e.done
    c.args.done (run_of c.loop-e.m) (run_of c.args.m.now)) (once.none_left c.loop-e.rest.now c.in_default.ensures.cases)
    c.loop-e.invariant in
    once.comes_on c.call_number.result target node.NoArg (args_view c.args.list.now) c.loop-e.done c.args.done
    (run_of c.loop-e.m) (run_of c.args.m.now) (run_of c.call_number.new.m) left
    (once.all_there c.call_number.result target _ c.loop-e.done (run_of c.loop-e.m) (run_of c.call_number.new.m)
    (ap target_view c.in-Numbered.is) c.call_number.ensures.same c.call_number.ensures.units c.call_number.ensures.less)

pub returns-in-Specified : goal.returns-in-Specified
returns-in-Specified c =
    let target = target_view c.args.target in
    let left = subst (λ (l : List Expr). IsLeft target (args_view l) (args_view c.args.list.now) c.loop-e.done
    c.args.done (run_of c.loop-e.m) (run_of c.args.m.now)) (once.none_left c.loop-e.rest.now c.in_default.ensures.cases)
    c.loop-e.invariant in
    once.comes_on c.specify_tick.result target node.NoArg (args_view c.args.list.now) c.loop-e.done c.args.done
    (run_of c.loop-e.m) (run_of c.args.m.now) (run_of c.specify_tick.new.m) left
    (once.all_there c.specify_tick.result target _ c.loop-e.done (run_of c.loop-e.m) (run_of c.specify_tick.new.m)
    (ap target_view c.in-Specified.is) c.specify_tick.ensures.same c.specify_tick.ensures.units
    c.specify_tick.ensures.less)
