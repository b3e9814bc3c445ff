use Rattle.std.proofs.Common.{◌∙◌, ap, map}
use Rattle.std.proofs.lemmas.Result.{on_ok_weaker}
use Rattle.typed_tree.specs.Nodes.{has_value}
use Rattle.typed_tree.specs.View.{expr_view, args_of}
use Rattle.typed_tree.proofs.Fusion.{value_viewed}
use Rattle.tick_lower.specs.Viewed.{addresses_view}
use Rattle.lowering_pieces.proofs.Made.{modify_made, post_made, number_made, both_made, either_made, choice_made}
use Rattle.tick_lower.proofs.expressions.+expression.Goals as goal

pub modify-returns : goal.modify-returns
modify-returns t c =
    on_ok_weaker c.stored.result
    (λ made. modify_made (addresses_view c.args.addresses.now) c.args.out.now (expr_view c.get.result.now)
    (expr_view c.args.a.now)
    (ap expr_view c.get.ensures)
    c.args.width c.args.kind (expr_view c.args.b.now) _ _ _ _ c.in_ok-expression.ensures c.in_ok-loaded.ensures
    c.in_ok-then.ensures made) c.stored.ensures

pub post-returns : goal.post-returns
post-returns t c =
    on_ok_weaker c.post_loaded.result
    (λ made. post_made (addresses_view c.args.addresses.now) c.args.out.now (expr_view c.get.result.now)
    (expr_view c.args.a.now)
    (ap expr_view c.get.ensures)
    c.args.width c.args.step _ _ c.in_ok-expression.ensures made) c.post_loaded.ensures

pub call_number-returns : goal.call_number-returns
call_number-returns t c =
    on_ok_weaker c.called_number.result
    (λ made. number_made (addresses_view c.args.addresses.now) c.args.out.now (expr_view c.get.result.now)
    (expr_view c.args.a.now)
    (ap expr_view c.get.ensures)
    c.args.answer (args_of (map expr_view c.args.args.now)) _ _ _ c.in_ok-expression.ensures
    c.in_ok-expressions.ensures made) c.called_number.ensures

pub both-returns : goal.both-returns
both-returns t c =
    on_ok_weaker c.joins.result
    (λ made. both_made (addresses_view c.args.addresses.now) c.args.out.now _ _ _ _ c.in_ok-join.ensures.join
    c.in_ok-join.ensures.next c.in_ok-value.ensures.variable c.in_ok-value.ensures.next (expr_view c.args.a.now)
    (expr_view c.args.b.now) _ _ _ c.in_ok-then.ensures c.in_ok-then-2.ensures made) c.joins.ensures

pub either-returns : goal.either-returns
either-returns t c =
    on_ok_weaker c.joins.result
    (λ made. either_made (addresses_view c.args.addresses.now) c.args.out.now _ _ _ _ c.in_ok-join.ensures.join
    c.in_ok-join.ensures.next c.in_ok-value.ensures.variable c.in_ok-value.ensures.next (expr_view c.args.a.now)
    (expr_view c.args.b.now) _ _ _ c.in_ok-then.ensures c.in_ok-then-2.ensures made) c.joins.ensures

pub choice-returns : goal.choice-returns
choice-returns t c =
    on_ok_weaker c.met.result
    (λ made. choice_made (addresses_view c.args.addresses.now) c.args.out.now _ _ _ _ c.in_ok-join.ensures.join
    c.in_ok-join.ensures.next c.in_ok-value.ensures.variable c.in_ok-value.ensures.next (expr_view c.args.test.now)
    (expr_view c.args.a.now) (expr_view c.args.b.now) _ _ _ _ _ _
    (c.has_value-left.ensures ∙ value_viewed c.get.result.now ∙ ap (λ z. has_value (expr_view z)) c.get.ensures)
    c.in_ok-then.ensures c.in_ok-way.ensures
    c.in_ok-turn.ensures c.in_ok-way-2.ensures made) c.met.ensures
