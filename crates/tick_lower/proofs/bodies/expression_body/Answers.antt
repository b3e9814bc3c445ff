use Rattle.std.proofs.lemmas.Result.{on_ok_weaker}
use Rattle.tick_lower.specs.Viewed.{addresses_view}
use Rattle.typed_tree.specs.View.{expr_view}
use Rattle.lowering_pieces.proofs.Ended.{expression_there, expression_ended}
use Rattle.tick_lower.proofs.bodies.expression_body.Goals as goal

pub end-requires : goal.end-requires
end-requires c =
    expression_there (addresses_view c.args.addresses.now) c.args.out.now _ _ (expr_view c.args.e.now)
    c.in_ok-begin.ensures
    c.in_ok-expression.ensures

pub returns : goal.returns
returns c =
    on_ok_weaker c.end.result
    (λ made. expression_ended (addresses_view c.args.addresses.now) c.args.out.now _ _ (expr_view c.args.e.now) _
    c.in_ok-begin.ensures c.in_ok-expression.ensures made) c.end.ensures
