use Rattle.std.proofs.lemmas.Result.{on_ok_weaker}
use Rattle.tick_lower.specs.Viewed.{addresses_view}
use Rattle.typed_tree.specs.View.{stmt_view}
use Rattle.lowering_pieces.proofs.Ended.{statement_there, statement_ended}
use Rattle.tick_lower.proofs.bodies.statement_body.Goals as goal

pub end-requires : goal.end-requires
end-requires c =
    statement_there (addresses_view c.args.addresses.now) c.args.out.now _ _ (stmt_view c.args.s.now)
    c.variables-first.result
    c.in_ok-begin.ensures c.in_ok-statement.ensures

pub returns : goal.returns
returns c =
    on_ok_weaker c.end.result
    (λ made. statement_ended (addresses_view c.args.addresses.now) c.args.out.now _ _ (stmt_view c.args.s.now)
    c.variables-first.result _ c.variables-first.ensures c.in_ok-begin.ensures c.in_ok-statement.ensures made)
    c.end.ensures
