use Rattle.std.proofs.Common.{sym, subst, refl, Ok, List, arith, ◌≤◌, length}
use Rattle.std.proofs.lemmas.List.{drop_all}
use Rattle.tick_lower_spec.specs.declared.piece.Piece.{Piece}
use Rattle.tick_lower_spec.specs.TickPieces.{pieces_with}
use Rattle.icode_ir.specs.Runs.{EmitsAll}
use Rattle.tick_lower_spec.specs.Lower.{no_holes}
use Rattle.static_backend.proofs.lowered.take.Goals as goal

pub returns-clause-emits : goal.returns-clause-emits
returns-clause-emits c =
    let b = c.loop-piece.builder.build in
    let past : length c.args.pieces.now ≤ c.loop-piece.piece-index = omega (arith, c.loop-piece-test.false) in
    c.loop-piece.invariant.rest b (Ok tt)
    (subst (λ (z : List Piece). EmitsAll (pieces_with no_holes z) b b (Ok tt))
    (sym (drop_all c.loop-piece.piece-index c.args.pieces.now past)) (tt, refl))
