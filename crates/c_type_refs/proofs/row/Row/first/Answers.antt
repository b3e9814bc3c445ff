use Rattle.std.proofs.Common.{◌≡◌, length, ap, arith}
use Rattle.c_types.specs.Types.{layers_of}
use Rattle.c_type_refs.proofs.Coded.{cut_lent, enough}
use Rattle.c_type_refs.proofs.row.Row.first.Goals as goal

pub first-requires-clause-within : goal.first-requires-clause-within
first-requires-clause-within c =
    let r = c.self.inside in
    rw (c.as_slice-ends.ensures, c.lent.ensures)
    (enough r.layers r.code.symbols r.code.ends c.min-coded.result c.self.invariant.lent.coded
    c.self.invariant.lent.ended (omega (arith, c.min-coded.ensures, ap length c.as_slice-ends.ensures)))

pub coded-requires : goal.coded-requires
coded-requires c =
    let r = c.self.inside in
    let long : length r.layers ≡ length (layers_of c.args.self.now) = ap (λ t. length (layers_of t)) c.self.view_is in
    rw (c.first.ensures, c.as_slice.ensures, c.as_slice-ends.ensures, c.lent.ensures, c.as_slice-lists.ensures)
    (cut_lent r.layers r.code.symbols r.code.ends r.lists c.args.len c.min-coded.result c.min.result
    c.self.invariant.lent (omega (arith, long, c.requires))
    (rw (← c.as_slice-ends.ensures) c.min-coded.ensures) (rw (← c.as_slice-lists.ensures) c.min.ensures))
