use Rattle.std.proofs.Common.{◌≡◌, ◌-◌, ◌++◌, length, get_or, ap, arith}
use Rattle.c_types.specs.Types.{outermost}
use Rattle.c_type_refs.specs.Shared.{CodesOf}
use Rattle.c_type_refs.proofs.Coded.{last_list}
use Rattle.c_type_refs.proofs.layers.Layers.last_codes.Goals as goal

pub returns-then-self-below : goal.returns-then-self-below
returns-then-self-below c =
    let l = c.self.inside in
    let place = length l.row.now - 1 in
    let kept = get_or l.lists.now place c.index-self-below.result in
    let found : kept ≡ get_or l.lists.now place kept = ap (λ d. get_or l.lists.now place d) c.index-self-below.is in
    let all : CodesOf (outermost (l.row.now ++ l.more.now)) kept =
    last_list l.row.now l.more.now l.lists.now kept (omega (arith, c.if-on_top-eq0.true))
    (omega (arith, c.if-below-gt0.true)) (omega (arith, c.if-self-below.true)) c.self.invariant.listed found in
    rw (← c.self.view_is, c.as_slice.ensures) all
