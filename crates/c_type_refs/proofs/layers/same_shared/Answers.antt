use Rattle.c_types.proofs.SameLaws
use Rattle.std.proofs.Common.{arith}
use Rattle.std.proofs.Common.{◌≡◌, ◌&&◌, ◌+◌, false, length, drop, ap, sym, ◌∙◌, arith}
use Rattle.c_types.specs.Types.{same_layers}
use Rattle.c_type_refs.proofs.Coded.{enough}
use Rattle.c_type_refs.proofs.SameCodes.{codes_differ, codes_agree, further, at_the_end}
use Rattle.c_type_refs.proofs.layers.same_shared.Goals as goal

pub first-requires-clause-within : goal.first-requires-clause-within
first-requires-clause-within c =
    enough c.a.inside.row.now c.a.inside.code c.a.inside.ends.now c.min-both.result c.a.invariant.coded
    c.a.invariant.ended (omega (arith, c.min-both.ensures))

pub first-requires-2-clause-within : goal.first-requires-2-clause-within
first-requires-2-clause-within c =
    enough c.b.inside.row.now c.b.inside.code c.b.inside.ends.now c.min-both.result c.b.invariant.coded
    c.b.invariant.ended (omega (arith, c.min-both.ensures))

pub returns-then-not-same_as : goal.returns-then-not-same_as
returns-then-not-same_as c =
    let long : length c.args.a.now ≡ length c.args.b.now =
    omega (arith, c.len.ensures, c.len-2.ensures, c.if-len.false) in
    codes_differ c.a.inside.row.now c.a.inside.more.now c.b.inside.row.now c.b.inside.more.now c.args.a.now c.args.b.now
    c.a.inside.code c.b.inside.code c.a.inside.ends.now c.b.inside.ends.now c.a.inside.lists.now
    c.b.inside.lists.now c.min-both.result c.a.invariant c.b.invariant c.a.view_is c.b.view_is c.min-both.ensures
    c.first.result c.first-2.result c.first.ensures c.first-2.ensures long
    (sym c.same_as.ensures ∙ c.if-not-same_as.true)

pub returns-then-not-same_layer : goal.returns-then-not-same_layer
returns-then-not-same_layer c =
    let long : length c.args.a.now ≡ length c.args.b.now =
    omega (arith, c.len.ensures, c.len-2.ensures, c.if-len.false) in
    let next = further c.loop-place.place c.args.a.now c.args.b.now c.at.result.now c.at-in-loop-place.result.now
    c.same_layer.result c.at.ensures c.at-in-loop-place.ensures c.same_layer.ensures in
    let unlike : same_layers (drop c.loop-place.place c.args.a.now) (drop c.loop-place.place c.args.b.now) ≡ false =
    next ∙ ap (λ b. b && same_layers (drop (c.loop-place.place + 1) c.args.a.now)
    (drop (c.loop-place.place + 1) c.args.b.now)) c.if-not-same_layer.true in
    sym unlike ∙ c.loop-place.invariant ∙
    codes_agree c.a.inside.row.now c.a.inside.more.now c.b.inside.row.now c.b.inside.more.now c.args.a.now
    c.args.b.now c.a.inside.code c.b.inside.code c.a.inside.ends.now c.b.inside.ends.now c.a.inside.lists.now
    c.b.inside.lists.now c.min-both.result c.a.invariant c.b.invariant c.a.view_is c.b.view_is c.min-both.ensures
    c.first.result c.first-2.result c.first.ensures c.first-2.ensures long
    (sym c.same_as.ensures ∙ c.if-not-same_as.false)

pub loop-place-preserved : goal.loop-place-preserved
loop-place-preserved c =
    let next = further c.loop-place.place c.args.a.now c.args.b.now c.at.result.now c.at-in-loop-place.result.now
    c.same_layer.result c.at.ensures c.at-in-loop-place.ensures c.same_layer.ensures in
    let like = next ∙ ap (λ b. b && same_layers (drop (c.loop-place.place + 1) c.args.a.now)
    (drop (c.loop-place.place + 1) c.args.b.now)) c.if-not-same_layer.false in
    sym like ∙ c.loop-place.invariant

pub returns : goal.returns
returns c =
    let long : length c.args.a.now ≡ length c.args.b.now =
    omega (arith, c.len.ensures, c.len-2.ensures, c.if-len.false) in
    let end = at_the_end c.loop-place.place c.args.a.now c.args.b.now
    (omega (arith, c.loop-place-test.false, c.len.ensures, c.len-place-end.ensures)) long in
    sym end ∙ c.loop-place.invariant ∙
    codes_agree c.a.inside.row.now c.a.inside.more.now c.b.inside.row.now c.b.inside.more.now c.args.a.now
    c.args.b.now c.a.inside.code c.b.inside.code c.a.inside.ends.now c.b.inside.ends.now c.a.inside.lists.now
    c.b.inside.lists.now c.min-both.result c.a.invariant c.b.invariant c.a.view_is c.b.view_is c.min-both.ensures
    c.first.result c.first-2.result c.first.ensures c.first-2.ensures long
    (sym c.same_as.ensures ∙ c.if-not-same_as.false)

pub returns-then-len : goal.returns-then-len
returns-then-len c = grind (arith, SameLaws.other_layers)
