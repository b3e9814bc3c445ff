use Rattle.std.proofs.Common.{arith, sym, ◌∙◌, subst, ◌≡◌, ◌<◌, [], Some, None, length, get_or}
use Rattle.icode_ranges.specs.Tables.{IsSpanOf}
use Rattle.icode_liveness.proofs.Reaching.{local, nowhere}
use Rattle.icode_ranges.proofs.Walking.{head-none}
use Rattle.icode_liveness.proofs.search.interval_of.Goals as goal

pub returns-in-None-clause-interval : goal.returns-in-None-clause-interval
returns-in-None-clause-interval c =
    nowhere c.args.code.now.ops.now c.args.register
    (subst (IsSpanOf c.args.code.now.ops.now c.args.register) c.in-None.is c.span.ensures)

pub returns-in-None-first-clause-interval : goal.returns-in-None-first-clause-interval
returns-in-None-first-clause-interval c =
    let ops = c.args.code.now.ops.now in
    let v = c.args.register in
    let bs = c.args.code.now.exposed.now.buckets in
    let span : IsSpanOf ops v (Some c.in-Some.range) = subst (IsSpanOf ops v) c.in-Some.is c.span.ensures in
    local ops v bs c.in-Some.range c.requires.listed.exposed
    (omega (arith, c.requires.register, c.requires.listed.each_exposed)) span
    (head-none (get_or bs v []) (sym c.first.ensures.head ∙ c.in-None-first.is))
