use Rattle.std.proofs.Common.{sym, ◌∙◌, ap, ℕ, ◌≡◌, ◌<◌, [], Some, length, get_or}
use Rattle.icode_ops.proofs.Laws.{op_at-read}
use Rattle.icode_ops.specs.Flow.{op_at, label_of, Follows}
use Rattle.icode_ranges.specs.Search.{Taken, PlaceOf}
use Rattle.icode_liveness.proofs.Taking.{all-label, jumps-follow, grown-twice, taken-later}
use Rattle.icode_liveness.proofs.search.take_before.Goals as goal

pub returns-in-Some-clause-taken : goal.returns-in-Some-clause-taken
returns-in-Some-clause-taken c =
    let ops = c.args.code.now.ops.now in
    let is : label_of (op_at ops c.args.block) ≡ Some c.in-Some.label =
    ap label_of (op_at-read ops c.args.block c.index-code-block.result c.requires.block c.index-code-block.is)
    ∙ (ap label_of c.index-code-block.is ∙ (sym c.label.ensures ∙ c.in-Some.is)) in
    all-label ops c.args.block c.in-Some.label c.args.code.now.jumps.now.buckets
    (λ p. Taken ops c.args.defining.now.members c.take_jumps.new.found.members c.take_jumps.result p) is
    (c.requires.listed.labels c.args.block c.in-Some.label is) c.requires.listed.jumps
    (λ p e f. taken-later (PlaceOf (get_or c.args.code.now.jumps.now.buckets c.in-Some.label [])) ops
    c.args.defining.now.members c.take_fall-range.result c.take_jumps.result c.take_fall-range.new.found.members
    c.take_jumps.new.found.members p c.take_jumps.ensures.grown (c.take_fall-range.ensures.taken p e f))
    c.take_jumps.ensures.taken

pub returns-in-Some-clause-grown : goal.returns-in-Some-clause-grown
returns-in-Some-clause-grown c =
    let ops = c.args.code.now.ops.now in
    let is : label_of (op_at ops c.args.block) ≡ Some c.in-Some.label =
    ap label_of (op_at-read ops c.args.block c.index-code-block.result c.requires.block c.index-code-block.is)
    ∙ (ap label_of c.index-code-block.is ∙ (sym c.label.ensures ∙ c.in-Some.is)) in
    grown-twice (λ p. Follows ops p c.args.block)
    (PlaceOf (get_or c.args.code.now.jumps.now.buckets c.in-Some.label [])) (λ p. Follows ops p c.args.block) ops
    c.args.defining.now.members c.args.range c.take_fall-range.result c.take_jumps.result c.args.found.now.members
    c.take_fall-range.new.found.members c.take_jumps.new.found.members (λ p h. h)
    (jumps-follow ops c.args.block c.in-Some.label c.args.code.now.jumps.now.buckets c.requires.block is
    c.requires.listed.jumps)
    c.take_fall-range.ensures.grown c.take_jumps.ensures.grown
