use Rattle.std.proofs.Common.{arith, ◌≡◌, ◌≢◌, ◌-◌, ◌<◌, sym, ◌∙◌, ap, true, length}
use Rattle.std.proofs.lemmas.Bool.Decides.{nat_tests}
use Rattle.icode_ops.proofs.Laws.{op_at-read}
use Rattle.icode_ops.specs.declared.op.Op.{Op}
use Rattle.icode_ops.specs.Flow.{op_at}
use Rattle.icode_ranges.specs.Blocks.{joins}
use Rattle.icode_ranges.proofs.Joining.{block-joined}
use Rattle.icode_liveness.proofs.blocks.block_after.Goals as goal

pub returns-then-joins : goal.returns-then-joins
returns-then-joins c =
    let n : c.args.p ≢ 0 = λ q. grind (arith, nat_tests) in
    let l : c.args.p - 1 < length c.args.ops.now = omega arith in
    let a : op_at c.args.ops.now (c.args.p - 1) ≡ c.index-ops-p.result =
    op_at-read c.args.ops.now (c.args.p - 1) c.index-ops-p.result l c.index-ops-p.is in
    let b : op_at c.args.ops.now c.args.p ≡ c.index-ops-p-2.result =
    op_at-read c.args.ops.now c.args.p c.index-ops-p-2.result c.requires.place c.index-ops-p-2.is in
    let e : joins (op_at c.args.ops.now (c.args.p - 1)) (op_at c.args.ops.now c.args.p) ≡ true =
    ap (λ (o : Op). joins o (op_at c.args.ops.now c.args.p)) a
    ∙ (ap (λ (o : Op). joins c.index-ops-p.result o) b ∙ (sym c.joins.ensures ∙ c.if-joins.true)) in
    record { block = c.requires.before ∙ sym (block-joined c.args.ops.now c.args.p n e) }
