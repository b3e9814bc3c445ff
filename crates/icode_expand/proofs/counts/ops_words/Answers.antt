use Rattle.std.proofs.Common.{ℕ, ◌≡◌, List, arith}
use Rattle.icode_ops.proofs.Laws.{op_at-read}
use Rattle.icode_ops.specs.Flow.{op_at}
use Rattle.icode_ops.specs.declared.op.Op.{Op}
use Rattle.icode_templates.specs.Layout.{Layout, laid}
use Rattle.icode_templates.specs.Expansion.{nowhere}
use Rattle.icode_expand.proofs.Lengths.{length_more}
use Rattle.icode_expand.proofs.counts.ops_words.Goals as goal

pub loop-op-preserved : goal.loop-op-preserved
loop-op-preserved c =
    let l : Layout = laid c.args.layout.now.places.now c.args.layout.now.frame c.args.layout.now.objects in
    let i : ℕ = c.loop-op.op-index in
    let ops : List Op = c.args.ops.now in
    let e : op_at ops i ≡ c.op-item.result = op_at-read ops i c.op-item.result c.loop-op-test.true c.op-item.is in (
      omega (
        arith,
        length_more l nowhere ops i c.op-item.result c.loop-op-test.true e,
        c.op_words.ensures.count,
        c.loop-op.invariant.0,
      ),
      omega (arith, c.op_words.ensures.most, c.loop-op.invariant.1),
    )
