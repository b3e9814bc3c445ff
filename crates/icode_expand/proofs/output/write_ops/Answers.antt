use Rattle.std.proofs.Common.{ℕ, ◌≡◌, ◌+◌, ◌≤◌, List, Some, length, ap, ◌∙◌, arith}
use Rattle.icode_ops.proofs.Laws.{op_at-read}
use Rattle.icode_ops.specs.Flow.{goes_to, op_at}
use Rattle.icode_ops.specs.declared.op.Op.{Op}
use Rattle.icode_templates.specs.Layout.{Layout, laid}
use Rattle.icode_templates.specs.Templates.{Aim}
use Rattle.icode_templates.specs.Expansion.{nowhere}
use Rattle.icode_expand.specs.Labels.{IsTable}
use Rattle.icode_expand.proofs.Lengths.{length_more, templates_part}
use Rattle.icode_expand.proofs.Placed.{low_registers}
use Rattle.icode_expand.proofs.Written.{write_step}
use Rattle.icode_expand.proofs.output.write_ops.Goals as goal

pub target-requires : goal.target-requires
target-requires c = λ (label : ℕ) (g : goes_to c.op-item.result ≡ Some label).
    let e : op_at c.args.ops.now c.loop-op.op-index ≡ c.op-item.result =
    op_at-read c.args.ops.now c.loop-op.op-index c.op-item.result c.loop-op-test.true c.op-item.is in
    (c.requires.table.1.at_labels c.loop-op.op-index label (ap goes_to e ∙ g)).0

pub write_op-end-requires-clause-registers : goal.write_op-end-requires-clause-registers
write_op-end-requires-clause-registers c =
    low_registers c.args.ops.now c.requires.finished.0 c.loop-op.op-index c.op-item.result c.requires.finished.1
    (op_at-read c.args.ops.now c.loop-op.op-index c.op-item.result c.loop-op-test.true c.op-item.is)

pub write_op-end-requires-clause-room : goal.write_op-end-requires-clause-room
write_op-end-requires-clause-room c =
    let l : Layout = laid c.args.layout.now.places.now c.args.layout.now.frame c.args.layout.now.objects in
    let i : ℕ = c.loop-op.op-index in
    let ops : List Op = c.args.ops.now in
    let e : op_at ops i ≡ c.op-item.result = op_at-read ops i c.op-item.result c.loop-op-test.true c.op-item.is in
    omega (
      arith,
      length_more l nowhere ops i c.op-item.result c.loop-op-test.true e,
      templates_part l nowhere ops (i + 1),
      c.loop-op.invariant.0,
      c.loop-op.invariant.2,
      c.requires.room,
    )

pub loop-op-preserved : goal.loop-op-preserved
loop-op-preserved c =
    let l : Layout = laid c.args.layout.now.places.now c.args.layout.now.frame c.args.layout.now.objects in
    let i : ℕ = c.loop-op.op-index in
    let ops : List Op = c.args.ops.now in
    let e : op_at ops i ≡ c.op-item.result = op_at-read ops i c.op-item.result c.loop-op-test.true c.op-item.is in
    let room : c.args.filled ≤ length c.args.out.now = omega (arith, c.requires.room) in (
      omega (
        arith,
        length_more l nowhere ops i c.op-item.result c.loop-op-test.true e,
        c.write_op-end.ensures.filled,
        c.loop-op.invariant.0,
      ),
      (λ (a : Aim → ℕ) (t : IsTable a ops c.args.labels.now c.args.epilogue).
          write_step l a ops c.args.labels.now c.args.epilogue i c.op-item.result c.target.result c.args.out.now
          c.loop-op.out c.write_op-end.new.out c.args.filled c.loop-op.end
          t c.loop-op-test.true e c.target.ensures room c.loop-op.invariant.0 (c.loop-op.invariant.1 a t)
          c.write_op-end.ensures.words),
      c.write_op-end.auto.out ∙ c.loop-op.invariant.2,
    )
