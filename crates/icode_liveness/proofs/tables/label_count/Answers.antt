use Rattle.std.proofs.Common.{arith, sym, ◌∙◌, ap, subst, ◌≡◌}
use Rattle.std.proofs.lemmas.List.{get_or_read}
use Rattle.limits.specs.declared.ops.TheConstants.{MOST_LABELS}
use Rattle.icode_ops.specs.declared.op.Op.TheVariants.{ReturnZero}
use Rattle.icode_ops.specs.Flow.{op_at, label_of}
use Rattle.icode_ops.specs.Finished.{Below}
use Rattle.icode_liveness.proofs.Filling.{KnowsBelow, knows-more, knows-all}
use Rattle.icode_liveness.proofs.tables.label_count.Goals as goal

pub above-count-requires-clause-label : goal.above-count-requires-clause-label
above-count-requires-clause-label c =
    let is : op_at c.args.ops.now c.loop-p.p ≡ c.index-ops-p.result =
    sym (get_or_read c.args.ops.now c.loop-p.p c.index-ops-p.result c.loop-p-test.true
    c.index-ops-p.is ReturnZero) in
    subst (Below MOST_LABELS) (ap label_of is ∙ sym c.label.ensures) (c.requires.low_labels c.loop-p.p)

pub loop-p-preserved : goal.loop-p-preserved
loop-p-preserved c =
    let i = c.loop-p.invariant in
    let e = c.above-count.ensures in
    let is : op_at c.args.ops.now c.loop-p.p ≡ c.index-ops-p.result =
    sym (get_or_read c.args.ops.now c.loop-p.p c.index-ops-p.result c.loop-p-test.true
    c.index-ops-p.is ReturnZero) in
    let b : Below c.above-count.result (label_of (op_at c.args.ops.now c.loop-p.p)) =
    subst (Below c.above-count.result) (c.label.ensures ∙ sym (ap label_of is)) e.label in
    record {
      labels =
          knows-more c.args.ops.now c.loop-p.p c.loop-p.count c.above-count.result i.labels e.count
          b;
      low = e.low;
    }

pub returns-clause-labels : goal.returns-clause-labels
returns-clause-labels c =
    knows-all c.args.ops.now c.loop-p.count
    (subst (λ n. KnowsBelow c.args.ops.now n c.loop-p.count) (omega arith)
    c.loop-p.invariant.labels)
