use Rattle.std.proofs.Common.{ℕ, ◌≡◌, ◌+◌, ◌*◌, List, length, ap, sym, ◌∙◌, subst, arith}
use Rattle.std.proofs.Math.Seq.{take-length}
use Rattle.icode_ops.proofs.Laws.{op_at-read}
use Rattle.icode_ops.specs.Finished.{Below}
use Rattle.icode_ops.specs.Flow.{label_of, op_at}
use Rattle.icode_ops.specs.declared.op.Op.{Op}
use Rattle.icode_templates.specs.Layout.{Layout, laid}
use Rattle.icode_templates.specs.Expansion.{nowhere, templates}
use Rattle.icode_expand.proofs.Lengths.{length_more}
use Rattle.icode_expand.proofs.Placed.{Placed, address_at, placed_step, table_made}
use Rattle.icode_expand.proofs.labels.place_labels.Goals as goal

pub loop-op-preserved : goal.loop-op-preserved
loop-op-preserved c =
    let l : Layout = laid c.args.layout.now.places.now c.args.layout.now.frame c.args.layout.now.objects in
    let i : ℕ = c.loop-op.op-index in
    let ops : List Op = c.args.ops.now in
    let e : op_at ops i ≡ c.op-item.result = op_at-read ops i c.op-item.result c.loop-op-test.true c.op-item.is in
    let B : ℕ → Type 0 = λ n. Below n (label_of (op_at ops i)) in
    let b : Below (length c.loop-op.labels) (label_of (op_at ops i)) =
    subst B (sym c.loop-op.invariant.3) (c.requires.labels i) in (
      omega (
        arith,
        length_more l nowhere ops i c.op-item.result c.loop-op-test.true e,
        c.place_op-end.ensures.address,
        c.loop-op.invariant.0,
      ),
      omega (arith, c.place_op-end.ensures.most, c.loop-op.invariant.1),
      placed_step l c.args.start ops c.requires.finished.0 i c.op-item.result c.loop-op.end c.loop-op.labels
          c.place_op-end.new.labels c.requires.finished.1 e b c.loop-op.invariant.0 c.place_op-end.ensures.labels
          c.loop-op.invariant.2,
      c.place_op-end.auto.labels ∙ c.loop-op.invariant.3,
    )

pub returns-clause-table : goal.returns-clause-table
returns-clause-table c =
    let l : Layout = laid c.args.layout.now.places.now c.args.layout.now.frame c.args.layout.now.objects in
    let ops : List Op = c.args.ops.now in
    let k : c.loop-op.op-index ≡ length ops = omega arith in
    let P : ℕ → Type 0 = λ i. Placed l c.args.start ops i c.loop-op.labels in
    let B : (p : ℕ) → Below (length c.loop-op.labels) (label_of (op_at ops p)) =
    λ p. let Q : ℕ → Type 0 = λ n. Below n (label_of (op_at ops p)) in
    subst Q (sym c.loop-op.invariant.3) (c.requires.labels p) in
    let e : c.loop-op.end ≡ c.args.start + 4 * length (templates l nowhere ops) =
    c.loop-op.invariant.0
    ∙ (ap (address_at l c.args.start ops) k
    ∙ ap (λ (xs : List Op). c.args.start + 4 * length (templates l nowhere xs)) (take-length ops)) in
    table_made l c.args.start ops c.requires.finished.0 c.loop-op.labels c.loop-op.end c.requires.finished.1 B
    (subst P k c.loop-op.invariant.2) e
