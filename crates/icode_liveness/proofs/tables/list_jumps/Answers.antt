use Rattle.std.proofs.Common.{arith, sym, ◌∙◌, ap, subst, ℕ, ◌≡◌, ◌+◌, ◌*◌, Option, Some, None, List, length, refl}
use Rattle.std.proofs.lemmas.List.{get_or_read}
use Rattle.icode_ops.specs.declared.op.Op.{Op}
use Rattle.icode_ops.specs.declared.op.Op.TheVariants.{ReturnZero}
use Rattle.icode_ops.specs.Flow.{op_at, goes_to, label_of}
use Rattle.icode_ops.specs.Finished.{Below, IsFinished}
use Rattle.collections.specs.Contents.{Contents}
use Rattle.icode_ranges.specs.Tables.{GoesFrom, IsTable, KnowsLabels, listed}
use Rattle.icode_liveness.proofs.Filling.{table-empty, length-empty, jumps-more, length-listed}
use Rattle.icode_liveness.proofs.tables.list_jumps.Goals as goal

-- a label that is gone to stands, so there is a bucket for it
known : (ops : List Op) (registers count p : ℕ) → IsFinished ops registers → KnowsLabels ops count
    → Below count (goes_to (op_at ops p))
known ops registers count p f k = by-case (goes_to (op_at ops p)) (f.placed p)
  where
    by-case : (o : Option ℕ) → ((l : ℕ) → o ≡ Some l → (q : ℕ) × (label_of (op_at ops q) ≡ Some l))
        → Below count o
    by-case None h = tt
    by-case (Some l) h = let q = h l refl in k q.0 l q.1

pub loop-p-init : goal.loop-p-init
loop-p-init c =
    let e = c.start.ensures in
    let n = ap (λ (v : Contents). length v.buckets) e ∙ length-empty c.label_count.result in
    record {
      table = subst (λ (v : Contents). IsTable (GoesFrom c.args.ops.now 0) v.buckets) (sym e)
          (table-empty (GoesFrom c.args.ops.now 0) c.label_count.result
          (λ b p h. omega (arith, h.0)));
      labels = subst (KnowsLabels c.args.ops.now) (sym n) c.label_count.ensures.labels;
      least = omega (arith, ap (λ (v : Contents). v.least_slot) e);
      bucket_room = ap (λ (v : Contents). v.bucket_room) e;
      slot_room = ap (λ (v : Contents). v.slot_room) e;
    }

pub list-requires-clause-bucket : goal.list-requires-clause-bucket
list-requires-clause-bucket c =
    let is : op_at c.args.ops.now c.loop-p.p ≡ c.index-ops-p.result =
    sym (get_or_read c.args.ops.now c.loop-p.p c.index-ops-p.result c.loop-p-test.true
    c.index-ops-p.is ReturnZero) in
    subst (Below (length c.loop-p.buckets.buckets)) (ap goes_to is ∙ sym c.goes_to.ensures)
    (known c.args.ops.now c.args.registers (length c.loop-p.buckets.buckets) c.loop-p.p
    c.requires.finished
    c.loop-p.invariant.labels)

pub loop-p-preserved : goal.loop-p-preserved
loop-p-preserved c =
    let i = c.loop-p.invariant in
    let e = c.list.ensures in
    let is : op_at c.args.ops.now c.loop-p.p ≡ c.index-ops-p.result =
    sym (get_or_read c.args.ops.now c.loop-p.p c.index-ops-p.result c.loop-p-test.true
    c.index-ops-p.is ReturnZero) in
    let new = e.buckets
    ∙ ap (λ (o : Option ℕ). listed o (3 * c.loop-p.p) c.loop-p.buckets.buckets)
    (c.goes_to.ensures ∙ sym (ap goes_to is)) in
    let n : length c.list.new.buckets.buckets ≡ length c.loop-p.buckets.buckets =
    ap length new ∙ length-listed (goes_to (op_at c.args.ops.now c.loop-p.p)) (3 * c.loop-p.p)
    c.loop-p.buckets.buckets in
    record {
      table = subst (IsTable (GoesFrom c.args.ops.now (c.loop-p.p + 1))) (sym new)
          (jumps-more c.args.ops.now c.loop-p.p c.loop-p.buckets.buckets
          (known c.args.ops.now c.args.registers (length c.loop-p.buckets.buckets) c.loop-p.p
          c.requires.finished i.labels)
          i.table);
      labels = subst (KnowsLabels c.args.ops.now) (sym n) i.labels;
      least = omega (arith, e.least);
      bucket_room = e.bucket_room ∙ i.bucket_room;
      slot_room = e.slot_room ∙ i.slot_room;
    }
