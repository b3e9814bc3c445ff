use Rattle.std.proofs.Common.{arith, sym, ◌∙◌, ap, subst, ℕ, ◌≡◌, ◌<◌, ◌≤◌, ◌-◌, List, [], length, take, get_or}
use Rattle.std.proofs.lemmas.List.{with_items_is}
use Rattle.icode_ops.specs.declared.op.Op.{Op}
use Rattle.icode_ops.specs.Finished.{IsFinished}
use Rattle.icode_ops.specs.Live.{AreIntervals, IsInterval}
use Rattle.icode_ranges.specs.Lists.{Each}
use Rattle.icode_liveness.specs.Order.{AreStarts, by_start}
use Rattle.icode_ranges.specs.Tables.{AreBlocks, AreSpans, MentionedAt}
use Rattle.icode_liveness.proofs.Below.{at-below}
use Rattle.icode_ranges.proofs.Lists.{Each-weaker}
use Rattle.icode_liveness.proofs.Sorting.{are-intervals, few-intervals, each-weaker}
use Rattle.icode_liveness.proofs.Live.intervals.Goals as goal

few : (ops : List Op) (registers : ℕ) (buckets : List (List ℕ)) (ends read : List ℕ)
    → IsFinished ops registers
    → AreStarts ops registers registers buckets ends → read ≡ ends → length
    (by_start registers read 0 buckets) ≤ registers
few ops registers buckets ends read f a e =
    subst (λ es. length (by_start registers es 0 buckets) ≤ registers) (sym e)
    (few-intervals ops registers buckets ends a (λ v p h. at-below ops registers v p f h))

intervals : (ops : List Op) (registers : ℕ) (buckets : List (List ℕ)) (ends read : List ℕ)
    → IsFinished ops registers
    → AreStarts ops registers registers buckets ends → read ≡ ends → AreIntervals ops
    (by_start registers read 0 buckets)
intervals ops registers buckets ends read f a e =
    subst (λ es. AreIntervals ops (by_start registers es 0 buckets)) (sym e)
    (are-intervals ops registers buckets ends a (λ v p h. at-below ops registers v p f h))

pub write_by_start-requires-clause-room : goal.write_by_start-requires-clause-room
write_by_start-requires-clause-room c =
    let len : length c.list_by_start.new.ends ≡ c.self.inside.ends.len =
    omega (
      arith,
      c.list_by_start.auto.ends ∙ ap length c.deref_mut-5.ensures.value,
      c.self.inside.ends.ok.0,
    ) in
    let e : c.deref-5.result.now ≡ c.list_by_start.new.ends =
    c.deref-5.ensures.value ∙ with_items_is c.self.inside.ends c.list_by_start.new.ends len in
    let l = few c.args.ops.now c.args.registers c.list_by_start.new.starts.buckets
    c.list_by_start.new.ends c.deref-5.result.now
    c.requires.finished c.list_by_start.ensures.starts e in
    omega (arith, l, c.requires.room)

pub returns-clause-intervals : goal.returns-clause-intervals
returns-clause-intervals c =
    let len : length c.list_by_start.new.ends ≡ c.self.inside.ends.len =
    omega (
      arith,
      c.list_by_start.auto.ends ∙ ap length c.deref_mut-5.ensures.value,
      c.self.inside.ends.ok.0,
    ) in
    let e : c.deref-5.result.now ≡ c.list_by_start.new.ends =
    c.deref-5.ensures.value ∙ with_items_is c.self.inside.ends c.list_by_start.new.ends len in
    subst (AreIntervals c.args.ops.now) (sym c.write_by_start.ensures.written)
    (intervals c.args.ops.now c.args.registers c.list_by_start.new.starts.buckets
    c.list_by_start.new.ends c.deref-5.result.now
    c.requires.finished c.list_by_start.ensures.starts e)

pub returns-clause-few : goal.returns-clause-few
returns-clause-few c =
    let len : length c.list_by_start.new.ends ≡ c.self.inside.ends.len =
    omega (
      arith,
      c.list_by_start.auto.ends ∙ ap length c.deref_mut-5.ensures.value,
      c.self.inside.ends.ok.0,
    ) in
    let e : c.deref-5.result.now ≡ c.list_by_start.new.ends =
    c.deref-5.ensures.value ∙ with_items_is c.self.inside.ends c.list_by_start.new.ends len in
    let l = few c.args.ops.now c.args.registers c.list_by_start.new.starts.buckets
    c.list_by_start.new.ends c.deref-5.result.now
    c.requires.finished c.list_by_start.ensures.starts e in
    omega (arith, l, c.write_by_start.ensures.count)

pub returns-clause-registers : goal.returns-clause-registers
returns-clause-registers c =
    each-weaker (λ x. IsInterval c.args.ops.now x.reg x.start x.end) (λ x. x.reg < c.args.registers)
    (λ x i. at-below c.args.ops.now c.args.registers x.reg x.start c.requires.finished i.first)
    (take c.write_by_start.result c.write_by_start.new.out) (returns-clause-intervals c).each

pub list_by_start-requires-clause-listed : goal.list_by_start-requires-clause-listed
list_by_start-requires-clause-listed c =
    let ops = c.args.ops.now in
    let blocks : length c.list_blocks.new.blocks ≡ c.self.inside.blocks.len =
    omega (
      arith,
      c.list_blocks.auto.blocks ∙ ap length c.deref_mut.ensures.value,
      c.self.inside.blocks.ok.0,
    ) in
    let lows : length c.list_registers.new.lows ≡ c.self.inside.lows.len =
    omega (
      arith,
      c.list_registers.auto.lows ∙ ap length c.deref_mut-3.ensures.value,
      c.self.inside.lows.ok.0,
    ) in
    let highs : length c.list_registers.new.highs ≡ c.self.inside.highs.len =
    omega (
      arith,
      c.list_registers.auto.highs ∙ ap length c.deref_mut-4.ensures.value,
      c.self.inside.highs.ok.0,
    ) in
    let b : c.deref-2.result.now ≡ c.list_blocks.new.blocks =
    c.deref-2.ensures.value ∙ with_items_is c.self.inside.blocks c.list_blocks.new.blocks blocks in
    let l : c.deref-3.result.now ≡ c.list_registers.new.lows =
    c.deref-3.ensures.value ∙ with_items_is c.self.inside.lows c.list_registers.new.lows lows in
    let h : c.deref-4.result.now ≡ c.list_registers.new.highs =
    c.deref-4.ensures.value ∙ with_items_is c.self.inside.highs c.list_registers.new.highs highs in
    let each = c.list_registers.ensures.each_defined in
    let P = MentionedAt ops (length ops) in
    record {
      blocks = subst (AreBlocks ops (length ops)) (sym b) c.list_blocks.ensures.blocks;
      block_room =
          omega (
            arith,
            ap length b,
            c.list_blocks.auto.blocks ∙ ap length c.deref_mut.ensures.value,
            c.self.invariant.block_room,
            c.requires.finished.few_ops,
          );
      jumps = c.list_jumps.ensures.table;
      labels = c.list_jumps.ensures.labels;
      definitions = c.list_registers.ensures.definitions;
      exposed = c.list_registers.ensures.exposed;
      each_exposed = c.list_registers.ensures.each_exposed ∙ sym each;
      spans =
          subst (λ z. AreSpans P (length c.list_registers.new.definitions.buckets) z c.deref-4.result.now) (sym l)
          (subst (λ z. AreSpans P (length c.list_registers.new.definitions.buckets) c.list_registers.new.lows z) (sym h)
          (subst (λ n. AreSpans P n c.list_registers.new.lows c.list_registers.new.highs) (sym each)
          c.list_registers.ensures.spans));
      low_room =
          omega (
            arith,
            each,
            ap length l,
            c.list_registers.auto.lows ∙ ap length c.deref_mut-3.ensures.value,
            c.self.invariant.low_room,
            c.requires.finished.few_registers,
          );
      high_room =
          omega (
            arith,
            each,
            ap length h,
            c.list_registers.auto.highs ∙ ap length c.deref_mut-4.ensures.value,
            c.self.invariant.high_room,
            c.requires.finished.few_registers,
          );
    }

pub write_by_start-requires-clause-slots : goal.write_by_start-requires-clause-slots
write_by_start-requires-clause-slots c = λ b.
    let registers = c.args.registers in
    let len : length c.list_by_start.new.ends ≡ c.self.inside.ends.len =
    omega (
      arith,
      c.list_by_start.auto.ends ∙ ap length c.deref_mut-5.ensures.value,
      c.self.inside.ends.ok.0,
    ) in
    let e : c.deref-5.result.now ≡ c.list_by_start.new.ends =
    c.deref-5.ensures.value ∙ with_items_is c.self.inside.ends c.list_by_start.new.ends len in
    let le : registers ≤ length c.deref-5.result.now =
    omega (
      arith,
      ap length e,
      c.list_by_start.auto.ends ∙ ap length c.deref_mut-5.ensures.value,
      c.self.invariant.end_room,
      c.requires.finished.few_registers,
    ) in
    Each-weaker
    (λ s. (s < registers)
    × IsInterval c.args.ops.now (registers - 1 - s) b (get_or c.list_by_start.new.ends s 0))
    (λ s. (s < registers) × (s < length c.deref-5.result.now)) (λ s h. (h.0, omega (arith, h.0, le)))
    (get_or c.list_by_start.new.starts.buckets b []) (c.list_by_start.ensures.starts.sound b)
