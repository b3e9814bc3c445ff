use Rattle.std.proofs.Common.{arith, refl, sym, ◌∙◌, ap, subst, ◌≡◌, ◌+◌, ◌*◌, length, get_or}
use Rattle.collections.specs.Contents.{Contents}
use Rattle.icode_ops.proofs.Laws.{op_at-read}
use Rattle.icode_ops.specs.Flow.{op_at, defined, first_use, second_use}
use Rattle.icode_ranges.specs.Blocks.{block_of}
use Rattle.icode_ranges.specs.Tables.{DefinedAt, ExposedAt, IsTable, AreLasts, listed, with_shown, marked}
use Rattle.icode_liveness.proofs.Filling.{table-empty, length-empty, definitions-more, length-listed, within}
use Rattle.icode_liveness.proofs.Showing.{exposed-more, length-shown, lasts-start, lasts-more}
use Rattle.icode_liveness.proofs.Mentions.{spans-start, spans-written, length-low, length-marked}
use Rattle.icode_liveness.proofs.tables.list_registers.Goals as goal

pub loop-p-init : goal.loop-p-init
loop-p-init c =
    let ops = c.args.ops.now in
    let d = c.start.ensures in
    let e = c.start-2.ensures in
    record {
      definitions = subst (λ (v : Contents). IsTable (DefinedAt ops 0) v.buckets) (sym d)
          (table-empty (DefinedAt ops 0) c.args.registers (λ b p h. omega (arith, h.0)));
      exposed = subst (λ (v : Contents). IsTable (ExposedAt ops 0) v.buckets) (sym e)
          (table-empty (ExposedAt ops 0) c.args.registers (λ b p h. omega (arith, h.0)));
      last = lasts-start ops c.args.registers c.clear.new.words c.clear.ensures.zeros;
      each_defined = ap (λ (v : Contents). length v.buckets) d ∙ length-empty c.args.registers;
      each_exposed = ap (λ (v : Contents). length v.buckets) e ∙ length-empty c.args.registers;
      least_defined = omega (arith, ap (λ (v : Contents). v.least_slot) d);
      least_exposed = omega (arith, ap (λ (v : Contents). v.least_slot) e);
      spans = spans-start ops c.args.registers c.args.lows.now c.clear-2.new.words c.clear-2.ensures.zeros;
      lows = refl;
      highs = c.clear-2.ensures.length;
      lasts = c.clear.ensures.length;
      definition_buckets = ap (λ (v : Contents). v.bucket_room) d;
      definition_slots = ap (λ (v : Contents). v.slot_room) d;
      exposed_buckets = ap (λ (v : Contents). v.bucket_room) e;
      exposed_slots = ap (λ (v : Contents). v.slot_room) e;
    }

pub loop-p-preserved : goal.loop-p-preserved
loop-p-preserved c =
    let ops = c.args.ops.now in
    let n = c.loop-p.p in
    let i = c.loop-p.invariant in
    let x = c.list_shown.ensures in
    let y = c.list.ensures in
    let range = c.requires.finished.in_range n in
    let m1 = c.mention.ensures in
    let m2 = c.mention-in-loop-p.ensures in
    let m3 = c.mention-in-loop-p-2.ensures in
    let is : op_at ops n ≡ c.index-ops-p.result =
    op_at-read ops n c.index-ops-p.result c.loop-p-test.true c.index-ops-p.is in
    let d = c.defined-defined.ensures ∙ sym (ap defined is) in
    let f = c.first_use-first.ensures ∙ sym (ap first_use is) in
    let s = c.second_use-second.ensures ∙ sym (ap second_use is) in
    let first = c.first_use-first.result in
    let second = c.second_use-second.result in
    let block : (get_or c.args.blocks.now n 0) ≡ block_of ops n = c.requires.blocks n c.loop-p-test.true in
    let shown = x.buckets
    ∙ (ap (λ o. with_shown o second c.loop-p.lasts (get_or c.args.blocks.now n 0) (3 * n) c.loop-p.exposed.buckets) f
    ∙ (ap (λ o. with_shown (first_use (op_at ops n)) o c.loop-p.lasts (get_or c.args.blocks.now n 0) (3 * n)
    c.loop-p.exposed.buckets) s
    ∙ ap (λ z. with_shown (first_use (op_at ops n)) (second_use (op_at ops n)) c.loop-p.lasts z (3 * n)
    c.loop-p.exposed.buckets) block)) in
    let defs = y.buckets ∙ ap (λ o. listed o (3 * n) c.loop-p.definitions.buckets) d in
    let last = c.mark.ensures.words ∙ ap (λ o. marked o (n + 1) c.loop-p.lasts) d in
    record {
      definitions = subst (IsTable (DefinedAt ops (n + 1))) (sym defs)
          (definitions-more ops n c.loop-p.definitions.buckets
          (within _ c.args.registers (defined (op_at ops n)) i.each_defined range.0) i.definitions);
      exposed = subst (IsTable (ExposedAt ops (n + 1))) (sym shown)
          (exposed-more ops n c.args.registers c.loop-p.lasts c.loop-p.exposed.buckets i.each_exposed range i.last
          i.exposed);
      last = subst (AreLasts ops (n + 1) c.args.registers) (sym last)
          (lasts-more ops n c.args.registers c.loop-p.lasts range.0 (omega (arith, i.lasts, c.requires.lasts)) i.last);
      each_defined =
          ap length y.buckets
          ∙ (length-listed c.defined-defined.result (3 * n) c.loop-p.definitions.buckets ∙ i.each_defined);
      each_exposed =
          ap length x.buckets
          ∙ (length-shown first second c.loop-p.lasts (get_or c.args.blocks.now n 0) (3 * n)
          c.loop-p.exposed.buckets ∙ i.each_exposed);
      least_defined = omega (arith, y.least);
      least_exposed = omega (arith, x.least);
      spans =
          spans-written ops n c.args.registers c.loop-p.lows c.loop-p.highs c.mention.new.lows c.mention.new.highs
          c.mention-in-loop-p.new.lows c.mention-in-loop-p.new.highs c.mention-in-loop-p-2.new.lows
          c.mention-in-loop-p-2.new.highs c.defined-defined.result first second range
          (omega (arith, i.lows, c.requires.lows)) (omega (arith, i.highs, c.requires.highs)) d f s m1.lows m1.highs
          m2.lows m2.highs m3.lows m3.highs i.spans;
      lows =
          ap length m3.lows
          ∙ (length-low second n c.mention-in-loop-p.new.lows c.mention-in-loop-p.new.highs
          ∙ (ap length m2.lows
          ∙ (length-low first n c.mention.new.lows c.mention.new.highs
          ∙ (ap length m1.lows ∙ (length-low c.defined-defined.result n c.loop-p.lows c.loop-p.highs ∙ i.lows)))));
      highs =
          ap length m3.highs
          ∙ (length-marked second (n + 1) c.mention-in-loop-p.new.highs
          ∙ (ap length m2.highs
          ∙ (length-marked first (n + 1) c.mention.new.highs
          ∙ (ap length m1.highs ∙ (length-marked c.defined-defined.result (n + 1) c.loop-p.highs ∙ i.highs)))));
      lasts =
          ap length c.mark.ensures.words
          ∙ (length-marked c.defined-defined.result (n + 1) c.loop-p.lasts ∙ i.lasts);
      definition_buckets = y.bucket_room ∙ i.definition_buckets;
      definition_slots = y.slot_room ∙ i.definition_slots;
      exposed_buckets = x.bucket_room ∙ i.exposed_buckets;
      exposed_slots = x.slot_room ∙ i.exposed_slots;
    }
