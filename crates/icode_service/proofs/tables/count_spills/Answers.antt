use Rattle.std.proofs.Common.{◌<◌, length, arith}
use Rattle.icode_ops.specs.declared.interval.Interval.{Interval}
use Rattle.mips_model.specs.Choices.{spilled}
use Rattle.icode_service.proofs.Writes.{each_at, spill_step, spill_end}
use Rattle.icode_service.proofs.tables.count_spills.Goals as goal

abbrev none : Interval
none = record { reg = 0; start = 0; end = 0 }

pub spill_of-count-requires : goal.spill_of-count-requires
spill_of-count-requires c =
    each_at (λ (x : Interval). x.reg < length c.args.places.now) c.args.intervals.now c.loop-x.x-index none
    c.requires.registers c.loop-x-test.true

pub loop-x-preserved : goal.loop-x-preserved
loop-x-preserved c = record {
  few = omega (arith, c.spill_of-count.ensures.few, c.loop-x.invariant.few);
  sum = spill_step c.args.places.now c.args.intervals.now c.loop-x.x-index none c.loop-x.count c.spill_of-count.result
      (spilled c.args.places.now c.args.intervals.now) c.loop-x-test.true c.spill_of-count.ensures.spill
      c.loop-x.invariant.sum;
}

pub returns-clause-spilled : goal.returns-clause-spilled
returns-clause-spilled c =
    spill_end c.args.places.now c.args.intervals.now c.loop-x.x-index c.loop-x.count
    (spilled c.args.places.now c.args.intervals.now) c.loop-x-test.false c.loop-x.invariant.sum
