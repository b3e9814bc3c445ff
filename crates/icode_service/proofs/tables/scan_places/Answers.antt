use Rattle.std.proofs.Common.{take}
use Rattle.icode_service.proofs.tables.scan_places.Goals as goal

pub returns-clause-scanned : goal.returns-clause-scanned
returns-clause-scanned c = record {
  intervals = take c.intervals-count.result c.intervals-count.new.out;
  found = c.intervals-count.ensures.intervals;
  same = c.scan.ensures.exact;
  counted = c.count_spills.ensures.spilled;
}
