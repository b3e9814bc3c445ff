use Rattle.std.proofs.Common.{◌/◌}
use Rattle.word32.proofs.SpaceLaws.{load_bytes, store_inside, store_outside}
use Rattle.word32.proofs.part.access_laws.Goals as goal

pub returns : goal.returns
returns c = record {
  loads = λ space at width all ok. load_bytes space at width (all (at / 4)) ok;
  stores = store_inside;
  others = store_outside;
}
