-- What the lowering sees of the addresses and ticks that the code is given.
use Rattle.std.specs.Prelude.{map}
use Rattle.staged_meaning.specs.Source.{tick_view}
use Rattle.tick_lower_spec.specs.Lower.{Addresses, listed}
use Rattle.tick_lower.specs.declared.addresses.Addresses.{Addresses as Given}

abbrev pub addresses_view : Given → Addresses
addresses_view given = listed given.starts.now given.generators.now (map (λ t. tick_view t.body) given.ticks.now)
