-- What the code's own values stand for in the definitions.
use Rattle.icode_templates.specs.declared.spot.Spot.{Spot as CodeSpot}
use Rattle.icode_templates.specs.declared.spot.Spot.TheVariants as code
use Rattle.icode_templates.specs.Layout.{Spot, InRegister, slot}

abbrev pub spot_seen : CodeSpot → Spot
spot_seen (code.InRegister r) = InRegister r
spot_seen (code.InSlot offset) = slot offset
