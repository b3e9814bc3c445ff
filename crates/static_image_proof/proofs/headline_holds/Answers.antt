use Rattle.static_image_proof.proofs.Holds.{holds}
use Rattle.static_image_proof.proofs.headline_holds.Goals as goal

pub returns : goal.returns
returns c = holds
