use Rattle.static_image.proofs.Rules as rules
use Rattle.static_image.proofs.laws.images_keep_rules.Goals as goal

pub returns : goal.returns
returns c = rules.rules
