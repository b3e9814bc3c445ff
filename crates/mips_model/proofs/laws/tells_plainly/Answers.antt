use Rattle.mips_model.proofs.Told.{tells_plainly}
use Rattle.mips_model.proofs.laws.tells_plainly.Goals as goal

pub returns : goal.returns
returns c = tells_plainly
