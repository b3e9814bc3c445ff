use Rattle.mips_model.proofs.Told.{tells_grow}
use Rattle.mips_model.proofs.laws.tells_grow.Goals as goal

pub returns : goal.returns
returns c = tells_grow
