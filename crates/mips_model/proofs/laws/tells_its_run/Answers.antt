use Rattle.std.proofs.Common.{refl}
use Rattle.mips_model.proofs.Told.{tells_its_run}
use Rattle.mips_model.proofs.laws.tells_its_run.Goals as goal

pub returns : goal.returns
returns c = λ image input row n. (tells_its_run image input row n, refl)
