use Rattle.mips_model.proofs.Standing.{words-stand}
use Rattle.mips_model.proofs.service_laws.words_stand.Goals as goal

pub returns : goal.returns
returns c = words-stand
