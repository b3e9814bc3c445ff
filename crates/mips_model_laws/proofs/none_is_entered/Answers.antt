use Rattle.mips_model_laws.proofs.Below as lemmas
use Rattle.mips_model_laws.proofs.none_is_entered.Goals as goal

pub returns : goal.returns
returns c = lemmas.none_entered
