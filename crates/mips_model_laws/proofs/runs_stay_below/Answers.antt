use Rattle.mips_model_laws.proofs.Below as lemmas
use Rattle.mips_model_laws.proofs.runs_stay_below.Goals as goal

pub returns : goal.returns
returns c = lemmas.runs_below
