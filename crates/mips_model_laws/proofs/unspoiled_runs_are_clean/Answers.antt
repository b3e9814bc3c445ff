use Rattle.mips_model_laws.proofs.Clean as lemmas
use Rattle.mips_model_laws.proofs.unspoiled_runs_are_clean.Goals as goal

pub returns : goal.returns
returns c = lemmas.unspoiled_clean
