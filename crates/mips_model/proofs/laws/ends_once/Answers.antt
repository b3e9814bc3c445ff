use Rattle.mips_model.proofs.Runs as runs
use Rattle.mips_model.proofs.laws.ends_once.Goals as goal

pub returns : goal.returns
returns c = runs.ends_once
