use Rattle.mips_model.proofs.Runs.{grows}
use Rattle.mips_model.proofs.laws.runs_grow.Goals as goal

pub returns : goal.returns
returns c = grows
