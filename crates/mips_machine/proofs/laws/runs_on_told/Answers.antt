use Rattle.mips_machine.proofs.More.{on_told}
use Rattle.mips_machine.proofs.laws.runs_on_told.Goals as goal

pub returns : goal.returns
returns c = on_told
