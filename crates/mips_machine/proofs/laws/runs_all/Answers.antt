use Rattle.mips_machine.proofs.More as more
use Rattle.mips_machine.proofs.laws.runs_all.Goals as goal

pub returns : goal.returns
returns c = λ n old new left later taken told stop other f rest u m. more.runs_all stop other f rest u m
