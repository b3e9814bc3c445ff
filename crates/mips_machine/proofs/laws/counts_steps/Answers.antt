use Rattle.mips_machine.proofs.More as more
use Rattle.mips_machine.proofs.laws.counts_steps.Goals as goal

pub returns : goal.returns
returns c = λ n old new left later taken told stop f rest u m. more.counts_steps f rest u m
