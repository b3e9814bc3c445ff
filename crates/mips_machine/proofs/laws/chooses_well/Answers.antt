use Rattle.mips_machine.proofs.More as more
use Rattle.mips_machine.proofs.laws.chooses_well.Goals as goal

pub returns : goal.returns
returns c = λ n old new left later taken told stop other f rest u m i lt. more.chooses_well stop other f rest u m i lt
