use Rattle.mips_machine.proofs.More as more
use Rattle.mips_machine.proofs.laws.chooses_so_far.Goals as goal

pub returns : goal.returns
returns c = λ n old new left later taken told stop f rest u m i lt. more.chooses_so_far f rest u m i lt
