use Rattle.mips_machine.proofs.More.{ran_more}
use Rattle.mips_machine.proofs.laws.two_are_one.Goals as goal

pub returns : goal.returns
returns c = λ a b old mid new left between later taken held told stop f s. ran_more f s
