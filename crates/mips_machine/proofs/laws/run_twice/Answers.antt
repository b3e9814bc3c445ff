use Rattle.std.proofs.Common.{arith}
use Rattle.mips_machine.proofs.More.{ran_more}
use Rattle.mips_machine.proofs.laws.run_twice.Goals as goal

pub run-requires-in-Steps : goal.run-requires-in-Steps
run-requires-in-Steps g c = let f = c.in-Steps.ensures.ran c.requires.fresh in let counted = f.counted in let within =
    f.within in let room = c.requires.room in omega (arith, counted, within, room)

pub returns-in-Steps : goal.returns-in-Steps
returns-in-Steps g c = ran_more (c.in-Steps.ensures.ran c.requires.fresh)
    (c.run-in-Steps.ensures.ran (c.in-Steps.ensures.stopped c.requires.fresh))
