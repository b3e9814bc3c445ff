use Rattle.std.proofs.Common.{rules, arith}
use Rattle.std.proofs.lemmas.Grind.{common_steps}
use Rattle.memory_edge.proofs.memory_source.MemSourceSource.read.Goals as goal

pub returns-then-next-clause-cause : goal.returns-then-next-clause-cause
returns-then-next-clause-cause c = search rules

pub returns-then-next-clause-calls : goal.returns-then-next-clause-calls
returns-then-next-clause-calls c = search rules

pub returns-clause-bytes : goal.returns-clause-bytes
returns-clause-bytes c = grind (arith, common_steps)

pub returns-clause-answer : goal.returns-clause-answer
returns-clause-answer c = grind (arith, common_steps)

pub returns-clause-left : goal.returns-clause-left
returns-clause-left c = grind (arith, common_steps)

pub returns-clause-given : goal.returns-clause-given
returns-clause-given c = grind (arith, common_steps)
