use Rattle.std.proofs.Common.{rules, arith}
use Rattle.std.proofs.lemmas.Grind.{common_steps}
use Rattle.memory_edge.proofs.memory_store.MemStoreStore.save.Goals as goal

pub returns-clause-saved : goal.returns-clause-saved
returns-clause-saved c = grind (arith, common_steps)

pub returns-clause-others : goal.returns-clause-others
returns-clause-others c = search rules

pub returns-then-listed-2-clause-front : goal.returns-then-listed-2-clause-front
returns-then-listed-2-clause-front c = search rules

pub returns-then-listed-2-clause-half : goal.returns-then-listed-2-clause-half
returns-then-listed-2-clause-half c = search rules

pub returns-then-listed-2-clause-others : goal.returns-then-listed-2-clause-others
returns-then-listed-2-clause-others c = search rules
