use Rattle.std.proofs.Common.{ap, arith}
use Rattle.std.specs.Option.{option_map}
use Rattle.std.proofs.lemmas.Map.Text.{text_keys}
use Rattle.memory_edge.proofs.memory_store.MemStore.put.Goals as goal

pub returns-clause-others : goal.returns-clause-others
returns-clause-others c = λ q differs. ap (option_map (λ v. v.items)) (grind (arith, text_keys))
