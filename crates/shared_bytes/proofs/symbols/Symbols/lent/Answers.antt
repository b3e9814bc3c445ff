use Rattle.shared_bytes.proofs.SymbolLaws.{held}
use Rattle.shared_bytes.proofs.symbols.Symbols.lent.Goals as goal

pub invariant_of-result : goal.invariant_of-result
invariant_of-result c = held c.self.inside.count c.self.inside.bytes c.self.invariant
