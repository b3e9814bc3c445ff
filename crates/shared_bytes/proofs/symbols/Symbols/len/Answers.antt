use Rattle.shared_bytes.proofs.SymbolLaws.{long, held}
use Rattle.shared_bytes.proofs.symbols.Symbols.len.Goals as goal

pub returns : goal.returns
returns c =
    let s = c.self.inside in
    long s.count s.bytes c.args.self.now (held s.count s.bytes c.self.invariant) c.self.view_is
