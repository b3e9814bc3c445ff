use Rattle.std.proofs.Common.{◌++◌, ◌∷◌, ◌+◌, ◌*◌, ◌/◌, [], take, get_or, set, ap, ◌∙◌}
use Rattle.shared_bytes.specs.Symbols.{halves}
use Rattle.shared_bytes.proofs.SymbolLaws.{push_whole, push_half}
use Rattle.shared_bytes.proofs.symbols.Symbols.push.Goals as goal
use Rattle.shared_bytes.proofs.symbols.Symbols.push.Goals.{then-self-eq0+in_ok-push, else-self-eq0}

pub returns : goal.returns
returns c =
    let s = c.self.inside in
    elim c.if-self-eq0.branch [
      | then-self-eq0+in_ok-push w ↦ record {
        ok = ap (λ i. take (i.count + 1) (halves i.bytes)) w.self-inside-is
            ∙ ap (λ bytes. take (s.count + 1) (halves bytes)) w.in_ok-push.ensures.ok
            ∙ push_whole s.count s.bytes c.args.symbol w.if-self-eq0.true c.self.invariant
            ∙ ap (λ l. l ++ c.args.symbol ∷ []) c.self.view_is;
      }
      | else-self-eq0 w ↦ record {
        ok = ap (λ i. take (i.count + 1) (halves i.bytes)) w.self-inside-is
            ∙ ap (λ bytes. take (s.count + 1) (halves bytes)) w.set.ensures
            ∙ ap (λ bytes. take (s.count + 1) (halves (set s.bytes (s.count / 2)
            (get_or bytes (s.count / 2) 0 / 16 * 16 + c.args.symbol)))) w.bytes.ensures
            ∙ push_half s.count s.bytes c.args.symbol w.if-self-eq0.false c.self.invariant c.requires
            ∙ ap (λ l. l ++ c.args.symbol ∷ []) c.self.view_is;
      }
    ]
