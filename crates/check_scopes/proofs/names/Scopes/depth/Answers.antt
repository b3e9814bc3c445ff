use Rattle.std.proofs.Common.{arith, ◌≡◌, length, ap, sym, ◌∙◌}
use Rattle.check_scopes.specs.Kept.{named}
use Rattle.check_scopes.proofs.Cut.{length_cut}
use Rattle.check_scopes.proofs.names.Scopes.depth.Goals as goal

pub returns-clause-value : goal.returns-clause-value
returns-clause-value c =
    let t = c.self.inside in
    let many : c.len.result ≡ length t.sizes.items = omega (arith, c.len.ensures, t.sizes.ok.0) in
    many ∙ sym (length_cut t.sizes.items (named t.names t.stack)) ∙ ap length c.self.view_is
