use Rattle.std.proofs.Common.{◌++◌, ◌∷◌, [], subst, ap, sym, ◌∙◌}
use Rattle.check_scopes.specs.Kept.{Kept, scopes}
use Rattle.check_scopes.proofs.Cut.{opened, open_kept}
use Rattle.check_scopes.proofs.names.Scopes.open.Goals as goal

pub invariant_of-self-2 : goal.invariant_of-self-2
invariant_of-self-2 c =
    let t = c.self.inside in
    subst (Kept t.names t.stack) (sym c.in_ok-push.ensures.items)
    (open_kept t.names t.stack t.sizes.items c.self.invariant)

pub returns-clause-ok : goal.returns-clause-ok
returns-clause-ok c =
    let t = c.self.inside in
    ap (scopes t.names t.stack) c.in_ok-push.ensures.items
    ∙ opened t.names t.stack t.sizes.items c.self.invariant
    ∙ ap (λ s. s ++ [] ∷ []) c.self.view_is
