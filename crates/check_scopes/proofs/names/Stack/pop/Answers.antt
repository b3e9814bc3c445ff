use Rattle.std.proofs.Common.{arith, ◌≡◌, ◌-◌, ◌++◌, ◌∷◌, [], length, take, subst, ap, sym, ◌∙◌}
use Rattle.std.proofs.lemmas.List.{take-map}
use Rattle.check_scopes.specs.Stack.{said, Linked}
use Rattle.check_scopes.proofs.Stacks.{has_head, popped, length_said, entry}
use Rattle.check_scopes.proofs.names.Stack.pop.Goals as goal

pub index_mut-requires : goal.index_mut-requires
index_mut-requires c =
    let t = c.self.inside in
    let linked : Linked (c.pop.new.self.items ++ c.in-Some.last ∷ []) t.heads.items =
    subst (λ l. Linked l t.heads.items) c.in-Some.ensures.items c.self.invariant in
    omega (arith, has_head c.pop.new.self.items t.heads.items c.in-Some.last linked, t.heads.ok.0)

pub invariant_of-self : goal.invariant_of-self
invariant_of-self c =
    let t = c.self.inside in
    popped c.pop.new.self.items t.heads.items c.in-Some.last
    (subst (λ l. Linked l t.heads.items) c.in-Some.ensures.items c.self.invariant)

pub returns-in-Some : goal.returns-in-Some
returns-in-Some c =
    let t = c.self.inside in
    let e : c.pop.new.self.items ≡ take (length t.all.items - 1) t.all.items =
    c.in-Some.ensures.rest ∙ ap (λ n. take (n - 1) t.all.items) (sym (omega (arith, t.all.ok.0))) in
    ap said e ∙ sym (take-map entry (length t.all.items - 1) t.all.items) ∙
    ap (λ n. take (n - 1) (said t.all.items)) (sym (length_said t.all.items)) ∙
    ap (λ s. take (length s - 1) s) c.self.view_is
