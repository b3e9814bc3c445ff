use Rattle.std.proofs.Common.{arith, ◌≡◌, ◌++◌, ◌∷◌, [], length, Some, None, get_or, set, subst, ap, sym, ◌∙◌}
use Rattle.std.proofs.lemmas.List.{get_or_read, map_push}
use Rattle.check_scopes.specs.Stack.{said, Linked}
use Rattle.check_scopes.specs.declared.names.Declared.{Declared}
use Rattle.check_scopes.proofs.Stacks.{pushed, entry}
use Rattle.check_scopes.proofs.names.Stack.push.Goals as goal

pub invariant_of-self-2 : goal.invariant_of-self-2
invariant_of-self-2 c =
    let t = c.self.inside in
    let heads = c.widen.new.heads.items in
    let d : Declared = record { number = c.args.number; what = c.args.what; hides = c.index-hides.result.now } in
    let place : c.len-place.result ≡ length t.all.items = omega (arith, c.len-place.ensures, t.all.ok.0) in
    let hides : c.index-hides.result.now ≡ get_or heads c.args.number None =
    get_or_read heads c.args.number c.index-hides.result.now c.in_ok-widen.ensures.room c.index-hides.ensures None in
    subst (λ l. Linked l (set heads c.args.number (Some c.len-place.result))) (sym c.in_ok-push.ensures.items)
    (subst (λ p. Linked (t.all.items ++ d ∷ []) (set heads c.args.number (Some p))) (sym place)
    (pushed t.all.items t.heads.items c.self.invariant d heads c.in_ok-widen.ensures.room
    c.in_ok-widen.ensures.same hides))

pub returns-clause-ok : goal.returns-clause-ok
returns-clause-ok c =
    let t = c.self.inside in
    let d : Declared = record { number = c.args.number; what = c.args.what; hides = c.index-hides.result.now } in
    ap said c.in_ok-push.ensures.items
    ∙ map_push entry t.all.items d
    ∙ ap (λ s. s ++ (c.args.number, c.args.what) ∷ []) c.self.view_is
