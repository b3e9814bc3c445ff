use Rattle.std.proofs.Common.{◌≡◌, None, Some, ap, sym, ◌∙◌}
use Rattle.name_numbers.specs.Numbers.{number_of}
use Rattle.check_scopes.specs.Scopes as spec
use Rattle.check_scopes.proofs.Cut.{found_number, found_none}
use Rattle.check_scopes.proofs.names.Scopes.find.Goals as goal

pub returns-in-Some : goal.returns-in-Some
returns-in-Some c =
    let t = c.self.inside in
    let number : number_of t.names c.args.name.now ≡ Some c.in-Some.number =
    sym c.in-Some.ensures in
    c.find-in-Some.ensures
    ∙ sym (found_number t.names t.stack t.sizes.items c.self.invariant c.args.name.now c.in-Some.number number)
    ∙ ap (λ s. spec.find s c.args.name.now) c.self.view_is

pub returns-in-None : goal.returns-in-None
returns-in-None c =
    let t = c.self.inside in
    let number : number_of t.names c.args.name.now ≡ None =
    sym c.in-None.ensures in
    sym (found_none t.names t.stack t.sizes.items c.self.invariant c.args.name.now number)
    ∙ ap (λ s. spec.find s c.args.name.now) c.self.view_is
