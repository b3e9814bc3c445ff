use Rattle.std.proofs.Common.{arith, ◌≡◌, Some, ap, sym, ◌∙◌}
use Rattle.check_scopes.specs.Stack.{said, last_of, last_place}
use Rattle.check_scopes.proofs.Stacks.{stands, none, read, length_said}
use Rattle.check_scopes.proofs.names.Stack.find.Goals as goal

pub index-requires : goal.index-requires
index-requires c =
    let t = c.self.inside in
    let at : last_place (said t.all.items) c.args.number ≡ Some c.in-Some.place =
    ap (λ s. last_place s c.args.number) c.self.view_is ∙ sym c.in-Some.ensures in
    omega (
      arith,
      (stands (said t.all.items) c.args.number c.in-Some.place at).within,
      length_said t.all.items,
      t.all.ok.0,
    )

pub returns-in-Some : goal.returns-in-Some
returns-in-Some c =
    let t = c.self.inside in
    let at : last_place (said t.all.items) c.args.number ≡ Some c.in-Some.place =
    ap (λ s. last_place s c.args.number) c.self.view_is ∙ sym c.in-Some.ensures in
    read t.all.items c.args.number c.in-Some.place c.index.result.now at c.index.ensures ∙
    ap (λ s. last_of s c.args.number) c.self.view_is

pub returns-in-None : goal.returns-in-None
returns-in-None c = sym (none c.args.self.now c.args.number (sym c.in-None.ensures))
