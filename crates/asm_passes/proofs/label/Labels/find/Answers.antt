use Rattle.std.proofs.Common.{ap, sym, ◌∙◌, slice_get}
use Rattle.asm_passes.specs.Labels as spec
use Rattle.asm_passes.proofs.Lookups.{absent_is, found_at}
use Rattle.asm_passes.proofs.label.Labels.find.Goals as goal

pub returns-in-Some : goal.returns-in-Some
returns-in-Some c =
    let t = c.self.inside in
    c.place_of.ensures ∙ ap (λ l. slice_get l c.in-Some.number) c.as_slice.ensures.value
    ∙ found_at t.names t.places.items c.args.name.now c.in-Some.number c.self.invariant (sym c.in-Some.ensures)
    ∙ ap (λ s. spec.find s c.args.name.now) c.self.view_is

pub returns-in-None : goal.returns-in-None
returns-in-None c =
    let t = c.self.inside in
    sym (absent_is 0 t.names t.places.items c.args.name.now (sym c.in-None.ensures))
    ∙ ap (λ s. spec.find s c.args.name.now) c.self.view_is
