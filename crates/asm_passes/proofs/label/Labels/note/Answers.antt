use Rattle.std.proofs.Common.{ap, sym, ◌∙◌, is_some, [], ◌∷◌, ◌++◌}
use Rattle.std.specs.List.{zip}
use Rattle.asm_passes.specs.Labels.{find}
use Rattle.asm_passes.proofs.Lookups.{found_some, find_again, zip_more}
use Rattle.asm_passes.proofs.label.Labels.note.Goals as goal

pub returns-in-Some : goal.returns-in-Some
returns-in-Some c =
    let t = c.self.inside in
    find_again c.args.self.now c.args.name.now c.args.label
    (ap (λ s. is_some (find s c.args.name.now)) (sym c.self.view_is)
    ∙ found_some t.names t.places.items c.args.name.now c.in-Some.field-0 c.self.invariant (sym c.in-Some.ensures))

pub returns-in_ok-add-in-None : goal.returns-in_ok-add-in-None
returns-in_ok-add-in-None c =
    let t = c.self.inside in
    let places = c.push_reserved.ensures.items ∙
    ap (λ l. l ++ c.args.label ∷ []) c.in_ok-reserve-in-None.ensures.items in
    ap find
    (ap (λ n. zip n c.push_reserved.new.self.items) c.in_ok-add-in-None.ensures.ok
    ∙ ap (zip (t.names ++ c.args.name.now ∷ [])) places
    ∙ zip_more t.names t.places.items c.args.name.now c.args.label c.self.invariant
    ∙ ap (λ s. s ++ (c.args.name.now, c.args.label) ∷ []) c.self.view_is)
