use Rattle.std.proofs.Common.{rules, ◌≡◌, ◌/◌, None, refl, ap, ◌∙◌}
use Rattle.std.specs.Vec.{with_items}
use Rattle.std.proofs.lemmas.List.{with_items_is}
use Rattle.word32.specs.Space.{words_from}
use Rattle.word32.specs.Space as space
use Rattle.word32.specs.declared.map.TheConstants.{OBJECTS}
use Rattle.meaning_state.specs.Shared.{access_trap, stored}
use Rattle.staged_meaning.specs.World.{with_shared}
use Rattle.eval_state.specs.declared.state.Parts.{Parts}
use Rattle.eval_state.specs.Run.{in_world, run_of, world}
use Rattle.eval_state.proofs.Changes.{changes_objects, stores_word}
use Rattle.eval_state.proofs.state.Machine.store.Goals as goal

pub returns : goal.returns
returns c =
    let p = c.self.inside.parts in
    let q : Parts = record p { objects = with_items p.objects c.put.new.words } in
    let a = c.args in
    let allowed : access_trap a.at a.width ≡ None = search rules in
    let put : words_from (OBJECTS / 4) q.objects.items
    ≡ space.store a.at a.width a.w (words_from (OBJECTS / 4) p.objects.items) =
    ap (words_from (OBJECTS / 4))
    (with_items_is p.objects c.put.new.words (c.put.auto.words ∙ c.as_mut_slice.ensures.len))
    ∙ c.put.ensures
    ∙ ap (λ ws. space.store a.at a.width a.w (words_from (OBJECTS / 4) ws)) c.as_mut_slice.ensures.value in (
      allowed,
      stores_word p q a.at a.width a.w (words_from (OBJECTS / 4) q.objects.items) (changes_objects p q refl) put
          ∙ ap (λ (p : Parts). in_world (with_shared (stored a.at a.width a.w (world (run_of p)).shared)
          (world (run_of p))) (run_of p)) c.self.view_is,
    )
