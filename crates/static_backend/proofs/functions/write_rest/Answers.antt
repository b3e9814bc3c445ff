use Rattle.std.proofs.Common.{rules, Bool, false, true, subst, take, ◌≡◌, ◌-◌, ◌/◌, ◌≤◌, ℕ, List, [], length, drop}
use Rattle.std.proofs.Common.{slice_index}
use Rattle.std.proofs.Common.{slice_index_or, ap, sym, ◌∙◌, ◌++◌, arith}
use Rattle.std.proofs.lemmas.List.{get_or_read, get_or-map}
use Rattle.icode_ir.specs.Build.{finished}
use Rattle.typed_tree.specs.View.{function_view}
use Rattle.static_backend.specs.Ticks.{ticks_view}
use Rattle.tick_lower_spec.specs.Lower.{listed}
use Rattle.tick_lower_proof.specs.Laws.{code_of}
use Rattle.static_image.specs.Layout.{Placed}
use Rattle.static_backend.specs.Drafted.{Rewritten}
use Rattle.static_backend.specs.Plans.{places_in, all_at, own_words}
use Rattle.static_backend.proofs.Planned.{words_are}
use Rattle.static_backend.proofs.Slices.{rewritten}
use Rattle.static_backend.proofs.functions.write_rest.Goals as goal

not_made : (made : Bool) (first : ℕ) (own old new : List ℕ) → false ≡ made
    → new ≡ take first old ++ (own ++ drop (length own) (drop first old)) → Rewritten made first own old new
not_made made first own old new is h = subst (λ m. Rewritten m first own old new) is h

pub write_words-requires-clause-room : goal.write_words-requires-clause-room
write_words-requires-clause-room c =
    let f = function_view c.args.function.now in
    let plan = c.args.plan.now in
    let i = c.args.index in
    let d = all_at plan c.args.generators.now (ticks_view c.args.ticks.now) in
    let x : Placed = record { function = f; places = slice_index_or (places_in plan) i [] } in
    let at_is : c.get-at.result ≡ slice_index plan.starts.items i =
    c.get-at.ensures.same ∙ get_or_read plan.starts.items _ _ c.requires.started c.index-2.ensures 0 in
    let places_are : c.deref-2.result.now ≡ x.places =
    c.deref-2.ensures.value ∙ ap (λ v. v.items) c.index-places.ensures
    ∙ sym (get_or-map (λ v. v.items) plan.places.items i c.index-places.result.now [] c.requires.placed) in
    let op : c.ops-ops.result.now ≡ code_of d f =
    c.ops-ops.ensures.ops ∙ ap (λ b. finished b.build) c.in_ok-build_ops.ensures
    ∙ ap (λ (ss : List ℕ). code_of (listed ss c.args.generators.now (ticks_view c.args.ticks.now)) f)
    c.deref.ensures.value in
    let own = words_are x d c.get-at.result (slice_index plan.starts.items i)
    c.charge-frame.result c.ops-ops.result.now c.deref-2.result.now op places_are at_is c.charge-frame.ensures.charge in
    let room = c.requires.room in
    let begin = room.1 in
    omega (arith, ap length own, at_is, begin.0, begin.1, c.slice_mut-out.ensures.len, c.args.words.now.ok.0)

pub returns : goal.returns
returns c first begin =
    let f = function_view c.args.function.now in
    let plan = c.args.plan.now in
    let i = c.args.index in
    let d = all_at plan c.args.generators.now (ticks_view c.args.ticks.now) in
    let x : Placed = record { function = f; places = slice_index_or (places_in plan) i [] } in
    let at_is : c.get-at.result ≡ slice_index plan.starts.items i =
    c.get-at.ensures.same ∙ get_or_read plan.starts.items _ _ c.requires.started c.index-2.ensures 0 in
    let places_are : c.deref-2.result.now ≡ x.places =
    c.deref-2.ensures.value ∙ ap (λ v. v.items) c.index-places.ensures
    ∙ sym (get_or-map (λ v. v.items) plan.places.items i c.index-places.result.now [] c.requires.placed) in
    let op : c.ops-ops.result.now ≡ code_of d f =
    c.ops-ops.ensures.ops ∙ ap (λ b. finished b.build) c.in_ok-build_ops.ensures
    ∙ ap (λ (ss : List ℕ). code_of (listed ss c.args.generators.now (ticks_view c.args.ticks.now)) f)
    c.deref.ensures.value in
    let own = words_are x d c.get-at.result (slice_index plan.starts.items i)
    c.charge-frame.result c.ops-ops.result.now c.deref-2.result.now op places_are at_is c.charge-frame.ensures.charge in
    let words = c.args.words.now in
    let out = c.slice_mut-out.result.now in
    let q : ℕ = (c.get-at.result - 4198400) / 4 in
    let first_is : q ≡ first = omega (arith, at_is, begin.0) in
    let low : first ≤ words.len = omega (arith, begin.1, words.ok.0) in
    let fits : length (own_words d plan i f) ≤ length out =
    omega (arith, at_is, begin.0, begin.1, c.slice_mut-out.ensures.len, words.ok.0) in
    let unmade : c.index.result.now ≡ false = search rules in
    let flag : c.index.result.now ≡ slice_index_or plan.made.items i true =
    get_or_read plan.made.items _ _ c.requires.counted c.index.ensures true in
    not_made _ first (own_words d plan i f) words.items _ (sym unmade ∙ flag)
    (rewritten words.items out c.write_words.new.out (own_words d plan i f) q first words.len words.ok.0 first_is low
    c.slice_mut-out.ensures.value
    (c.write_words.ensures ∙ ap (λ (ws : List ℕ). ws ++ drop (length ws) out) own) fits)
