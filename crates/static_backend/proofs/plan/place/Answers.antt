use Rattle.std.proofs.Common.{◌≡◌, ◌+◌, ◌-◌, ◌*◌, ◌++◌, [], ◌∷◌, ℕ, List, length, ap, ◌∙◌, arith, subst}
use Rattle.icode_ir.specs.Build.{finished}
use Rattle.typed_tree.specs.View.{function_view}
use Rattle.static_backend.specs.Ticks.{ticks_view}
use Rattle.tick_lower_proof.specs.Laws.{code_of}
use Rattle.static_image.specs.Layout.{Placed, ops_of, words_of, unknown}
use Rattle.static_backend.specs.Calls.{calls_unknown}
use Rattle.static_backend.specs.Drafted.{IsPiece, known_at}
use Rattle.static_backend.proofs.Results.{mapped}
use Rattle.static_backend.proofs.Planned as plan
use Rattle.static_backend.proofs.plan.place.Goals as goal

pub draft_words-requires-clause-few : goal.draft_words-requires-clause-few
draft_words-requires-clause-few c =
    let f = function_view c.args.function.now in
    let x : Placed = record { function = f; places = c.deref-2.result.now } in
    let d = known_at (ticks_view c.args.ticks.now) c.deref.result.now in
    let op : c.ops-ops.result.now ≡ code_of d f =
    c.ops-ops.ensures.ops ∙ ap (λ b. finished b.build) c.in_ok-places.ensures.built in
    plan.few_of c.requires.served.0 c.requires.served.1 x c.args.draft.now.plan.end c.charge-frame.result d
    c.ops-ops.result.now
    c.requires.served.2 op c.charge-frame.ensures.charge

pub overflow_cast-draft : goal.overflow_cast-draft
overflow_cast-draft c =
    let f = function_view c.args.function.now in
    let x : Placed = record { function = f; places = c.deref-2.result.now } in
    let d = known_at (ticks_view c.args.ticks.now) c.deref.result.now in
    let at = c.args.draft.now.plan.end in
    let words = c.args.draft.now.words in
    let words' = c.draft_words.new.words in
    let op : c.ops-ops.result.now ≡ code_of d f =
    c.ops-ops.ensures.ops ∙ ap (λ b. finished b.build) c.in_ok-places.ensures.built in
    let piece = plan.piece_of x at c.charge-frame.result d c.ops-ops.result.now c.in_ok-made.made words.items
    words'.items op c.charge-frame.ensures.charge c.in_ok-made.ensures in
    let long = plan.as_long x at d c.in_ok-made.made words.items words'.items piece in
    let few = plan.few c.requires.served.0 c.requires.served.1 x at unknown c.requires.served.2 in
    omega (arith, long, few, c.len.ensures, c.len-filled.ensures, words.ok.0, words'.ok.0)

pub overflow_mul-draft : goal.overflow_mul-draft
overflow_mul-draft c =
    let f = function_view c.args.function.now in
    let x : Placed = record { function = f; places = c.deref-2.result.now } in
    let d = known_at (ticks_view c.args.ticks.now) c.deref.result.now in
    let at = c.args.draft.now.plan.end in
    let words = c.args.draft.now.words in
    let words' = c.draft_words.new.words in
    let op : c.ops-ops.result.now ≡ code_of d f =
    c.ops-ops.ensures.ops ∙ ap (λ b. finished b.build) c.in_ok-places.ensures.built in
    let piece = plan.piece_of x at c.charge-frame.result d c.ops-ops.result.now c.in_ok-made.made words.items
    words'.items op c.charge-frame.ensures.charge c.in_ok-made.ensures in
    let long = plan.as_long x at d c.in_ok-made.made words.items words'.items piece in
    let few = plan.few c.requires.served.0 c.requires.served.1 x at unknown c.requires.served.2 in
    omega (arith, long, few, c.len.ensures, c.len-filled.ensures, words.ok.0, words'.ok.0)

pub overflow_add-draft : goal.overflow_add-draft
overflow_add-draft c =
    let f = function_view c.args.function.now in
    let x : Placed = record { function = f; places = c.deref-2.result.now } in
    let d = known_at (ticks_view c.args.ticks.now) c.deref.result.now in
    let at = c.args.draft.now.plan.end in
    let words = c.args.draft.now.words in
    let words' = c.draft_words.new.words in
    let op : c.ops-ops.result.now ≡ code_of d f =
    c.ops-ops.ensures.ops ∙ ap (λ b. finished b.build) c.in_ok-places.ensures.built in
    let piece = plan.piece_of x at c.charge-frame.result d c.ops-ops.result.now c.in_ok-made.made words.items
    words'.items op c.charge-frame.ensures.charge c.in_ok-made.ensures in
    let long = plan.as_long x at d c.in_ok-made.made words.items words'.items piece in
    let few = plan.few c.requires.served.0 c.requires.served.1 x at unknown c.requires.served.2 in
    omega (arith, long, few, c.len.ensures, c.len-filled.ensures, words.ok.0, words'.ok.0, c.requires.low)

pub returns : goal.returns
returns c before drafted =
    let f = function_view c.args.function.now in
    let x : Placed = record { function = f; places = c.in_ok-places.places.items } in
    let y : Placed = record { function = f; places = c.deref-2.result.now } in
    let old = c.args.draft.now.plan in
    let starts = c.push.new.self.items in
    let d = known_at (ticks_view c.args.ticks.now) starts in
    let at = old.end in
    let m = c.in_ok-made.made in
    let words = c.args.draft.now.words in
    let words' = c.draft_words.new.words in
    let op : c.ops-ops.result.now ≡ code_of d f =
    c.ops-ops.ensures.ops ∙ ap (λ b. finished b.build) c.in_ok-places.ensures.built
    ∙ ap (λ (ss : List ℕ). code_of (known_at (ticks_view c.args.ticks.now) ss) f) c.deref.ensures.value in
    let piece = plan.piece_of y at c.charge-frame.result d c.ops-ops.result.now m words.items words'.items
    op c.charge-frame.ensures.charge c.in_ok-made.ensures in
    let own : IsPiece (calls_unknown (ops_of d x)) (words_of d at x) m words.items words'.items =
    subst
    (λ (ps : List ℕ). IsPiece (calls_unknown (code_of d f)) (words_of d at (record { function = f; places = ps })) m
    words.items words'.items)
    c.deref-2.ensures.value piece in
    let begun : starts ≡ old.starts.items ++ at ∷ [] =
    c.in_ok-push-in-Some.ensures.items ∙ ap (λ a. old.starts.items ++ a ∷ []) c.in-Some.ensures.0 in
    let end : at + 4 * (c.len.result - c.len-filled.result) ≡ at + 4 * (length words'.items - length words.items) =
    omega (arith, c.len.ensures, c.len-filled.ensures, words.ok.0, words'.ok.0) in
    let next = plan.next_draft (ticks_view c.args.ticks.now) before x old.starts.items starts _ _ old.made.items
    c.push-3.new.self.items m words.items
    words'.items at (at + 4 * (c.len.result - c.len-filled.result)) c.in_ok-places.ensures.scan
    c.in_ok-places.ensures.legal begun
    (mapped old.places.items c.push-2.new.self.items c.in_ok-places.places (λ v. v.items) c.in_ok-push.ensures.items)
    c.in_ok-push-2.ensures.items own end
    drafted.plan drafted.words drafted.many in
    (x.places, record { plan = next.0; words = next.1; many = next.2 })
