-- The captures of each tick of an accepted text.
use Rattle.std.proofs.Common.{◌≡◌, ℕ, zero, suc, ◌≤◌, List, [], ◌∷◌, length, map, slice_get, Option, Some}
use Rattle.std.proofs.Common.{refl, ap, sym, ◌∙◌, arith}
use Rattle.std.proofs.lemmas.List.{length-map}
use Rattle.std.proofs.lemmas.Option.{slice_get-map}
use Rattle.std.specs.Prelude.{option_map}
use Rattle.limits.specs.declared.program.TheConstants.{SIZE_LIMIT}
use Rattle.typed_tree.specs.declared.expression.CaptureKind.{CaptureKind}
use Rattle.typed_tree.specs.declared.program.Tick.{Tick}
use Rattle.typed_tree.specs.declared.program.TickBody.{TickBody}
use Rattle.typed_tree.specs.declared.program.TickBody.TheVariants as body
use Rattle.typed_tree.specs.declared.program.TypedParts.{TypedParts}
use Rattle.typed_tree.specs.View.{expr_view, stmt_view, body_view, tick_view, program_view}
use Rattle.typed_tree.specs.Measures.{size_of_body}
use Rattle.tick_captures.specs.Captures.{names_in, captures_of, captures_at}
use Rattle.tick_captures.proofs.Order.{names_viewed, names_of_viewed}
use Rattle.wellformed.specs.Program.{named_in, IsTick, IsWellFormed}
use Rattle.tick_captures_proof.specs.Laws.{kind_of, CapturesAreKinds, CapturesAreFew}
use Rattle.tick_captures_proof.proofs.Rows.{behind, behind_captures, captures_few, expr_named, stmt_named, expr_nodes}
use Rattle.tick_captures_proof.proofs.Rows.{stmt_nodes}

-- ---- bodies

body_named : (b : TickBody) (ks : Option (List CaptureKind)) → named_in (body_view b) ks ≡ behind (names_in b) ks
body_named (body.Expression e) ks = expr_named (expr_view e) ks ∙ ap (λ ns. behind ns ks) (sym (names_viewed e))
body_named (body.Statement s) ks = stmt_named (stmt_view s) ks ∙ ap (λ ns. behind ns ks) (sym (names_of_viewed s))

body_nodes : (b : TickBody) → length (names_in b) ≡ size_of_body (body_view b)
body_nodes (body.Expression e) = ap length (names_viewed e) ∙ expr_nodes (expr_view e)
body_nodes (body.Statement s) = ap length (names_of_viewed s) ∙ stmt_nodes (stmt_view s)

body_captures : (b : TickBody) (kinds : List CaptureKind) → named_in (body_view b) (Some []) ≡ Some kinds →
    kinds ≡ map kind_of (captures_of b)
body_captures b kinds h = behind_captures (names_in b) [] kinds 0 (sym (body_named b (Some [])) ∙ h)

-- ---- ticks

beside : {A B : Type 0} (xs : List A) (ys : List B) (n : ℕ) (x : A) → length xs ≡ length ys → slice_get xs n ≡ Some x →
    (y : B) × (slice_get ys n ≡ Some y)
beside [] ys n x e at = absurd cc
beside (a ∷ xs) [] n x e at = absurd (omega (arith, e))
beside (a ∷ xs) (b ∷ ys) zero x e at = (b, refl)
beside (a ∷ xs) (b ∷ ys) (suc n) x e at = beside xs ys n x (omega (arith, e)) at

module _ (p : TypedParts) (h : IsWellFormed p) (n : ℕ) (kinds : List CaptureKind)
    (at : slice_get h.program.captures n ≡ Some kinds) where
  there : (t : Tick) × (slice_get p.ticks n ≡ Some t)
  there = beside h.program.captures p.ticks n kinds (h.program.each ∙ length-map p.ticks tick_view) at

  is_tick : IsTick (program_view p) h.program.captures (tick_view there.0) kinds
  is_tick = h.program.ticks n (tick_view there.0) kinds
      (slice_get-map tick_view p.ticks n ∙ ap (option_map tick_view) there.1) at

  pub tick_kinds : map kind_of (captures_at (slice_get p.ticks n)) ≡ kinds
  tick_kinds =
      ap (λ o. map kind_of (captures_at o)) there.1 ∙ sym (body_captures there.0.body kinds is_tick.captures)

  pub tick_few : length kinds ≤ SIZE_LIMIT
  tick_few =
      let same = ap length (body_captures there.0.body kinds is_tick.captures)
      ∙ length-map (captures_of there.0.body) kind_of in
      let few = captures_few (names_in there.0.body) 0 0 in
      let nodes = body_nodes there.0.body in
      let small = is_tick.small in
      omega (arith, same, few, nodes, small)

pub are_kinds : CapturesAreKinds
are_kinds = tick_kinds

pub are_few : CapturesAreFew
are_few = tick_few
