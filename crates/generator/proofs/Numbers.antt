-- The register variables of a tick of an accepted text are few.
use Rattle.std.proofs.Common.{◌≡◌, ℕ, zero, suc, ◌<◌, List, [], ◌∷◌, length, slice_get, Some, refl}
use Rattle.std.proofs.Common.{ap, ◌∙◌, arith}
use Rattle.std.specs.Prelude.{option_map}
use Rattle.std.proofs.lemmas.Option.{slice_get-map}
use Rattle.typed_tree.specs.declared.expression.CaptureKind.{CaptureKind}
use Rattle.typed_tree.specs.declared.program.Tick.{Tick}
use Rattle.typed_tree.specs.declared.program.TickBody.{TickBody}
use Rattle.typed_tree.specs.declared.program.TickBody.TheVariants as body
use Rattle.typed_tree.specs.declared.program.TypedParts.{TypedParts}
use Rattle.typed_tree.specs.View.{body_view, tick_view, stmt_view, program_view}
use Rattle.wellformed.specs.Program.{IsTick, IsWellFormed}
use Rattle.wf_ready.proofs.Dense.{variables_few}
use Rattle.generator.specs.Ticks.{HasNumbers}

there : {A : Type 0} (xs : List A) (n : ℕ) (x : A) → slice_get xs n ≡ Some x → n < length xs
there [] n x h = absurd cc
there (y ∷ ys) zero x h = omega arith
there (y ∷ ys) (suc n) x h = omega (arith, there ys n x h)

data At {A : Type 0} (xs : List A) (n : ℕ) : Type 0 where
  Is : (x : A) → slice_get xs n ≡ Some x → At xs n

within : {A : Type 0} (xs : List A) (n : ℕ) → n < length xs → At xs n
within [] n h = absurd (omega (arith, h))
within (x ∷ xs) zero h = Is x refl
within (x ∷ xs) (suc n) h = next (within xs n (omega (arith, h)))
  where
    next : At xs n → At (x ∷ xs) (suc n)
    next (Is y q) = Is y q

of_body : (p : TypedParts) (ticks : List (List CaptureKind)) (b : TickBody) (kinds : List CaptureKind)
    → IsTick (program_view p) ticks (body_view b) kinds → HasNumbers b
of_body p ticks (body.Expression e) kinds h = tt
of_body p ticks (body.Statement s) kinds h = omega (arith, variables_few (stmt_view s) h.numbers, h.small)

pub few : (p : TypedParts) (n : ℕ) (t : Tick) → IsWellFormed p → slice_get p.ticks n ≡ Some t → HasNumbers t.body
few p n t h at = by (within h.program.captures n (omega (
  arith,
  there (program_view p).ticks n (tick_view t) viewed,
  h.program.each,
)))
  where
    viewed : slice_get (program_view p).ticks n ≡ Some (tick_view t)
    viewed = slice_get-map tick_view p.ticks n ∙ ap (option_map tick_view) at

    by : At h.program.captures n → HasNumbers t.body
    by (Is kinds q) = of_body p h.program.captures t.body kinds (h.program.ticks n (tick_view t) kinds viewed q)
