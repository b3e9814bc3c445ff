-- The arguments of the ops of the pieces of a program's ticks are words.
use Rattle.std.proofs.Common.{◌≡◌, ℕ, zero, suc, List, [], ◌∷◌, map, Some, slice_get, refl}
use Rattle.icode_ir.specs.Sound.{Each}
use Rattle.typed_tree.specs.declared.program.Tick.{Tick}
use Rattle.typed_tree.specs.declared.program.TickBody.{TickBody}
use Rattle.typed_tree.specs.declared.program.TickBody.TheVariants as body
use Rattle.typed_tree.specs.View.{body_view, tick_view}
use Rattle.staged_meaning.specs.Source as source
use Rattle.tick_lower_spec.specs.Lower.{Addresses}
use Rattle.generator_spec.specs.Laws.{pieces_at}
use Rattle.tick_lower_spec.specs.TickPieces.{tick_pieces}
use Rattle.generator_spec.specs.Kinds.{HasWords, tick_of_body}
use Rattle.generator_spec.specs.FittingLaws.{TicksHaveWords}

body_has : (addresses : Addresses) (b : TickBody) → Each HasWords (tick_pieces addresses (source.tick_view b))
    → Each HasWords (tick_pieces addresses (tick_of_body (body_view b)))
body_has addresses (body.Expression e) h = h
body_has addresses (body.Statement s) h = h

all_have : (addresses : Addresses) (ts : List Tick) → ((n : ℕ) (t : Tick) → slice_get ts n ≡ Some t
    → Each HasWords (tick_pieces addresses (source.tick_view t.body)))
    → (n : ℕ) → Each HasWords (pieces_at addresses (slice_get (map tick_of_body (map tick_view ts)) n))
all_have addresses [] h n = tt
all_have addresses (t ∷ ts) h zero = body_has addresses t.body (h zero t refl)
all_have addresses (t ∷ ts) h (suc n) = all_have addresses ts (λ m s is. h (suc m) s is) n

pub ticks_have : TicksHaveWords
ticks_have addresses parts h n = all_have addresses parts.ticks h n
