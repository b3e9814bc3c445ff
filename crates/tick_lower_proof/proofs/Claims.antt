-- What is asked of the bodies of compiled functions: each is followed from behind the ops of its prelude, where the
-- calls in it are.
use Rattle.std.specs.Prelude.{◌≡◌, ℕ, ◌+◌, ◌<◌, ◌≤◌, List, length}
use Rattle.history.specs.Syntax.{Syntax}
use Rattle.typed_tree.specs.declared.expression.CaptureKind.{CaptureKind}
use Rattle.staged_meaning.specs.World.{World, Result}
use Rattle.staged_meaning.specs.Meaning as meaning
use Rattle.staged_meaning.specs.Meaning.{around, syntax_value, returned}
use Rattle.icode_meaning.specs.State.{Program, Log}
use Rattle.tick_lower_spec.specs.Lower.{Addresses}
use Rattle.tick_lower_spec.specs.Generated.{generated_build, generated_code, IsGenerated}
use Rattle.tick_lower_proof.proofs.Machine.{Here, Regs, at_op}
use Rattle.tick_lower_proof.proofs.Follow.{From, Follows, GoesBack}
use Rattle.tick_lower_proof.proofs.Stacks.{IsWhole, IsSound}
use Rattle.tick_lower_proof.proofs.Standing.{reserve}
use Rattle.tick_lower_proof.proofs.Callers.{CallsFollow}
use Rattle.tick_lower_proof.proofs.Registers.{AreKeys}
pub use Rattle.tick_lower_proof.proofs.Spliced.{AreReadyTicks}

-- behind the prelude of a compiled function, which has set the variables of its code
abbrev pub behind_prelude : Addresses → Syntax → ℕ
behind_prelude d syntax = length (generated_build d syntax).prelude

abbrev pub from_prelude : Addresses → Syntax → Here → Regs → Log → (units : ℕ) → From
from_prelude d syntax h regs g units = record {
  state = at_op h (behind_prelude d syntax) regs g;
  units = units;
  log = record g { most = g.most + reserve };
}

abbrev pub BodiesFollow : Program → Addresses → meaning.Program → List (List CaptureKind) → Type 0
BodiesFollow P d program ticks =
    (turns limit : ℕ) (call : ℕ → List ℕ → World → Result ℕ) (syntax : Syntax) (h : Here) (regs : Regs) (g : Log)
    (w : World) → limit ≤ turns → w.units < limit → CallsFollow P d program ticks call limit → IsWhole P →
    IsGenerated d ticks syntax → h.function.ops ≡ generated_code d syntax → h.function.object ≡ 0 →
    IsSound P d ticks (at_op h (behind_prelude d syntax) regs g) →
    AreKeys (generated_build d syntax).keys regs w.generated → g.shared ≡ w.shared →
    Follows P (from_prelude d syntax h regs g w.units) (GoesBack P h (from_prelude d syntax h regs g w.units))
    (λ x w1. ⊥) (returned (syntax_value (around program turns call 0) syntax w))
