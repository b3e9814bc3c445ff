-- A function of the text captures nothing.
use Rattle.std.specs.Prelude.{ℕ, zero, suc, []}
use Rattle.typed_tree.specs.declared.expression.CaptureKind.{CaptureKind}
use Rattle.staged_meaning.specs.Scope.{HasCapture}

pub none_captured : (i : ℕ) (k : CaptureKind) → HasCapture [] i k → ⊥
none_captured zero k h = absurd cc
none_captured (suc i) k h = absurd cc
