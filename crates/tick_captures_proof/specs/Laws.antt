-- What is proved of the captures of the ticks of an accepted text.
use Rattle.std.specs.Prelude.{◌≡◌, ◌≤◌, ℕ, List, length, map, slice_get, Some}
use Rattle.limits.specs.declared.program.TheConstants.{SIZE_LIMIT}
use Rattle.typed_tree.specs.declared.expression.CaptureKind.{CaptureKind}
use Rattle.typed_tree.specs.declared.program.TypedParts.{TypedParts}
use Rattle.tick_captures.specs.Captures.{captures_at}
use Rattle.tick_captures.specs.declared.capture.Capture.{Capture}
use Rattle.typed_tree.specs.Nodes as node
use Rattle.wellformed.specs.Program.{IsProgram, IsWellFormed}
use Rattle.tick_captures_proof.specs.Splices.{SpliceOnce, AreNamed}

abbrev pub kind_of : Capture → CaptureKind
kind_of c = c.kind

-- The captures that are read off the body of a tick are those that the tick has, of these kinds in this order.
abbrev pub CapturesAreKinds : Type 0
CapturesAreKinds =
    (p : TypedParts) (h : IsWellFormed p) (n : ℕ) (kinds : List CaptureKind) →
    slice_get h.program.captures n ≡ Some kinds
    → map kind_of (captures_at (slice_get p.ticks n)) ≡ kinds

-- They are no more than a tick has nodes.
abbrev pub CapturesAreFew : Type 0
CapturesAreFew =
    (p : TypedParts) (h : IsWellFormed p) (n : ℕ) (kinds : List CaptureKind) →
    slice_get h.program.captures n ≡ Some kinds
    → length kinds ≤ SIZE_LIMIT

-- No tick of an accepted text splices one of its captures at two places: each splice has a capture of its own.
abbrev pub SplicesAreOnce : Type 0
SplicesAreOnce = (p : node.Program) → IsProgram p → SpliceOnce p

-- And each tick has a splice of each specification that it captures, and a node that names each variable: a capture is
-- one by the first node that names it.
abbrev pub CapturesAreNamed : Type 0
CapturesAreNamed =
    (p : node.Program) (accepted : IsProgram p) (n : ℕ) (t : node.TickBody) (kinds : List CaptureKind) →
    slice_get p.ticks n ≡ Some t → slice_get accepted.captures n ≡ Some kinds → AreNamed t kinds
