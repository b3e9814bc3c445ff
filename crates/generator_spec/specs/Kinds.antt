-- Rows of specifications whose ticks have captures of their kinds, and the numbers of a tick's ops. These are this
-- project's own rules.
use Rattle.std.specs.Prelude.{◌≡◌, ℕ, ◌%◌, ◌<◌, List}
use Rattle.word32.specs.declared.map.TheConstants.{SEGMENT_BYTES}
use Rattle.typed_tree.specs.declared.expression.CaptureKind.{CaptureKind}
use Rattle.typed_tree.specs.Nodes as node
use Rattle.meaning_state.specs.Shared.{Specification, Expression, Statement, Local, Param}
use Rattle.staged_meaning.specs.Program.{Tick, OfExpression, OfStatement}
use Rattle.tick_lower_spec.specs.Lower.{Addresses}
pub use Rattle.routine_spec.specs.Written.{HasWords}
pub use Rattle.tick_lower_spec.specs.Captured.{HasKinds, HasKindsAt, HasTicks, HaveTicks}

-- a row of a specification whose ticks each have captures of their kinds, where the ticks of the program capture this
abbrev pub IsKnown : List (List CaptureKind) → Specification → Type 0
IsKnown ticks (Expression syntax) = HasTicks ticks syntax
IsKnown ticks (Statement syntax) = HasTicks ticks syntax
IsKnown ticks Local = Unit {0}
IsKnown ticks (Param index) = Unit {0}

-- each address is one that a call has room for
abbrev pub AreAddresses : Addresses → Type 0
AreAddresses addresses =
    (f : ℕ) → (addresses.function_at f < SEGMENT_BYTES) × (addresses.function_at f % 4 ≡ 0)

-- what stands behind a backquote, as it has a meaning
abbrev pub tick_of_body : node.TickBody → Tick
tick_of_body (node.Expression e) = OfExpression e
tick_of_body (node.Statement s) = OfStatement s
