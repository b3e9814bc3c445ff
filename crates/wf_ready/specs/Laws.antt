-- What an accepted text's typed tree gives the lowering.
use Rattle.std.specs.Prelude.{◌≡◌, ◌%◌, List}
use Rattle.typed_tree.specs.declared.expression.CaptureKind.{CaptureKind}
use Rattle.typed_tree.specs.Nodes.{Program, Function, TickBody, Expression, Statement, Expr, Stmt}
use Rattle.staged_meaning.specs.Program.{OfExpression, OfStatement}
use Rattle.staged_meaning.specs.Scope.{IsReady, IsReadyIn, IsReadyTick}
use Rattle.wellformed.specs.Program.{IsFunction, IsTick}
use Rattle.staged_meaning.specs.Calls.{HasCallsStmt, HasCallsBody}
use Rattle.staged_meaning.specs.Frames.{HasFramesStmt}
use Rattle.staged_meaning.specs.Ticks.{HasTicksStmt}

abbrev pub FunctionsAreReady : Type 0
FunctionsAreReady = (p : Program) (ticks : List (List CaptureKind)) (f : Function) → IsFunction p ticks f → IsReady f

-- and one among the functions of its program, whose calls, ticks, parameters and frame objects are as they are to be
abbrev pub FunctionsAreReadyIn : Type 0
FunctionsAreReadyIn = (p : Program) (ticks : List (List CaptureKind)) (f : Function) → IsFunction p ticks f →
    IsReadyIn p.functions ticks f

-- and what stands behind a backquote
pub record TicksAreReady : Type 0 where
  pub expressions : (p : Program) (ticks : List (List CaptureKind)) (e : Expr) (kinds : List CaptureKind) →
      IsTick p ticks (Expression e) kinds → IsReadyTick p.functions ticks kinds (OfExpression e)
  pub statements : (p : Program) (ticks : List (List CaptureKind)) (s : Stmt) (kinds : List CaptureKind) →
      IsTick p ticks (Statement s) kinds → IsReadyTick p.functions ticks kinds (OfStatement s)

-- a tick in a function captures what the tick of its number does, and a capture stands nowhere else
abbrev pub TicksAreCaptured : Type 0
TicksAreCaptured = (p : Program) (ticks : List (List CaptureKind)) (f : Function) → IsFunction p ticks f →
    HasTicksStmt ticks f.body

-- a static call in a function, or in a tick, has as many arguments as its function has parameters, and no call has more
-- than 8
pub record CallsAreCounted : Type 0 where
  pub functions : (p : Program) (ticks : List (List CaptureKind)) (f : Function) → IsFunction p ticks f →
      HasCallsStmt p.functions f.body
  pub ticks : (p : Program) (ticks : List (List CaptureKind)) (t : TickBody) (kinds : List CaptureKind) →
      IsTick p ticks t kinds → HasCallsBody p.functions t

-- each frame object that a function names lies in its frame, which is of whole words
abbrev pub FramesAreWithin : Type 0
FramesAreWithin = (p : Program) (ticks : List (List CaptureKind)) (f : Function) → IsFunction p ticks f →
    HasFramesStmt f.object f.body × (f.object % 4 ≡ 0)
