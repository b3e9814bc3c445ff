-- The ticks in a body: each is one of the program's, with a capture for each kind that this one captures, in their
-- order. A capture stands nowhere else.
use Rattle.std.specs.Prelude.{◌≡◌, ℕ, List, Some, slice_get}
use Rattle.typed_tree.specs.declared.expression.CaptureKind.{CaptureKind}
use Rattle.typed_tree.specs.Nodes as node
use Rattle.typed_tree.specs.Nodes.{Expr, Args, Stmt, Items}
use Rattle.staged_meaning.specs.Specifications.{kinds_of}

-- what a tick is given are captures
abbrev pub AreCaptures : Args → Type 0
AreCaptures node.NoArg = Unit {0}
AreCaptures (node.Arg (node.Capture k e) args) = AreCaptures args
AreCaptures (node.Arg e args) = ⊥

abbrev mutual
  -- each tick in an expression captures what the tick of its number does, where these are the captures of all ticks
  pub HasTicks : List (List CaptureKind) → Expr → Type 0
  HasTicks ticks (node.SetVar i e) = HasTicks ticks e
  HasTicks ticks (node.VSet i e) = HasTicks ticks e
  HasTicks ticks (node.Load w e) = HasTicks ticks e
  HasTicks ticks (node.Store w e f) = HasTicks ticks e × HasTicks ticks f
  HasTicks ticks (node.Modify w k e f) = HasTicks ticks e × HasTicks ticks f
  HasTicks ticks (node.Post w step e) = HasTicks ticks e
  HasTicks ticks (node.Bin k e f) = HasTicks ticks e × HasTicks ticks f
  HasTicks ticks (node.Un k e) = HasTicks ticks e
  HasTicks ticks (node.And e f) = HasTicks ticks e × HasTicks ticks f
  HasTicks ticks (node.Or e f) = HasTicks ticks e × HasTicks ticks f
  HasTicks ticks (node.Cond c e f) = HasTicks ticks c × HasTicks ticks e × HasTicks ticks f
  HasTicks ticks (node.Comma e f) = HasTicks ticks e × HasTicks ticks f
  HasTicks ticks (node.Void e) = HasTicks ticks e
  HasTicks ticks (node.Call r f args) = HaveTicks ticks args
  HasTicks ticks (node.CallNumber r e args) = HasTicks ticks e × HaveTicks ticks args
  HasTicks ticks (node.Lib f e) = HasTicks ticks e
  HasTicks ticks (node.Tick t args) = (slice_get ticks t ≡ Some (kinds_of args)) × HaveTicksCaptures ticks args
  HasTicks ticks (node.Capture k e) = ⊥
  HasTicks ticks (node.Compile e) = HasTicks ticks e
  HasTicks ticks (node.ParamOf e) = HasTicks ticks e
  HasTicks ticks _ = Unit {0}

  pub HaveTicks : List (List CaptureKind) → Args → Type 0
  HaveTicks ticks node.NoArg = Unit {0}
  HaveTicks ticks (node.Arg e args) = HasTicks ticks e × HaveTicks ticks args

  -- the same in what a tick captures
  pub HaveTicksCaptures : List (List CaptureKind) → Args → Type 0
  HaveTicksCaptures ticks node.NoArg = Unit {0}
  HaveTicksCaptures ticks (node.Arg (node.Capture k e) args) = HasTicks ticks e × HaveTicksCaptures ticks args
  HaveTicksCaptures ticks (node.Arg e args) = ⊥

abbrev mutual
  pub HasTicksStmt : List (List CaptureKind) → Stmt → Type 0
  HasTicksStmt ticks (node.Eval e) = HasTicks ticks e
  HasTicksStmt ticks (node.Block vs is) = HaveTicksItems ticks vs × HaveTicksItems ticks is
  HasTicksStmt ticks (node.If e s) = HasTicks ticks e × HasTicksStmt ticks s
  HasTicksStmt ticks (node.IfElse e s t) = HasTicks ticks e × HasTicksStmt ticks s × HasTicksStmt ticks t
  HasTicksStmt ticks (node.While e s) = HasTicks ticks e × HasTicksStmt ticks s
  HasTicksStmt ticks (node.Do s e) = HasTicksStmt ticks s × HasTicks ticks e
  HasTicksStmt ticks (node.For e s) = HasTicks ticks e × HasTicksStmt ticks s
  HasTicksStmt ticks (node.ForStep e step s) = HasTicks ticks e × HasTicks ticks step × HasTicksStmt ticks s
  HasTicksStmt ticks (node.Switch e vs is) = HasTicks ticks e × HaveTicksItems ticks vs × HaveTicksItems ticks is
  HasTicksStmt ticks (node.ReturnValue e) = HasTicks ticks e
  HasTicksStmt ticks _ = Unit {0}

  pub HaveTicksItems : List (List CaptureKind) → Items → Type 0
  HaveTicksItems ticks node.NoItem = Unit {0}
  HaveTicksItems ticks (node.Item s is) = HasTicksStmt ticks s × HaveTicksItems ticks is
