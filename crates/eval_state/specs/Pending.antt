-- Where an evaluation stands: what is done now, and what is pending on it. Work that is pending waits for the value of
-- an expression, for the end of a statement, or for the end of a call. These are this project's own definitions, after
-- the order of evaluation of `staged_meaning`.
use Rattle.std.specs.Prelude.{ℕ, List, Option}
use Rattle.word32.specs.declared.width.Width.{Width}
use Rattle.history.specs.Syntax.{Captures}
use Rattle.history.specs.Events.{End}
use Rattle.icode_ops.specs.declared.kind.BinKind.{BinKind}
use Rattle.icode_ops.specs.declared.kind.UnKind.{UnKind}
use Rattle.typed_tree.specs.declared.expression.Answer.{Answer}
use Rattle.typed_tree.specs.declared.expression.CaptureKind.{CaptureKind}
use Rattle.typed_tree.specs.declared.expression.Library.{Library}
use Rattle.typed_tree.specs.Nodes.{Expr, Args, Stmt, Items}
use Rattle.staged_meaning.specs.World.{Flow}

-- what is done now
pub data Now : Type 0 where
  -- an expression is evaluated; a statement runs; items run, one after another
  Eval : Expr → Now
  Exec : Stmt → Now
  Run : Items → Now
  -- a value is there; a statement was left; the function was left with a value
  Value : (value : ℕ) → Now
  Left : Flow → Now
  Returned : (value : ℕ) → Now
  -- the run ended; no unit was left
  Ended : End → Now
  Stopped : Now

-- what belongs to the body that is active: its register variables, what its call was passed, the variables of generated
-- code that its function has, the bytes of its frame objects, and what the captures of its tick stand for
pub record Body : Type 0 where
  pub variables : ℕ → ℕ
  pub arguments : List ℕ
  pub generated : ℕ → ℕ
  pub object : ℕ
  pub captures : Captures

-- what arguments, or the words of captures, are for
pub data Target : Type 0 where
  -- a call of the function of this number, which the tree names
  Direct : Answer → (function : ℕ) → Target
  -- and of one whose number was evaluated
  Numbered : Answer → (function : ℕ) → Target
  -- a specification of a tick
  Specified : (tick : ℕ) → List CaptureKind → Target

-- what is pending
pub data Frame : Type 0 where
  -- ---- on a value
  SetVar : (variable : ℕ) → Frame
  SetGenerated : (capture : ℕ) → Frame
  Load : Width → Frame
  StoreAddress : Width → (value : Expr) → Frame
  StoreValue : Width → (at : ℕ) → Frame
  ModifyAddress : Width → BinKind → (value : Expr) → Frame
  ModifyValue : Width → BinKind → (at old : ℕ) → Frame
  Post : Width → (step : ℕ) → Frame
  First : BinKind → (second : Expr) → Frame
  Second : BinKind → (first : ℕ) → Frame
  Un : UnKind → Frame
  -- the first of an `&&` and of an `||`, and the second of either
  And : (second : Expr) → Frame
  Or : (second : Expr) → Frame
  Truth : Frame
  Cond : (first second : Expr) → Frame
  -- the value stands, and a unit is spent
  Spend : Frame
  Comma : (second : Expr) → Frame
  Void : Frame
  Lib : Library → Frame
  Compile : Frame
  ParamOf : Frame
  -- the number of a function that is called
  Function : Answer → Args → Frame
  -- an argument; those that follow, and the values of those before
  Argument : Target → (more : Args) → (done : List ℕ) → Frame
  -- the value of a statement that is an expression
  Drop : Frame
  If : Stmt → Frame
  IfElse : Stmt → Stmt → Frame
  -- the test of a loop with fewer than so many turns behind this one, its step, if it has one, and its body
  Test : (turns : ℕ) → (test : Expr) → (step : Option Expr) → (body : Stmt) → Frame
  -- the step of such a loop
  Step : (turns : ℕ) → (test step : Expr) → (body : Stmt) → Frame
  -- the test of a `do`, and the one behind a turn that a continue ended, whose unit is spent
  RoundTest : (turns : ℕ) → (body : Stmt) → (test : Expr) → Frame
  ContinuedTest : (turns : ℕ) → (body : Stmt) → (test : Expr) → Frame
  -- the value of a switch, with its variables and items
  Switch : (variables items : Items) → Frame
  Return : Frame
  -- ---- on the end of a statement
  Rest : (items : Items) → Frame
  -- the body of a loop, and of a `do`
  Turn : (turns : ℕ) → (test : Expr) → (step : Option Expr) → (body : Stmt) → Frame
  Round : (turns : ℕ) → (body : Stmt) → (test : Expr) → Frame
  -- the variables of a switch on a value, and its items
  Chosen : (value : ℕ) → (items : Items) → Frame
  SwitchEnd : Frame
  -- ---- on the end of a body
  -- a call that is charged so much; the caller's body
  Called : Answer → (charge : ℕ) → (caller : Body) → Frame
  -- a specification that is spliced in; the variables, the bytes of frame objects and the captures round it
  Spliced : Answer → (variables : ℕ → ℕ) → (object : ℕ) → Captures → Frame
