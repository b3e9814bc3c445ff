-- The calls in a body: a static call has as many arguments as its function has parameters, and no call has more than
-- `MOST_ARGUMENTS`.
use Rattle.std.specs.Prelude.{◌≡◌, ℕ, ◌≤◌, List, Some}
use Rattle.limits.specs.declared.program.TheConstants.{MOST_ARGUMENTS}
use Rattle.meaning_state.specs.Rows.{numbered}
use Rattle.typed_tree.specs.Nodes as node
use Rattle.typed_tree.specs.Nodes.{Expr, Args, Stmt, Items, Function, TickBody, count}

-- the function of this number takes so many arguments
pub record IsCallee (fs : List Function) (f arguments : ℕ) : Type 0 where
  pub function : Function
  pub is : numbered f fs ≡ Some function
  pub parameters : function.parameters ≡ arguments
  pub few : arguments ≤ MOST_ARGUMENTS

abbrev mutual
  -- each call in an expression is such a one
  pub HasCalls : List Function → Expr → Type 0
  HasCalls fs (node.SetVar i e) = HasCalls fs e
  HasCalls fs (node.VSet i e) = HasCalls fs e
  HasCalls fs (node.Load w e) = HasCalls fs e
  HasCalls fs (node.Store w e f) = HasCalls fs e × HasCalls fs f
  HasCalls fs (node.Modify w k e f) = HasCalls fs e × HasCalls fs f
  HasCalls fs (node.Post w step e) = HasCalls fs e
  HasCalls fs (node.Bin k e f) = HasCalls fs e × HasCalls fs f
  HasCalls fs (node.Un k e) = HasCalls fs e
  HasCalls fs (node.And e f) = HasCalls fs e × HasCalls fs f
  HasCalls fs (node.Or e f) = HasCalls fs e × HasCalls fs f
  HasCalls fs (node.Cond c e f) = HasCalls fs c × HasCalls fs e × HasCalls fs f
  HasCalls fs (node.Comma e f) = HasCalls fs e × HasCalls fs f
  HasCalls fs (node.Void e) = HasCalls fs e
  HasCalls fs (node.Call r f args) = IsCallee fs f (count args) × HaveCalls fs args
  HasCalls fs (node.CallNumber r e args) = (count args ≤ MOST_ARGUMENTS) × HasCalls fs e × HaveCalls fs args
  HasCalls fs (node.Lib f e) = HasCalls fs e
  HasCalls fs (node.Tick t args) = HaveCalls fs args
  HasCalls fs (node.Capture k e) = HasCalls fs e
  HasCalls fs (node.Compile e) = HasCalls fs e
  HasCalls fs (node.ParamOf e) = HasCalls fs e
  HasCalls fs _ = Unit {0}

  pub HaveCalls : List Function → Args → Type 0
  HaveCalls fs node.NoArg = Unit {0}
  HaveCalls fs (node.Arg e args) = HasCalls fs e × HaveCalls fs args

abbrev mutual
  pub HasCallsStmt : List Function → Stmt → Type 0
  HasCallsStmt fs (node.Eval e) = HasCalls fs e
  HasCallsStmt fs (node.Block vs is) = HaveCallsItems fs vs × HaveCallsItems fs is
  HasCallsStmt fs (node.If e s) = HasCalls fs e × HasCallsStmt fs s
  HasCallsStmt fs (node.IfElse e s t) = HasCalls fs e × HasCallsStmt fs s × HasCallsStmt fs t
  HasCallsStmt fs (node.While e s) = HasCalls fs e × HasCallsStmt fs s
  HasCallsStmt fs (node.Do s e) = HasCallsStmt fs s × HasCalls fs e
  HasCallsStmt fs (node.For e s) = HasCalls fs e × HasCallsStmt fs s
  HasCallsStmt fs (node.ForStep e step s) = HasCalls fs e × HasCalls fs step × HasCallsStmt fs s
  HasCallsStmt fs (node.Switch e vs is) = HasCalls fs e × HaveCallsItems fs vs × HaveCallsItems fs is
  HasCallsStmt fs (node.ReturnValue e) = HasCalls fs e
  HasCallsStmt fs _ = Unit {0}

  pub HaveCallsItems : List Function → Items → Type 0
  HaveCallsItems fs node.NoItem = Unit {0}
  HaveCallsItems fs (node.Item s is) = HasCallsStmt fs s × HaveCallsItems fs is

abbrev pub HasCallsBody : List Function → TickBody → Type 0
HasCallsBody fs (node.Expression e) = HasCalls fs e
HasCallsBody fs (node.Statement s) = HasCallsStmt fs s
