-- The frame objects that a body names: each lies within the bytes of its function, and one that the body makes begins
-- at a multiple of 4 and has a word at least. A checked tree keeps this. These are this project's own rules.
use Rattle.std.specs.Prelude.{◌≡◌, ℕ, ◌+◌, ◌*◌, ◌%◌, ◌≤◌}
use Rattle.typed_tree.specs.Nodes as node
use Rattle.typed_tree.specs.Nodes.{Expr, Args, Stmt, Items}

-- an object at this offset, of so many bytes
abbrev pub IsWithin : (object offset bytes : ℕ) → Type 0
IsWithin object offset bytes = (offset + bytes ≤ object) × (offset % 4 ≡ 0)

abbrev mutual
  -- each address in an expression is one in the frame
  pub HasFrames : (object : ℕ) → Expr → Type 0
  HasFrames object (node.SetVar i a) = HasFrames object a
  HasFrames object (node.VSet c a) = HasFrames object a
  HasFrames object (node.Frame offset) = offset ≤ object
  HasFrames object (node.Load w a) = HasFrames object a
  HasFrames object (node.Store w a b) = HasFrames object a × HasFrames object b
  HasFrames object (node.Modify w k a b) = HasFrames object a × HasFrames object b
  HasFrames object (node.Post w step a) = HasFrames object a
  HasFrames object (node.Bin k a b) = HasFrames object a × HasFrames object b
  HasFrames object (node.Un k a) = HasFrames object a
  HasFrames object (node.And a b) = HasFrames object a × HasFrames object b
  HasFrames object (node.Or a b) = HasFrames object a × HasFrames object b
  HasFrames object (node.Cond c a b) = HasFrames object c × HasFrames object a × HasFrames object b
  HasFrames object (node.Comma a b) = HasFrames object a × HasFrames object b
  HasFrames object (node.Void a) = HasFrames object a
  HasFrames object (node.Call answer f args) = HaveFrames object args
  HasFrames object (node.CallNumber answer a args) = HasFrames object a × HaveFrames object args
  HasFrames object (node.Lib library a) = HasFrames object a
  HasFrames object (node.Tick tick args) = HaveFrames object args
  HasFrames object (node.Capture kind a) = HasFrames object a
  HasFrames object (node.Compile a) = HasFrames object a
  HasFrames object (node.ParamOf a) = HasFrames object a
  HasFrames object _ = Unit {0}

  pub HaveFrames : (object : ℕ) → Args → Type 0
  HaveFrames object node.NoArg = Unit {0}
  HaveFrames object (node.Arg a args) = HasFrames object a × HaveFrames object args

abbrev mutual
  pub HasFramesStmt : (object : ℕ) → Stmt → Type 0
  HasFramesStmt object (node.Eval e) = HasFrames object e
  HasFramesStmt object (node.Block variables items) = HaveFramesItems object variables × HaveFramesItems object items
  HasFramesStmt object (node.Object offset words) = IsWithin object offset (4 * words) × (1 ≤ words)
  HasFramesStmt object (node.ParameterObject k width offset) = IsWithin object offset 4
  HasFramesStmt object (node.If e s) = HasFrames object e × HasFramesStmt object s
  HasFramesStmt object (node.IfElse e s t) = HasFrames object e × HasFramesStmt object s × HasFramesStmt object t
  HasFramesStmt object (node.While e s) = HasFrames object e × HasFramesStmt object s
  HasFramesStmt object (node.Do s e) = HasFramesStmt object s × HasFrames object e
  HasFramesStmt object (node.For e s) = HasFrames object e × HasFramesStmt object s
  HasFramesStmt object (node.ForStep e step s) = HasFrames object e × HasFrames object step × HasFramesStmt object s
  HasFramesStmt object (node.Switch e variables items) =
      HasFrames object e × HaveFramesItems object variables × HaveFramesItems object items
  HasFramesStmt object (node.ReturnValue e) = HasFrames object e
  HasFramesStmt object _ = Unit {0}

  pub HaveFramesItems : (object : ℕ) → Items → Type 0
  HaveFramesItems object node.NoItem = Unit {0}
  HaveFramesItems object (node.Item s items) = HasFramesStmt object s × HaveFramesItems object items
