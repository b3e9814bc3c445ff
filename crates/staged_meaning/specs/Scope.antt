-- Which variables are in scope: those of the blocks that are entered. A checked tree uses no other. And which nodes
-- stand in code that has captures of some kinds.
use Rattle.std.specs.Prelude.{ℕ, ◌≡◌, ◌%◌, ◌≤◌, Bool, true, false, List, [], slice_get, Option, Some, None}
use Rattle.word32.specs.Space.{update}
use Rattle.typed_tree.specs.declared.expression.CaptureKind.{CaptureKind}
use Rattle.typed_tree.specs.declared.expression.CaptureKind.TheVariants as kind
use Rattle.typed_tree.specs.declared.expression.CapturedWord.{CapturedWord}
use Rattle.typed_tree.specs.declared.expression.CapturedWord.TheVariants as word
use Rattle.typed_tree.specs.Nodes.{Expr, Captured, Var, SetVar, PostVar, VGet, VSet, VPost, Load, Store, Modify, Post}
use Rattle.typed_tree.specs.Nodes.{Bin, Un, And, Or, Cond, Comma, Void, Call, CallNumber, Lib, Tick, Capture, Splice}
use Rattle.typed_tree.specs.Nodes.{Compile, ParamOf, Args, NoArg, Arg, Stmt, Eval, Block, Variable, Parameter, If}
use Rattle.typed_tree.specs.Nodes.{IfElse, While, Do, For, ForStep, Switch, ReturnValue, Items, NoItem, Item, Function}
use Rattle.staged_meaning.specs.Size.{size_of, variables_in}
use Rattle.staged_meaning.specs.Program.{Tick as TickOf, OfExpression, OfStatement}
use Rattle.staged_meaning.specs.Calls.{HasCallsStmt}
use Rattle.staged_meaning.specs.Frames.{HasFramesStmt}
use Rattle.staged_meaning.specs.Ticks.{AreCaptures, HasTicksStmt}
use Rattle.staged_meaning.specs.Placed.{IsPlaced, IsHeaded, outside, below}
use Rattle.staged_meaning.specs.Values.{UsesValuesStmt}
use Rattle.limits.specs.declared.program.TheConstants.{FRAME_OBJECT_BYTES, MOST_ARGUMENTS, SIZE_LIMIT}

-- true at the variables that are in scope
abbrev pub Scope : Type 0
Scope = ℕ → Bool

abbrev pub no_scope : Scope
no_scope i = false

-- the scope behind a statement, and behind a list of them: a variable of a block stands before the items that use it
abbrev pub scope_of : Stmt → Scope → Scope
scope_of (Variable i) scope = update i true scope
scope_of (Parameter k width) scope = update k true scope
scope_of _ scope = scope

abbrev pub scope_after : Items → Scope → Scope
scope_after NoItem scope = scope
scope_after (Item s items) scope = scope_after items (scope_of s scope)

-- each variable that is used is in scope
abbrev mutual
  pub IsScoped : Scope → Expr → Type 0
  IsScoped scope (Var i) = scope i ≡ true
  IsScoped scope (SetVar i a) = (scope i ≡ true) × IsScoped scope a
  IsScoped scope (PostVar i width step) = scope i ≡ true
  IsScoped scope (VSet c a) = IsScoped scope a
  IsScoped scope (Load w a) = IsScoped scope a
  IsScoped scope (Store w a b) = IsScoped scope a × IsScoped scope b
  IsScoped scope (Modify w k a b) = IsScoped scope a × IsScoped scope b
  IsScoped scope (Post w step a) = IsScoped scope a
  IsScoped scope (Bin k a b) = IsScoped scope a × IsScoped scope b
  IsScoped scope (Un k a) = IsScoped scope a
  IsScoped scope (And a b) = IsScoped scope a × IsScoped scope b
  IsScoped scope (Or a b) = IsScoped scope a × IsScoped scope b
  IsScoped scope (Cond c a b) = IsScoped scope c × IsScoped scope a × IsScoped scope b
  IsScoped scope (Comma a b) = IsScoped scope a × IsScoped scope b
  IsScoped scope (Void a) = IsScoped scope a
  IsScoped scope (Call answer f args) = AreScoped scope args
  IsScoped scope (CallNumber answer a args) = IsScoped scope a × AreScoped scope args
  IsScoped scope (Lib library a) = IsScoped scope a
  IsScoped scope (Tick tick args) = AreScoped scope args
  IsScoped scope (Capture kind a) = IsScoped scope a
  IsScoped scope (Compile a) = IsScoped scope a
  IsScoped scope (ParamOf a) = IsScoped scope a
  IsScoped scope _ = Unit {0}

  pub AreScoped : Scope → Args → Type 0
  AreScoped scope NoArg = Unit {0}
  AreScoped scope (Arg a args) = IsScoped scope a × AreScoped scope args

abbrev mutual
  pub IsScopedStmt : Scope → Stmt → Type 0
  IsScopedStmt scope (Eval e) = IsScoped scope e
  IsScopedStmt scope (Block variables items) =
      AreScopedItems scope variables × AreScopedItems (scope_after variables scope) items
  IsScopedStmt scope (If e s) = IsScoped scope e × IsScopedStmt scope s
  IsScopedStmt scope (IfElse e s t) = IsScoped scope e × IsScopedStmt scope s × IsScopedStmt scope t
  IsScopedStmt scope (While e s) = IsScoped scope e × IsScopedStmt scope s
  IsScopedStmt scope (Do s e) = IsScopedStmt scope s × IsScoped scope e
  IsScopedStmt scope (For e s) = IsScoped scope e × IsScopedStmt scope s
  IsScopedStmt scope (ForStep e step s) = IsScoped scope e × IsScoped scope step × IsScopedStmt scope s
  IsScopedStmt scope (Switch e variables items) =
      IsScoped scope e × AreScopedItems scope variables × AreScopedItems (scope_after variables scope) items
  IsScopedStmt scope (ReturnValue e) = IsScoped scope e
  IsScopedStmt scope _ = Unit {0}

  pub AreScopedItems : Scope → Items → Type 0
  AreScopedItems scope NoItem = Unit {0}
  AreScopedItems scope (Item s items) = IsScopedStmt scope s × AreScopedItems (scope_of s scope) items

-- ---- nodes and what is captured

-- the kind of the capture that a captured word is
abbrev pub kind_of_word : CapturedWord → CaptureKind
kind_of_word word.Dollar = kind.Dollar
kind_of_word word.Address = kind.Address

-- The capture of this number is of this kind, where a tick captures these; a function of the text captures none.
abbrev pub HasCapture : List CaptureKind → (capture : ℕ) → CaptureKind → Type 0
HasCapture kinds i k = slice_get kinds i ≡ Some k

-- Each node that names a capture names one of its kind, and a tick is given captures.
abbrev mutual
  pub IsBuilt : List CaptureKind → Expr → Type 0
  IsBuilt kinds (Captured w i) = HasCapture kinds i (kind_of_word w)
  IsBuilt kinds (VGet i) = HasCapture kinds i kind.Variable
  IsBuilt kinds (VSet i a) = HasCapture kinds i kind.Variable × IsBuilt kinds a
  IsBuilt kinds (VPost i step) = HasCapture kinds i kind.Variable
  IsBuilt kinds (Splice answer i) = HasCapture kinds i (kind.Splice answer)
  IsBuilt kinds (SetVar i a) = IsBuilt kinds a
  IsBuilt kinds (Load width a) = IsBuilt kinds a
  IsBuilt kinds (Store width a b) = IsBuilt kinds a × IsBuilt kinds b
  IsBuilt kinds (Modify width k a b) = IsBuilt kinds a × IsBuilt kinds b
  IsBuilt kinds (Post width step a) = IsBuilt kinds a
  IsBuilt kinds (Bin k a b) = IsBuilt kinds a × IsBuilt kinds b
  IsBuilt kinds (Un k a) = IsBuilt kinds a
  IsBuilt kinds (And a b) = IsBuilt kinds a × IsBuilt kinds b
  IsBuilt kinds (Or a b) = IsBuilt kinds a × IsBuilt kinds b
  IsBuilt kinds (Cond c a b) = IsBuilt kinds c × IsBuilt kinds a × IsBuilt kinds b
  IsBuilt kinds (Comma a b) = IsBuilt kinds a × IsBuilt kinds b
  IsBuilt kinds (Void a) = IsBuilt kinds a
  IsBuilt kinds (Call answer f args) = AreBuilt kinds args
  IsBuilt kinds (CallNumber answer a args) = IsBuilt kinds a × AreBuilt kinds args
  IsBuilt kinds (Lib library a) = IsBuilt kinds a
  IsBuilt kinds (Tick tick args) = AreCaptures args × AreBuilt kinds args
  IsBuilt kinds (Capture k a) = IsBuilt kinds a
  IsBuilt kinds (Compile a) = IsBuilt kinds a
  IsBuilt kinds (ParamOf a) = IsBuilt kinds a
  IsBuilt kinds _ = Unit {0}

  pub AreBuilt : List CaptureKind → Args → Type 0
  AreBuilt kinds NoArg = Unit {0}
  AreBuilt kinds (Arg a args) = IsBuilt kinds a × AreBuilt kinds args

abbrev mutual
  pub IsBuiltStmt : List CaptureKind → Stmt → Type 0
  IsBuiltStmt kinds (Eval e) = IsBuilt kinds e
  IsBuiltStmt kinds (Block variables items) = AreBuiltItems kinds variables × AreBuiltItems kinds items
  IsBuiltStmt kinds (If e s) = IsBuilt kinds e × IsBuiltStmt kinds s
  IsBuiltStmt kinds (IfElse e s t) = IsBuilt kinds e × IsBuiltStmt kinds s × IsBuiltStmt kinds t
  IsBuiltStmt kinds (While e s) = IsBuilt kinds e × IsBuiltStmt kinds s
  IsBuiltStmt kinds (Do s e) = IsBuiltStmt kinds s × IsBuilt kinds e
  IsBuiltStmt kinds (For e s) = IsBuilt kinds e × IsBuiltStmt kinds s
  IsBuiltStmt kinds (ForStep e step s) = IsBuilt kinds e × IsBuilt kinds step × IsBuiltStmt kinds s
  IsBuiltStmt kinds (Switch e variables items) =
      IsBuilt kinds e × AreBuiltItems kinds variables × AreBuiltItems kinds items
  IsBuiltStmt kinds (ReturnValue e) = IsBuilt kinds e
  IsBuiltStmt kinds _ = Unit {0}

  pub AreBuiltItems : List CaptureKind → Items → Type 0
  AreBuiltItems kinds NoItem = Unit {0}
  AreBuiltItems kinds (Item s items) = IsBuiltStmt kinds s × AreBuiltItems kinds items

-- A function that names no capture, uses the variables that are in scope and the values that are left, and whose
-- statements stand where they may. It has at most so many nodes as a program that is accepted may have in a function,
-- and its variables are numbered from 0, each declared by a node.
pub record IsReady (function : Function) : Type 0 where
  pub built : IsBuiltStmt [] function.body
  pub scoped : IsScopedStmt no_scope function.body
  pub values : UsesValuesStmt function.body
  pub placed : IsPlaced outside function.body
  pub small : size_of function ≤ SIZE_LIMIT
  pub dense : variables_in function.body ≤ size_of function

-- Such a function among these, in a program whose ticks capture this: its calls and ticks fit them, its objects lie in
-- its frame, which is of whole words, and its parameters are declared at its head.
pub record IsReadyIn (functions : List Function) (ticks : List (List CaptureKind)) (function : Function) : Type 0 where
  pub ready : IsReady function
  pub calls : HasCallsStmt functions function.body
  pub ticks_are : HasTicksStmt ticks function.body
  pub frames : HasFramesStmt function.object function.body
  pub headed : IsHeaded function.parameters function.body
  pub few : function.parameters ≤ MOST_ARGUMENTS
  pub short : function.object ≤ FRAME_OBJECT_BYTES
  pub whole : function.object % 4 ≡ 0

-- what stands behind a backquote, as a statement
abbrev pub statement_of : TickOf → Stmt
statement_of (OfExpression e) = Eval e
statement_of (OfStatement s) = s

-- A tick in such a program that captures these kinds: it names no other capture, has neither parameters nor frame
-- objects, and fits the functions and ticks as a function does.
pub record IsReadyTick (functions : List Function) (ticks : List (List CaptureKind)) (kinds : List CaptureKind)
    (tick : TickOf) : Type 0 where
  pub built : IsBuiltStmt kinds (statement_of tick)
  pub scoped : IsScopedStmt no_scope (statement_of tick)
  pub values : UsesValuesStmt (statement_of tick)
  pub placed : IsPlaced (below outside) (statement_of tick)
  pub calls : HasCallsStmt functions (statement_of tick)
  pub ticks_are : HasTicksStmt ticks (statement_of tick)
  pub frames : HasFramesStmt 0 (statement_of tick)

-- one that is there
abbrev pub IsReadyTickAt : List Function → (ticks : List (List CaptureKind)) → (kinds : List CaptureKind) →
    Option TickOf → Type 0
IsReadyTickAt functions ticks kinds None = ⊥
IsReadyTickAt functions ticks kinds (Some tick) = IsReadyTick functions ticks kinds tick
