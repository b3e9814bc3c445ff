-- Typed nodes: the trees that have a meaning. Names are resolved, and every value is a 32-bit word. Each node is one of
-- the language's typed nodes by this project's own rule, and counts one in the size of its function or tick.
-- The trees of the code have a view as these: the same nodes, in lists without pointers.
use Rattle.std.specs.Prelude.{ℕ, suc, Bool, List, [], ◌∷◌}
use Rattle.word32.specs.declared.width.Width.{Width}
use Rattle.icode_ops.specs.declared.kind.BinKind.{BinKind}
use Rattle.icode_ops.specs.declared.kind.UnKind.{UnKind}
use Rattle.typed_tree.specs.declared.expression.Answer.{Answer}
use Rattle.typed_tree.specs.declared.expression.Library.{Library}
use Rattle.typed_tree.specs.declared.expression.CaptureKind.{CaptureKind}
use Rattle.typed_tree.specs.declared.expression.CapturedWord.{CapturedWord}
use Rattle.typed_tree.specs.declared.expression.Expr.TheOpen.{Expr-F}
use Rattle.typed_tree.specs.Folds.{Rules}
use Rattle.typed_tree.specs.Folds as parts
use Rattle.typed_tree.specs.Sizes as rule

mutual
  pub data Expr : Type 0 where
    Const : (word : ℕ) → Expr
    -- in a tick, the captured word of this number
    Captured : CapturedWord → (capture : ℕ) → Expr
    Var : (variable : ℕ) → Expr
    SetVar : (variable : ℕ) → Expr → Expr
    -- adds a step to a variable that holds a value of this width; the old value
    PostVar : (variable : ℕ) → Width → (step : ℕ) → Expr
    -- in a tick, a variable of generated code that a capture names
    VGet : (capture : ℕ) → Expr
    VSet : (capture : ℕ) → Expr → Expr
    VPost : (capture step : ℕ) → Expr
    -- the address of the frame object at this offset, in bytes
    Frame : (offset : ℕ) → Expr
    Load : Width → (address : Expr) → Expr
    Store : Width → (address value : Expr) → Expr
    Modify : Width → BinKind → (address value : Expr) → Expr
    Post : Width → (step : ℕ) → (address : Expr) → Expr
    Bin : BinKind → Expr → Expr → Expr
    Un : UnKind → Expr → Expr
    And : Expr → Expr → Expr
    Or : Expr → Expr → Expr
    Cond : (test first second : Expr) → Expr
    Comma : Expr → Expr → Expr
    Void : Expr → Expr
    -- the static function of this number, counted from 1
    Call : Answer → (function : ℕ) → Args → Expr
    CallNumber : Answer → (function : Expr) → Args → Expr
    Getchar : Expr
    Lib : Library → Expr → Expr
    -- the tick of this number, counted from 0, with its captures
    Tick : (tick : ℕ) → Args → Expr
    Capture : CaptureKind → Expr → Expr
    -- in a tick, the specification that a capture names
    Splice : Answer → (capture : ℕ) → Expr
    Compile : Expr → Expr
    Local : Expr
    ParamOf : Expr → Expr

  pub data Args : Type 0 where
    NoArg : Args
    Arg : Expr → Args → Args

mutual
  pub data Stmt : Type 0 where
    -- an expression, for its effects
    Eval : Expr → Stmt
    -- the variables of a block, and its items
    Block : (variables items : Items) → Stmt
    -- a register variable, set to 0
    Variable : (variable : ℕ) → Stmt
    -- a frame object at this offset in bytes, of so many words, set to 0
    Object : (offset words : ℕ) → Stmt
    -- a parameter in the register variable of its own number, or in the frame object at an offset
    Parameter : (parameter : ℕ) → Width → Stmt
    ParameterObject : (parameter : ℕ) → Width → (offset : ℕ) → Stmt
    If : Expr → Stmt → Stmt
    IfElse : Expr → Stmt → Stmt → Stmt
    While : Expr → Stmt → Stmt
    Do : Stmt → Expr → Stmt
    -- a test and a body; a test, a step and a body
    For : Expr → Stmt → Stmt
    ForStep : Expr → Expr → Stmt → Stmt
    -- a value, and the variables and items of the block, which is a node of its own
    Switch : Expr → (variables items : Items) → Stmt
    Case : (value : ℕ) → Stmt
    Default : Stmt
    Break : Stmt
    Continue : Stmt
    Return : Stmt
    ReturnValue : Expr → Stmt

  pub data Items : Type 0 where
    NoItem : Items
    Item : Stmt → Items → Items

-- a function: how many parameters it has, the bytes of its frame objects, and its body
pub record Function : Type 0 where
  pub parameters : ℕ
  pub object : ℕ
  pub body : Stmt

-- what stands behind a backquote
pub data TickBody : Type 0 where
  -- where it leaves no value, the specification is a statement
  Expression : Expr → TickBody
  Statement : Stmt → TickBody

-- a program: its functions, of which the first has the number 1, its ticks, and the bytes that the object space begins
-- with
pub record Program : Type 0 where
  pub functions : List Function
  pub ticks : List TickBody
  pub image : List ℕ

-- ---- folds, by the rules that the code's tree is folded by

module _ {E : Type 0} (r : Expr-F E → E) where
  abbrev mutual
    pub fold_expr : Expr → E
    fold_expr (Const word) = r (Expr-F.Const word)
    fold_expr (Captured word capture) = r (Expr-F.Captured word capture)
    fold_expr (Var variable) = r (Expr-F.Var variable)
    fold_expr (SetVar variable a) = r (Expr-F.SetVar variable (fold_expr a))
    fold_expr (PostVar variable width step) = r (Expr-F.PostVar variable width step)
    fold_expr (VGet capture) = r (Expr-F.VGet capture)
    fold_expr (VSet capture a) = r (Expr-F.VSet capture (fold_expr a))
    fold_expr (VPost capture step) = r (Expr-F.VPost capture step)
    fold_expr (Frame offset) = r (Expr-F.Frame offset)
    fold_expr (Load width a) = r (Expr-F.Load width (fold_expr a))
    fold_expr (Store width a b) = r (Expr-F.Store width (fold_expr a) (fold_expr b))
    fold_expr (Modify width kind a b) = r (Expr-F.Modify width kind (fold_expr a) (fold_expr b))
    fold_expr (Post width step a) = r (Expr-F.Post width step (fold_expr a))
    fold_expr (Bin kind a b) = r (Expr-F.Bin kind (fold_expr a) (fold_expr b))
    fold_expr (Un kind a) = r (Expr-F.Un kind (fold_expr a))
    fold_expr (And a b) = r (Expr-F.And (fold_expr a) (fold_expr b))
    fold_expr (Or a b) = r (Expr-F.Or (fold_expr a) (fold_expr b))
    fold_expr (Cond c a b) = r (Expr-F.Cond (fold_expr c) (fold_expr a) (fold_expr b))
    fold_expr (Comma a b) = r (Expr-F.Comma (fold_expr a) (fold_expr b))
    fold_expr (Void a) = r (Expr-F.Void (fold_expr a))
    fold_expr (Call answer function args) = r (Expr-F.Call answer function (fold_args args))
    fold_expr (CallNumber answer a args) = r (Expr-F.CallNumber answer (fold_expr a) (fold_args args))
    fold_expr Getchar = r Expr-F.Getchar
    fold_expr (Lib function a) = r (Expr-F.Lib function (fold_expr a))
    fold_expr (Tick tick args) = r (Expr-F.Tick tick (fold_args args))
    fold_expr (Capture kind a) = r (Expr-F.Capture kind (fold_expr a))
    fold_expr (Splice answer capture) = r (Expr-F.Splice answer capture)
    fold_expr (Compile a) = r (Expr-F.Compile (fold_expr a))
    fold_expr Local = r Expr-F.Local
    fold_expr (ParamOf a) = r (Expr-F.ParamOf (fold_expr a))

    pub fold_args : Args → List E
    fold_args NoArg = []
    fold_args (Arg e args) = fold_expr e ∷ fold_args args

module _ {E S : Type 0} (r : Rules E S) where
  abbrev mutual
    pub fold_stmt : Stmt → S
    fold_stmt (Eval e) = r.stmt (parts.Eval (fold_expr r.expr e))
    fold_stmt (Block variables items) = r.stmt (parts.Block (fold_items variables) (fold_items items))
    fold_stmt (Variable variable) = r.stmt (parts.Variable variable)
    fold_stmt (Object offset words) = r.stmt (parts.Object offset words)
    fold_stmt (Parameter parameter width) = r.stmt (parts.Parameter parameter width)
    fold_stmt (ParameterObject parameter width offset) = r.stmt (parts.ParameterObject parameter width offset)
    fold_stmt (If c s) = r.stmt (parts.If (fold_expr r.expr c) (fold_stmt s))
    fold_stmt (IfElse c s t) = r.stmt (parts.IfElse (fold_expr r.expr c) (fold_stmt s) (fold_stmt t))
    fold_stmt (While c s) = r.stmt (parts.While (fold_expr r.expr c) (fold_stmt s))
    fold_stmt (Do s c) = r.stmt (parts.Do (fold_stmt s) (fold_expr r.expr c))
    fold_stmt (For c s) = r.stmt (parts.For (fold_expr r.expr c) (fold_stmt s))
    fold_stmt (ForStep c step s) = r.stmt (parts.ForStep (fold_expr r.expr c) (fold_expr r.expr step) (fold_stmt s))
    fold_stmt (Switch e variables items) =
        r.stmt (parts.Switch (fold_expr r.expr e) (fold_items variables) (fold_items items))
    fold_stmt (Case value) = r.stmt (parts.Case value)
    fold_stmt Default = r.stmt parts.Default
    fold_stmt Break = r.stmt parts.Break
    fold_stmt Continue = r.stmt parts.Continue
    fold_stmt Return = r.stmt parts.Return
    fold_stmt (ReturnValue e) = r.stmt (parts.ReturnValue (fold_expr r.expr e))

    pub fold_items : Items → List S
    fold_items NoItem = []
    fold_items (Item s items) = fold_stmt s ∷ fold_items items

-- whether an expression leaves a value
abbrev pub has_value : Expr → Bool
has_value = fold_expr rule.value_rule

-- how many arguments there are
abbrev pub count : Args → ℕ
count NoArg = 0
count (Arg e args) = suc (count args)
