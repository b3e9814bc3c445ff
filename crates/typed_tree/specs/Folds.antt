-- Folds over the typed tree. A definition on trees is one rule a node, which says what holds of the node by what holds
-- of its parts; it is used on the code's tree and on the pure tree alike. This is the fold over the code's tree.
use Rattle.std.specs.Prelude.{ℕ, ◌+◌, List, [], ◌∷◌, max}
use Rattle.word32.specs.declared.width.Width.{Width}
use Rattle.typed_tree.specs.declared.expression.Expr.{Expr}
use Rattle.typed_tree.specs.declared.expression.Expr.TheOpen.{Expr-F}
use Rattle.typed_tree.specs.declared.expression.Expr.TheFolds.{fold-Expr}
use Rattle.typed_tree.specs.declared.expression.Stmt.{Stmt}
use Rattle.typed_tree.specs.declared.expression.Stmt.TheOpen.{Stmt-F}
use Rattle.typed_tree.specs.declared.expression.Stmt.TheFolds.{fold-Stmt}

-- a statement in whose place of each expression stands an E, and in that of each statement an S
pub data Parts (E S : Type 0) : Type 0 where
  Eval : E → Parts E S
  Block : (variables items : List S) → Parts E S
  Variable : (variable : ℕ) → Parts E S
  Object : (offset words : ℕ) → Parts E S
  Parameter : (parameter : ℕ) → Width → Parts E S
  ParameterObject : (parameter : ℕ) → Width → (offset : ℕ) → Parts E S
  If : E → S → Parts E S
  IfElse : E → S → S → Parts E S
  While : E → S → Parts E S
  Do : S → E → Parts E S
  For : E → S → Parts E S
  ForStep : E → E → S → Parts E S
  Switch : E → (variables items : List S) → Parts E S
  Case : (value : ℕ) → Parts E S
  Default : Parts E S
  Break : Parts E S
  Continue : Parts E S
  Return : Parts E S
  ReturnValue : E → Parts E S

-- what is defined of expressions and statements: a rule a node
pub record Rules (E S : Type 0) : Type 0 where
  pub expr : Expr-F E → E
  pub stmt : Parts E S → S

abbrev pub parts_of : {E S : Type 0} → (Expr → E) → Stmt-F S → Parts E S
parts_of f (Stmt-F.Eval e) = Eval (f e)
parts_of f (Stmt-F.Block variables items) = Block variables items
parts_of f (Stmt-F.Variable i) = Variable i
parts_of f (Stmt-F.Object off words) = Object off words
parts_of f (Stmt-F.Parameter k w) = Parameter k w
parts_of f (Stmt-F.ParameterObject k w off) = ParameterObject k w off
parts_of f (Stmt-F.If c s) = If (f c) s
parts_of f (Stmt-F.IfElse c s t) = IfElse (f c) s t
parts_of f (Stmt-F.While c s) = While (f c) s
parts_of f (Stmt-F.Do s c) = Do s (f c)
parts_of f (Stmt-F.For c s) = For (f c) s
parts_of f (Stmt-F.ForStep c step s) = ForStep (f c) (f step) s
parts_of f (Stmt-F.Switch e variables items) = Switch (f e) variables items
parts_of f (Stmt-F.Case c) = Case c
parts_of f Stmt-F.Default = Default
parts_of f Stmt-F.Break = Break
parts_of f Stmt-F.Continue = Continue
parts_of f Stmt-F.Return = Return
parts_of f (Stmt-F.ReturnValue e) = ReturnValue (f e)

module _ {E S : Type 0} (r : Rules E S) where
  -- what the rules say of a statement one of whose layers is open
  abbrev pub layer : Stmt-F S → S
  layer x = r.stmt (parts_of (fold-Expr E r.expr) x)

  -- and of a whole statement
  abbrev pub fold_statement : Stmt → S
  fold_statement = fold-Stmt S layer

-- numbers of parts together, and the greatest of them
abbrev pub total : List ℕ → ℕ
total [] = 0
total (n ∷ ns) = n + total ns

abbrev pub greatest : List ℕ → ℕ
greatest [] = 0
greatest (n ∷ ns) = max n (greatest ns)
