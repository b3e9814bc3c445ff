-- The walk over a statement of good parts is good, and so are that over a block and that over a declaration in a block.
use Rattle.std.specs.Prelude.{◌≡◌, ℕ, Bool, true, false, List, [], ◌++◌, Option, Ok}
use Rattle.c_types.specs.declared.ctype.Base.{Base}
use Rattle.c_types.specs.declared.ctype.CType.{CType}
use Rattle.check_declarators.specs.declared.steps.Step.{Step}
use Rattle.check_forms.specs.Forms.{Name}
use Rattle.tick_tree.specs.declared.fault.FaultKind.{FaultKind}
use Rattle.tick_tree.specs.declared.syntax.Core.TheOpen.{Stmt-F}
use Rattle.typed_tree.specs.declared.expression.Stmt.{Stmt}
use Rattle.check_operands.specs.declared.operand.Operand.{Operand}
use Rattle.check_rules.specs.declared.state.Around.{Around as Standing}
use Rattle.check_rules.specs.declared.state.Stage.{Stage}
use Rattle.check_rules.specs.declared.state.State.{State}
use Rattle.check_rules.specs.Walks.{Rule, ◌>>=◌, pure, lift}
use Rattle.check_rules.specs.ExpressionRules.{Node, Named, Shape, Item, each, block}
use Rattle.check_rules.specs.Declarations as declarations
use Rattle.check_rules.specs.Declarations.{declared_in}
use Rattle.check_rules.specs.Initializers as initializers
use Rattle.check_rules.specs.StatementRules.{stmt_walk}
use Rattle.wf_walk.specs.Good.{GoodNode, GoodShape, any_computed, any_counted}
use Rattle.wf_walk.specs.Items.{MayStand, GoodStatement, GoodItem, Few, GoodBlock}
use Rattle.wf_walk.specs.Parts.{EachPart}
use Rattle.wf_walk.specs.StatementParts.{GoodStatementParts, GoodType, GoodBegin}

-- ---- statements and blocks

-- a layer of a statement; of a declaration the walk over it stands there
abbrev pub Stmt-W : Type 0
Stmt-W = Stmt-F Shape Node (Unit {0}) (Option Node) Item (Unit {0}) (Stage → Rule State (List Stmt)) Shape (Unit {0})
    (Unit {0}) Named

abbrev pub StatementsAreGood : Type 0
StatementsAreGood = (many : List ℕ) (s : Stmt-W) → GoodStatementParts many (λ d. d) s → (a : Standing) →
    MayStand a.stage → GoodStatement many a (stmt_walk (λ d. d) s a)

-- the items of a block, one after the other
abbrev pub ListsAreGood : Type 0
ListsAreGood = (many : List ℕ) (items : List Item) (a : Standing) → MayStand a.stage → EachPart (GoodItem many) items →
    GoodStatement many a (each items a)

abbrev pub BlocksAreGood : Type 0
BlocksAreGood =
    (many : List ℕ) (items : List Item) (a : Standing) → MayStand a.stage → a.is_direct ≡ false →
    EachPart (GoodItem many) items
    → ((s new : State) (x : Stmt) → block items a s ≡ Ok (x, new) → Few s new) → GoodBlock many a (block items a)

-- ---- declarations

-- one declarator: the walk over its type, its name, and what it begins with
abbrev pub declares_one : Stage → ℕ → Option (ℕ × Name) → Rule State CType → (Operand → Rule State (List Stmt)) →
    Rule State (List Stmt)
declares_one g line name w begin = w >>= (λ t. declarations.declare g line name t >>= (λ p. begin p))

pub record DeclarationsAreGood : Type 0 where
  -- the type of a variable, whose steps an initializer may complete
  pub type : (g : Stage) (line : ℕ) (b : Base) (d : Shape) (bare : Bool) (f : List Step → List Step) → GoodShape d →
      ((ss : List Step) → any_computed (f ss) ≡ false → any_computed ss ≡ false)
      → (bare ≡ true → (ss : List Step) → any_counted ss ≡ false → any_counted (f ss) ≡ false)
      → GoodType g bare (d.walk g >>= (λ ss. lift (declared_in g line b (f ss))))
  -- it begins with nothing, with a value, or with a list
  pub nothing : (many : List ℕ) (a : Standing) (p : Operand) → GoodBegin many a true p (pure [])
  pub value : (many : List ℕ) (a : Standing) (line : ℕ) (p : Operand) (n : Node) (string : Bool) → GoodNode many n →
      GoodBegin many a false p (n.walk a.stage >>= (λ o. lift (initializers.from_value line p string o)))
  pub list : (many : List ℕ) (a : Standing) (line : ℕ) (p : Operand) (row sized : Bool)
      (step : Rule State (Option FaultKind)) →
      GoodBegin many a false p (step >>= (λ broken. lift (initializers.from_list line row sized broken)))
  -- one declarator, and several
  pub one : (many : List ℕ) (a : Standing) (line : ℕ) (name : Option (ℕ × Name)) (bare : Bool) (w : Rule State CType)
      (begin : Operand → Rule State (List Stmt)) → MayStand a.stage → GoodType a.stage bare w →
      ((p : Operand) → GoodBegin many a bare p (begin p))
      → GoodStatement many a (declares_one a.stage line name w begin)
  pub none : (many : List ℕ) (a : Standing) → GoodStatement many a (pure [])
  pub more : (many : List ℕ) (a : Standing) (p q : Rule State (List Stmt)) → MayStand a.stage → GoodStatement many a p →
      GoodStatement many a q → GoodStatement many a (p >>= (λ xs. q >>= (λ ys. pure (xs ++ ys))))
