-- What is asked of the parts of a statement and of a declaration in a block.
use Rattle.std.specs.Prelude.{◌≡◌, ℕ, ◌≤◌, Bool, true, not, ◌||◌, List, [], ◌∷◌, Option, Ok}
use Rattle.c_types.specs.declared.ctype.CType.{CType}
use Rattle.tick_tree.specs.declared.syntax.Core.TheOpen.{Stmt-F}
use Rattle.typed_tree.specs.declared.expression.CaptureKind.{CaptureKind}
use Rattle.typed_tree.specs.declared.expression.Expr.{Expr}
use Rattle.typed_tree.specs.declared.expression.Stmt.{Stmt}
use Rattle.typed_tree.specs.declared.expression.Stmt.TheVariants as st
use Rattle.check_operands.specs.declared.operand.Operand.{Operand}
use Rattle.check_rules.specs.declared.state.Around.{Around as Standing}
use Rattle.check_rules.specs.declared.state.Stage.{Stage}
use Rattle.check_rules.specs.declared.state.State.{State}
use Rattle.check_rules.specs.Frames.{words}
use Rattle.check_rules.specs.Walks.{Rule}
use Rattle.check_rules.specs.ExpressionRules.{Node, Named, Shape, Item}
use Rattle.check_rules.specs.Initializers.{is_array}
use Rattle.wf_walk.specs.Kept.{IsKeeping}
use Rattle.wf_walk.specs.Known.{Blocks, IsObject, Known}
use Rattle.wf_walk.specs.Steps.{at, Did}
use Rattle.wf_walk.specs.Good.{Plain, Good, GoodNode}
use Rattle.wf_walk.specs.Items.{MayStand, placed_round, ItemsStand, GoodStatement, GoodItem}
use Rattle.wf_walk.specs.Parts.{EachPart, GoodOptional}

-- ---- statements

-- the walk over a declaration, wherever it stands in a block
abbrev pub GoodDeclaration : List ℕ → (Stage → Rule State (List Stmt)) → Type 0
GoodDeclaration many d = (a : Standing) → MayStand a.stage → GoodStatement many a (d a.stage)

-- the parts of a statement are good
abbrev pub GoodStatementParts : {I S D N P : Type 0} → List ℕ → (D → Stage → Rule State (List Stmt)) →
    Stmt-F Shape Node I (Option Node) Item S D Shape N P Named → Type 0
GoodStatementParts many declaration Stmt-F.Empty = Unit {0}
GoodStatementParts many declaration (Stmt-F.Expr e) = GoodNode many e
GoodStatementParts many declaration (Stmt-F.Block items) = EachPart (GoodItem many) items
GoodStatementParts many declaration (Stmt-F.Stmt::Local d) = GoodDeclaration many (declaration d)
GoodStatementParts many declaration (Stmt-F.If line c i) = GoodNode many c × GoodItem many i
GoodStatementParts many declaration (Stmt-F.IfElse line c i j) = GoodNode many c × GoodItem many i × GoodItem many j
GoodStatementParts many declaration (Stmt-F.While line c i) = GoodNode many c × GoodItem many i
GoodStatementParts many declaration (Stmt-F.Do line i c) = GoodItem many i × GoodNode many c
GoodStatementParts many declaration (Stmt-F.For line first c s i) =
    GoodItem many first × GoodOptional many c × GoodOptional many s × GoodItem many i
GoodStatementParts many declaration (Stmt-F.Switch line e items) = GoodNode many e × EachPart (GoodItem many) items
GoodStatementParts many declaration (Stmt-F.Case line e) = GoodNode many e
GoodStatementParts many declaration (Stmt-F.Default line) = Unit {0}
GoodStatementParts many declaration (Stmt-F.Break line) = Unit {0}
GoodStatementParts many declaration (Stmt-F.Continue line) = Unit {0}
GoodStatementParts many declaration (Stmt-F.Return line e) = GoodOptional many e

-- ---- declarations

-- a variable of this type may stand here: one with an initializer (which isn't bare) is no array
abbrev pub may_be : Bool → CType → Bool
may_be bare t = bare || not (is_array t)

-- the walk over the type of a variable: it names nothing, a variable may have what it answers, and an object of it has
-- a word at least where it may stand
pub record TypeGiven (g : Stage) (bare : Bool) (s new : State) (t : CType) : Type 0 where
  pub plain : Plain g s new
  pub object : IsObject t
  pub words : may_be bare t ≡ true → 1 ≤ words t

abbrev pub GoodType : Stage → Bool → Rule State CType → Type 0
GoodType g bare w = (s new : State) (t : CType) → w s ≡ Ok (t, new) → TypeGiven g bare s new t

-- what a variable begins with is one node for its effect, or none
pub data Begun (xs : List Stmt) : Type 0 where
  Nothing : xs ≡ [] → Begun xs
  Effect : (e : Expr) → xs ≡ st.Eval e ∷ [] → Begun xs

-- a variable begins so, with an initializer or bare
pub record GoodBegin (many : List ℕ) (a : Standing) (bare : Bool) (p : Operand) (step : Rule State (List Stmt)) : Type 0
  where
    pub may : (s new : State) (xs : List Stmt) → step s ≡ Ok (xs, new) → may_be bare p.ctype ≡ true
    pub keeps : IsKeeping a.stage step
    pub begun : (s new : State) (xs : List Stmt) → step s ≡ Ok (xs, new) → Begun xs
    -- where the variable stands right
    pub does : (b : Blocks) (ks : List (List CaptureKind)) (s new : State) (xs : List Stmt) →
        Known many a.stage b ks s →
        step s ≡ Ok (xs, new)
        → Did many a.stage b ks s new
        (λ r. Good (at a.stage (placed_round a r)) p → ItemsStand a (at a.stage (placed_round a r)) xs)
