-- How much the rules of the walk make grow, by their parts.
use Rattle.std.specs.Prelude.{ℕ, ◌+◌, List, Option}
use Rattle.c_types.specs.declared.ctype.CType.{CType}
use Rattle.check_scopes.specs.Scopes.{Name}
use Rattle.check_declarators.specs.declared.steps.Step.{Step}
use Rattle.check_operands.specs.declared.operand.Operand.{Operand}
use Rattle.tick_tree.specs.declared.base.BinaryOp.{BinaryOp}
use Rattle.tick_tree.specs.declared.base.UnaryOp.{UnaryOp}
use Rattle.check_rules.specs.declared.state.Around.{Around}
use Rattle.check_rules.specs.declared.state.Stage.{Stage}
use Rattle.check_rules.specs.declared.state.State.{State}
use Rattle.check_rules.specs.Locals as locals
use Rattle.check_rules.specs.Names as names
use Rattle.check_rules.specs.Walks.{Rule}
use Rattle.check_rules.specs.Productions as productions
use Rattle.check_rules.specs.ExpressionRules as rules
use Rattle.check_rules.specs.ExpressionRules.{Node, Named, Item}
use Rattle.check_rules.specs.StatementRules as statements
use Rattle.wf_growth_rules.specs.Light.{Bounded, LightNode, LightNamed, LightItem, LightOptional, LightSuffix}
use Rattle.wf_growth_rules.specs.Light.{LightType, Each}

-- ---- steps on the state

-- a name is captured once at most, and a variable is one more
pub record StatesAreLight : Type 0 where
  pub named : (line : ℕ) (g : Stage) (name : Name) → Bounded 1 (names.named line g name)
  pub local : (g : Stage) (line : ℕ) (name : Name) (t : CType) → Bounded 1 (locals.local g line name t)
  pub parameter : (line : ℕ) (name : Name) (t : CType) → Bounded 1 (locals.parameter line name t)
  pub list_parameter : (g : Stage) (line : ℕ) (name : Name) (t : CType) →
      Bounded 0 (locals.list_parameter g line name t)
  pub unary : (line : ℕ) (op : UnaryOp) (g : Stage) (o : Operand) → Bounded 1 (productions.unary_node line op g o)

-- ---- expressions

-- one more than the parts together
pub record ExpressionsAreLight : Type 0 where
  pub block : (w : ℕ) (items : List Item) (a : Around) → Each LightItem w items → Bounded w (rules.block items a)
  pub call : (v w : ℕ) (line : ℕ) (f : Node) (list : List Node) (g : Stage) → LightNode v f → Each LightNode w list →
      Bounded (1 + (v + w)) (rules.call line f list g)
  pub tick : (w : ℕ) (line : ℕ) (a : Node) (g : Stage) → LightNode w a →
      Bounded (1 + w) (rules.tick_expression line a g)
  pub tick_block : (w : ℕ) (line : ℕ) (items : List Item) (g : Stage) → Each LightItem w items →
      Bounded (1 + w) (rules.tick_block line items g)
  pub unary : (w : ℕ) (line : ℕ) (op : UnaryOp) (a : Node) (g : Stage) → LightNode w a →
      Bounded (1 + w) (rules.unary line op a g)
  pub binary : (v w : ℕ) (line : ℕ) (op : BinaryOp) (a b : Node) (g : Stage) → LightNode v a → LightNode w b →
      Bounded (1 + (v + w)) (rules.binary line op a b g)
  pub cast : (v w : ℕ) (line : ℕ) (t : Named) (a : Node) (g : Stage) → LightNamed v t → LightNode w a →
      Bounded (1 + (v + w)) (rules.cast line t a g)

-- ---- statements and suffixes

pub record StatementsAreLight : Type 0 where
  pub switch : (v w : ℕ) (line : ℕ) (e : Node) (items : List Item) (a : Around) → LightNode v e →
      Each LightItem w items → Bounded (1 + (v + w)) (statements.switch line e items a)
  pub for_loop : (t u v w : ℕ) (line : ℕ) (first : Item) (c s : Option Node) (i : Item) (a : Around) →
      LightItem t first → LightOptional u c → LightOptional v s → LightItem w i
      → Bounded (1 + (t + (u + (v + w)))) (statements.for_loop line first c s i a)
  pub returning : (w : ℕ) (line : ℕ) (e : Option Node) (a : Around) → LightOptional w e →
      Bounded (1 + w) (statements.returning line e a)
  pub list : (w : ℕ) (ps : List (Stage → Rule State CType)) (g : Stage) → Each LightType w ps →
      Bounded (1 + w) (statements.list_step ps g)
  pub steps : (w : ℕ) (rs : List (Stage → Rule State Step)) (ss : List Step) (g : Stage) → Each LightSuffix w rs →
      Bounded w (statements.each_step rs ss g)
