-- What is asked of the walks over the parts of a tree: each rule of the walk that is given such parts makes such a part
-- again.
use Rattle.std.specs.Prelude.{◌≡◌, ℕ, ◌+◌, ◌-◌, ◌≤◌, Bool, true, false, ◌||◌, List, [], ◌∷◌, length, is_some, Ok}
use Rattle.c_types.specs.declared.ctype.CType.{CType}
use Rattle.check_declarators.specs.declared.steps.Length.{Length}
use Rattle.check_declarators.specs.declared.steps.Length.TheVariants as len
use Rattle.check_declarators.specs.declared.steps.Step.{Step}
use Rattle.check_declarators.specs.declared.steps.Step.TheVariants as step
use Rattle.typed_tree.specs.declared.expression.Expr.{Expr}
use Rattle.check_operands.specs.declared.operand.Operand.{Operand}
use Rattle.check_rules.specs.declared.state.Stage.{Stage}
use Rattle.check_rules.specs.declared.state.Stage.TheVariants as stage
use Rattle.check_rules.specs.declared.state.State.{State}
use Rattle.check_rules.specs.Walks.{Rule}
use Rattle.check_rules.specs.Bounds.{count_bound}
use Rattle.check_rules.specs.ExpressionRules.{Node, Named, Shape}
use Rattle.wellformed.specs.Places.{Around}
use Rattle.wf_nodes.specs.Right.{IsRight}
use Rattle.wf_nodes.specs.Used.{IsUsed}
use Rattle.wf_walk.specs.Kept.{Starts, KeepsGlobals, KeepsTables, KeepsTick, IsKeeping, outer}
use Rattle.wf_walk.specs.Steps.{at, EachCapture, Does}

-- ---- types

-- What a type, or an expression with the form of a constant, does, whatever is known: it names nothing, and captures
-- only what stands anywhere.
abbrev pub PlainStage : Stage → State → State → Type 0
PlainStage stage.Function s new = new.ticks.all ≡ s.ticks.all
PlainStage stage.Tick s new =
    KeepsTick s new × ((more : Starts s.ticks.captures new.ticks.captures) → (a : Around) → EachCapture a more.rest)
PlainStage stage.Dollar s new = KeepsTick s new × (new.ticks.captures ≡ s.ticks.captures)

pub record Plain (g : Stage) (s new : State) : Type 0 where
  pub tables : KeepsTables s new
  pub captures : Starts s.ticks.captures new.ticks.captures
  pub at : PlainStage g s new

-- the same, but for names in the innermost scope
pub record PlainTables (s new : State) : Type 0 where
  pub depth : length new.scopes ≡ length s.scopes
  pub scopes : outer new.scopes ≡ outer s.scopes
  pub result : new.frame.result ≡ s.frame.result
  pub homes : new.frame.homes ≡ s.frame.homes
  pub nodes : new.frame.nodes ≡ s.frame.nodes
  pub object : new.frame.object ≡ s.frame.object
  pub labels : new.labels ≡ s.labels
  pub functions : new.functions ≡ s.functions
  pub image : KeepsGlobals s new

pub record PlainList (g : Stage) (s new : State) : Type 0 where
  pub tables : PlainTables s new
  pub captures : Starts s.ticks.captures new.ticks.captures
  pub at : PlainStage g s new

-- a length that isn't constant, which no type has
abbrev pub is_computed : Length → Bool
is_computed len.Computed = true
is_computed len.Void = true
is_computed _ = false

abbrev pub is_computed_step : Step → Bool
is_computed_step (step.Array n) = is_computed n
is_computed_step _ = false

abbrev pub any_computed : List Step → Bool
any_computed [] = false
any_computed (s ∷ ss) = is_computed_step s || any_computed ss

-- a length that an initializer counts, which no declarator has
abbrev pub is_counted_step : Step → Bool
is_counted_step (step.Array (len.Counted n)) = true
is_counted_step _ = false

abbrev pub any_counted : List Step → Bool
any_counted [] = false
any_counted (s ∷ ss) = is_counted_step s || any_counted ss

abbrev pub GoodSuffix : (Stage → Rule State Step) → Type 0
GoodSuffix w = (g : Stage) (s new : State) (x : Step) → w g s ≡ Ok (x, new) → is_computed_step x ≡ false →
    Plain g s new × (is_counted_step x ≡ false)

abbrev pub GoodShape : Shape → Type 0
GoodShape d = (g : Stage) (s new : State) (xs : List Step) → d.walk g s ≡ Ok (xs, new) → any_computed xs ≡ false →
    Plain g s new × (any_counted xs ≡ false)

abbrev pub GoodNamed : Named → Type 0
GoodNamed t = (line : ℕ) (g : Stage) (s new : State) (x : CType) → t.walk line g s ≡ Ok (x, new) → Plain g s new

-- a parameter of a list
abbrev pub GoodParameter : (Stage → Rule State CType) → Type 0
GoodParameter w = (g : Stage) (s new : State) (x : CType) → w g s ≡ Ok (x, new) → PlainList g s new

-- ---- expressions

-- an operand stands right, and leaves the value that its type says
abbrev pub Good : Around → Operand → Type 0
Good a o = IsRight a o × IsUsed o

-- where it runs in a function, it stands right anywhere
abbrev pub Anywhere : Stage → Operand → Type 0
Anywhere stage.Function o = (a : Around) → Good a o
Anywhere stage.Tick o = Unit {0}
Anywhere stage.Dollar o = (a : Around) → Good a o

pub record GoodNode (many : List ℕ) (n : Node) : Type 0 where
  pub keeps : (g : Stage) → IsKeeping g (n.walk g)
  pub does : (g : Stage) → Does many g (λ r o. Good (at g r) o) (n.walk g)
  -- so does a string, also in parentheses
  pub string : is_some n.written.string ≡ true → (g : Stage) (s new : State) (o : Operand) → n.walk g s ≡ Ok (o, new) →
      Plain g s new
  -- the captures of a walk are few, whatever is known
  pub few : (g : Stage) (s new : State) (o : Operand) → n.walk g s ≡ Ok (o, new) →
      length new.ticks.captures ≤ length s.ticks.captures + count_bound
  pub constant : n.written.constant ≡ true → (g : Stage) (s new : State) (o : Operand) → n.walk g s ≡ Ok (o, new) →
      Plain g s new × Anywhere g o
