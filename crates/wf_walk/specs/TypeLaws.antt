-- What the walk over types and expressions keeps, and what is known of expressions that have the form of a constant.
use Rattle.std.specs.Prelude.{◌≡◌, ℕ, Option, Ok, List}
use Rattle.tick_tree.specs.declared.syntax.Core.TheOpen.{Expr-F, Suffix-F}
use Rattle.c_types.specs.declared.ctype.CType.{CType}
use Rattle.check_declarators.specs.declared.steps.Step.{Step}
use Rattle.check_operands.specs.declared.operand.Operand.{Operand}
use Rattle.check_rules.specs.declared.state.Stage.{Stage}
use Rattle.check_rules.specs.declared.state.Stage.TheVariants as stage
use Rattle.check_rules.specs.declared.state.State.{State}
use Rattle.check_rules.specs.Walks.{Rule}
use Rattle.check_rules.specs.ExpressionRules.{Node, Named, Shape, Item, walk_rule}
use Rattle.check_rules.specs.StatementRules.{suffix_rule}
use Rattle.wf_walk.specs.Kept.{Keeps, IsKeeping}
use Rattle.wf_walk.specs.Good.{Plain, Anywhere, GoodSuffix}
use Rattle.wf_walk.specs.Parts.{GoodParts, HasForm, IsString, GoodSuffixParts, IsFixed, FixedParts, FixedSuffix}
use Rattle.wf_walk.specs.Parts.{FixedSuffixParts}

-- ---- steps that name nothing, and capture only what stands anywhere

pub record PlainSteps : Type 0 where
  -- one after the other
  pub none : (g : Stage) (s : State) → Plain g s s
  pub more : (g : Stage) (s t new : State) → Plain g s t → Plain g t new → Plain g s new
  -- they keep what expressions keep
  pub keeps : (g : Stage) (s new : State) → Plain g s new → Keeps g s new

-- ---- expressions

-- a layer of an expression, of which the walk over expressions asks nothing of the other parts
abbrev pub Expr-W : Type 0
Expr-W = Expr-F Shape Node (Unit {0}) (Option Node) Item (Unit {0}) (Unit {0}) Shape (Unit {0}) (Unit {0}) Named

-- the walk over an expression keeps what the walks over its parts keep
abbrev pub ExpressionsKeep : Type 0
ExpressionsKeep = (many : List ℕ) (e : Expr-W) → GoodParts many e → (g : Stage) → IsKeeping g (walk_rule e g)

-- one with the form of a constant names nothing, captures only what stands anywhere, and so does its value
abbrev pub ConstantsArePlain : Type 0
ConstantsArePlain =
    (many : List ℕ) (e : Expr-W) → GoodParts many e → HasForm e → (g : Stage) (s new : State) (o : Operand) →
    walk_rule e g s ≡ Ok (o, new)
    → Plain g s new × Anywhere g o

-- and a string captures nothing
abbrev pub StringsArePlain : Type 0
StringsArePlain =
    (many : List ℕ) (e : Expr-W) → GoodParts many e → IsString e → (g : Stage) (s new : State) (o : Operand) →
    walk_rule e g s ≡ Ok (o, new) → Plain g s new

-- ---- types

abbrev pub Suffix-W : Type 0
Suffix-W = Suffix-F Shape Node (Unit {0}) (Option Node) Item (Stage → Rule State Step) (Unit {0}) Shape (Unit {0})
    (Stage → Rule State CType) Named

-- a suffix of a declarator names nothing, or has a length that isn't constant
abbrev pub SuffixesAreGood : Type 0
SuffixesAreGood = (many : List ℕ) (e : Suffix-W) → GoodSuffixParts many e → GoodSuffix (suffix_rule e)

-- ---- what doesn't depend on what is known

pub record Fixing : Type 0 where
  pub constants : (e : Expr-W) → FixedParts e → HasForm e → IsFixed (walk_rule e stage.Function)
  pub suffixes : (e : Suffix-W) → FixedSuffixParts e → FixedSuffix (suffix_rule e)
