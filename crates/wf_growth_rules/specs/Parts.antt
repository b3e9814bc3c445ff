-- The parts of a declaration, each with a number that bounds what its walk makes grow.
use Rattle.std.specs.Prelude.{ℕ, ◌+◌, ◌≤◌, List}
use Rattle.check_rules.specs.ExpressionRules.{Node}
use Rattle.check_rules.specs.Walk.{Start, Nothing, Value, Values, InitParts, Declarations, SuffixWalk, TypeWalk}
use Rattle.wf_growth_rules.specs.Light.{LightNode, LightShape, LightSuffix, LightType, Each}

-- a suffix and a parameter, by their walks
abbrev pub LightSuffixWalk : ℕ → SuffixWalk → Type 0
LightSuffixWalk w s = LightSuffix w s.walk

abbrev pub LightTypeWalk : ℕ → TypeWalk → Type 0
LightTypeWalk w p = LightType w p.walk

-- what a declared name begins with
pub data LightStart : ℕ → Start → Type 0 where
  nothing : {w : ℕ} → LightStart w Nothing
  value : {w : ℕ} {e : Node} → LightNode w e → LightStart w (Value e)
  values : {v w : ℕ} {es : List Node} → v ≤ w → Each LightNode v es → LightStart w (Values es)

-- a declarator with its initializer: one more, for the name that it declares
pub record LightInit (w : ℕ) (i : InitParts) : Type 0 where
  pub shape_weight : ℕ
  pub start_weight : ℕ
  pub shape : LightShape shape_weight i.shape
  pub start : LightStart start_weight i.start
  pub is : 1 + (shape_weight + start_weight) ≤ w

-- a declaration, with the sum of those that it declares
pub record LightDeclarations (w : ℕ) (d : Declarations) : Type 0 where
  pub sum : ℕ
  pub inits : Each LightInit sum d.inits
  pub is : 1 + sum ≤ w
