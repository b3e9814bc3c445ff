-- Each production of an expression, of good parts, makes an operand that stands right.
use Rattle.std.specs.Prelude.{ℕ, Option, List}
use Rattle.tick_tree.specs.declared.syntax.Core.TheOpen.{Expr-F}
use Rattle.check_rules.specs.declared.state.Stage.{Stage}
use Rattle.check_rules.specs.ExpressionRules.{Node, Named, Shape, Item, walk_rule}
use Rattle.wf_walk.specs.Steps.{at, Does}
use Rattle.wf_walk.specs.Good.{Good}
use Rattle.wf_walk.specs.Parts.{GoodParts}

-- one production; what stands only in other syntax is left out of it
abbrev pub Production : Type 0
Production = Expr-F Shape Node (Unit {0}) (Option Node) Item (Unit {0}) (Unit {0}) Shape (Unit {0}) (Unit {0}) Named

pub record ExpressionsDo : Type 0 where
  pub does : (many : List ℕ) (x : Production) → GoodParts many x → (g : Stage) →
      Does many g (λ r o. Good (at g r) o) (walk_rule x g)
