-- The walk over each tree that is small is good.
use Rattle.std.specs.Prelude.{ℕ, ◌≤◌, List}
use Rattle.tick_tree.specs.declared.syntax.Declaration.{Declaration}
use Rattle.tick_tree.specs.declared.syntax.Declarator.{Declarator}
use Rattle.tick_tree.specs.declared.syntax.Expr.{Expr}
use Rattle.tick_tree.specs.declared.syntax.Initializer.{Initializer}
use Rattle.tick_tree.specs.declared.syntax.Stmt.{Stmt}
use Rattle.check_rules.specs.Walk.{node, item, shape, initializer, declaration}
use Rattle.wf_walk.specs.Good.{GoodNode, GoodShape}
use Rattle.wf_walk.specs.Items.{GoodItem}
use Rattle.tick_tree.specs.Weights.{weight, initializer_weight, statement_weight, declaration_weight, declarator_weight}
use Rattle.wf_programs.specs.Parts.{GoodStart, GoodDeclarators}
use Rattle.check_rules.specs.Bounds.{count_bound}

pub record SmallAreGood (many : List ℕ) : Type 0 where
  pub node : (e : Expr) → weight e ≤ count_bound → GoodNode many (node e)
  pub item : (s : Stmt) → statement_weight s ≤ count_bound → GoodItem many (item s)
  pub shape : (d : Declarator) → declarator_weight d ≤ count_bound → GoodShape (shape d)
  pub start : (i : Initializer) → initializer_weight i ≤ count_bound → GoodStart many (initializer i)
  pub declaration : (d : Declaration) → declaration_weight d ≤ count_bound → GoodDeclarators many (declaration d)

abbrev pub TreesAreGood : Type 0
TreesAreGood = (many : List ℕ) → SmallAreGood many
