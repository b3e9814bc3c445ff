-- What is asked of the walk over each part of a tree, and what is given of each layer of a small one: that its
-- captures, and the variables of its ticks, are few, and what it captures in a tick is named.
use Rattle.std.specs.Prelude.{◌≡◌, ℕ, ◌+◌, ◌≤◌, List, length, Ok}
use Rattle.tick_tree.specs.declared.syntax.Core.TheOpen.{Expr-F}
use Rattle.typed_tree.specs.declared.expression.Stmt.{Stmt}
use Rattle.check_operands.specs.declared.operand.Operand.{Operand}
use Rattle.check_rules.specs.declared.state.Stage.{Stage}
use Rattle.check_rules.specs.declared.state.State.{State}
use Rattle.check_rules.specs.ExpressionRules.{Item, block, tick_around, walk_rule}
use Rattle.check_rules.specs.Walk.{Expr-W}
use Rattle.wf_walk.specs.Captured.{NamesValue, NamesBlock}
use Rattle.wf_walk.specs.Good.{GoodNode, GoodShape, GoodSuffix, GoodParameter, GoodNamed}
use Rattle.wf_walk.specs.Items.{GoodItem, Few}
use Rattle.wf_walk.specs.Parts.{GoodOptional}
use Rattle.wf_programs.specs.Parts.{GoodStart, GoodInit, GoodDeclarators}
use Rattle.wf_walk.specs.Asked.{Asked}
use Rattle.check_rules.specs.Bounds.{count_bound}

-- ---- what is asked

abbrev pub good : List ℕ → Asked
good many = record {
  shape = GoodShape;
  node = GoodNode many;
  start = GoodStart many;
  optional = GoodOptional many;
  item = GoodItem many;
  suffix = λ w. GoodSuffix w.walk;
  declarations = GoodDeclarators many;
  init = GoodInit many;
  parameter = λ w. GoodParameter w.walk;
  named = GoodNamed;
}

-- ---- what is given of a small tree

-- the block of a tick
abbrev pub FewBlock : List Item → Type 0
FewBlock items = (s new : State) (x : Stmt) → block items tick_around s ≡ Ok (x, new) → Few s new

abbrev pub FewParts : Expr-W → Type 0
FewParts (Expr-F.Tick line a) = NamesValue a
FewParts (Expr-F.TickBlock line items) = FewBlock items × NamesBlock items
FewParts _ = Unit {0}

pub record FewExpr (e : Expr-W) : Type 0 where
  pub walk : (g : Stage) (s new : State) (o : Operand) → walk_rule e g s ≡ Ok (o, new) →
      length new.ticks.captures ≤ length s.ticks.captures + count_bound
  pub parts : FewParts e
