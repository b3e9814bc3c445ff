-- What the walk over a small part makes grow is little: as the law on accepted trees asks it of each part.
use Rattle.std.proofs.Common.{◌≡◌, ℕ, ◌+◌, ◌≤◌, List, [], ◌∷◌, map, length, Ok, arith}
use Rattle.tick_tree.specs.declared.syntax.Expr.{Expr}
use Rattle.tick_tree.specs.declared.syntax.Stmt.{Stmt}
use Rattle.typed_tree.specs.declared.expression.Stmt.{Stmt as Act}
use Rattle.check_operands.specs.declared.operand.Operand.{Operand}
use Rattle.check_rules.specs.declared.state.Around.{Around}
use Rattle.check_rules.specs.declared.state.Stage.{Stage}
use Rattle.check_rules.specs.declared.state.State.{State}
use Rattle.check_rules.specs.ExpressionRules as rules
use Rattle.check_rules.specs.Walk.{node, item}
use Rattle.wf_growth_rules.specs.Light.{Light, LightItem, Each, none, more}
use Rattle.wf_growth_rules.proofs.Expressions.{block_light}
use Rattle.tick_tree.specs.Weights.{total, weight, statement_weight}
use Rattle.wf_growth_rules.proofs.Tree.{expr_light, stmt_light}
use Rattle.check_rules.specs.Bounds.{count_bound}

pub items_light : (xs : List Stmt) → Each LightItem (total (map statement_weight xs)) (map item xs)
items_light [] = none
items_light (x ∷ xs) = more (stmt_light x) (items_light xs)

-- captures, and the variables of the tick
abbrev pub FewMore : State → State → Type 0
FewMore s new = (length new.ticks.captures ≤ length s.ticks.captures + count_bound) ×
    (new.frame.inner ≤ s.frame.inner + count_bound)

few_more : (w : ℕ) (s new : State) → Light w s new → w ≤ count_bound → FewMore s new
few_more w s new l h = (omega arith, omega arith)

pub node_few : (e : Expr) → weight e ≤ count_bound → (g : Stage) (s new : State) (o : Operand) →
    (node e).walk g s ≡ Ok (o, new) → FewMore s new
node_few e h g s new o is = few_more (weight e) s new (((expr_light e).at g).light s new o is) h

pub item_few : (x : Stmt) → statement_weight x ≤ count_bound → (a : Around) (s new : State) (xs : List Act) →
    (item x).walk a s ≡ Ok (xs, new) → FewMore s new
item_few x h a s new xs is = few_more (statement_weight x) s new (((stmt_light x).at a).light s new xs is) h

pub block_few : (xs : List Stmt) → total (map statement_weight xs) ≤ count_bound →
    (a : Around) (s new : State) (x : Act) → rules.block (map item xs) a s ≡ Ok (x, new) → FewMore s new
block_few xs h a s new x is =
    few_more (total (map statement_weight xs)) s new ((block_light (map item xs) a (items_light xs)).light s new x is) h
