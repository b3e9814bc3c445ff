-- The law on the walk over each tree, by what each rule keeps.
use Rattle.std.proofs.Common.{List, [], ◌∷◌, map}
use Rattle.tick_tree.specs.declared.syntax.Expr.{Expr}
use Rattle.tick_tree.specs.declared.syntax.Stmt.{Stmt}
use Rattle.tick_tree.specs.declared.syntax.Core.TheOpen.{Initializer-F, OptionalExpr-F}
use Rattle.check_rules.specs.declared.state.Stage.TheVariants as stage
use Rattle.check_rules.specs.ExpressionRules.{Node, tick_around}
use Rattle.check_rules.specs.Walk.{node, item, Initializer-W, OptionalExpr-W, start_rule, optional_rule}
use Rattle.wf_walk.specs.Captured.{named_value, NamesValue}
use Rattle.wellformed.specs.Captured.{none}
use Rattle.wf_walk.specs.Parts.{EachPart}
use Rattle.wf_walk.specs.Asked.{EveryInitializer, EveryOptionalExpr, RulesKeep}
use Rattle.wf_walk.proofs.Induction.{holds_expr, holds_stmt}
use Rattle.wf_walk.specs.Named.{operand_named, NamesNode, NamesItem, NamesOptional, NamesStart, names}
use Rattle.wf_walk.specs.CaptureLaws.{WalksName}
use Rattle.wf_walk.proofs.CapturedRules.{value_names}
use Rattle.wf_walk.proofs.CapturedSteps.{implies}
use Rattle.wf_walk.proofs.CapturedExpressions.{walk_names}
use Rattle.wf_walk.proofs.CapturedTypes.{core_names, suffix_names, declarator_names, typename_names, parameter_names}
use Rattle.wf_walk.proofs.CapturedStatements.{statement_names, block_walks}

start_names : (x : Initializer-W) → EveryInitializer names x → NamesStart (start_rule x)
start_names Initializer-F.Initializer::Absent h = tt
start_names (Initializer-F.Value e) h = h
start_names (Initializer-F.List es comma) h = h

optional_names : (x : OptionalExpr-W) → EveryOptionalExpr names x → NamesOptional (optional_rule x)
optional_names OptionalExpr-F.OptionalExpr::Absent h = tt
optional_names (OptionalExpr-F.Present e) h = h

rules_name : RulesKeep names
rules_name = record {
  core = core_names;
  expr = λ e h g w. walk_names e h g w;
  initializer = start_names;
  optional = optional_names;
  stmt = statement_names;
  suffix = suffix_names;
  declaration = λ d h. h;
  declarator = declarator_names;
  init = λ i h. record { shape = h.0; start = h.1 };
  parameter = parameter_names;
  typename = typename_names;
}

nodes_name : (e : Expr) → NamesNode (node e)
nodes_name = holds_expr names rules_name

items_name : (ss : List Stmt) → EachPart NamesItem (map item ss)
items_name [] = tt
items_name (s ∷ ss) = (holds_stmt names rules_name s, items_name ss)

value_walks : (n : Node) → NamesNode n → NamesValue n
value_walks n h = implies none (operand_named stage.Tick) named_value (n.walk stage.Tick) (h stage.Tick tt) value_names

pub walks_named : WalksName
walks_named = record {
  values = λ e. value_walks (node e) (nodes_name e);
  blocks = λ ss. block_walks (map item ss) tick_around tt (items_name ss);
}
