-- The walk over a layer of a small tree captures few things.
use Rattle.std.proofs.Common.{ℕ, ◌≤◌, List, map, subst, arith}
use Rattle.tick_tree.specs.declared.syntax.Expr.{roll-Expr}
use Rattle.tick_tree.specs.declared.syntax.Stmt.{Stmt}
use Rattle.tick_tree.specs.declared.syntax.Core.TheOpen.{Expr-F}
use Rattle.check_rules.specs.declared.state.State.{State}
use Rattle.check_rules.specs.ExpressionRules.{tick_around}
use Rattle.check_rules.specs.Walk.{item}
use Rattle.wf_growth_rules.specs.Light.{Light, LightNode}
use Rattle.wf_growth_rules.proofs.Expressions.{block_light}
use Rattle.tick_tree.specs.Weights.{total, weight, statement_weight, expr_nodes}
use Rattle.syntax_size.specs.Layers.{weighed-Expr}
use Rattle.syntax_size.proofs.Folds.{weigh-Expr}
use Rattle.wf_growth_rules.proofs.Tree.{expr_light}
use Rattle.wf_walk.specs.Items.{Few}
use Rattle.wf_walk.proofs.Induction.{Expr-T, walkedExpr, walk_expr}
use Rattle.wf_growth_rules.proofs.Few.{items_light}
use Rattle.wf_walk.proofs.CapturedWalks.{walks_named}
use Rattle.wf_programs.specs.Good.{FewBlock, FewParts, FewExpr}
use Rattle.check_rules.specs.Bounds.{count_bound}

light_few : (w : ℕ) (s new : State) → w ≤ count_bound → Light w s new → Few s new
light_few w s new h l = (omega (arith, l.captures), omega (arith, l.inner))

few_block : (xs : List Stmt) → total (map statement_weight xs) ≤ count_bound → FewBlock (map item xs)
few_block xs h s new x e =
    light_few (total (map statement_weight xs)) s new h
    ((block_light (map item xs) tick_around (items_light xs)).light s new x e)

few_parts : (x : Expr-T) → expr_nodes (weighed-Expr x) ≤ count_bound → FewParts (walkedExpr x)
few_parts (Expr-F.TickBlock line xs) h = (few_block xs (omega arith), walks_named.blocks xs)
few_parts (Expr-F.Expr::Name line name) h = tt
few_parts (Expr-F.Number n unsigned) h = tt
few_parts (Expr-F.Character n) h = tt
few_parts (Expr-F.String bytes) h = tt
few_parts (Expr-F.Expr::Paren a) h = tt
few_parts (Expr-F.Compile line a t) h = tt
few_parts (Expr-F.Expr::Local line t) h = tt
few_parts (Expr-F.Param line t a) h = tt
few_parts (Expr-F.Index line ab) h = tt
few_parts (Expr-F.Call line c list) h = tt
few_parts (Expr-F.Step line op a) h = tt
few_parts (Expr-F.Unary line op a) h = tt
few_parts (Expr-F.Tick line a) h = walks_named.values a
few_parts (Expr-F.Cast line t a) h = tt
few_parts (Expr-F.Sizeof line t) h = tt
few_parts (Expr-F.Binary line op ab) h = tt
few_parts (Expr-F.Choice line c a b) h = tt
few_parts (Expr-F.Assign line ab) h = tt
few_parts (Expr-F.Modify line op ab) h = tt
few_parts (Expr-F.Comma line ab) h = tt

pub few_expr : (x : Expr-T) → weight (roll-Expr x) ≤ count_bound → FewExpr (walkedExpr x)
few_expr x h =
    let l = subst (λ n. LightNode (weight (roll-Expr x)) n) (walk_expr x) (expr_light (roll-Expr x)) in
    record {
      walk = λ g s new o e. (light_few (weight (roll-Expr x)) s new h ((l.at g).light s new o e)).0;
      parts = few_parts x (subst (λ w. w ≤ count_bound) (weigh-Expr x) h);
    }
