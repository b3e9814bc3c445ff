-- The walk over a part of a tree makes nothing grow by more than the weight of that part.
use Rattle.std.specs.Prelude.{ℕ}
use Rattle.tick_tree.specs.declared.syntax.Declaration.{Declaration}
use Rattle.tick_tree.specs.declared.syntax.Declarator.{Declarator}
use Rattle.tick_tree.specs.declared.syntax.Expr.{Expr}
use Rattle.tick_tree.specs.declared.syntax.Parameter.{Parameter}
use Rattle.tick_tree.specs.declared.syntax.Stmt.{Stmt}
use Rattle.tick_tree.specs.declared.syntax.Suffix.{Suffix}
use Rattle.tick_tree.specs.declared.syntax.Typename.{Typename}
use Rattle.check_rules.specs.declared.state.Around.{Around}
use Rattle.check_rules.specs.declared.state.Stage.{Stage}
use Rattle.check_rules.specs.Walk.{declaration, declaration_walk, item, named, node, parameter, shape, suffix}
use Rattle.wf_growth_rules.specs.Light.{Bounded}
use Rattle.tick_tree.specs.Weights.{weight, statement_weight, declarator_weight, declaration_weight, parameter_weight}
use Rattle.tick_tree.specs.Weights.{suffix_weight, typename_weight}

pub record PartsAreLight : Type 0 where
  pub expression : (e : Expr) (g : Stage) → Bounded (weight e) ((node e).walk g)
  pub statement : (x : Stmt) (a : Around) → Bounded (statement_weight x) ((item x).walk a)
  pub declaration : (d : Declaration) (g : Stage) → Bounded (declaration_weight d) (declaration_walk (declaration d) g)
  pub declarator : (d : Declarator) (g : Stage) → Bounded (declarator_weight d) ((shape d).walk g)
  pub suffix : (x : Suffix) (g : Stage) → Bounded (suffix_weight x) ((suffix x).walk g)
  pub parameter : (p : Parameter) (g : Stage) → Bounded (parameter_weight p) ((parameter p).walk g)
  pub typename : (t : Typename) (line : ℕ) (g : Stage) → Bounded (typename_weight t) ((named t).walk line g)
