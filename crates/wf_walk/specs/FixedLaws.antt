-- What a declarator makes where a function runs doesn't depend on what is known there: so both walks over a program
-- give each name at file scope the same type.
use Rattle.tick_tree.specs.declared.syntax.Declarator.{Declarator}
use Rattle.tick_tree.specs.declared.syntax.Expr.{Expr}
use Rattle.tick_tree.specs.declared.syntax.Typename.{Typename}
use Rattle.check_rules.specs.Walk.{node, shape, named}
use Rattle.wf_walk.specs.Parts.{FixedNode, FixedNamed, FixedShape}

pub record WalksAreFixed : Type 0 where
  pub constants : (e : Expr) → FixedNode (node e)
  pub declarators : (d : Declarator) → FixedShape (shape d)
  pub names : (t : Typename) → FixedNamed (named t)
