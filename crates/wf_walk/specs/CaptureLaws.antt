-- What the walk over each expression and each block of a tick captures, its answer names.
use Rattle.std.specs.Prelude.{List, map}
use Rattle.tick_tree.specs.declared.syntax.Expr.{Expr}
use Rattle.tick_tree.specs.declared.syntax.Stmt.{Stmt}
use Rattle.check_rules.specs.Walk.{node, item}
use Rattle.wf_walk.specs.Captured.{NamesValue, NamesBlock}

pub record WalksName : Type 0 where
  pub values : (e : Expr) → NamesValue (node e)
  pub blocks : (ss : List Stmt) → NamesBlock (map item ss)
