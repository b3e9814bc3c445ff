use Rattle.syntax_size.proofs.Folds.{weigh-Core, weigh-Expr, weigh-Initializer, weigh-OptionalExpr, weigh-Stmt}
use Rattle.syntax_size.proofs.Folds.{weigh-Suffix, weigh-Declaration, weigh-Declarator, weigh-Init, weigh-Parameter}
use Rattle.syntax_size.proofs.Folds.{weigh-Typename}
use Rattle.syntax_size.proofs.nodes_weigh_more.Goals as goal

pub returns : goal.returns
returns c = record {
  core = weigh-Core;
  expression = weigh-Expr;
  initializer = weigh-Initializer;
  optional =
      weigh-OptionalExpr;
  statement = weigh-Stmt;
  suffix = weigh-Suffix;
  declaration = weigh-Declaration;
  declarator =
      weigh-Declarator;
  init = weigh-Init;
  parameter = weigh-Parameter;
  typename = weigh-Typename;
}
