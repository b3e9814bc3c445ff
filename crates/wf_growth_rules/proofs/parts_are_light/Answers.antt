use Rattle.check_rules.specs.Walk.{declaration}
use Rattle.wf_growth_rules.proofs.Declarations as d
use Rattle.wf_growth_rules.proofs.Tree.{expr_light, stmt_light, suffix_light, declaration_light, declarator_light}
use Rattle.wf_growth_rules.proofs.Tree.{parameter_light, typename_light}
use Rattle.wf_growth_rules.proofs.parts_are_light.Goals as goal

pub returns : goal.returns
returns c = record {
  expression = λ e g. (expr_light e).at g;
  statement = λ x a. (stmt_light x).at a;
  declaration = λ x g. d.declaration_light (declaration x) g (declaration_light x);
  declarator = λ x g. (declarator_light x).at g;
  suffix = λ x g. (suffix_light x).at g;
  parameter = λ p g. (parameter_light p).at g;
  typename = λ t line g. (typename_light t).at line g;
}
