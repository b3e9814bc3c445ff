use Rattle.wf_growth_rules.proofs.Statements.{switch_light, for_light, returning_light, list_light, each_step_light}
use Rattle.wf_growth_rules.proofs.statements_are_light.Goals as goal

pub returns : goal.returns
returns c = record {
  switch = λ v w. switch_light;
  for_loop = λ t u v w. for_light;
  returning = λ w. returning_light;
  list = λ w. list_light;
  steps = λ w rs ss g h. each_step_light rs ss g h;
}
