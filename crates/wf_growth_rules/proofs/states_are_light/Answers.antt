use Rattle.wf_growth_rules.proofs.States.{named_light, local_light, parameter_light, list_parameter_light}
use Rattle.wf_growth_rules.proofs.States.{unary_node_light}
use Rattle.wf_growth_rules.proofs.states_are_light.Goals as goal

pub returns : goal.returns
returns c = record {
  named = named_light;
  local = local_light;
  parameter = parameter_light;
  list_parameter =
      list_parameter_light;
  unary = unary_node_light;
}
