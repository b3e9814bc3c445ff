use Rattle.wf_nodes.proofs.CallValues.{calls_use}
use Rattle.wf_nodes.proofs.Declared.{types_use, libraries_use}
use Rattle.wf_nodes.proofs.NodeValues.{nodes_use}
use Rattle.wf_nodes.proofs.OperandValues.{operands_use, prefixes_use}
use Rattle.wf_nodes.proofs.OperatorValues.{operators_use}
use Rattle.wf_nodes.proofs.PlaceValues.{places_use}
use Rattle.wf_nodes.proofs.Stages.{stages_use}
use Rattle.wf_nodes.proofs.values_are_used.Goals as goal

pub returns : goal.returns
returns c = record {
  types = types_use;
  libraries = libraries_use;
  nodes = nodes_use;
  operands = operands_use;
  prefixes = prefixes_use;
  operators = operators_use;
  stages = stages_use;
  places = places_use;
  calls = calls_use;
}
