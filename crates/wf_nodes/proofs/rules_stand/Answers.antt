use Rattle.wf_nodes.proofs.CallScopes.{calls_stand}
use Rattle.wf_nodes.proofs.OperandScopes.{operands_stand, prefixes_stand, stages_stand}
use Rattle.wf_nodes.proofs.OperatorScopes.{operators_stand}
use Rattle.wf_nodes.proofs.PlaceScopes.{places_stand}
use Rattle.wf_nodes.proofs.rules_stand.Goals as goal

pub returns : goal.returns
returns c = record {
  operands = operands_stand;
  prefixes = prefixes_stand;
  operators = operators_stand;
  stages =
      stages_stand;
  places = places_stand;
  calls = calls_stand;
}
