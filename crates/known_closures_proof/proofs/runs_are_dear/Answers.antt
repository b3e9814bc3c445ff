use Rattle.known_closures_proof.proofs.Dear.{runs_dear}
use Rattle.known_closures_proof.proofs.runs_are_dear.Goals as goal

pub returns : goal.returns
returns c = runs_dear
