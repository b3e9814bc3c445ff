use Rattle.known_closures_proof.proofs.Rows.{programs_meant}
use Rattle.known_closures_proof.proofs.programs_are_meant.Goals as goal

pub returns : goal.returns
returns c = programs_meant
