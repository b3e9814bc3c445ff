use Rattle.icode_templates_proof.proofs.Calling as lemmas
use Rattle.icode_templates_proof.proofs.routines_are_called.Goals as goal

pub returns : goal.returns
returns c = lemmas.routine_called
