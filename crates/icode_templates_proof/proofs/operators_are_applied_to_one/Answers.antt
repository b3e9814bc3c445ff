use Rattle.icode_templates_proof.proofs.Unary as lemmas
use Rattle.icode_templates_proof.proofs.operators_are_applied_to_one.Goals as goal

pub returns : goal.returns
returns c = lemmas.un_writes
