use Rattle.icode_templates_proof.proofs.Checks as lemmas
use Rattle.icode_templates_proof.proofs.zero_checks_trap.Goals as goal

pub returns : goal.returns
returns c = lemmas.zero_checks_trap
