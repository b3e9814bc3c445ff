use Rattle.icode_templates_proof.proofs.DivisionChecks as lemmas
use Rattle.icode_templates_proof.proofs.division_checks_trap.Goals as goal

pub returns : goal.returns
returns c = lemmas.division_checks_trap
