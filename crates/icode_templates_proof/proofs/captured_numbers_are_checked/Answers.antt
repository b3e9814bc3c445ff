use Rattle.icode_templates_proof.proofs.Checking as lemmas
use Rattle.icode_templates_proof.proofs.captured_numbers_are_checked.Goals as goal

pub returns : goal.returns
returns c = lemmas.check_answered
