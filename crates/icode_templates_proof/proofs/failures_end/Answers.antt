use Rattle.icode_templates_proof.proofs.Inputs as lemmas
use Rattle.icode_templates_proof.proofs.failures_end.Goals as goal

pub returns : goal.returns
returns c = lemmas.failure_ends
