use Rattle.icode_templates_proof.proofs.Answered as lemmas
use Rattle.icode_templates_proof.proofs.malloc_is_answered.Goals as goal

pub returns : goal.returns
returns c = lemmas.malloc_answered
