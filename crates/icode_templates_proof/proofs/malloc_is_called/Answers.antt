use Rattle.icode_templates_proof.proofs.Calls as lemmas
use Rattle.icode_templates_proof.proofs.malloc_is_called.Goals as goal

pub returns : goal.returns
returns c = lemmas.malloc_called
