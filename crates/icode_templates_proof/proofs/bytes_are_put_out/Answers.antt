use Rattle.icode_templates_proof.proofs.Services as lemmas
use Rattle.icode_templates_proof.proofs.bytes_are_put_out.Goals as goal

pub returns : goal.returns
returns c = lemmas.put_writes
