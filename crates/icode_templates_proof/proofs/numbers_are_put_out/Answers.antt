use Rattle.icode_templates_proof.proofs.Numbers as lemmas
use Rattle.icode_templates_proof.proofs.numbers_are_put_out.Goals as goal

pub returns : goal.returns
returns c = lemmas.number_writes
