use Rattle.icode_templates_proof.proofs.Inputs as lemmas
use Rattle.icode_templates_proof.proofs.bytes_are_read.Goals as goal

pub returns : goal.returns
returns c = lemmas.byte_reads
