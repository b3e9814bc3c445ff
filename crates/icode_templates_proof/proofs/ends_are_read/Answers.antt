use Rattle.icode_templates_proof.proofs.Inputs as lemmas
use Rattle.icode_templates_proof.proofs.ends_are_read.Goals as goal

pub returns : goal.returns
returns c = lemmas.end_reads
