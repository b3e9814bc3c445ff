use Rattle.mips_text_proof.proofs.Join.{text_reads_back}
use Rattle.mips_text_proof.proofs.reads_back.Goals as goal

-- src/lib.rt:7:1
pub returns : goal.returns
returns c = text_reads_back
