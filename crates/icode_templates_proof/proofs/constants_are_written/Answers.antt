use Rattle.icode_templates_proof.proofs.Templates as lemmas
use Rattle.icode_templates_proof.proofs.constants_are_written.Goals as goal

pub returns : goal.returns
returns c = lemmas.const_writes
