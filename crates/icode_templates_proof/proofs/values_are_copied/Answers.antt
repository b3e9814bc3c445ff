use Rattle.icode_templates_proof.proofs.Templates as lemmas
use Rattle.icode_templates_proof.proofs.values_are_copied.Goals as goal

pub returns : goal.returns
returns c = lemmas.move_writes
