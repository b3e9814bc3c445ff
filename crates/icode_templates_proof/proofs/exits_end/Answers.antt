use Rattle.icode_templates_proof.proofs.Exits as lemmas
use Rattle.icode_templates_proof.proofs.exits_end.Goals as goal

pub returns : goal.returns
returns c = lemmas.exit_ends
