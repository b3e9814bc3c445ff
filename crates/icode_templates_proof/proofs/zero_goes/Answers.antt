use Rattle.icode_templates_proof.proofs.Templates as lemmas
use Rattle.icode_templates_proof.proofs.zero_goes.Goals as goal

pub returns : goal.returns
returns c = lemmas.zero_goes
