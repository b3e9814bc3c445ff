use Rattle.icode_templates_proof.proofs.Templates as lemmas
use Rattle.icode_templates_proof.proofs.others_go.Goals as goal

pub returns : goal.returns
returns c = lemmas.nonzero_goes
