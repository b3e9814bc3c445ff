use Rattle.icode_templates_proof.proofs.Standing as lemmas
use Rattle.icode_templates_proof.proofs.closures_stand.Goals as goal

pub returns : goal.returns
returns c = lemmas.closures_stand
