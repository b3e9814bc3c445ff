use Rattle.icode_templates_proof.proofs.Checking as lemmas
use Rattle.icode_templates_proof.proofs.sizes_are_begun.Goals as goal

pub returns : goal.returns
returns c = lemmas.begin_answered
