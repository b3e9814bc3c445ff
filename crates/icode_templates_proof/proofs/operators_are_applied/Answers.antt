use Rattle.icode_templates_proof.proofs.Quotients as lemmas
use Rattle.icode_templates_proof.proofs.operators_are_applied.Goals as goal

pub returns : goal.returns
returns c = lemmas.bin_computes
