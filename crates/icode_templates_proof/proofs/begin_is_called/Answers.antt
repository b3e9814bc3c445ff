use Rattle.icode_templates_proof.proofs.Called as lemmas
use Rattle.icode_templates_proof.proofs.begin_is_called.Goals as goal

pub returns : goal.returns
returns c =
    λ code a bytes d w v low f u r b g stands h. lemmas.begin_called code a bytes d w v low f u r b g stands h
