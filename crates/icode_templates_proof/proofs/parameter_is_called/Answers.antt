use Rattle.icode_templates_proof.proofs.Called as lemmas
use Rattle.icode_templates_proof.proofs.parameter_is_called.Goals as goal

pub returns : goal.returns
returns c =
    λ code a bytes shared d w v low f u r b has none stands h.
    lemmas.parameter_called code a bytes d w v low f u r b shared has none stands h
