use Rattle.icode_templates_proof.proofs.Checking as lemmas
use Rattle.icode_templates_proof.proofs.bad_numbers_trap.Goals as goal

pub returns : goal.returns
returns c =
    λ named code entry ks d kind low has word some h.
    lemmas.check_ends named code entry ks d kind low has word h some
