use Rattle.closures_proof.proofs.News as lemmas
use Rattle.closures_proof.proofs.new_is_called.Goals as goal

pub returns : goal.returns
returns c =
    λ code a bytes address kind captures shared d w low f u has few none stands h.
    lemmas.new_called code a address kind captures shared d w low has few stands h bytes f u none
