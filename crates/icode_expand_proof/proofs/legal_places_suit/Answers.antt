use Rattle.icode_expand_proof.proofs.Suiting.{suit}
use Rattle.icode_expand_proof.proofs.legal_places_suit.Goals as goal

pub returns : goal.returns
returns c = suit
