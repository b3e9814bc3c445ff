use Rattle.known_closures_proof.proofs.Rows.{known_words}
use Rattle.known_closures_proof.proofs.known_words_are_within.Goals as goal

pub returns : goal.returns
returns c = known_words
