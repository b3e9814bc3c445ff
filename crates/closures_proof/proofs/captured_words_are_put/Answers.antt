use Rattle.closures_proof.proofs.Newest as lemmas
use Rattle.closures_proof.proofs.captured_words_are_put.Goals as goal

pub returns : goal.returns
returns c =
    λ ks k capture word d has l b.
    (lemmas.has_place ks k capture word d has l b, lemmas.words_put ks k capture word d has l b)
