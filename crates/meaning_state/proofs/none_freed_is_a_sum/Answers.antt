use Rattle.meaning_state.proofs.Held as lemmas
use Rattle.meaning_state.proofs.none_freed_is_a_sum.Goals as goal

pub returns : goal.returns
returns c = lemmas.none_freed_is_a_sum
