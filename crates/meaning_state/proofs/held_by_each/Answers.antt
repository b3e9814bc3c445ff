use Rattle.meaning_state.proofs.Held as lemmas
use Rattle.meaning_state.proofs.held_by_each.Goals as goal

pub returns : goal.returns
returns c = lemmas.held_by_each
