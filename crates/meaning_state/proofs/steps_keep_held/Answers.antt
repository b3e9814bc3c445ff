use Rattle.meaning_state.proofs.Steps as lemmas
use Rattle.meaning_state.proofs.steps_keep_held.Goals as goal

pub returns : goal.returns
returns c = lemmas.steps_keep_held
