use Rattle.generator_spec.proofs.Words.{ticks_have}
use Rattle.generator_spec.proofs.ticks_have_words.Goals as goal

pub returns : goal.returns
returns c = ticks_have
