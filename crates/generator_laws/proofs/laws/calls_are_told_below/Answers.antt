use Rattle.generator_laws.proofs.Told as lemmas
use Rattle.generator_laws.proofs.laws.calls_are_told_below.Goals as goal

pub returns : goal.returns
returns c = lemmas.calls_told_below
