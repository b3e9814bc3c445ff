use Rattle.generator_laws.proofs.Makings as lemmas
use Rattle.generator_laws.proofs.laws.runs_are_made.Goals as goal

pub returns : goal.returns
returns c = lemmas.runs_made
