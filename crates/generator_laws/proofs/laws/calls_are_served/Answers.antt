use Rattle.generator_laws.proofs.Served as lemmas
use Rattle.generator_laws.proofs.laws.calls_are_served.Goals as goal

pub returns : goal.returns
returns c = lemmas.served
