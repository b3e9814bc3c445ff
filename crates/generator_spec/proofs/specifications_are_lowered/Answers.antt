use Rattle.generator_spec.proofs.Lowered as lemmas
use Rattle.generator_spec.proofs.specifications_are_lowered.Goals as goal

pub returns : goal.returns
returns c = λ addresses ticks syntax. lemmas.lowered addresses ticks syntax
