use Rattle.generator_laws.proofs.Depths as lemmas
use Rattle.generator_laws.proofs.laws.depths_are_small.Goals as goal

pub returns : goal.returns
returns c = λ program pieces syntax whole. lemmas.depth_small program pieces syntax whole
