use Rattle.generator_spec.proofs.Counted as lemmas
use Rattle.generator_spec.proofs.nodes_have_pieces.Goals as goal

pub returns : goal.returns
returns c = lemmas.tick_few
