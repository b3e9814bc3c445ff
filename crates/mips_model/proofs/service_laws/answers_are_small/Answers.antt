use Rattle.mips_model.proofs.Small.{answers-are-small}
use Rattle.mips_model.proofs.service_laws.answers_are_small.Goals as goal

pub returns : goal.returns
returns c = answers-are-small
