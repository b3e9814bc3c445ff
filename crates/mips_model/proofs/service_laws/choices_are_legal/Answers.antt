use Rattle.mips_model.proofs.Legal.{choices-are-legal}
use Rattle.mips_model.proofs.service_laws.choices_are_legal.Goals as goal

pub returns : goal.returns
returns c = choices-are-legal
