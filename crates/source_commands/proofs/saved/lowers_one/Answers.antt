use Rattle.source_commands.proofs.Files.{one_lowered}
use Rattle.source_commands.proofs.saved.lowers_one.Goals as goal

pub returns : goal.returns
returns c = one_lowered
