use Rattle.source_commands.proofs.Files.{one_file}
use Rattle.source_commands.proofs.saved.saves_one.Goals as goal

pub returns : goal.returns
returns c = one_file
