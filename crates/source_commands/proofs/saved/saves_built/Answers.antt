use Rattle.source_commands.proofs.Files.{built_file}
use Rattle.source_commands.proofs.saved.saves_built.Goals as goal

pub returns : goal.returns
returns c = built_file
