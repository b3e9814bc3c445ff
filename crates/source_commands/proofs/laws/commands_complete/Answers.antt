use Rattle.source_commands.proofs.Stated as law
use Rattle.source_commands.proofs.laws.commands_complete.Goals as goal

pub returns : goal.returns
returns c = law.commands_complete
