use Rattle.source_commands.proofs.Stated as law
use Rattle.source_commands.proofs.laws.sources_complete.Goals as goal

pub returns : goal.returns
returns c = law.sources_complete
