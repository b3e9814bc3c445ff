use Rattle.source_commands.proofs.Stated as law
use Rattle.source_commands.proofs.laws.run_completes.Goals as goal

pub returns : goal.returns
returns c = law.run_completes
