use Rattle.source_commands.proofs.Stated as law
use Rattle.source_commands.proofs.laws.run_means.Goals as goal

pub returns : goal.returns
returns c = law.run_means
