use Rattle.source_commands.proofs.Stated as law
use Rattle.source_commands.proofs.laws.shows_runs.Goals as goal

pub returns : goal.returns
returns c = law.shows_runs
