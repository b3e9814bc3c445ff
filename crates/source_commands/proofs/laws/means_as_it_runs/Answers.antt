use Rattle.source_commands.proofs.Programs as law
use Rattle.source_commands.proofs.laws.means_as_it_runs.Goals as goal

pub returns : goal.returns
returns c = law.means_as_it_runs
