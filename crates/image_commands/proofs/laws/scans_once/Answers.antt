use Rattle.image_commands.proofs.Scans.{one_run}
use Rattle.image_commands.proofs.laws.scans_once.Goals as goal

pub returns : goal.returns
returns c = one_run
