use Rattle.source_commands.proofs.Files.{headline_of}
use Rattle.source_commands.proofs.saved.saves_headline.Goals as goal

pub returns : goal.returns
returns c = headline_of
