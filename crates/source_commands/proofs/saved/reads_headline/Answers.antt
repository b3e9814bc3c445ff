use Rattle.source_commands.proofs.Files.{read_headline}
use Rattle.source_commands.proofs.saved.reads_headline.Goals as goal

pub returns : goal.returns
returns c = read_headline
