use Rattle.std.proofs.Common.{rules}
use Rattle.image_file.proofs.reader.parse.Goals as goal

pub returns-in_ok-parts-in-None : goal.returns-in_ok-parts-in-None
returns-in_ok-parts-in-None c = search rules
