use Rattle.std.proofs.Common.{rules}
use Rattle.image_file.proofs.reader.fault.Goals as goal

pub returns : goal.returns
returns c = search rules
