use Rattle.std.proofs.Common.{rules}
use Rattle.word32.proofs.part.is_aligned.Goals as goal

pub returns-in-SignedHalf : goal.returns-in-SignedHalf
returns-in-SignedHalf c = search rules
