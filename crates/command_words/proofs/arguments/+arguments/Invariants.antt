use Rattle.std.proofs.Common.{length}
use Rattle.command_words.proofs.arguments.+arguments.Given as goal

abbrev pub decreases-arguments : goal.decreases-arguments
decreases-arguments l = length l.words.now
