use Rattle.std.proofs.Common.{length}
use Rattle.command_words.proofs.arguments.+has_stats.Given as goal

abbrev pub decreases-has_stats : goal.decreases-has_stats
decreases-has_stats l = length l.words.now
