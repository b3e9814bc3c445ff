use Rattle.std.proofs.Common.{◌≡◌}
use Rattle.image_file.specs.Format.{words_in}
use Rattle.image_file.proofs.reader.words.Given as goal

abbrev pub invariant-loop-k : goal.invariant-loop-k
invariant-loop-k l = l.words.items ≡ words_in l.bytes l.at l.k
