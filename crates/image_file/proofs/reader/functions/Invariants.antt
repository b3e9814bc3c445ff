use Rattle.std.proofs.Common.{◌≡◌}
use Rattle.image_file.specs.Format.{functions_in}
use Rattle.image_file.proofs.reader.functions.Given as goal

abbrev pub invariant-loop-k : goal.invariant-loop-k
invariant-loop-k l = l.functions.items ≡ functions_in l.bytes l.at l.k
