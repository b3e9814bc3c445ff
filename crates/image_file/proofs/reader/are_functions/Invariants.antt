use Rattle.std.proofs.Common.{◌≡◌}
use Rattle.std.specs.List.{list_all}
use Rattle.image_file.specs.Image.{is_function_in}
use Rattle.image_file.specs.Format.{functions_in}
use Rattle.image_file.proofs.reader.are_functions.Given as goal

abbrev pub invariant-loop-k : goal.invariant-loop-k
invariant-loop-k l = l.good ≡ list_all (is_function_in l.words) (functions_in l.bytes l.at l.k)
