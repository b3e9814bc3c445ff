use Rattle.std.proofs.Common.{◌≡◌, ◌++◌, take}
use Rattle.std.specs.List.{flat_map}
use Rattle.image_file.specs.Format.{function_bytes}
use Rattle.image_file.proofs.writer.push_functions.Given as goal

abbrev pub invariant-loop-f : goal.invariant-loop-f
invariant-loop-f l = l.out.items ≡ l.initial.out.items ++ flat_map function_bytes (take l.f-index l.functions)
