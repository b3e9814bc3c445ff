use Rattle.std.proofs.Common.{◌≡◌, ◌++◌, drop}
use Rattle.c_type_refs.specs.Codes as spec
use Rattle.c_type_refs.proofs.code.codes_of_list.Given as goal

abbrev pub invariant-loop-t : goal.invariant-loop-t
invariant-loop-t l = l.found ++ spec.codes_of_list (drop l.t-index l.list) ≡ spec.codes_of_list l.list
