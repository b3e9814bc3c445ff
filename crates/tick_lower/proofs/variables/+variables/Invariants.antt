use Rattle.std.proofs.Common.{◌≡◌, max}
use Rattle.staged_meaning.specs.Size.{variables_of}
use Rattle.tick_lower.proofs.Rest.{rest}
use Rattle.tick_lower.proofs.variables.+variables.Given as goal

abbrev pub invariant-most_variables-loop-s : goal.invariant-most_variables-loop-s
invariant-most_variables-loop-s l = max l.most (variables_of (rest l.s-index l.list)) ≡ variables_of (rest 0 l.list)
