use Rattle.std.proofs.Common.{◌≡◌, length}
use Rattle.parse_grammar.specs.Declarators.{declares_function}
use Rattle.parse_declarators.proofs.lists.declares_function.Given as goal

abbrev pub invariant-loop-rest : goal.invariant-loop-rest
invariant-loop-rest l = declares_function l.tokens ≡ declares_function l.rest

abbrev pub decreases-loop-rest : goal.decreases-loop-rest
decreases-loop-rest l = length l.rest
