use Rattle.std.proofs.Common.{◌≡◌, [], length}
use Rattle.parse_grammar.specs.Declarators.{prefixes}
use Rattle.parse_declarators.proofs.lists.prefixes.Given as goal

abbrev pub invariant-loop-prefix : goal.invariant-loop-prefix
invariant-loop-prefix l = prefixes [] l.fn.tokens ≡ prefixes l.found l.tokens

abbrev pub decreases-loop-prefix : goal.decreases-loop-prefix
decreases-loop-prefix l = length l.tokens
