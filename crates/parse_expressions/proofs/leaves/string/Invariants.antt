use Rattle.std.proofs.Common.{◌≡◌, [], length}
use Rattle.parse_grammar.specs.Expressions.{strings}
use Rattle.parse_expressions.proofs.leaves.string.Given as goal

abbrev pub invariant-loop-tokens : goal.invariant-loop-tokens
invariant-loop-tokens l = strings [] l.fn.tokens ≡ strings l.found.items l.tokens

abbrev pub decreases-loop-tokens : goal.decreases-loop-tokens
decreases-loop-tokens l = length l.tokens
