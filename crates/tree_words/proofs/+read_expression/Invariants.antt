use Rattle.std.proofs.Common.{◌≡◌}
use Rattle.tree_words.specs.Words.{have_words_args}
use Rattle.tree_words.proofs.Rest.{arguments}
use Rattle.tree_words.proofs.+read_expression.Given as goal

abbrev pub invariant-read_arguments-loop-e : goal.invariant-read_arguments-loop-e
invariant-read_arguments-loop-e l =
    have_words_args (arguments l.e-index l.list) ≡ have_words_args (arguments 0 l.list)
