use Rattle.std.proofs.Common.{◌≡◌}
use Rattle.tree_words.specs.Words.{have_words}
use Rattle.tree_words.proofs.Rest.{rest}
use Rattle.tree_words.proofs.+read_statement.Given as goal

abbrev pub invariant-read_statements-loop-s : goal.invariant-read_statements-loop-s
invariant-read_statements-loop-s l = have_words (rest l.s-index l.list) ≡ have_words (rest 0 l.list)
