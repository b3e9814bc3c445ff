use Rattle.std.proofs.Common.{◌≡◌, drop}
use Rattle.lex_words.specs.Words as spec
use Rattle.lex_words.proofs.keywords.among.Given as goal

abbrev pub invariant-loop-keyword : goal.invariant-loop-keyword
invariant-loop-keyword l = spec.spelt (drop l.keyword-index l.keywords) l.word ≡ spec.spelt l.keywords l.word
