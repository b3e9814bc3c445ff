use Rattle.std.proofs.Common.{◌≡◌, ◌+◌, drop}
use Rattle.std.specs.Prelude.{option_map}
use Rattle.c_lexer.specs.Lex.{comment_len}
use Rattle.c_lexer.proofs.pieces.comment_len.Given as goal

abbrev pub invariant-loop-at : goal.invariant-loop-at
invariant-loop-at l = option_map (λ n. l.at + n) (comment_len (drop l.at l.text)) ≡ comment_len l.text
