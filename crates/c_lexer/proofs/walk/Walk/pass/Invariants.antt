use Rattle.std.proofs.Common.{◌≡◌}
use Rattle.c_lexer.specs.Lex.{line_at}
use Rattle.c_lexer.proofs.walk.Walk.pass.Given as goal

abbrev pub invariant-loop-at : goal.invariant-loop-at
invariant-loop-at l = l.line ≡ line_at l.text l.at
