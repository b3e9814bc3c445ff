use Rattle.std.proofs.Common.{◌≡◌, ◌≤◌, ◌-◌, length}
use Rattle.c_lexer.specs.Lex as spec
use Rattle.c_lexer.proofs.Laws.{to_come}
use Rattle.c_lexer.proofs.walk.tokens.Given as goal

abbrev pub invariant-loop-piece : goal.invariant-loop-piece
invariant-loop-piece l = record {
  text : l.walk.text.now ≡ l.text;
  same : to_come l.text l.found.items l.walk.at ≡ spec.tokens l.text;
  few : length l.found.items ≤ spec.max_tokens;
}

abbrev pub decreases-loop-piece : goal.decreases-loop-piece
decreases-loop-piece l = length l.text - l.walk.at
