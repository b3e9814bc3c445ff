use Rattle.std.proofs.Common.{◌≡◌, ◌≤◌}
use Rattle.parse_grammar.specs.Expressions.{expr, comma_of, comma_step}
use Rattle.parse_grammar.specs.Statements.{room_of}
use Rattle.parse_grammar.specs.Steps.{chain}
use Rattle.parse_expressions.proofs.levels.expr.Given as goal

abbrev pub invariant-loop-tokens : goal.invariant-loop-tokens
invariant-loop-tokens g l = record {
  same : expr (room_of l.fn.room) l.fn.tokens ≡ chain comma_of comma_step (room_of l.room) l.left l.tokens;
  room : l.room ≤ l.fn.room;
}

abbrev pub decreases-loop-tokens : goal.decreases-loop-tokens
decreases-loop-tokens g l = l.room
