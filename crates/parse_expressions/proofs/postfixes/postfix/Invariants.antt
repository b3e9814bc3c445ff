use Rattle.std.proofs.Common.{◌≡◌, ◌≤◌}
use Rattle.parse_grammar.specs.Expressions.{postfix, postfix_kind, postfix_step}
use Rattle.parse_grammar.specs.Statements.{room_of}
use Rattle.parse_grammar.specs.Steps.{chain}
use Rattle.parse_expressions.proofs.postfixes.postfix.Given as goal

abbrev pub invariant-loop-op : goal.invariant-loop-op
invariant-loop-op g l = record {
  same : postfix (room_of l.fn.room) l.fn.tokens ≡ chain postfix_kind postfix_step (room_of l.room) l.left l.tokens;
  room : l.room ≤ l.fn.room;
}

abbrev pub decreases-loop-op : goal.decreases-loop-op
decreases-loop-op g l = l.room
