use Rattle.std.proofs.Common.{◌≡◌, ◌≤◌, ◌+◌, ◌*◌, ◌-◌}
use Rattle.parse_grammar.specs.Expressions.{level}
use Rattle.parse_grammar.specs.Statements.{room_of}
use Rattle.parse_expressions.specs.Precedence.{chain_at}
use Rattle.parse_expressions.proofs.Climbs.{climb}
use Rattle.parse_expressions.proofs.levels.+level.Given as goal

abbrev pub invariant-chain-loop-op : goal.invariant-chain-loop-op
invariant-chain-loop-op g l = record {
  same : chain_at l.level (room_of l.fn.room) l.fn.first l.fn.tokens ≡ chain_at l.level (room_of l.room) l.left
      l.tokens;
  room : l.room ≤ l.fn.room;
}

abbrev pub decreases-chain-loop-op : goal.decreases-chain-loop-op
decreases-chain-loop-op g l = l.room

abbrev pub invariant-climb-loop-next : goal.invariant-climb-loop-next
invariant-climb-loop-next g l = record {
  same : level l.level (room_of l.room) l.fn.tokens ≡ climb l.level l.least (room_of l.room) l.left l.tokens;
  least : l.least ≤ l.level;
}

abbrev pub decreases-climb-loop-next : goal.decreases-climb-loop-next
decreases-climb-loop-next g l = l.level - l.least

abbrev pub decreases-climb : goal.decreases-climb
decreases-climb g l = 2 * l.level

abbrev pub decreases-chain : goal.decreases-chain
decreases-chain g l = 2 * l.level + 1
