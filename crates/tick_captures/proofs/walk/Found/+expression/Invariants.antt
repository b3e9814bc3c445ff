use Rattle.std.proofs.Common.{◌≡◌, map, drop}
use Rattle.tick_captures.specs.Captures.{names}
use Rattle.tick_captures.specs.Found.{behind}
use Rattle.tick_captures.proofs.walk.Found.+expression.Given as goal

abbrev pub invariant-expressions-loop-e : goal.invariant-expressions-loop-e
invariant-expressions-loop-e l = behind (map names (drop l.e-index l.list)) l.self ≡ behind (map names l.list) l.fn.self
