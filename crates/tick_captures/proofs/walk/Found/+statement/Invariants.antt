use Rattle.std.proofs.Common.{◌≡◌, map, drop}
use Rattle.tick_captures.specs.Captures.{names_of}
use Rattle.tick_captures.specs.Found.{behind}
use Rattle.tick_captures.proofs.walk.Found.+statement.Given as goal

abbrev pub invariant-statements-loop-s : goal.invariant-statements-loop-s
invariant-statements-loop-s l =
    behind (map names_of (drop l.s-index l.list)) l.self ≡ behind (map names_of l.list) l.fn.self
