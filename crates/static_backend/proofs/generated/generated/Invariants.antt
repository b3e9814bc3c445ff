use Rattle.std.proofs.Common.{drop}
use Rattle.static_backend.proofs.Generators.{Stand}
use Rattle.static_backend.proofs.generated.generated.Given as goal

-- the functions of the ticks that are left stand behind those that are made
abbrev pub invariant-loop-tick : goal.invariant-loop-tick
invariant-loop-tick l =
    Stand l.starts l.end l.ticks (drop l.tick-index l.ticks) l.at l.made.starts.items l.made.words.items
