use Rattle.std.proofs.Common.{◌≡◌, drop}
use Rattle.accepted_programs.specs.Mains.{ticks_have_words}
use Rattle.accepted_programs.proofs.program.read_ticks.Given as goal

-- the ticks still to come settle it
abbrev pub invariant-loop-tick : goal.invariant-loop-tick
invariant-loop-tick l = ticks_have_words (drop l.tick-index l.ticks) ≡ ticks_have_words l.ticks
