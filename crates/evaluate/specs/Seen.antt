-- What is seen of a run that is over.
use Rattle.std.specs.Prelude.{◌≡◌, ℕ, ◌%◌, [], Option, Some, None}
use Rattle.host_edge.specs.declared.ending.Ending.TheVariants.{Done}
use Rattle.history.specs.Events as event
use Rattle.history.specs.Events.{End, Ended}
use Rattle.pace.specs.Pace.{Seen}
use Rattle.eval_state.specs.declared.parts.Now.{Now}
use Rattle.eval_state.specs.declared.parts.Now.TheVariants as now
use Rattle.eval_state.specs.Run.{Run, run_of, world}
use Rattle.evaluate.specs.declared.evaluated.Evaluated.{Evaluated}

-- nothing more is done
abbrev pub IsOver : Now → Run → Type 0
IsOver (now.Eval e) r = ⊥
IsOver (now.Exec s) r = ⊥
IsOver (now.Run list) r = ⊥
IsOver (now.Ended e) r = Unit {0}
IsOver now.Stopped r = Unit {0}
IsOver n r = r.state.frames ≡ []

-- how a run ended that is over
abbrev pub ending_at : Now → Option End
ending_at (now.Ended e) = Some (Ended e)
ending_at now.Stopped = None
ending_at (now.Value v) = Some (Ended (Done (v % 256)))
ending_at (now.Returned v) = Some (Ended (Done (v % 256)))
ending_at _ = Some (Ended (Done 0))

abbrev pub seen_of : Evaluated → Seen event.Item End
seen_of it = record { history = (world (run_of it.machine)).shared.history; ending = ending_at it.last }

-- the units that were not spent
abbrev pub units_left : Evaluated → ℕ
units_left it = (world (run_of it.machine)).units
