-- What came of a read.
use Rattle.std.specs.Prelude.{◌≡◌, ℕ, List, ◌++◌, map}
use Rattle.meaning_state.specs.Shared.{Read, Got, Failed}
use Rattle.staged_meaning.specs.World.{with_shared}
use Rattle.eval_state.specs.declared.state.Event.{Event}
use Rattle.eval_state.specs.declared.state.Event.TheVariants as event
use Rattle.eval_state.specs.Run.{Run, in_world, world}

-- a word was read, and what outlives a call is this
abbrev pub IsRead : (word : ℕ) → Read → Run → Run → Type 0
IsRead word (Got x shared) r s = (word ≡ x) × (s ≡ in_world (with_shared shared (world r)) r)
IsRead word Failed r s = ⊥

-- bytes were put out, one after another
abbrev pub put_after : List Event → List ℕ → List Event
put_after events bytes = events ++ map event.Out bytes
