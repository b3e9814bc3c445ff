-- The sizes that a typed tree keeps of its ticks.
use Rattle.std.specs.Prelude.{◌≡◌, ℕ, List, Option, Some, slice_get}
use Rattle.typed_tree.specs.declared.program.Tick.{Tick}
use Rattle.staged_meaning.specs.Program.{tick_size}
use Rattle.staged_meaning.specs.Source.{tick_view}

-- each is the tick's own
abbrev pub AreSized : List Tick → Type 0
AreSized ticks = (n : ℕ) (t : Tick) → slice_get ticks n ≡ Some t → t.size ≡ tick_size (Some (tick_view t.body))
