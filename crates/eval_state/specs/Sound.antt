-- What is true of every state: the specifications that it names are there, the object space has all its words, and so
-- many calls may be active that their number is one of 64 bits.
use Rattle.std.specs.Prelude.{◌≡◌, ℕ, ◌+◌, ◌/◌, ◌^◌, ◌<◌, ◌≤◌, length, List, [], ◌∷◌}
use Rattle.word32.specs.declared.map.TheConstants.{OBJECT_BYTES}
use Rattle.eval_state.specs.declared.state.Parts.{Parts}
use Rattle.eval_state.specs.declared.state.Entry.{Entry}
use Rattle.eval_state.specs.declared.state.Entry.TheVariants as entry
use Rattle.eval_state.specs.declared.state.Event.{Event}
use Rattle.eval_state.specs.declared.state.Event.TheVariants as event
use Rattle.eval_state.specs.Run.{program_of}
use Rattle.eval_state.specs.Specified.{HasRows}

-- each specification that is named is among the first n
abbrev pub IsNamed : ℕ → Entry → Type 0
IsNamed n (entry.Inside f) = Unit {0}
IsNamed n (entry.Called answer charge caller) = caller.row ≤ n
IsNamed n (entry.Spliced answer variables object row) = row ≤ n

abbrev pub AreNamed : ℕ → List Entry → Type 0
AreNamed n [] = Unit {0}
AreNamed n (e ∷ es) = IsNamed n e × AreNamed n es

abbrev pub IsKnown : ℕ → Event → Type 0
IsKnown n (event.Made function row) = row ≤ n
IsKnown n _ = Unit {0}

abbrev pub AreKnown : ℕ → List Event → Type 0
AreKnown n [] = Unit {0}
AreKnown n (e ∷ es) = IsKnown n e × AreKnown n es

-- how many of them are calls
abbrev pub called : Entry → ℕ
called (entry.Called answer charge caller) = 1
called _ = 0

abbrev pub calls : List Entry → ℕ
calls [] = 0
calls (e ∷ es) = called e + calls es

abbrev pub IsSound : Parts → Type 0
IsSound p =
    (p.body.row ≤ length p.rows) × AreNamed (length p.rows) p.entries × AreKnown (length p.rows) p.events
    × HasRows (program_of p) p.rows p.closures p.compiled p.arena
    × (length p.objects.items ≡ OBJECT_BYTES / 4)
    × (p.depth + calls p.entries < 2 ^ 64)
