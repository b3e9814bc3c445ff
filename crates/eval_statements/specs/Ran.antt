-- Statements that run at once: nothing is pending on their parts.
use Rattle.std.specs.Prelude.{◌≡◌, ◌+◌, ◌≤◌, ◌<◌, ℕ}
use Rattle.typed_tree.specs.Nodes.{Stmt, Items}
use Rattle.staged_meaning.specs.Meaning.{exec, exec_items}
use Rattle.staged_meaning.specs.World.{Gives, Normal}
use Rattle.eval_state.specs.Burden.{weight_of_items}
use Rattle.eval_state.specs.Pending.{Now, Exec}
use Rattle.eval_state.specs.Rest.{doing, left}
use Rattle.eval_state.specs.Less.{loaded}
use Rattle.eval_state.specs.Run.{Run, here, world, in_world}

-- a statement ran to its end, and nothing but the world changed
unfoldable pub IsRun : Stmt → Run → Run → Type 0
IsRun s r t =
    (t ≡ in_world (world t) r) × (exec (here r) s (world r) ≡ Gives Normal (world t)) × (t.state.units ≤ r.state.units)

-- items ran to their ends, up to those that are left
unfoldable pub HasRun : (items rest : Items) → Run → Run → Type 0
HasRun items rest r t =
    (t ≡ in_world (world t) r) × (exec_items (here r) items (world r) ≡ exec_items (here r) rest (world t))
    × (t.state.units ≤ r.state.units) × ((k : ℕ → ℕ) → weight_of_items k rest ≤ weight_of_items k items)

-- a statement of which nothing is done yet
abbrev pub whole : Now → ℕ
whole (Exec s) = 1
whole _ = 0

-- this is left to do of a statement, and nothing but the world changed: a unit was spent, or it is lighter, or the
-- statement is as it was
unfoldable pub IsGoing : Stmt → Now → Run → Run → Type 0
IsGoing s n r t =
    (t ≡ in_world (world t) r) × (doing (here r) n (world t) ≡ left (exec (here r) s (world r)))
    × (t.state.units ≤ r.state.units)
    × (t.state.units ≡ r.state.units → loaded n r < loaded (Exec s) r + whole n)
