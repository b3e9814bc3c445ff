-- Expressions that are evaluated at once: nothing is pending on their parts.
use Rattle.std.specs.Prelude.{◌≡◌, ℕ, ◌<◌}
use Rattle.typed_tree.specs.Nodes.{Expr}
use Rattle.staged_meaning.specs.Meaning.{eval}
use Rattle.staged_meaning.specs.World.{World, Gives, spend}
use Rattle.eval_state.specs.Run.{Run, here, world, in_world}

-- the world with so many units left
abbrev pub at_units : ℕ → Run → World
at_units units r = record (world r) { units = units }

-- An expression has a value, and changes nothing but the units that are left: so many of these are left before it
-- spends its own.
unfoldable pub Comes : Run → Expr → (before value after : ℕ) → Type 0
Comes r e before value after =
    eval (here r) e (at_units before r) ≡ spend value (at_units after r)

-- and so many behind its own
unfoldable pub Came : Run → Expr → (before value after : ℕ) → Type 0
Came r e before value after =
    eval (here r) e (at_units before r) ≡ Gives value (at_units after r)

-- an expression was evaluated: it gave a value, and nothing but the world changed
unfoldable pub IsDone : Expr → (value : ℕ) → Run → Run → Type 0
IsDone e value r s =
    (s ≡ in_world (world s) r) × (eval (here r) e (world r) ≡ Gives value (world s)) × (s.state.units < r.state.units)
