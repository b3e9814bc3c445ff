-- What the items behind a default are for.
use Rattle.std.specs.Prelude.{◌≡◌, ◌≤◌, ℕ, List, Option, Some, None}
use Rattle.typed_tree.specs.declared.expression.Stmt.{Stmt}
use Rattle.typed_tree.specs.Nodes as node
use Rattle.staged_meaning.specs.Meaning.{Context, exec_items}
use Rattle.staged_meaning.specs.Statements.{exec_default, on_default}
use Rattle.staged_meaning.specs.World.{World, Result, Flow, Gives, Normal}
use Rattle.eval_state.specs.Burden.{weight_of_items}
use Rattle.eval_state.specs.Views.{items_view}
use denote.Ref.{Bor}

-- a statement that is not the default's label is passed
abbrev pub IsPassed : node.Stmt → Type 0
IsPassed s = (behind next : World → Result Flow) (w : World) → on_default s behind next w ≡ next w

-- these are the items behind the default; or there is none
abbrev pub IsDefault : Option (Bor (List Stmt)) → List Stmt → Type 0
IsDefault (Some more) items =
    (c : Context) (w : World) → exec_default c (items_view items) w ≡ exec_items c (items_view more.now) w
IsDefault None items = (c : Context) (w : World) → exec_default c (items_view items) w ≡ Gives Normal w

-- they weigh no more than all items
abbrev pub IsWithin : Option (Bor (List Stmt)) → List Stmt → Type 0
IsWithin (Some more) items =
    (k : ℕ → ℕ) → weight_of_items k (items_view more.now) ≤ weight_of_items k (items_view items)
IsWithin None items = Unit {0}
