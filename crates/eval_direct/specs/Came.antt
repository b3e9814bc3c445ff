-- What came of an evaluation on the host's stack: a value, or the way that a statement was left; or it can't go on
-- there, and what is done next leads, behind what waits for it, to what the whole comes to.
use Rattle.std.specs.Prelude.{◌≡◌, ℕ, ◌+◌, ◌<◌, ◌≤◌, length, [], ◌∷◌, ◌++◌}
use Rattle.staged_meaning.specs.World.{Result, Gives, Returns, Normal}
use Rattle.typed_tree.specs.Nodes.{Stmt, Items, Item}
use Rattle.staged_meaning.specs.Meaning.{exec, exec_items}
use Rattle.eval_state.specs.Burden.{burden}
use Rattle.eval_state.specs.Less.{loaded}
use Rattle.eval_state.specs.Late.{AreLocal, IsLate, frames_of}
use Rattle.eval_state.specs.Pending.{Exec}
use Rattle.eval_state.specs.Pending as pending
use Rattle.eval_state.specs.Rest.{Signal, Value, Left, left, context_at, doing, place_of}
use Rattle.eval_state.specs.Run.{Run, here, world, in_world}
use Rattle.eval_state.specs.Views.{now_view}
use Rattle.eval_state.specs.declared.parts.Now.{Now}
use Rattle.eval_state.specs.declared.state.Entry.{Entry}
use Rattle.eval_direct.specs.declared.came.Came.{Came}
use Rattle.eval_direct.specs.declared.came.Came.TheVariants as came
use Rattle.eval_direct.specs.declared.came.Went.{Went}
use Rattle.eval_direct.specs.declared.came.Went.TheVariants as went
use Rattle.eval_direct.specs.declared.came.Late.{Late}

-- what is done next is no node of the text, so it is less than what led to it
abbrev pub ready : pending.Now → ℕ
ready (pending.Eval e) = 0
ready (pending.Exec s) = 0
ready (pending.Run items) = 0
ready _ = 1

-- From a run on, something comes to x and weighs k. In the run behind it, what is done next comes to x behind what
-- waits, and besides what was pending before nothing is. Where no unit was spent, it is no heavier, and lighter with
-- each entry.
pub record Waits (late : Late) (r t : Run) (x : Result Signal) (k : ℕ) : Type 0 where
  pub local : AreLocal late.entries
  pub program : t.program ≡ r.program
  pub turns : t.turns ≡ r.turns
  pub frames : t.state.frames ≡ r.state.frames
  pub leads : IsLate (context_at r.program r.turns) (place_of t.state) (frames_of late.entries)
      (doing (context_at r.program r.turns (place_of t.state)) (now_view late.next) (world t)) x (place_of r.state)
  pub units : t.state.units ≤ r.state.units
  pub less : t.state.units ≡ r.state.units
      → burden r.program.ticks (place_of t.state) (now_view late.next) (frames_of late.entries)
      + (ready (now_view late.next) + length (frames_of late.entries)) ≤ k

-- only the world changed
abbrev pub IsThrough : Late → Run → Run → Type 0
IsThrough late r t = (late.entries ≡ []) × (t ≡ in_world (world t) r)

unfoldable pub IsCame : Came → Late → (r t : Run) → Result Signal → (weight : ℕ) → Type 0
IsCame (came.Value v) late r t x k =
    IsThrough late r t × (x ≡ Gives (Value v) (world t)) × (t.state.units < r.state.units)
IsCame came.Later late r t x k = Waits late r t x k
IsCame came.NoMemory late r t x k = Unit {0}

unfoldable pub IsWent : Went → Late → (r t : Run) → Result Signal → (weight : ℕ) → Type 0
IsWent went.Through late r t x k =
    IsThrough late r t × (x ≡ Gives (Left Normal) (world t)) × (t.state.units ≤ r.state.units)
IsWent (went.Returned v) late r t x k =
    IsThrough late r t × (x ≡ Returns v (world t)) × (t.state.units ≤ r.state.units)
IsWent went.Later late r t x k = Waits late r t x k
IsWent went.NoMemory late r t x k = Unit {0}

-- something else is done next
abbrev pub with_next : Now → Late → Late
with_next n late = record late { next = n }

-- an entry more waits, or memory is wanting
abbrev pub HasMore : Came → Entry → (old new : Late) → Type 0
HasMore (came.Value v) e old new = ⊥
HasMore came.Later e old new = (new.next ≡ old.next) × (new.entries ≡ old.entries ++ e ∷ [])
HasMore came.NoMemory e old new = Unit {0}

abbrev pub HasMoreItems : Went → Entry → (old new : Late) → Type 0
HasMoreItems went.Through e old new = ⊥
HasMoreItems (went.Returned v) e old new = ⊥
HasMoreItems went.Later e old new = (new.next ≡ old.next) × (new.entries ≡ old.entries ++ e ∷ [])
HasMoreItems went.NoMemory e old new = Unit {0}

-- a statement ran to its end, or nothing was done
abbrev pub IsAtOnce : Went → Stmt → (r t : Run) → Type 0
IsAtOnce went.Through s r t =
    (t ≡ in_world (world t) r) × (exec (here r) s (world r) ≡ Gives Normal (world t))
    × (t.state.units ≤ r.state.units)
IsAtOnce (went.Returned v) s r t = ⊥
IsAtOnce went.Later s r t = t ≡ r
IsAtOnce went.NoMemory s r t = Unit {0}

-- what came of an item: where it can't go on, those that follow wait
unfoldable pub IsItem : Went → Late → (r t : Run) → Stmt → Items → Type 0
IsItem went.Later late r t s more =
    Waits late r t (left (exec_items (here r) (Item s more) (world r))) (loaded (pending.Run (Item s more)) r)
IsItem result late r t s more = IsWent result late r t (left (exec (here r) s (world r))) (loaded (Exec s) r)
