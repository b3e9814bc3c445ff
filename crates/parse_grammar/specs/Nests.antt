-- Function values that parse what stands deeper.
use Rattle.std.specs.Prelude.{◌≡◌, ℕ, ◌<◌, ◌-◌, Result, Ok, Err}
use Rattle.std.specs.declared.alloc.Global.{Global}
use denote.Ref.{MutBor}
use Rattle.tick_tree.specs.declared.syntax.Declarator.{Declarator}
use Rattle.tick_tree.specs.declared.syntax.Expr.{Expr}
use Rattle.tick_tree.specs.declared.syntax.Stmt.{Stmt}
use Rattle.parse_grammar.specs.declared.grammar.Mode.{Mode}
use Rattle.parse_grammar.specs.declared.grammar.Part.{Part}
use Rattle.parse_grammar.specs.declared.stop.Stop.{Stop}
use Rattle.parse_grammar.specs.Input.{Input, Outcome, Reads}
use Rattle.parse_grammar.specs.Steps.{Inner, Room}
use Rattle.parse_grammar.specs.Declarators.{declarator}
use Rattle.parse_grammar.specs.Expressions.{at}
use Rattle.parse_grammar.specs.Statements.{inner, room_of, stmt}

-- They parse with room for fewer than this many levels.
pub record Nests (limit : ℕ)
    (pre : Global → MutBor Input → ℕ → Part → Type 0)
    (post : Global → MutBor Input → ℕ → Part → Result Expr Stop → MutBor Input → Type 0)
    (pre_stmt : Global → MutBor Input → ℕ → Type 0)
    (post_stmt : Global → MutBor Input → ℕ → Result Stmt Stop → MutBor Input → Type 0)
    (pre_declarator : Global → MutBor Input → ℕ → Mode → Type 0)
    (post_declarator : Global → MutBor Input → ℕ → Mode → Result Declarator Stop → MutBor Input → Type 0) : Type 0 where
  pub callable : (alloc : Global) (old : MutBor Input) (room : ℕ) (part : Part) → room < limit → pre alloc old room part
  pub reads : (alloc : Global) (old new : MutBor Input) (room : ℕ) (part : Part) (r : Result Expr Stop) → room < limit →
      post alloc old room part r new
      → Reads (at part (room_of room) old.now) r new.now
  pub callable_stmt : (alloc : Global) (old : MutBor Input) (room : ℕ) → room < limit → pre_stmt alloc old room
  pub reads_stmt : (alloc : Global) (old new : MutBor Input) (room : ℕ) (r : Result Stmt Stop) → room < limit →
      post_stmt alloc old room r new
      → Reads (stmt (room_of room) old.now) r new.now
  pub callable_declarator : (alloc : Global) (old : MutBor Input) (room : ℕ) (mode : Mode) → room < limit →
      pre_declarator alloc old room mode
  pub reads_declarator : (alloc : Global) (old new : MutBor Input) (room : ℕ) (mode : Mode) (r : Result Declarator Stop)
      → room < limit
      → post_declarator alloc old room mode r new → Reads (declarator mode (room_of room) old.now) r new.now

-- what a step to the next level ensures: it says exactly whether there is room
abbrev pub Entered : Outcome (Inner × Room) → ℕ → Result (Unit {0}) Stop → Input → Type 0
Entered outcome room (Ok _) new = (outcome ≡ Ok ((inner (room_of (room - 1)), room_of (room - 1)), new)) × (0 < room)
Entered outcome room (Err e) new = outcome ≡ Err e
