-- The steps of loops, from a run to the next.
use Rattle.std.specs.Prelude.{◌+◌, ℕ, suc, Option}
use Rattle.typed_tree.specs.Nodes.{Expr, Stmt}
use Rattle.staged_meaning.specs.World.{Gives, Normal, at_zero, spend, then_do}
use Rattle.eval_state.specs.Pending as pending
use Rattle.eval_state.specs.Pending.{Now}
use Rattle.eval_state.specs.Rest.{left, loop_of, rounds_of}
use Rattle.eval_state.specs.Less.{heft, held, waiting}
use Rattle.eval_state.specs.Run.{Run, here, leads, world}
use Rattle.eval_simple.specs.Stepped.{IsStep}

-- a loop that may have so many turns goes on with its test
abbrev pub IsTurn : (turns : ℕ) → Expr → Option Expr → Stmt → Now → Run → Run → Type 0
IsTurn d e step s n r t =
    IsStep (leads r (left (loop_of (here r) d e step s (world r))))
    (suc (heft (pending.Eval e) r + waiting (pending.Test 0 e step s) r)) n r t

-- a turn of it ends, which spends its unit
abbrev pub IsTurned : (turns : ℕ) → Expr → Option Expr → Stmt → Now → Run → Run → Type 0
IsTurned d e step s n r t =
    IsStep (leads r (left (then_do (spend Normal (world r)) (λ flow w. loop_of (here r) d e step s w))))
    (suc (held r)) n r t

-- a turn of a `do` ends by its test's value, behind which its unit is spent
abbrev pub IsRounded : (value turns : ℕ) → Stmt → Expr → Now → Run → Run → Type 0
IsRounded v d s e n r t =
    IsStep (leads r (left (then_do (spend Normal (world r)) (λ flow w. at_zero v (Gives Normal w)
    (rounds_of (here r) d s e w)))))
    (suc (held r)) n r t
