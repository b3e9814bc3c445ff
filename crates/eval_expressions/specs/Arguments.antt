-- What arguments, or the words of captures, come to.
use Rattle.std.specs.Prelude.{ℕ, ◌+◌, ◌++◌, List}
use Rattle.typed_tree.specs.Nodes.{Args}
use Rattle.staged_meaning.specs.Meaning.{eval_args}
use Rattle.staged_meaning.specs.World.{Result, then_do}
use Rattle.eval_state.specs.Pending as pending
use Rattle.eval_state.specs.Pending.{Now, Target}
use Rattle.eval_state.specs.Less.{held, waiting}
use Rattle.eval_state.specs.Rest.{Signal, targeted, valued}
use Rattle.eval_state.specs.Run.{Run, here, leads, world}
use Rattle.eval_simple.specs.Stepped.{IsStep}

-- those that are left, behind those that are done
abbrev pub coming : Target → Args → List ℕ → Run → Result Signal
coming target list done r = leads r (valued (then_do (eval_args (here r) list (world r))
    (λ vs w. targeted (here r) target (done ++ vs) w)))

-- and how much is pending before them
abbrev pub weighing : Target → Args → List ℕ → Run → ℕ
weighing target list done r = waiting (pending.Argument target list done) r + held r

-- the next one began, or what they are for
abbrev pub IsComing : Target → Args → (done : List ℕ) → Now → Run → Run → Type 0
IsComing target list done n r t = IsStep (coming target list done r) (weighing target list done r) n r t
