-- What is proved of the rows of specifications in runs of the staged machine.
use Rattle.std.specs.Prelude.{ℕ}
use Rattle.std.specs.Fn.{iterate}
use Rattle.history.specs.Events.{Input}
use Rattle.typed_tree.specs.Nodes as node
use Rattle.wellformed.specs.Program.{IsProgram}
use Rattle.staged_meaning.specs.Program as meaning
use Rattle.staged_meaning.specs.Meaning.{at_start}
use Rattle.icode_meaning.specs.State.{Function, Program, State}
use Rattle.icode_meaning.specs.Steps.{advance, first}
use Rattle.known_closures_proof.specs.States.{HasText, IsKnownState}

-- A step of the staged machine keeps the rows known.
abbrev pub StepsKeepRows : Type 0
StepsKeepRows =
    (p : node.Program) (accepted : IsProgram p) (machine : Program) (state : State) → HasText p accepted machine
    → IsKnownState p accepted machine state → IsKnownState p accepted machine (advance machine state)

-- So they are known in each state of a run, whatever the functions are.
abbrev pub RunsKeepRows : Type 0
RunsKeepRows =
    (p : node.Program) (accepted : IsProgram p) (machine : Program) (program : meaning.Program) (main : Function)
    (input : Input) (i : ℕ) → HasText p accepted machine
    → IsKnownState p accepted machine (iterate (advance machine) i (first main (at_start program input)))
