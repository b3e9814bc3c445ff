-- What follows from what a call did: two calls are one, the instructions that were executed are those that the
-- definition executes, on told bytes a call is the definition's run, and each function that it finishes takes a legal
-- choice of places, that of linear scan.
use Rattle.std.specs.Prelude.{◌≡◌, ◌≢◌, ℕ, ◌+◌, ◌<◌, false, List, Option, Some, None}
use Rattle.history.specs.Events.{Input, outs}
use Rattle.mips_model.specs.Choices.{Choice}
use Rattle.mips_model.specs.Steps.{run}
use Rattle.image_file.specs.Image.{ImageParts}
use Rattle.mips_model.specs.Run.{begins, steps_within, IsWellChosen}
use Rattle.mips_machine.specs.declared.stop.Stop.{Stop}
use Rattle.mips_machine.specs.declared.stop.Stop.TheVariants.{Steps, ReadFault, WriteFault}
use Rattle.mips_machine.specs.Progress.{Progress, Unkept, first_progress, first_unkept, is_at_end, choosing, more}
use Rattle.mips_machine.specs.Progress.{world}
use Rattle.mips_machine.specs.Ran.{Ran, MayFollow, IsScannedAt, told_of, start, ending_of}

-- two calls, the first of which executed all its instructions, are one
abbrev pub TwoAreOne : Type 0
TwoAreOne =
    (a b : ℕ) (old mid new : Progress) (left between later taken held told : Option (List ℕ)) (stop : Stop)
    → Ran a old mid left between taken held Steps → Ran b mid new between later held told stop
    → Ran (a + b) old new left later taken told stop

-- as many instructions were executed as the definition executes of so many
abbrev pub CountsSteps : Type 0
CountsSteps =
    (n : ℕ) (old new : Progress) (left later taken told : Option (List ℕ)) (stop : Stop)
    → (f : Ran n old new left later taken told stop) (rest : Input) (u : Unkept) → MayFollow old new stop rest
    → steps_within f.count (start old f.given f.chosen f.refused rest u) ≡ f.count

-- where no write failed, the call is the definition's run of all n instructions that were allowed
abbrev pub RunsAll : Type 0
RunsAll =
    (n : ℕ) (old new : Progress) (left later taken told : Option (List ℕ)) (stop : Stop) → stop ≢ WriteFault
    → (f : Ran n old new left later taken told stop) (rest : Input) (u : Unkept) → MayFollow old new stop rest
    → (run n (start old f.given f.chosen f.refused rest u)
    ≡ world new rest (choosing f.refused (told_of f.events f.noted u)) (ending_of stop))
    × (steps_within n (start old f.given f.chosen f.refused rest u) ≡ f.count)

-- on told bytes the call executed so many instructions of the definition's run on all the bytes left, and then the end
abbrev pub RunsOnTold : Type 0
RunsOnTold =
    (n : ℕ) (old new : Progress) (bytes : List ℕ) (later taken told : Option (List ℕ)) (stop : Stop)
    → is_at_end old ≡ false → stop ≢ ReadFault → (f : Ran n old new (Some bytes) later taken told stop)
    → (rest : List ℕ) × (later ≡ Some rest) × ((u : Unkept)
    → run f.count
    (world old (record { bytes = bytes; failing = false }) (choosing f.chosen (choosing f.refused u)) None)
    ≡ world new (record { bytes = rest; failing = false })
    (choosing f.refused (more (outs f.last) (told_of f.events f.noted u))) (ending_of stop))

-- where nothing was executed yet, the run is that of the image
abbrev pub BeginsThere : Type 0
BeginsThere =
    (image : ImageParts) (input : Input) (row : List Choice)
    → world (first_progress image) input (first_unkept row) None ≡ begins image input row

-- where no write failed, each function that is finished in all n instructions takes the choice of linear scan, and so a
-- legal one
abbrev pub ChoosesWell : Type 0
ChoosesWell =
    (n : ℕ) (old new : Progress) (left later taken told : Option (List ℕ)) (stop : Stop) → stop ≢ WriteFault
    → (f : Ran n old new left later taken told stop) (rest : Input) (u : Unkept) → MayFollow old new stop rest
    → (i : ℕ) → i < n → IsScannedAt (run i (start old f.given f.chosen f.refused rest u))
    × IsWellChosen (run i (start old f.given f.chosen f.refused rest u))

-- and else in those that were executed
abbrev pub ChoosesSoFar : Type 0
ChoosesSoFar =
    (n : ℕ) (old new : Progress) (left later taken told : Option (List ℕ)) (stop : Stop)
    → (f : Ran n old new left later taken told stop) (rest : Input) (u : Unkept) → MayFollow old new stop rest
    → (i : ℕ) → i < f.count → IsWellChosen (run i (start old f.given f.chosen f.refused rest u))
