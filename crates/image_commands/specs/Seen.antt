-- What a call shows of the run of an image: the input that it read, how the run ended within the instructions that were
-- allowed, what it read and put out, and how many instructions and services that was. The run is the machine's
-- definition, for a row of choices of places that are linear scan's; that a call is told by its outcome is the
-- product's own.
use Rattle.std.specs.Prelude.{◌≡◌, ◌≢◌, ℕ, ◌≤◌, ◌<◌, true, false, List, Option, Some, None}
use Rattle.std.specs.Io.KnownBytes.{Appends, Consumes}
use Rattle.host_edge.specs.declared.ending.Counts.{Counts}
use Rattle.host_edge.specs.declared.ending.Ending.TheVariants as ending
use Rattle.history.specs.Events.{Item, End, Input, output}
use Rattle.history.specs.Events as event
use Rattle.image_file.specs.Image.{ImageParts}
use Rattle.pace.specs.Pace.{Seen, IsPrefix}
use Rattle.mips_model.specs.Choices.{Choice}
use Rattle.mips_model.specs.Steps.{run}
use Rattle.mips_model.specs.Run.{begins, runs, steps_within, IsDefined}
use Rattle.mips_machine.specs.Progress.{counts_of}
use Rattle.mips_machine.specs.Ran.{bytes_read, IsScannedAt}
use Rattle.tick_outcome.specs.declared.ended.Ended.{Ended}
use Rattle.tick_outcome.specs.declared.outcome.Outcome.{Outcome}
use Rattle.tick_outcome.specs.declared.outcome.Outcome.TheVariants.{Done, Trap, MachineFault, OutOfSteps, ReadFault}
use Rattle.tick_outcome.specs.declared.outcome.Outcome.TheVariants.{WriteFault}

-- the input that gives these bytes, and then ends
abbrev pub told : List ℕ → Input
told bytes = record { bytes = bytes; failing = false }

-- the bytes that are told, and then the end
abbrev pub EndsBehind : Option (List ℕ) → Input → Type 0
EndsBehind None input = input.failing ≡ false
EndsBehind (Some bytes) input = input ≡ told bytes

-- the input of a run: of told bytes all that were left, and then the end; but where a read failed, the bytes that were
-- taken, and then the fault
abbrev pub IsInput : Option (List ℕ) → Option (List ℕ) → Outcome → Input → Type 0
IsInput left later ReadFault input = Consumes left later input.bytes × (input.failing ≡ true)
IsInput left later other input = EndsBehind left input

-- the outcome of a run that ended so within n instructions, or hasn't ended
abbrev pub outcome_at : (n : ℕ) → Option End → Outcome
outcome_at n (Some (event.Ended (ending.Done s))) = Done s
outcome_at n (Some (event.Ended (ending.Trap kind))) = Trap kind
outcome_at n (Some event.ReadFault) = ReadFault
outcome_at n (Some (event.Fault kind at)) = MachineFault kind at
outcome_at n None = OutOfSteps n

-- all bytes of a history were read and put out
pub record Moves (left later taken told : Option (List ℕ)) (history : List Item) : Type 0 where
  pub read : Consumes left later (bytes_read history)
  pub put_out : Appends taken told (output history)

-- a front part of a history's bytes was put out
pub record PutsFront (taken told : Option (List ℕ)) (history : List Item) : Type 0 where
  pub bytes : List ℕ
  pub put_out : Appends taken told bytes
  pub front : IsPrefix bytes (output history)

-- The image was run on the input for n instructions: the outcome is the run's, and its bytes were read and put out; a
-- failed write leaves a front part of what the run puts out.
abbrev pub IsSeen : (n : ℕ) → (left later taken told : Option (List ℕ)) → Outcome → Seen Item End → Type 0
IsSeen n left later taken told WriteFault seen = PutsFront taken told seen.history
IsSeen n left later taken told outcome seen =
    (outcome ≡ outcome_at n seen.ending) × Moves left later taken told seen.history

-- each function that is finished in so many instructions takes the places of linear scan
abbrev pub IsScannedRun : ImageParts → Input → List Choice → ℕ → Type 0
IsScannedRun image input row n = (i : ℕ) → i < n → IsScannedAt (run i (begins image input row))

-- how many instructions were executed, what the services were asked for, refused ones aside, and the places of the
-- registers of the function that was finished last
pub record Account : Type 0 where
  pub steps : ℕ
  pub counts : Counts
  pub choices : List ℕ

abbrev pub account_of : Ended → Account
account_of e = record { steps = e.steps; counts = e.counts; choices = e.choices.items }

-- what so many instructions come to
abbrev pub account_at : ImageParts → Input → List Choice → ℕ → Account
account_at image input row n = record {
  steps = steps_within n (begins image input row);
  counts = counts_of (run n (begins image input row)).state.d.outside;
  choices = (run n (begins image input row)).state.d.outside.making.generator.choices;
}

-- The run went so far: by all instructions that were allowed, where no write failed, and else up to the service whose
-- write failed, with that included. It is defined as far, under choices that are linear scan's.
pub record ShowsRun (n : ℕ) (image : ImageParts) (account : Account) (left later taken told : Option (List ℕ))
    (outcome : Outcome) : Type 0 where
  pub input : Input
  pub is_input : IsInput left later outcome input
  pub row : List Choice
  pub reached : ℕ
  pub within : reached ≤ n
  pub all : outcome ≢ WriteFault → reached ≡ n
  pub scanned : IsScannedRun image input row reached
  pub defined : IsDefined image input row reached
  pub seen : IsSeen n left later taken told outcome (runs image input row reached)
  pub accounted : account ≡ account_at image input row reached
