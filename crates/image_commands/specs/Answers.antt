-- What the parts of a command answer: of the file that was loaded, of the image that came of it, and of a run. The
-- order of refusals (load, length, content) is the product's own.
use Rattle.std.specs.Prelude.{◌≡◌, ℕ, ◌+◌, List, [], length, Option, Some, None, Ok, Err, nat_lt, false, true, ⊤}
use Rattle.host_edge.specs.Files.{Loads}
use Rattle.host_edge.specs.Causes.{Rose}
use Rattle.host_edge.specs.declared.ending.Ending.TheVariants as ending
use Rattle.image_file.specs.Image.{ImageParts}
use Rattle.image_file.specs.Format.{parsed}
use Rattle.mips_machine.specs.declared.stop.Stop.{Stop}
use Rattle.mips_machine.specs.declared.stop.Stop.TheVariants as stop
use Rattle.mips_machine.specs.Progress.{Progress, first_progress, counts_of}
use Rattle.mips_machine.specs.Ran.{Ran}
use Rattle.mips_text.specs.Assembly.{assembled}
use Rattle.tick_outcome.specs.declared.outcome.Outcome.{Outcome}
use Rattle.tick_outcome.specs.declared.outcome.Outcome.TheVariants.{Done, AsmRefused, LoadFault, TooLong}
use Rattle.tick_outcome.specs.declared.outcome.Outcome.TheVariants.{BadImage, Trap, MachineFault, OutOfSteps, ReadFault}
use Rattle.tick_outcome.specs.declared.outcome.Outcome.TheVariants.{WriteFault}
use Rattle.tick_outcome.specs.declared.ended.Ended.{Ended}
use Rattle.image_commands.specs.declared.ended.Front.{Front}
use Rattle.image_commands.specs.declared.ended.Front.TheVariants.{Found, Instead}
use Rattle.limits.specs.declared.text.TheConstants.{LONGEST_IMAGE}
pub use Rattle.whole_files.specs.Input.{longest_text}

-- the most bytes of an image
abbrev pub longest_image : ℕ
longest_image = LONGEST_IMAGE

-- The image that came of a file: what `good` says of bytes and image holds, or there is an outcome in its place: the
-- file can't be loaded, or is too long, or `bad` says that its bytes are refused so.
abbrev pub IsFront : Option (Option (List ℕ)) → (longest : ℕ) → (List ℕ → ImageParts → Type 0) →
    (List ℕ → Outcome → Type 0) → Front → Type 0
IsFront told longest good bad (Found image) =
    (bytes : List ℕ) × Loads told (longest + 1) bytes × (nat_lt longest (length bytes) ≡ false) × good bytes image
IsFront told longest good bad (Instead LoadFault) = ⊤
IsFront told longest good bad (Instead TooLong) =
    (bytes : List ℕ) × Loads told (longest + 1) bytes × (nat_lt longest (length bytes) ≡ true)
IsFront told longest good bad (Instead other) =
    (bytes : List ℕ) × Loads told (longest + 1) bytes × (nat_lt longest (length bytes) ≡ false) × bad bytes other

abbrev pub FrontCause : ℕ → ℕ → Front → Type 0
FrontCause old new (Instead LoadFault) = Rose old new
FrontCause old new (Instead other) = new ≡ old
FrontCause old new (Found image) = new ≡ old

-- an assembly text
abbrev pub IsAssembled : List ℕ → ImageParts → Type 0
IsAssembled text image = assembled text ≡ Ok image

abbrev pub IsAsmRefused : List ℕ → Outcome → Type 0
IsAsmRefused text (AsmRefused fault) = assembled text ≡ Err fault
IsAsmRefused text other = ⊥

-- the bytes of an image
abbrev pub IsRead : List ℕ → ImageParts → Type 0
IsRead bytes image = parsed bytes ≡ Ok image

abbrev pub IsNoImage : List ℕ → Outcome → Type 0
IsNoImage bytes (BadImage fault) = parsed bytes ≡ Err fault
IsNoImage bytes other = ⊥

-- an answer that no machine stands behind
pub record IsBare (e : Ended) (given : Outcome) : Type 0 where
  pub outcome : e.outcome ≡ given
  pub steps : e.steps ≡ 0
  pub choices : e.choices.items ≡ []
  pub counts : e.counts ≡ record { ops = 0; functions = 0; words = 0; flushes = 0; spills = 0 }
  pub image : e.image ≡ None

-- the outcome of a run of at most n instructions that stopped so
abbrev pub outcome_of : ℕ → Stop → Outcome
outcome_of n (stop.Ended (ending.Done s)) = Done s
outcome_of n (stop.Ended (ending.Trap k)) = Trap k
outcome_of n (stop.Fault k at) = MachineFault k at
outcome_of n stop.Steps = OutOfSteps n
outcome_of n stop.ReadFault = ReadFault
outcome_of n stop.WriteFault = WriteFault

-- The image ran on the input for at most n instructions, under the choices of places that the machine made, and is
-- handed back, with the places of the function that was finished last.
pub record RanImage (n : ℕ) (image : ImageParts) (left later taken told : Option (List ℕ)) (e : Ended) : Type 0 where
  pub handed_back : e.image ≡ Some image
  pub final : Progress
  pub stop : Stop
  pub ran : Ran n (first_progress image) final left later taken told stop
  pub steps : e.steps ≡ final.steps
  pub counts : e.counts ≡ counts_of final.state.d.outside
  pub choices : e.choices.items ≡ final.state.d.outside.making.generator.choices
  pub outcome : e.outcome ≡ outcome_of n stop
