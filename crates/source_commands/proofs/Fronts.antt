-- From what came of a text of the language to what a command did with it.
use Rattle.std.proofs.Common.{◌≡◌, ℕ, ◌+◌, List, length, Result, Ok, IfOk, nat_lt, inl, inr, false, subst, sym}
use Rattle.std.specs.Io.KnownBytes.{Keeps}
use Rattle.host_edge.specs.Files.{Loads}
use Rattle.image_file.specs.Image.{ImageParts}
use Rattle.staged_meaning.specs.Meaning.{Program}
use Rattle.source_commands.specs.Texts.{IsProgramOf}
use Rattle.tick_outcome.specs.declared.outcome.Outcome.{Outcome}
use Rattle.tick_outcome.specs.declared.outcome.Outcome.TheVariants as outcome
use Rattle.image_commands.specs.declared.ended.Front.TheVariants.{Found, Instead}
use Rattle.tick_outcome.specs.declared.ended.Ended.{Ended}
use Rattle.command_words.specs.Orders.{Asked, of_file, gen, build}
use Rattle.image_commands.specs.Outside.{Files, Outside, Still, SameFiles}
use Rattle.image_commands.specs.Answers.{IsFront, longest_text}
use Rattle.source_commands.specs.Answers.{IsBuilt, IsRefused}
use Rattle.image_commands.specs.Does.{Unsaved, SavesImage}
use Rattle.source_commands.specs.Does.{WithProgram, SavesProgram, BuildsFile}
use Rattle.image_commands.specs.Generated.{PrintsSource}
use Rattle.source_commands.specs.Generated.{Fulfils}
use Rattle.image_commands.proofs.Saves.{saves_on}
use Rattle.image_commands.proofs.Fronts.{if_ok, in_file, found}

module _ (answers : Outcome → Type 0) where
  pub program : (next : Program → Type 0) (text : List ℕ) (p : Program) → IsProgramOf text p → next p →
      WithProgram answers next text
  program next text p accepted n = rw accepted.is_typed (p, accepted.means, n)

  pub refused : (next : Program → Type 0) (text : List ℕ) (o : Outcome) → IsRefused text o → answers o →
      WithProgram answers next text
  refused next text (outcome.Refused fault) e a = rw e a
  refused next text (outcome.Done s) e a = absurd e
  refused next text (outcome.BadWords p) e a = absurd e
  refused next text (outcome.AsmRefused f) e a = absurd e
  refused next text outcome.LoadFault e a = absurd e
  refused next text outcome.TooLong e a = absurd e
  refused next text (outcome.BadImage f) e a = absurd e
  refused next text (outcome.Trap k) e a = absurd e
  refused next text (outcome.MachineFault k at) e a = absurd e
  refused next text (outcome.OutOfSteps n) e a = absurd e
  refused next text outcome.WriteFault e a = absurd e
  refused next text outcome.ReadFault e a = absurd e
  refused next text outcome.SaveFault e a = absurd e

-- the whole of `build`, for files before a load, behind it and behind a save
module _ (file path : List ℕ) (old mid new : Files) (e : Ended) (image : ImageParts) (same : SameFiles old mid)
    (s : SavesImage path mid new e image) where
  saves_program : (text : List ℕ) → IsBuilt text image →
      WithProgram (Unsaved old new e) (SavesProgram path old new e text) text
  saves_program text (p, accepted, headline, choices, lowering) =
      program (Unsaved old new e) (SavesProgram path old new e text) text p accepted
      (record {
        image = image;
        lowering = lowering;
        headline = headline;
        choices = choices;
        saves =
            saves_on path old mid new e image same s;
      })

  pub builds : IsFront (old file) longest_text IsBuilt IsRefused (Found image) → BuildsFile file path old new e
  builds f = found (Unsaved old new e) (old file) longest_text IsBuilt IsRefused
      (λ text. WithProgram (Unsaved old new e) (SavesProgram path old new e text) text) image saves_program f

-- where there is no image
module _ (file path : List ℕ) (old new : Files) (e : Ended) where
  refuses : (o : Outcome) → Unsaved old new e o
      → (f : (bytes : List ℕ) × Loads (old file) (longest_text + 1) bytes ×
      (nat_lt longest_text (length bytes) ≡ false) × IsRefused bytes o)
      → BuildsFile file path old new e
  refuses o a (bytes, loads, short, r) =
      in_file (Unsaved old new e) (old file) longest_text
      (λ text. WithProgram (Unsaved old new e) (SavesProgram path old new e text) text) bytes loads short
      (refused (Unsaved old new e) (SavesProgram path old new e bytes) bytes o r a)

  pub builds_nothing : (o : Outcome) → Unsaved old new e o →
      IsFront (old file) longest_text IsBuilt IsRefused (Instead o) → BuildsFile file path old new e
  builds_nothing outcome.LoadFault a f = inl a
  builds_nothing outcome.TooLong a (bytes, loads, long) = inr (bytes, loads, rw long a)
  builds_nothing (outcome.Refused fault) a f = refuses (outcome.Refused fault) a f
  builds_nothing (outcome.Done s) a f = refuses (outcome.Done s) a f
  builds_nothing (outcome.BadWords p) a f = refuses (outcome.BadWords p) a f
  builds_nothing (outcome.AsmRefused k) a f = refuses (outcome.AsmRefused k) a f
  builds_nothing (outcome.BadImage k) a f = refuses (outcome.BadImage k) a f
  builds_nothing (outcome.Trap k) a f = refuses (outcome.Trap k) a f
  builds_nothing (outcome.MachineFault k at) a f = refuses (outcome.MachineFault k at) a f
  builds_nothing (outcome.OutOfSteps n) a f = refuses (outcome.OutOfSteps n) a f
  builds_nothing outcome.WriteFault a f = refuses outcome.WriteFault a f
  builds_nothing outcome.ReadFault a f = refuses outcome.ReadFault a f
  builds_nothing outcome.SaveFault a f = refuses outcome.SaveFault a f

-- what the order to build does, where nothing was read or written
pub ordered_build : {F : Type 0} (file path : List ℕ) (asked : Asked) (old new : Outside) (r : Result Ended F) →
    asked ≡ of_file (build file path) → Still old new
    → IfOk r (BuildsFile file path old.file new.file) → IfOk r (Fulfils asked old new)
ordered_build file path asked old new r is still h =
    subst (λ o. IfOk r (Fulfils o old new)) (sym is) (if_ok r (λ e b. (still, b)) h)

-- what `gen` does, where no file was saved and nothing read
pub asked_source : {F : Type 0} (n : ℕ) (asked : Asked) (old new : Outside) (r : Result Ended F) → asked ≡ gen n
    → SameFiles old.file new.file → Keeps old.left new.left → IfOk r (PrintsSource n old.taken new.taken)
    → IfOk r (Fulfils asked old new)
asked_source n asked old new r is same kept h =
    subst (λ o. IfOk r (Fulfils o old new)) (sym is) (if_ok r (λ e p. ((same, kept), p)) h)
