-- What each command on a file reads, writes, saves and answers. The order of refusals (words, load, length, content,
-- run or save) is in the definitions themselves, here and in `image_commands`; they are the product's own rules.
use Rattle.std.specs.Prelude.{◌≡◌, ◌⊎◌, ℕ, List, length, Option, MatchResult, MatchBool, nat_lt}
use Rattle.std.specs.Option.{option_map}
use Rattle.std.specs.Io.KnownBytes.{Keeps, Appends, Consumes, IsAtEnd}
use Rattle.host_edge.specs.Moves.{TakesFront}
use Rattle.image_file.specs.Image.{ImageParts}
use Rattle.host_edge.specs.declared.ending.Ending.{Ending}
use Rattle.history.specs.Events.{output}
use Rattle.history.specs.Events as event
use Rattle.staged_meaning.specs.Meaning.{Program, meant}
use Rattle.source_commands.specs.Texts.{typed_tree, Means, Lowered, HoldsForChoices}
use Rattle.static_image.specs.Headline.{Headline}
use Rattle.command_words.specs.Orders.{Order, run, build, exec, mean, asm, dis}
use Rattle.tick_outcome.specs.declared.outcome.Outcome.{Outcome}
use Rattle.tick_outcome.specs.declared.outcome.Outcome.TheVariants.{Refused, TooLong, ReadFault, WriteFault}
use Rattle.tick_outcome.specs.declared.ended.Ended.{Ended}
use Rattle.image_commands.specs.Outside.{Files, Outside, SameFiles, Still}
use Rattle.image_commands.specs.Answers.{IsBare, longest_text}
use Rattle.image_commands.specs.Seen.{told, outcome_at}
use Rattle.image_commands.specs.Does.{WithFile, Answered, Runs, ExecutesFile, Unsaved, SavesImage, AssemblesFile}
use Rattle.image_commands.specs.Does.{Unprinted, PrintsFile}

-- a text of the language is accepted, and is a program, or is refused for its first static fault
abbrev pub WithProgram : (answers : Outcome → Type 0) → (next : Program → Type 0) → List ℕ → Type 0
WithProgram answers next text =
    MatchResult (typed_tree text) (λ tree. (program : Program) × Means tree program × next program)
    (λ fault. answers (Refused fault))

-- ---- run

-- the image of the text ran; the headline holds for it, as under every other legal choice of its functions' places
pub record RunsProgram (steps : ℕ) (old new : Outside) (e : Ended) (text : List ℕ) (program : Program) : Type 0 where
  pub image : ImageParts
  pub lowering : Lowered text image
  pub headline : Headline program image
  pub choices : HoldsForChoices program
  pub runs : Runs steps old new e image

abbrev pub RunsFile : List ℕ → (steps : ℕ) → Outside → Outside → Ended → Type 0
RunsFile file steps old new e =
    WithFile (old.file file) longest_text (Answered old new e)
    (λ text. WithProgram (Answered old new e) (RunsProgram steps old new e text) text)

-- ---- build

-- the image of the text, which is the one that runs, was saved; the headline holds for it, as under every other legal
-- choice of its functions' places
pub record SavesProgram (path : List ℕ) (old new : Files) (e : Ended) (text : List ℕ) (program : Program) : Type 0 where
  pub image : ImageParts
  pub lowering : Lowered text image
  pub headline : Headline program image
  pub choices : HoldsForChoices program
  pub saves : SavesImage path old new e image

abbrev pub BuildsFile : List ℕ → (path : List ℕ) → Files → Files → Ended → Type 0
BuildsFile file path old new e =
    WithFile (old file) longest_text (Unsaved old new e)
    (λ text. WithProgram (Unsaved old new e) (SavesProgram path old new e text) text)

-- ---- mean

-- The whole input is read: behind these bytes it is longer than it may be, or it fails, or it ends, and `next` says
-- what is then done with them.
abbrev pub WithInput : Option (List ℕ) → Option (List ℕ) → (answers : Outcome → Type 0) → (next : List ℕ → Type 0) →
    Type 0
WithInput left later answers next =
    (bytes : List ℕ) × Consumes left later bytes
    × MatchBool (nat_lt longest_text (length bytes)) (answers TooLong)
    (answers ReadFault ⊎ (IsAtEnd later × next bytes))

-- The meaning of the program on the input was evaluated within so many units of work: it ends by its own doing, or not
-- within them. All that it puts out was written then, or the sink failed and has taken a front part of it.
pub record Evaluates (units : ℕ) (program : Program) (taken now : Option (List ℕ)) (e : Ended) (input : List ℕ) :
    Type 0 where
  pub ending : Option Ending
  pub ends : (meant program (told input) units).ending ≡ option_map event.Ended ending
  pub answers :
      (IsBare e (outcome_at units (meant program (told input) units).ending)
      × Appends taken now (output (meant program (told input) units).history))
      ⊎ (IsBare e WriteFault × TakesFront taken now (output (meant program (told input) units).history))

-- the text of the file is a program, and the input is read and its meaning evaluated
abbrev pub MeansProgram : (units : ℕ) → Outside → Outside → Ended → Program → Type 0
MeansProgram units old new e program =
    WithInput old.left new.left (Unprinted old.taken new.taken e) (Evaluates units program old.taken new.taken e)

abbrev pub MeansFile : List ℕ → (units : ℕ) → Outside → Outside → Ended → Type 0
MeansFile file units old new e =
    WithFile (old.file file) longest_text (Answered old new e)
    (WithProgram (Answered old new e) (MeansProgram units old new e))

-- ---- all commands

abbrev pub Does : Order → Outside → Outside → Ended → Type 0
Does (run file steps) old new e = RunsFile file steps old new e
Does (exec file steps) old new e = ExecutesFile file steps old new e
Does (mean file units) old new e = SameFiles old.file new.file × MeansFile file units old new e
Does (build file path) old new e = Still old new × BuildsFile file path old.file new.file e
Does (asm file path) old new e = Still old new × AssemblesFile file path old.file new.file e
Does (dis file) old new e =
    (SameFiles old.file new.file × Keeps old.left new.left) × PrintsFile (old.file file) old.taken new.taken e
