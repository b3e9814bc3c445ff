-- Which texts are accepted, and the typed program of each: a text is refused exactly for its first static fault.
use Rattle.std.specs.Prelude.{◌≡◌, ℕ, List, [], Some, Result, Ok, Err}
use Rattle.tick_tree.specs.declared.fault.Fault.{Fault}
use Rattle.tick_tree.specs.declared.fault.Deny.{Deny}
use Rattle.tick_tree.specs.declared.fault.Deny.TheVariants as deny
use Rattle.tick_tree.specs.declared.token.Token.{Token}
use Rattle.tick_tree.specs.declared.tree.Tree.{Tree}
use Rattle.c_lexer.specs.Lex.{tokens}
use Rattle.parse_spelling.specs.Trees.{parsed}
use Rattle.wellformed.specs.declared.typed.Typed.{Typed}
use Rattle.check_globals.specs.Program.{checked}
use Rattle.accepted_programs.specs.Mains.{Main, main_in}
use Rattle.typed_tree.specs.View.{program_view}
use Rattle.meaning_state.specs.Rows.{numbered}
use Rattle.staged_meaning.specs.Meaning.{Program}
use Rattle.staged_meaning.specs.Source as source
use Rattle.image_file.specs.Image.{ImageParts, IsImage}
use Rattle.static_image.specs.Layout.{Placed, IsChoice, image_of}
use Rattle.static_image.specs.Headline.{Headline}
use Rattle.static_backend.specs.Scanned.{IsScanned}

abbrev pub from_tree : Result Tree Fault → Result Typed Fault
from_tree (Err fault) = Err fault
from_tree (Ok tree) = checked tree

abbrev pub from_tokens : List ℕ → Result (List Token) Fault → Result Typed Fault
from_tokens text (Err fault) = Err fault
from_tokens text (Ok found) = from_tree (parsed text found)

-- the typed tree of a text, or its first static fault
unfoldable pub typed_tree : List ℕ → Result Typed Fault
typed_tree text = from_tokens text (tokens text)

-- the program that a typed tree is
abbrev pub Means : Typed → Program → Type 0
Means tree program = source.program_view tree ≡ Some program

-- the text is accepted, and this is its program
pub record IsProgramOf (text : List ℕ) (program : Program) : Type 0 where
  pub tree : Typed
  pub is_typed : typed_tree text ≡ Ok tree
  pub means : Means tree program

-- a text is at most one program, so a run and an evaluation have one meaning
abbrev pub MeansAsItRuns : Type 0
MeansAsItRuns =
    (text : List ℕ) (program other : Program) → IsProgramOf text program → IsProgramOf text other → program ≡ other

-- The image that is built of a text: the image of its functions and ticks and of the bytes of its globals and strings,
-- under the places that linear scan gives to the registers of each function. A text has one such image.
pub record Lowered (text : List ℕ) (image : ImageParts) : Type 0 where
  pub tree : Typed
  pub is_typed : typed_tree text ≡ Ok tree
  pub main : Main
  pub is_main : main_in tree ≡ Some main
  pub scanned : IsScanned tree.image (program_view tree).functions (source.ticks_of tree) main.number image

-- the headline holds for the image of a program under every legal choice of places of its functions' registers
abbrev pub HoldsForChoices : Program → Type 0
HoldsForChoices program =
    (main : ℕ) (xs : List Placed) → numbered main program.functions ≡ Some program.main
    → IsChoice program.functions program.ticks xs → Headline program (image_of program.image program.ticks main xs)

-- the image of an accepted text: it keeps the rules of images, and the headline holds for it, as for each image of the
-- program under legal places
pub record Builds (text : List ℕ) (image : ImageParts) : Type 0 where
  pub program : Program
  pub accepted : IsProgramOf text program
  pub lowering : Lowered text image
  pub rules : IsImage image
  pub headline : Headline program image
  pub choices : HoldsForChoices program

-- a refusal has its cause, but for want of memory
abbrev pub Refuses : {A : Type 0} → Result Typed Fault → Result A Deny → Type 0
Refuses found (Ok a) = Unit {0}
Refuses found (Err (deny.Refused fault)) = found ≡ Err fault
Refuses found (Err deny.NoMemory) = Unit {0}

-- the image of a program; want of memory is free
abbrev pub Backs : Typed → Result ImageParts Deny → Type 0
Backs tree (Ok image) = (main : Main) × (main_in tree ≡ Some main) ×
    IsScanned tree.image (program_view tree).functions (source.ticks_of tree) main.number image
Backs tree (Err (deny.Refused fault)) = ⊥
Backs tree (Err deny.NoMemory) = Unit {0}
