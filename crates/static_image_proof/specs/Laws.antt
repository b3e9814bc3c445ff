-- What is promised of the image of an accepted text: the headline, whatever legal places the registers of its functions
-- have, and those of the functions that are compiled.
use Rattle.std.specs.Prelude.{◌≡◌, ℕ, List}
use Rattle.typed_tree.specs.Nodes as node
use Rattle.wellformed.specs.Program.{IsProgram}
use Rattle.staged_meaning.specs.Program.{Program}
use Rattle.known_closures_proof.specs.Known.{IsMeaning}
use Rattle.static_image.specs.Layout.{Placed, IsChoice, image_of}
use Rattle.static_image.specs.Served.{IsImaged}
use Rattle.static_image.specs.Headline.{Headline}

abbrev pub HeadlineHolds : Type 0
HeadlineHolds =
    (tree : node.Program) (accepted : IsProgram tree) (program : Program) (main : ℕ) (xs : List Placed)
    → IsMeaning tree program → (imaged : IsImaged program main) → imaged.captures ≡ accepted.captures
    → IsChoice program.functions program.ticks xs → Headline program (image_of program.image program.ticks main xs)
