-- What is promised of the image of a program: it keeps the rules of images, whatever legal places the registers of its
-- functions have.
use Rattle.std.specs.Prelude.{ℕ, List}
use Rattle.image_file.specs.Image.{IsImage}
use Rattle.staged_meaning.specs.Program.{Program}
use Rattle.static_image.specs.Layout.{Placed, IsChoice, image_of}
use Rattle.static_image.specs.Served.{IsImaged}

abbrev pub ImagesKeepRules : Type 0
ImagesKeepRules =
    (program : Program) (main : ℕ) (xs : List Placed) → IsImaged program main →
    IsChoice program.functions program.ticks xs
    → IsImage (image_of program.image program.ticks main xs)
