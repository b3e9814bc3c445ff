-- What is saved of an accepted text: the bytes of an image file, by the format of image files. They are the one
-- spelling of an image for which the headline holds, and whoever reads them has that image again.
use Rattle.std.specs.Prelude.{◌≡◌, ℕ, ◌≤◌, List, length, Ok}
use Rattle.image_file.specs.Image.{ImageParts}
use Rattle.image_file.specs.Format.{spelling, parsed}
use Rattle.staged_meaning.specs.Meaning.{Program}
use Rattle.static_image.specs.Headline.{Headline}
use Rattle.source_commands.specs.Texts.{Builds, Lowered}
use Rattle.limits.specs.declared.text.TheConstants.{LONGEST_IMAGE}

-- the most bytes of an image file
abbrev pub most_file_bytes : ℕ
most_file_bytes = LONGEST_IMAGE

-- the bytes of an image's file: its one spelling, which is read back as the image
pub record IsFileOf (image : ImageParts) (bytes : List ℕ) : Type 0 where
  pub spelt : bytes ≡ spelling image
  pub read_back : parsed bytes ≡ Ok image
  pub short : length bytes ≤ most_file_bytes

-- the headline for an image file
pub record HeadlineOfBytes (program : Program) (bytes : List ℕ) : Type 0 where
  pub image : ImageParts
  pub file : IsFileOf image bytes
  pub headline : Headline program image

-- the file of the one image of an accepted text, for which the headline holds
pub record Saves (text bytes : List ℕ) : Type 0 where
  pub image : ImageParts
  pub builds : Builds text image
  pub file : IsFileOf image bytes

-- the headline holds for the saved bytes
abbrev pub SavesHeadline : Type 0
SavesHeadline = (text bytes : List ℕ) → (s : Saves text bytes) → HeadlineOfBytes s.builds.program bytes

-- the headline holds for whatever image is read from such bytes
abbrev pub ReadsHeadline : Type 0
ReadsHeadline =
    (program : Program) (bytes : List ℕ) (image : ImageParts) → HeadlineOfBytes program bytes → parsed bytes ≡ Ok image
    → Headline program image

-- A text has one image: what is lowered of it for a run is what is lowered for a file.
abbrev pub LowersOne : Type 0
LowersOne = (text : List ℕ) (one other : ImageParts) → Lowered text one → Lowered text other → one ≡ other

-- a text has one image file
abbrev pub SavesOne : Type 0
SavesOne = (text one other : List ℕ) → Saves text one → Saves text other → one ≡ other

-- the file of a text spells any image that is built of the text
abbrev pub SavesBuilt : Type 0
SavesBuilt = (text bytes : List ℕ) (image : ImageParts) → Saves text bytes → Builds text image → IsFileOf image bytes
