-- What came of a text of the language that was loaded: its image, or why there is none.
use Rattle.std.specs.Prelude.{◌≡◌, ℕ, List, Err}
use Rattle.image_file.specs.Image.{ImageParts}
use Rattle.staged_meaning.specs.Meaning.{Program}
use Rattle.static_image.specs.Headline.{Headline}
use Rattle.tick_outcome.specs.declared.outcome.Outcome.{Outcome}
use Rattle.tick_outcome.specs.declared.outcome.Outcome.TheVariants.{Refused}
use Rattle.source_commands.specs.Texts.{typed_tree, IsProgramOf, Lowered, HoldsForChoices}

-- a text of the language, and the image that was built of it
abbrev pub IsBuilt : List ℕ → ImageParts → Type 0
IsBuilt text image = (program : Program) × IsProgramOf text program × Headline program image ×
    HoldsForChoices program × Lowered text image

abbrev pub IsRefused : List ℕ → Outcome → Type 0
IsRefused text (Refused fault) = typed_tree text ≡ Err fault
IsRefused text other = ⊥
