-- A law of the runs of images.
use Rattle.std.specs.Prelude.{◌≡◌, ℕ, List}
use Rattle.history.specs.Events.{Input}
use Rattle.image_file.specs.Image.{ImageParts}
use Rattle.mips_model.specs.Choices.{Choice}
use Rattle.mips_model.specs.Run.{runs}
use Rattle.image_commands.specs.Seen.{IsScannedRun, account_at}

-- an image has one run under linear scan's choices, whatever row gives them
abbrev pub ScansOnce : Type 0
ScansOnce =
    (image : ImageParts) (input : Input) (row other : List Choice) (n : ℕ) → IsScannedRun image input row n
    → IsScannedRun image input other n
    → (runs image input row n ≡ runs image input other n)
    × (account_at image input row n ≡ account_at image input other n)
