-- What `gen` writes.
use Rattle.std.specs.Prelude.{◌⊎◌, ℕ, List, Option}
use Rattle.std.specs.Io.KnownBytes.{Appends}
use Rattle.host_edge.specs.Moves.{TakesFront}
use Rattle.tick_gen.specs.Source.{source}
use Rattle.tick_outcome.specs.declared.outcome.Outcome.TheVariants.{Done, WriteFault}
use Rattle.tick_outcome.specs.declared.ended.Ended.{Ended}
use Rattle.image_commands.specs.Answers.{IsBare}

-- the source was written, or the sink failed and has taken a front part of it
abbrev pub PrintsSource : (n : ℕ) → Option (List ℕ) → Option (List ℕ) → Ended → Type 0
PrintsSource n taken told e =
    (IsBare e (Done 0) × Appends taken told (source n)) ⊎
    (IsBare e WriteFault × TakesFront taken told (source n))
