-- What is done of all that words may ask for.
use Rattle.std.specs.Io.KnownBytes.{Keeps}
use Rattle.command_words.specs.Orders.{Asked, of_file, gen}
use Rattle.tick_outcome.specs.declared.ended.Ended.{Ended}
use Rattle.image_commands.specs.Outside.{Outside, SameFiles}
use Rattle.image_commands.specs.Generated.{PrintsSource}
use Rattle.source_commands.specs.Does.{Does}

-- a command on a file, or `gen`, which loads, saves and reads nothing
abbrev pub Fulfils : Asked → Outside → Outside → Ended → Type 0
Fulfils (of_file order) old new e = Does order old new e
Fulfils (gen n) old new e =
    (SameFiles old.file new.file × Keeps old.left new.left) × PrintsSource n old.taken new.taken e
