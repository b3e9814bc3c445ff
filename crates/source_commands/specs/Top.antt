-- The whole of a call: the words, what the command does, and what is said of it on standard error; these are the
-- product's own rules.
use Rattle.std.specs.Prelude.{ℕ, List, Option, MatchResult}
use Rattle.tick_outcome.specs.declared.outcome.Outcome.{Outcome}
use Rattle.tick_outcome.specs.declared.outcome.Outcome.TheVariants.{BadWords}
use Rattle.tick_outcome.specs.declared.ended.Ended.{Ended}
use Rattle.command_words.specs.Words.{order_of}
use Rattle.image_commands.specs.Outside.{Outside, Failures}
use Rattle.image_commands.specs.Does.{Answered, IsOfCommand, Cause}
use Rattle.image_commands.specs.Said.{said, Reports}
use Rattle.source_commands.specs.Generated.{Fulfils}

-- by the words
abbrev pub Performs : List (List ℕ) → Outside → Outside → Ended → Type 0
Performs words old new e =
    MatchResult (order_of words) (λ asked. Fulfils asked old new e × IsOfCommand e.outcome)
    (λ place. Answered old new e (BadWords place))

-- a whole call: an outcome of the command, its cause, and what is said of it
abbrev pub Ticked : List (List ℕ) → Outside → Outside → Failures → Failures → Option (List ℕ) → Option (List ℕ) → ℕ →
    ℕ → Ended → Type 0
Ticked words old new before now taken told err_before err_now e =
    (first : Outcome) × Performs words old new (record e { outcome = first }) × Cause first before now ×
    Reports (said words (record e { outcome = first })) first e.outcome taken told err_before err_now
