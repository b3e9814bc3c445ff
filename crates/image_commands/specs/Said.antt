-- What is said of a call on standard error: the line of counts, where the words ask for it and a machine has run, and
-- then the line of the outcome. Where standard error fails, what was done stays done, and only Done becomes WriteFault.
-- These are the product's own rules.
use Rattle.std.specs.Prelude.{◌≡◌, ◌⊎◌, ◌&&◌, if◌then◌else◌, List, ℕ, [], ◌++◌, Option, is_some}
use Rattle.std.specs.Io.KnownBytes.{Appends}
use Rattle.host_edge.specs.Causes.{Rose}
use Rattle.host_edge.specs.Moves.{TakesFront}
use Rattle.command_words.specs.Orders.{asks_counts}
use Rattle.tick_outcome.specs.Counts.{counts_line}
use Rattle.tick_outcome.specs.Outcomes.{line_of}
use Rattle.tick_outcome.specs.declared.outcome.Outcome.{Outcome}
use Rattle.tick_outcome.specs.declared.outcome.Outcome.TheVariants.{Done, WriteFault}
use Rattle.tick_outcome.specs.declared.ended.Ended.{Ended}

abbrev pub counts_said : (words : List (List ℕ)) → Ended → List ℕ
counts_said words e = if asks_counts words && is_some e.image then counts_line e.counts e.steps else []

abbrev pub said : (words : List (List ℕ)) → Ended → List ℕ
said words e = counts_said words e ++ line_of e.outcome

-- where standard error fails, Done becomes WriteFault, and any other outcome stays
abbrev pub unsaid : Outcome → Outcome
unsaid (Done s) = WriteFault
unsaid other = other

-- what is said stands on standard error, or a front part of it
abbrev pub Reports : (text : List ℕ) → Outcome → Outcome → Option (List ℕ) → Option (List ℕ) → ℕ → ℕ → Type 0
Reports text first last taken told old new =
    ((last ≡ first) × Appends taken told text × (new ≡ old))
    ⊎ ((last ≡ unsaid first) × TakesFront taken told text × Rose old new)
