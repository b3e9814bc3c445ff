-- What reading the whole input gives: it may have as many bytes as a text.
use Rattle.std.specs.Prelude.{◌≡◌, ℕ, List, length, Option, nat_lt, true, false}
use Rattle.std.specs.Io.KnownBytes.{Consumes, IsAtEnd}
use Rattle.host_edge.specs.Causes.{Rose}
use Rattle.limits.specs.declared.text.TheConstants.{LONGEST_TEXT}
use Rattle.whole_files.specs.declared.input.InputRead.{InputRead}
use Rattle.whole_files.specs.declared.input.InputRead.TheVariants.{WholeInput, TooLongInput, FailedInput}

-- the most bytes of a text, and of an input that is read whole
abbrev pub longest_text : ℕ
longest_text = LONGEST_TEXT

abbrev pub IsInputRead : Option (List ℕ) → Option (List ℕ) → InputRead → Type 0
IsInputRead left later (WholeInput v) =
    Consumes left later v.items × IsAtEnd later × (nat_lt longest_text (length v.items) ≡ false)
IsInputRead left later TooLongInput =
    (bytes : List ℕ) × Consumes left later bytes × (nat_lt longest_text (length bytes) ≡ true)
IsInputRead left later FailedInput =
    (bytes : List ℕ) × Consumes left later bytes × (nat_lt longest_text (length bytes) ≡ false)

abbrev pub InputCause : ℕ → ℕ → InputRead → Type 0
InputCause old new (WholeInput v) = new ≡ old
InputCause old new TooLongInput = new ≡ old
InputCause old new FailedInput = Rose old new
