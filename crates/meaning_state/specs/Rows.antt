-- The rows of specifications and of compiled functions: what stands in them, how they grow, and their limits. A closure
-- has sixteen bytes and four for each capture. These are this project's own rules.
use Rattle.std.specs.Prelude.{ℕ, zero, suc, ◌+◌, ◌*◌, Bool, true, false, nat_eq, nat_le, nat_lt, if◌then◌else◌, max}
use Rattle.std.specs.Prelude.{List, [], ◌∷◌, ◌++◌, length, slice_get, Option, Some, None}
use Rattle.host_edge.specs.declared.ending.TrapKind.{TrapKind}
use Rattle.host_edge.specs.declared.ending.TrapKind.TheVariants.{BadParam, SpecLimit, SizeLimit, TableLimit, ArenaLimit}
use Rattle.history.specs.Syntax.{Syntax, Ticked, Captures, NoCapture, Word, Named, Spliced}
use Rattle.history.specs.Events.{Made}
use Rattle.meaning_state.specs.Bodies.{Body, new_body, place_for}
use Rattle.meaning_state.specs.Shared.{Shared, Specification, happens}
use Rattle.limits.specs.declared.program.TheConstants.{MOST_ARGUMENTS, SIZE_LIMIT, WORDS_OF_A_BODY, WORDS_OF_A_NODE}
use Rattle.limits.specs.declared.run.TheConstants.{CAPTURE_BYTES, CLOSURE_HEAD_BYTES}
use Rattle.word32.specs.declared.map.TheConstants.{ARENA_WORDS, CLOSURE_BYTES, FUNCTION_ROWS}

-- the member of a row with a number, counted from 1
abbrev pub numbered : {A : Type 0} → ℕ → List A → Option A
numbered zero row = None
numbered (suc n) row = slice_get row n

abbrev pub specification_at : ℕ → Shared → Option Specification
specification_at number shared = numbered number shared.specifications

-- ---- what is read off generated code

-- the parameters of a function: one more than the greatest index that its code names
abbrev pub key_parameters : ℕ → ℕ
key_parameters key = if nat_lt key MOST_ARGUMENTS then suc key else 0

abbrev mutual
  pub parameters_of : Syntax → ℕ
  parameters_of (Ticked tick captures) = parameters_in captures

  pub parameters_in : Captures → ℕ
  parameters_in NoCapture = 0
  parameters_in (Word word captures) = parameters_in captures
  parameters_in (Named key captures) = max (key_parameters key) (parameters_in captures)
  parameters_in (Spliced syntax captures) = max (parameters_of syntax) (parameters_in captures)

-- the variables that its code names, at each place
abbrev mutual
  pub keys_of : Syntax → List ℕ
  keys_of (Ticked tick captures) = keys_in captures

  pub keys_in : Captures → List ℕ
  keys_in NoCapture = []
  keys_in (Word word captures) = keys_in captures
  keys_in (Named key captures) = key ∷ keys_in captures
  keys_in (Spliced syntax captures) = keys_of syntax ++ keys_in captures

abbrev pub is_among : ℕ → List ℕ → Bool
is_among key [] = false
is_among key (k ∷ keys) = if nat_eq key k then true else is_among key keys

-- how many different local variables there are among keys
abbrev pub count_locals : List ℕ → ℕ
count_locals [] = 0
count_locals (key ∷ keys) =
    if nat_lt key MOST_ARGUMENTS then count_locals keys
    else (if is_among key keys then count_locals keys else suc (count_locals keys))

abbrev pub locals_of : Syntax → ℕ
locals_of syntax = count_locals (keys_of syntax)

-- ---- specifications

-- a closure with so many captures
abbrev pub closure_bytes : ℕ → ℕ
closure_bytes captures = CLOSURE_HEAD_BYTES + CAPTURE_BYTES * captures

abbrev pub closure_trap : (captures : ℕ) → Shared → Option TrapKind
closure_trap captures shared =
    if nat_le (shared.closures + closure_bytes captures) CLOSURE_BYTES then None else Some SpecLimit

-- the size of a new specification
abbrev pub size_trap : (size : ℕ) → Option TrapKind
size_trap size = if nat_le size SIZE_LIMIT then None else Some SizeLimit

-- the index of a new parameter, unsigned
abbrev pub index_trap : (index : ℕ) → Option TrapKind
index_trap index = if nat_le index 7 then None else Some BadParam

-- the number of the next specification
abbrev pub next_number : Shared → ℕ
next_number shared = suc (length shared.specifications)

abbrev pub specified : Specification → (captures : ℕ) → Shared → Shared
specified specification captures shared = record shared {
  specifications = shared.specifications ++ specification ∷ [];
  closures = shared.closures + closure_bytes captures;
}

-- ---- compiled functions

-- a function of this size is charged so many words of the arena
abbrev pub arena_words : ℕ → ℕ
arena_words size = WORDS_OF_A_NODE * size + WORDS_OF_A_BODY

-- a function more, of a number: the table has rows for numbers below 65,536
abbrev pub table_trap : (function : ℕ) → Option TrapKind
table_trap function = if nat_lt function FUNCTION_ROWS then None else Some TableLimit

-- the first word of a body of so many words, where there is one
abbrev pub next_place : (count : ℕ) → Shared → Option ℕ
next_place count shared = place_for count ARENA_WORDS shared.bodies

abbrev pub place_trap : Option ℕ → Option TrapKind
place_trap None = Some ArenaLimit
place_trap (Some place) = None

abbrev pub arena_trap : (size : ℕ) → Shared → Option TrapKind
arena_trap size shared = place_trap (next_place (arena_words size) shared)

-- the number of the next function, behind so many of the text
abbrev pub next_function : (functions : ℕ) → Shared → ℕ
next_function functions shared = suc (functions + length shared.bodies)

-- a body more, where there is a place
abbrev pub placed : Option ℕ → Syntax → (count : ℕ) → List Body → List Body
placed None syntax count bodies = bodies
placed (Some place) syntax count bodies = bodies ++ new_body syntax place count ∷ []

abbrev pub made : (function : ℕ) → Syntax → (size : ℕ) → Shared → Shared
made function syntax size shared =
    let count = arena_words size in
    happens (Made function syntax)
    (record shared { bodies = placed (next_place count shared) syntax count shared.bodies })
