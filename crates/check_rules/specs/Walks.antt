-- A step of the walk over a tree takes what the walk knows to an answer and to what the walk knows then, or to the
-- first fault. Steps follow one another in the order of the text, which is this project's own order of faults.
use Rattle.std.specs.Prelude.{◌≡◌, Result, Ok, Err}
use Rattle.tick_tree.specs.Faults.{Checked, ◌>>=◌ as ◌>>>=◌}
use Rattle.tick_tree.specs.declared.fault.Deny.{Deny}
use Rattle.tick_tree.specs.declared.fault.Deny.TheVariants.{Refused, NoMemory}

abbrev pub Rule : Type 0 → Type 0 → Type 0
Rule S A = S → Checked (A × S)

infixl 10 ◌>>=◌
-- a step, and then the next one with its answer
abbrev pub ◌>>=◌ : {S A B : Type 0} → Rule S A → (A → Rule S B) → Rule S B
p >>= f = λ s. p s >>>= (λ r. f r.0 r.1)

-- the step that changes nothing
abbrev pub pure : {S A : Type 0} → A → Rule S A
pure x = λ s. Ok (x, s)

-- a step that only its own rule decides
abbrev pub lift : {S A : Type 0} → Checked A → Rule S A
lift r = λ s. r >>>= (λ x. Ok (x, s))

-- a call did what the step is defined to do, unless memory was not found
abbrev pub Reads : {S A : Type 0} → Checked (A × S) → Result A Deny → S → Type 0
Reads outcome (Ok a) new = outcome ≡ Ok (a, new)
Reads outcome (Err (Refused f)) new = outcome ≡ Err f
Reads outcome (Err NoMemory) new = Unit {0}
