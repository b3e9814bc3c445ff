-- How much a function makes grow: its variables are counted anew.
use Rattle.std.specs.Prelude.{ℕ, ◌+◌, ◌≤◌, length, Ok, Err}
use Rattle.tick_tree.specs.Faults.{Checked}
use Rattle.check_rules.specs.declared.state.State.{State}
use Rattle.check_rules.specs.Walks.{Rule}

-- the variables of the function are at most `v` and `w`, and everything else grew by `w` at most
pub record FreshTables (v w : ℕ) (s new : State) : Type 0 where
  pub captures : length new.ticks.captures ≤ length s.ticks.captures + w
  pub inner : new.frame.inner ≤ s.frame.inner + w
  pub homes : length new.frame.homes ≤ v + w
  pub ticks : length new.ticks.all ≤ length s.ticks.all + w

-- what came of a step that began with this state
abbrev pub FreshAfter : {A : Type 0} → ℕ → ℕ → State → Checked (A × State) → Type 0
FreshAfter v w s (Ok x) = FreshTables v w s x.1
FreshAfter v w s (Err f) = Unit {0}

-- a step that counts the variables anew
pub record Fresh {A : Type 0} (v w : ℕ) (r : Rule State A) : Type 0 where
  pub after : (s : State) → FreshAfter v w s (r s)

-- nothing but the variables of the function grew, by so many at most
pub record Variables (n : ℕ) (s new : State) : Type 0 where
  pub captures : length new.ticks.captures ≤ length s.ticks.captures
  pub inner : new.frame.inner ≤ s.frame.inner
  pub homes : length new.frame.homes ≤ length s.frame.homes + n
  pub ticks : length new.ticks.all ≤ length s.ticks.all

abbrev pub VariablesAfter : {A : Type 0} → ℕ → State → Checked (A × State) → Type 0
VariablesAfter n s (Ok x) = Variables n s x.1
VariablesAfter n s (Err f) = Unit {0}
