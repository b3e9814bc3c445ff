-- How much a step of the walk can make grow: what the innermost tick captures, the variables of that tick, the
-- variables of the function, and the ticks of the program. These are counts that the walk keeps up to what a word
-- counts; that a program is far smaller than that follows from the size of its tree.
use Rattle.std.specs.Prelude.{◌≡◌, ℕ, ◌+◌, ◌≤◌, List, [], ◌∷◌, length, Option, Some, None, Ok, Err}
use Rattle.c_types.specs.declared.ctype.CType.{CType}
use Rattle.check_declarators.specs.declared.steps.Step.{Step}
use Rattle.tick_tree.specs.Faults.{Checked}
use Rattle.check_rules.specs.declared.state.Around.{Around}
use Rattle.check_rules.specs.declared.state.Stage.{Stage}
use Rattle.check_rules.specs.declared.state.State.{State}
use Rattle.check_rules.specs.Walks.{Rule}
use Rattle.check_rules.specs.ExpressionRules.{Node, Named, Shape, Item}

-- from the one state to the other each grows by so many at most
pub record Light (w : ℕ) (s new : State) : Type 0 where
  pub captures : length new.ticks.captures ≤ length s.ticks.captures + w
  pub inner : new.frame.inner ≤ s.frame.inner + w
  pub homes : length new.frame.homes ≤ length s.frame.homes + w
  pub ticks : length new.ticks.all ≤ length s.ticks.all + w

-- what came of a step that began with this state
abbrev pub After : {A : Type 0} → ℕ → State → Checked (A × State) → Type 0
After w s (Ok x) = Light w s x.1
After w s (Err f) = Unit {0}

-- a step that makes each grow by so many at most
pub record Bounded {A : Type 0} (w : ℕ) (r : Rule State A) : Type 0 where
  pub light : (s new : State) (x : A) → r s ≡ Ok (x, new) → Light w s new

-- ---- the parts of a tree, each with a number that bounds its walk

pub record LightNode (w : ℕ) (n : Node) : Type 0 where
  pub at : (g : Stage) → Bounded w (n.walk g)

pub record LightNamed (w : ℕ) (t : Named) : Type 0 where
  pub at : (line : ℕ) (g : Stage) → Bounded w (t.walk line g)

pub record LightShape (w : ℕ) (d : Shape) : Type 0 where
  pub at : (g : Stage) → Bounded w (d.walk g)

pub record LightItem (w : ℕ) (i : Item) : Type 0 where
  pub at : (a : Around) → Bounded w (i.walk a)

pub record LightSuffix (w : ℕ) (r : Stage → Rule State Step) : Type 0 where
  pub at : (g : Stage) → Bounded w (r g)

pub record LightType (w : ℕ) (r : Stage → Rule State CType) : Type 0 where
  pub at : (g : Stage) → Bounded w (r g)

-- a part that may be left out
pub data LightOptional : ℕ → Option Node → Type 0 where
  absent : {w : ℕ} → LightOptional w None
  present : {w : ℕ} {n : Node} → LightNode w n → LightOptional w (Some n)

-- a list of parts, with the sum of their numbers
pub data Each {A : Type 0} (P : ℕ → A → Type 0) : ℕ → List A → Type 0 where
  none : Each P 0 []
  more : {v w : ℕ} {x : A} {xs : List A} → P v x → Each P w xs → Each P (v + w) (x ∷ xs)
