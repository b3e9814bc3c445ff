-- What is asked of the walk over a statement or a declaration, and of that over a block.
use Rattle.std.specs.Prelude.{◌≡◌, ℕ, ◌+◌, ◌≤◌, ◌%◌, ◌==◌, Bool, true, false, ◌||◌, nat_le, List, [], ◌∷◌, ◌++◌, length}
use Rattle.std.specs.Prelude.{map, Ok}
use Rattle.typed_tree.specs.declared.expression.CaptureKind.{CaptureKind}
use Rattle.typed_tree.specs.declared.expression.Stmt.{Stmt}
use Rattle.check_rules.specs.declared.state.Around.{Around as Standing}
use Rattle.check_rules.specs.declared.state.Stage.{Stage}
use Rattle.check_rules.specs.declared.state.Stage.TheVariants as stage
use Rattle.check_rules.specs.declared.state.State.{State}
use Rattle.check_rules.specs.Walks.{Rule}
use Rattle.check_rules.specs.Bounds.{count_bound}
use Rattle.check_rules.specs.ExpressionRules.{Item}
use Rattle.wellformed.specs.Counts.{one_if}
use Rattle.wellformed.specs.Places.{Around, Act, act, in_function, is_label, values_of, defaults_of, all_different}
use Rattle.wellformed.specs.Values.{uses_values}
use Rattle.wf_walk.specs.Counts.{Counts}
use Rattle.wf_walk.specs.Kept.{Starts, IsGrowing}
use Rattle.wf_walk.specs.Known.{Blocks, numbers, of_tick, Small, Known}
use Rattle.wf_walk.specs.Steps.{Round, at, Did, Does}

-- statements stand where a function runs, and in ticks
abbrev pub MayStand : Stage → Type 0
MayStand stage.Function = Unit {0}
MayStand stage.Tick = Unit {0}
MayStand stage.Dollar = true ≡ false

-- in a block: of the function, or of the tick
abbrev pub InBlock : Stage → Blocks → Type 0
InBlock stage.Function b = Unit {0}
InBlock stage.Tick b = b.in_tick ≡ true
InBlock stage.Dollar b = true ≡ false

-- the blocks round the innermost one, in a block that is entered in this state
abbrev pub entered : Stage → Blocks → State → Blocks
entered stage.Function b s =
    record { function = b.function ++ numbers s.frame.nodes; tick = b.tick; in_tick = b.in_tick }
entered stage.Tick b s = record { function = b.function; tick = of_tick stage.Tick b s; in_tick = true }
entered stage.Dollar b s = record { function = b.function; tick = of_tick stage.Dollar b s; in_tick = true }

-- with the loops and switches that stand round it
abbrev pub placed : Standing → Around → Around
placed a r = record r { in_loop = a.in_loop; in_switch = a.in_switch }

abbrev pub placed_round : Standing → Round → Round
placed_round a r = record { function = placed a r.function; tick = placed a r.tick }

-- each node of a list
abbrev pub EachNode : (Stmt → Type 0) → List Stmt → Type 0
EachNode P [] = Unit {0}
EachNode P (x ∷ xs) = P x × EachNode P xs

-- ---- what stands

-- directly in the block of a switch a label may stand
abbrev pub StandsAs : Bool → Around → Act → Type 0
StandsAs true r x = (is_label x || x.stands r) ≡ true
StandsAs false r x = x.stands r ≡ true

-- a node that a statement answers
abbrev pub ItemStands : Standing → Around → Stmt → Type 0
ItemStands a r x = StandsAs a.is_direct r (act x) × (uses_values x ≡ true)

abbrev pub ItemsStand : Standing → Around → List Stmt → Type 0
ItemsStand a r xs = EachNode (ItemStands a r) xs

-- the same of a whole step
abbrev pub DoesStand : List ℕ → Standing → Rule State (List Stmt) → Type 0
DoesStand many a step =
    (b : Blocks) (ks : List (List CaptureKind)) (s new : State) (xs : List Stmt) → InBlock a.stage b →
    Known many a.stage b ks s → step s ≡ Ok (xs, new)
    → Did many a.stage b ks s new (λ r. ItemsStand a (at a.stage (placed_round a r)) xs)

-- ---- labels

-- the labels that these nodes are, behind those so far; directly in the block of a switch, or not
pub record Labelled (direct : Bool) (s new : State) (xs : List Stmt) : Type 0 where
  pub values : new.labels.values ≡ s.labels.values ++ values_of (map act xs)
  pub defaults : one_if new.labels.has_default ≡ one_if s.labels.has_default + defaults_of (map act xs)
  pub different : all_different s.labels.values ≡ true → all_different new.labels.values ≡ true
  -- elsewhere there are none
  pub kept : direct ≡ false → new.labels ≡ s.labels

-- ---- variables

-- the node of a variable stands right among those of its block, in a frame of so many bytes
abbrev pub Declares : ℕ → Stmt → Type 0
Declares object x = (r : Around) → in_function r ≡ true → nat_le object r.object ≡ true → (act x).declares r ≡ true

-- in a tick it stands anywhere
abbrev pub DeclaresIn : Stage → ℕ → Stmt → Type 0
DeclaresIn stage.Function object x = Declares object x
DeclaresIn stage.Tick object x = (r : Around) → (act x).declares r ≡ true
DeclaresIn stage.Dollar object x = (r : Around) → (act x).declares r ≡ true

abbrev pub DeclaresAt : Stage → ℕ → Stmt → Type 0
DeclaresAt g object x = DeclaresIn g object x × (uses_values x ≡ true)

-- the nodes of the variables that were declared
pub record Declared (g : Stage) (s new : State) : Type 0 where
  pub aligned : (new.frame.object % 4 == 0) ≡ true
  pub nodes : (more : Starts s.frame.nodes new.frame.nodes) → EachNode (DeclaresAt g new.frame.object) more.rest

-- ---- items

-- a step that is given such a state counts, labels and declares so
abbrev pub IsCounting : Stage → Rule State (List Stmt) → Type 0
IsCounting g step = (s new : State) (xs : List Stmt) → step s ≡ Ok (xs, new) → Small g new → Counts g s new xs

abbrev pub IsLabelling : Bool → Rule State (List Stmt) → Type 0
IsLabelling direct step = (s new : State) (xs : List Stmt) → step s ≡ Ok (xs, new) → Labelled direct s new xs

abbrev pub IsDeclaring : Stage → Rule State (List Stmt) → Type 0
IsDeclaring g step = (s new : State) (xs : List Stmt) → step s ≡ Ok (xs, new) → Small g new →
    (s.frame.object % 4 == 0) ≡ true → Declared g s new

-- the walk over a statement, with this round it
pub record GoodStatement (many : List ℕ) (a : Standing) (step : Rule State (List Stmt)) : Type 0 where
  pub grows : IsGrowing a.stage step
  pub counts : IsCounting a.stage step
  pub labels : IsLabelling a.is_direct step
  pub declares : IsDeclaring a.stage step
  pub does : DoesStand many a step

-- it captures and declares few things, whatever stands round it
abbrev pub Few : State → State → Type 0
Few s new = (length new.ticks.captures ≤ length s.ticks.captures + count_bound) ×
    (new.frame.inner ≤ s.frame.inner + count_bound)

abbrev pub IsFew : Rule State (List Stmt) → Type 0
IsFew step = (s new : State) (xs : List Stmt) → step s ≡ Ok (xs, new) → Few s new

pub record GoodItem (many : List ℕ) (i : Item) : Type 0 where
  pub walk : (a : Standing) → MayStand a.stage → GoodStatement many a (i.walk a)

-- ---- blocks

-- the walk over a block, which leaves the names and the variables of the block round it
pub record KeepsBlock (s new : State) : Type 0 where
  pub scopes : new.scopes ≡ s.scopes
  pub nodes : new.frame.nodes ≡ s.frame.nodes
  pub labels : new.labels ≡ s.labels

pub record GoodBlock (many : List ℕ) (a : Standing) (step : Rule State Stmt) : Type 0 where
  pub grows : IsGrowing a.stage step
  pub keeps : (s new : State) (x : Stmt) → step s ≡ Ok (x, new) → KeepsBlock s new
  pub counts : (s new : State) (x : Stmt) → step s ≡ Ok (x, new) → Small a.stage new → Counts a.stage s new (x ∷ [])
  pub aligned : (s new : State) (x : Stmt) → step s ≡ Ok (x, new) → Small a.stage new →
      (s.frame.object % 4 == 0) ≡ true → (new.frame.object % 4 == 0) ≡ true
  pub few : (s new : State) (x : Stmt) → step s ≡ Ok (x, new) → Few s new
  pub does : Does many a.stage (λ r x. ((act x).stands (at a.stage (placed_round a r)) ≡ true) × (uses_values x ≡ true))
      step
