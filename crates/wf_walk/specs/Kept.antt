-- What a step of the walk leaves as it was, and what grows, whatever stands round it. An expression or a type leaves
-- the names, the variables and the functions; it may capture, make ticks, take strings and mark variables. A statement
-- may declare.
use Rattle.std.specs.Prelude.{◌≡◌, ℕ, ◌-◌, ◌≤◌, List, [], ◌∷◌, ◌++◌, length, take, Ok}
use Rattle.check_scopes.specs.Scopes.{Scopes}
use Rattle.typed_tree.specs.declared.expression.Stmt.{Stmt}
use Rattle.check_operands.specs.declared.operand.Operand.{Operand}
use Rattle.check_rules.specs.declared.state.Stage.{Stage}
use Rattle.check_rules.specs.declared.state.Stage.TheVariants as stage
use Rattle.check_rules.specs.declared.state.State.{State}
use Rattle.check_rules.specs.Walks.{Rule}
use Rattle.check_rules.specs.Bounds.{count_bound}
use Rattle.limits.specs.declared.program.TheConstants.{FRAME_OBJECT_BYTES}

-- a list is the front part of another
pub record Starts {A : Type 0} (xs ys : List A) : Type 0 where
  pub rest : List A
  pub is : ys ≡ xs ++ rest

-- ---- an expression, or a type

-- of the image only strings are added
pub record KeepsGlobals (s new : State) : Type 0 where
  pub end : new.image.end ≡ s.image.end
  pub globals : new.image.globals ≡ s.image.globals
  pub at : new.image.strings_at ≡ s.image.strings_at

-- the tables that no expression and no type changes
pub record KeepsTables (s new : State) : Type 0 where
  pub scopes : new.scopes ≡ s.scopes
  pub result : new.frame.result ≡ s.frame.result
  pub homes : new.frame.homes ≡ s.frame.homes
  pub nodes : new.frame.nodes ≡ s.frame.nodes
  pub object : new.frame.object ≡ s.frame.object
  pub labels : new.labels ≡ s.labels
  pub functions : new.functions ≡ s.functions
  pub image : KeepsGlobals s new

-- in a tick nothing but its captures grows; where the function runs, ticks are made
pub record KeepsTick (s new : State) : Type 0 where
  pub inner : new.frame.inner ≡ s.frame.inner
  pub ticks : new.ticks.all ≡ s.ticks.all

abbrev pub KeepsStage : Stage → State → State → Type 0
KeepsStage stage.Function s new = Starts s.ticks.all new.ticks.all
KeepsStage stage.Tick s new = KeepsTick s new × Starts s.ticks.captures new.ticks.captures
KeepsStage stage.Dollar s new = KeepsTick s new × (new.ticks.captures ≡ s.ticks.captures)

pub record Keeps (g : Stage) (s new : State) : Type 0 where
  pub tables : KeepsTables s new
  pub at : KeepsStage g s new

-- a step that keeps this, whatever it answers
abbrev pub IsKeeping : {A : Type 0} → Stage → Rule State A → Type 0
IsKeeping {A} g r = (s new : State) (x : A) → r s ≡ Ok (x, new) → Keeps g s new

-- ---- a statement, or a declaration

-- the scopes round the innermost one
abbrev pub outer : Scopes → Scopes
outer ss = take (length ss - 1) ss

-- what a statement or a declaration leaves: as many scopes are open, those round the innermost one are as they were,
-- and the variables so far stay
pub record GrowsTables (s new : State) : Type 0 where
  pub depth : length new.scopes ≡ length s.scopes
  pub scopes : outer new.scopes ≡ outer s.scopes
  pub result : new.frame.result ≡ s.frame.result
  pub nodes : Starts s.frame.nodes new.frame.nodes
  pub functions : new.functions ≡ s.functions
  pub image : KeepsGlobals s new

-- where the function runs, its variables grow; in a tick, the tick's. A count that is cut says nothing
pub record GrowsFunction (s new : State) : Type 0 where
  pub homes : Starts s.frame.homes new.frame.homes
  pub object : new.frame.object ≤ FRAME_OBJECT_BYTES → s.frame.object ≤ new.frame.object
  pub ticks : Starts s.ticks.all new.ticks.all

pub record GrowsTick (s new : State) : Type 0 where
  pub homes : new.frame.homes ≡ s.frame.homes
  pub object : new.frame.object ≡ s.frame.object
  pub inner : new.frame.inner ≤ count_bound → s.frame.inner ≤ new.frame.inner
  pub ticks : new.ticks.all ≡ s.ticks.all
  pub captures : Starts s.ticks.captures new.ticks.captures

abbrev pub GrowsStage : Stage → State → State → Type 0
GrowsStage stage.Function s new = GrowsFunction s new
GrowsStage stage.Tick s new = GrowsTick s new
GrowsStage stage.Dollar s new = GrowsTick s new

pub record Grows (g : Stage) (s new : State) : Type 0 where
  pub tables : GrowsTables s new
  pub at : GrowsStage g s new

abbrev pub IsGrowing : {A : Type 0} → Stage → Rule State A → Type 0
IsGrowing {A} g r = (s new : State) (x : A) → r s ≡ Ok (x, new) → Grows g s new
