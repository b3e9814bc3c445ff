-- What is known on the way of the walk: each visible name means something that stands, and each tick so far has its
-- captures.
use Rattle.std.specs.Prelude.{◌≡◌, ℕ, ◌-◌, ◌%◌, ◌==◌, ◌≤◌, Bool, true, false, ◌&&◌, nat_le, if◌then◌else◌, List, []}
use Rattle.std.specs.Prelude.{◌∷◌, ◌++◌, length, map, slice_get, Option, Some, None}
use Rattle.std.specs.List.{list_any}
use Rattle.c_types.specs.declared.ctype.CType.{CType}
use Rattle.check_scopes.specs.declared.names.Meaning.{Meaning}
use Rattle.check_scopes.specs.declared.names.MeaningKind.{MeaningKind}
use Rattle.check_scopes.specs.declared.names.MeaningKind.TheVariants as kind
use Rattle.check_scopes.specs.Scopes.{Name, Scope, Scopes}
use Rattle.check_types.specs.Shapes.{is_void, is_vspec, inner}
use Rattle.typed_tree.specs.declared.expression.CaptureKind.{CaptureKind}
use Rattle.typed_tree.specs.declared.expression.Stmt.{Stmt}
use Rattle.check_rules.specs.declared.frame.Home.{Home}
use Rattle.check_rules.specs.declared.frame.Home.TheVariants as home
use Rattle.check_rules.specs.Frames.{count}
use Rattle.check_rules.specs.Bounds.{count_bound}
use Rattle.check_rules.specs.declared.state.Stage.{Stage}
use Rattle.check_rules.specs.declared.state.Stage.TheVariants as stage
use Rattle.check_rules.specs.declared.state.State.{State}
use Rattle.wellformed.specs.Places.{act, numbers_of}
use Rattle.wf_nodes.specs.Right.{HasType}
use Rattle.wf_nodes.specs.Used.{IsLibrary}
use Rattle.limits.specs.declared.program.TheConstants.{FRAME_OBJECT_BYTES}

-- the numbers of the register variables of the blocks round the innermost one: those of the function, and those of the
-- tick; and whether the innermost block is the tick's
pub record Blocks : Type 0 where
  pub function : List ℕ
  pub tick : List ℕ
  pub in_tick : Bool

-- the numbers of the register variables that these nodes declare
abbrev pub numbers : List Stmt → List ℕ
numbers vs = numbers_of (map act vs)

abbrev pub has : ℕ → List ℕ → Bool
has i ns = list_any (λ n. i == n) ns

-- the register variables of the function that are visible
abbrev pub of_function : Stage → Blocks → State → List ℕ
of_function stage.Function b s = b.function ++ numbers s.frame.nodes
of_function stage.Tick b s = b.function
of_function stage.Dollar b s = b.function

-- those of the tick
abbrev pub of_tick : Stage → Blocks → State → List ℕ
of_tick stage.Function b s = []
of_tick stage.Tick b s = if b.in_tick then b.tick ++ numbers s.frame.nodes else []
of_tick stage.Dollar b s = if b.in_tick then b.tick ++ numbers s.frame.nodes else []

-- ---- what a name means

-- a variable of the function stands there
abbrev pub HasHome : List ℕ → ℕ → ℕ → Home → Type 0
HasHome visible object n home.Register = has n visible ≡ true
HasHome visible object n (home.Object at) = nat_le at object && (at % 4 == 0) ≡ true

-- a variable: one of the function, or the tick's own, whose numbers follow the function's
abbrev pub IsVariable : Stage → Blocks → State → ℕ → Option Home → Type 0
IsVariable g b s n None = has (n - count s.frame.homes) (of_tick g b s) ≡ true
IsVariable g b s n (Some h) = HasHome (of_function g b s) s.frame.object n h

-- a parameter of the function. A parameter of a list has no home, and nothing is known where one is visible
abbrev pub IsParameter : Stage → Blocks → State → ℕ → Option Home → Type 0
IsParameter g b s n None = true ≡ false
IsParameter g b s n (Some h) = HasHome (of_function g b s) s.frame.object n h

-- a type that a variable may have: it has values, and where it is that of a variable of generated code, so does that
pub record IsObject (t : CType) : Type 0 where
  pub type : is_void t ≡ false
  pub specified : is_vspec t ≡ true → is_void (inner t) ≡ false

-- what a name means in a program whose functions have so many parameters
abbrev pub Means : List ℕ → Stage → Blocks → State → Name → Meaning → MeaningKind → Type 0
Means many g b s name m kind.Variable = IsVariable g b s m.index (slice_get s.frame.homes m.index) × IsObject m.ctype
Means many g b s name m kind.Parameter = IsParameter g b s m.index (slice_get s.frame.homes m.index) × IsObject m.ctype
Means many g b s name m kind.Global = IsObject m.ctype
Means many g b s name m kind.Function = HasType many m.index m.ctype × (is_void m.ctype ≡ false)
Means many g b s name m kind.Library = IsLibrary m.index m.ctype

-- ---- each of them

abbrev pub EachEntry : (Name → Meaning → Type 0) → Scope → Type 0
EachEntry P [] = Unit {0}
EachEntry P (e ∷ es) = P e.0 e.1 × EachEntry P es

abbrev pub EachScope : (Name → Meaning → Type 0) → Scopes → Type 0
EachScope P [] = Unit {0}
EachScope P (s ∷ ss) = EachEntry P s × EachScope P ss

-- ---- what is small enough to be counted in a word

pub record SmallInner (s : State) : Type 0 where
  pub inner : s.frame.inner ≤ count_bound
  pub captures : length s.ticks.captures ≤ count_bound

-- in a tick; elsewhere nothing asks how many captures there are
abbrev pub SmallTick : Stage → State → Type 0
SmallTick stage.Function s = Unit {0}
SmallTick stage.Tick s = SmallInner s
SmallTick stage.Dollar s = SmallInner s

pub record Small (g : Stage) (s : State) : Type 0 where
  pub homes : length s.frame.homes ≤ count_bound
  pub object : s.frame.object ≤ FRAME_OBJECT_BYTES
  pub ticks : length s.ticks.all ≤ count_bound
  pub tick : SmallTick g s

-- what is known in a state: `ks` are what the ticks so far capture
pub record Knows (many : List ℕ) (g : Stage) (b : Blocks) (ks : List (List CaptureKind)) (s : State) : Type 0 where
  pub names : EachScope (λ name m. Means many g b s name m m.kind) s.scopes
  pub ticks : length ks ≡ length s.ticks.all
  -- frame objects stand at multiples of 4
  pub object : (s.frame.object % 4 == 0) ≡ true

-- what is known, where no count is cut
abbrev pub Known : List ℕ → Stage → Blocks → List (List CaptureKind) → State → Type 0
Known many g b ks s = Small g s → Knows many g b ks s
