-- What a name is where it stands. In a tick, outside `$`, a name of the function round it is captured: a specification
-- by its number, and every other variable by the address that it needs then. Under `$` a variable of the tick isn't
-- visible. These are `C's rules; a declaration in an inner scope hides one outside, as in C.
use Rattle.std.specs.Prelude.{◌≡◌, ℕ, ◌-◌, false, if◌then◌else◌, slice_get, Option, Some, None, Result, Ok, Err}
use Rattle.c_types.specs.declared.ctype.CType.{CType}
use Rattle.check_scopes.specs.declared.names.Meaning.{Meaning}
use Rattle.check_scopes.specs.declared.names.MeaningKind.{MeaningKind}
use Rattle.check_scopes.specs.declared.names.MeaningKind.TheVariants as kind
use Rattle.check_scopes.specs.Scopes.{Name, Scopes, find, in_scope, innermost, declared}
use Rattle.check_types.specs.Shapes.{is_cspec, is_vspec, is_void, inner}
use Rattle.tick_tree.specs.declared.fault.FaultKind.TheVariants as fault
use Rattle.tick_tree.specs.Faults.{Checked, refuse}
use Rattle.typed_tree.specs.declared.expression.Answer.{Answer}
use Rattle.typed_tree.specs.declared.expression.Answer.TheVariants as answer
use Rattle.typed_tree.specs.declared.expression.CaptureKind.{CaptureKind}
use Rattle.typed_tree.specs.declared.expression.CaptureKind.TheVariants as capture
use Rattle.typed_tree.specs.declared.expression.CapturedWord.TheVariants as captured_word
use Rattle.typed_tree.specs.declared.expression.Expr.{Expr}
use Rattle.typed_tree.specs.declared.expression.Expr.TheVariants as ex
use Rattle.check_operands.specs.declared.operand.Place.{Place}
use Rattle.check_operands.specs.declared.operand.Place.TheVariants as place
use Rattle.check_operands.specs.declared.operand.Operand.{Operand}
use Rattle.check_operands.specs.Operands.{effect, made}
use Rattle.check_rules.specs.declared.frame.Home.{Home}
use Rattle.check_rules.specs.declared.frame.Home.TheVariants as home
use Rattle.check_rules.specs.declared.state.Stage.{Stage}
use Rattle.check_rules.specs.declared.state.Stage.TheVariants as stage
use Rattle.check_rules.specs.declared.state.State.{State}
use Rattle.check_rules.specs.Frames.{count, marked}
use Rattle.check_rules.specs.Ticks as ticks
use Rattle.check_rules.specs.Walks.{Rule}

-- ---- declarations

abbrev pub declared_by : ℕ → Name → Meaning → State → Option Meaning → Checked (Unit {0} × State)
declared_by line name what s None = Ok (tt, record s { scopes = declared s.scopes name what })
declared_by line name what s (Some other) = refuse fault.Duplicate line

-- a name gets a meaning in the innermost scope, which doesn't have it yet
unfoldable pub declare : ℕ → Name → Meaning → Rule State (Unit {0})
declare line name what s = declared_by line name what s (in_scope (innermost s.scopes) name)

-- a call that only want of memory hinders gave this answer and left this state
abbrev pub Gives : {A E : Type 0} → Result A E → State → A × State → Type 0
Gives (Ok x) new outcome = outcome ≡ (x, new)
Gives (Err e) new outcome = Unit {0}

-- ---- places

-- what is no literal 0
abbrev pub operand : Place → CType → Operand
operand p t = record { place = p; ctype = t; zero = false }

-- where a variable of the function stands
abbrev pub place_by : ℕ → Home → Place
place_by n home.Register = place.Register n
place_by n (home.Object at) = place.Memory (ex.Frame at)

-- the address of a variable of the function, which an earlier walk made a frame object
abbrev pub address_by : Home → Expr
address_by home.Register = ex.Frame 0
address_by (home.Object at) = ex.Frame at

-- ---- captures

-- a capture of what this node gives
abbrev pub captured : CaptureKind → Expr → State → State
captured k e s = record s { ticks = ticks.captured k e s.ticks }

abbrev pub answer_of : CType → Answer
answer_of t = if is_void t then answer.Void else answer.Value

-- a specification that is spliced in
abbrev pub splice : CType → Expr → State → Operand × State
splice t e s = (
  made (ex.Splice (answer_of (inner t)) (ticks.place s.ticks)) (inner t),
  captured (capture.Splice (answer_of (inner t))) e s,
)

-- a variable of generated code
abbrev pub generated : CType → Expr → State → Operand × State
generated t e s = (operand (place.Generated (ticks.place s.ticks)) (inner t), captured capture.Variable e s)

-- a frame object of the function round the tick
abbrev pub outer_object : ℕ → Home → CType → State → Operand × State
outer_object n h t s = (
  operand (place.Memory (ex.Captured captured_word.Address (ticks.place s.ticks))) t,
  captured capture.Address (address_by h) (record s { frame = marked n s.frame }),
)

-- a variable of the function round the tick
abbrev pub outer_variable : ℕ → Home → CType → State → Operand × State
outer_variable n h t s =
    if is_cspec t then splice t (effect (operand (place_by n h) t)) s
    else (if is_vspec t then generated t (effect (operand (place_by n h) t)) s else outer_object n h t s)

-- a variable at file scope, in a tick
abbrev pub outer_global : ℕ → CType → State → Operand × State
outer_global address t s =
    if is_cspec t then splice t (effect (operand (place.Memory (ex.Const address)) t)) s
    else (if is_vspec t then generated t (effect (operand (place.Memory (ex.Const address)) t)) s
    else (operand (place.Memory (ex.Const address)) t, s))

-- ---- names

-- a variable in a tick: the tick's own, whose numbers follow the function's, or one of the function
abbrev pub in_tick : ℕ → CType → Option Home → Rule State Operand
in_tick n t None s = Ok (operand (place.Register (n - count s.frame.homes)) t, s)
in_tick n t (Some h) s = Ok (outer_variable n h t s)

-- a variable under `$`, where those of the tick aren't visible
abbrev pub under_dollar : ℕ → ℕ → CType → Option Home → Rule State Operand
under_dollar line n t None s = refuse fault.Undeclared line
under_dollar line n t (Some h) s = Ok (operand (place_by n h) t, s)

-- a parameter of a list stands nowhere: a length that names it isn't constant
abbrev pub home_by : Option Home → Home
home_by None = home.Register
home_by (Some h) = h

-- a variable where its function runs
abbrev pub in_function : ℕ → CType → Option Home → Rule State Operand
in_function n t h s = Ok (operand (place_by n (home_by h)) t, s)

abbrev pub variable : ℕ → Stage → ℕ → CType → Rule State Operand
variable line stage.Function n t s = in_function n t (slice_get s.frame.homes n) s
variable line stage.Tick n t s = in_tick n t (slice_get s.frame.homes n) s
variable line stage.Dollar n t s = under_dollar line n t (slice_get s.frame.homes n) s

-- a parameter of the function, or of a list outside of the tick
abbrev pub parameter : Stage → ℕ → CType → Rule State Operand
parameter stage.Function n t s = in_function n t (slice_get s.frame.homes n) s
parameter stage.Tick n t s = Ok (outer_variable n (home_by (slice_get s.frame.homes n)) t s)
parameter stage.Dollar n t s = in_function n t (slice_get s.frame.homes n) s

abbrev pub global : Stage → ℕ → CType → State → Operand × State
global stage.Function address t s = (operand (place.Memory (ex.Const address)) t, s)
global stage.Tick address t s = outer_global address t s
global stage.Dollar address t s = (operand (place.Memory (ex.Const address)) t, s)

abbrev pub meant : ℕ → Stage → MeaningKind → ℕ → CType → Rule State Operand
meant line g kind.Variable n t s = variable line g n t s
meant line g kind.Parameter n t s = parameter g n t s
meant line g kind.Global n t s = Ok (global g n t s)
meant line g kind.Function n t s = Ok (operand (place.Function n) t, s)
meant line g kind.Library n t s = refuse fault.BadOperand line

abbrev pub named_by : ℕ → Stage → Option Meaning → Rule State Operand
named_by line g None s = refuse fault.Undeclared line
named_by line g (Some m) s = meant line g m.kind m.index m.ctype s

-- what a name is; a library function stands only where it is called
unfoldable pub named : ℕ → Stage → Name → Rule State Operand
named line g name s = named_by line g (find s.scopes name) s

-- ---- calls of the library

abbrev pub library_at : MeaningKind → ℕ → CType → Option (ℕ × CType)
library_at kind.Library n t = Some (n, t)
library_at _ n t = None

abbrev pub library_by : Option Meaning → Option (ℕ × CType)
library_by None = None
library_by (Some m) = library_at m.kind m.index m.ctype

-- the library function that a name is, by its number, with its type
unfoldable pub library : Scopes → Name → Option (ℕ × CType)
library scopes name = library_by (find scopes name)

-- ---- addresses

-- `&` of a variable of the function marks it; an earlier walk made it a frame object then
abbrev pub addressed : ℕ → State → State
addressed n s = record s { frame = marked n s.frame }
