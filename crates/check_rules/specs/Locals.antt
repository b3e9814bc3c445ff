-- The declarations of variables and parameters: the name, then the thing itself.
use Rattle.std.specs.Prelude.{ℕ, if◌then◌else◌, Ok}
use Rattle.c_types.specs.declared.ctype.CType.{CType}
use Rattle.check_scopes.specs.declared.names.Meaning.{Meaning}
use Rattle.check_scopes.specs.declared.names.MeaningKind.{MeaningKind}
use Rattle.check_scopes.specs.declared.names.MeaningKind.TheVariants as kind
use Rattle.check_scopes.specs.Scopes.{Name}
use Rattle.check_operands.specs.declared.operand.Operand.{Operand}
use Rattle.check_operands.specs.declared.operand.Place.TheVariants as place
use Rattle.check_rules.specs.declared.frame.Frame.{Frame}
use Rattle.check_rules.specs.declared.frame.Home.{Home}
use Rattle.check_rules.specs.declared.frame.Home.TheVariants as home
use Rattle.check_rules.specs.declared.state.Stage.{Stage}
use Rattle.check_rules.specs.declared.state.Stage.TheVariants as stage
use Rattle.check_rules.specs.declared.state.State.{State}
use Rattle.check_rules.specs.Frames as frames
use Rattle.check_rules.specs.Names.{declare, operand, place_by}
use Rattle.check_rules.specs.Walks.{Rule, ◌>>=◌}

abbrev pub meaning : MeaningKind → CType → ℕ → Meaning
meaning k t n = record { kind = k; ctype = t; index = n }

-- where the next variable of the function stands
abbrev pub next_home : CType → Frame → Home
next_home t f = if frames.is_object t f then home.Object f.object else home.Register

abbrev pub made_outer : CType → State → Operand × State
made_outer t s = (
  operand (place_by (frames.number s.frame) (next_home t s.frame)) t,
  record s { frame = frames.variable t s.frame },
)

abbrev pub made_inner : CType → State → Operand × State
made_inner t s = (operand (place.Register s.frame.inner) t, record s { frame = frames.inner_variable s.frame })

-- a variable of a block of the function
unfoldable pub outer_local : ℕ → Name → CType → Rule State Operand
outer_local line name t s =
    (declare line name (meaning kind.Variable t (frames.number s.frame)) >>= (λ u z. Ok (made_outer t z))) s

-- a variable of a block of the tick
unfoldable pub inner_local : ℕ → Name → CType → Rule State Operand
inner_local line name t s =
    (declare line name (meaning kind.Variable t (frames.inner_number s.frame)) >>= (λ u z. Ok (made_inner t z))) s

-- a variable of a block
abbrev pub local : Stage → ℕ → Name → CType → Rule State Operand
local stage.Function line name t s = outer_local line name t s
local stage.Tick line name t s = inner_local line name t s
local stage.Dollar line name t s = outer_local line name t s

abbrev pub with_parameter : CType → State → State
with_parameter t s = record s { frame = frames.parameter t s.frame }

-- a parameter of the function, which has a name
unfoldable pub parameter : ℕ → Name → CType → Rule State (Unit {0})
parameter line name t s =
    (declare line name (meaning kind.Parameter t (frames.number s.frame)) >>= (λ u z. Ok (tt, with_parameter t z))) s

-- ---- parameters of a list

-- A parameter of a list is visible in the lengths behind it, and is never a variable. In a tick it counts as one of the
-- tick's own, and elsewhere as a parameter of the function; its number is that of the next variable, which doesn't
-- stand yet.
abbrev pub list_meaning : Stage → CType → Frame → Meaning
list_meaning stage.Function t f = meaning kind.Parameter t (frames.number f)
list_meaning stage.Tick t f = meaning kind.Variable t (frames.inner_number f)
list_meaning stage.Dollar t f = meaning kind.Parameter t (frames.number f)

-- a parameter of a list, which has a name
unfoldable pub list_parameter : Stage → ℕ → Name → CType → Rule State (Unit {0})
list_parameter g line name t s = declare line name (list_meaning g t s.frame) s
