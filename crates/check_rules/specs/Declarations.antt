-- Declarations in a block: what is checked as one is entered (in a tick no cspec or vspec is written in it); the type,
-- in a tick with its own rule (no array); then the name; and the lengths of arrays. Of several rules that a type
-- breaks, the lowest number counts. The rules are C's with this project's specifications; their order is its own.
use Rattle.std.specs.Prelude.{ℕ, ◌+◌, min, Bool, true, false, nat_lt, if◌then◌else◌, List, [], ◌∷◌, length, Option}
use Rattle.std.specs.Prelude.{Some, None, Ok, Err}
use Rattle.c_types.specs.declared.ctype.Base.{Base}
use Rattle.c_types.specs.declared.ctype.CType.{CType}
use Rattle.check_declarators.specs.declared.steps.Length.{Length}
use Rattle.check_declarators.specs.declared.steps.Length.TheVariants as len
use Rattle.check_declarators.specs.declared.steps.Role.TheVariants as role
use Rattle.check_declarators.specs.declared.steps.Step.{Step}
use Rattle.check_declarators.specs.declared.steps.Step.TheVariants as step
use Rattle.check_declarators.specs.Making.{declared_type}
use Rattle.tick_tree.specs.declared.fault.Fault.{Fault}
use Rattle.tick_tree.specs.declared.fault.FaultKind.{FaultKind}
use Rattle.tick_tree.specs.declared.fault.FaultKind.TheVariants as fault
use Rattle.tick_tree.specs.Faults.{Checked, refuse, number}
use Rattle.check_types.specs.Shapes.{is_void}
use Rattle.check_forms.specs.Forms.{Name}
use Rattle.check_operands.specs.declared.operand.Operand.{Operand}
use Rattle.check_operands.specs.Operands.{effect}
use Rattle.meaning_operators.specs.Constants.{constant}
use Rattle.check_rules.specs.Walks.{Rule, pure}
use Rattle.check_rules.specs.declared.state.Stage.{Stage}
use Rattle.check_rules.specs.declared.state.Stage.TheVariants as stage
use Rattle.check_rules.specs.declared.state.State.{State}
use Rattle.check_rules.specs.Locals.{local, list_parameter}

-- ---- as a declaration is entered

-- whether a cspec or vspec is written in the declarator is said: that of a variable of a tick has none
abbrev pub entered : Stage → ℕ → Bool → Checked (Unit {0})
entered stage.Function line staged = Ok tt
entered stage.Tick line staged = if staged then refuse fault.StageInTick line else Ok tt
entered stage.Dollar line staged = Ok tt

-- ---- types

abbrev pub is_array_step : Step → Bool
is_array_step (step.Array n) = true
is_array_step _ = false

-- whether the outermost layer is an array: its step is taken last, and stands first
abbrev pub is_array : List Step → Bool
is_array [] = false
is_array (s ∷ ss) = is_array_step s

-- what a variable of a tick breaks
abbrev pub tick_breaks : List Step → Option FaultKind
tick_breaks ss = if is_array ss then Some fault.BadArray else None

abbrev pub lower_at : ℕ → FaultKind → Fault → Fault
lower_at line k f = if nat_lt (number k) (number f.kind) then record { kind = k; line = line; token = 0 } else f

-- the fault of the lower number
abbrev pub lowered : ℕ → Option FaultKind → Checked CType → Checked CType
lowered line None t = t
lowered line (Some k) (Ok t) = refuse k line
lowered line (Some k) (Err f) = Err (lower_at line k f)

abbrev pub declared_by : Stage → ℕ → Base → List Step → Checked CType
declared_by stage.Function line b ss = declared_type role.Local line b ss
declared_by stage.Tick line b ss = lowered line (tick_breaks ss) (declared_type role.Local line b ss)
declared_by stage.Dollar line b ss = declared_type role.Local line b ss

-- the type of a variable of a block
unfoldable pub declared_in : Stage → ℕ → Base → List Step → Checked CType
declared_in g line b ss = declared_by g line b ss

-- ---- lengths

abbrev pub length_by : Option ℕ → Length
length_by None = len.Computed
length_by (Some n) = len.Constant n

-- the length that an expression gives an array: it has the form of a constant, or not; what is void isn't a value
unfoldable pub length_of : Bool → Operand → Length
length_of form o = if form then length_by (constant (effect o)) else
    (if is_void o.ctype then len.Void else len.Computed)

-- how many elements a value gives an array that lacks its length: a string's are its bytes with the zero byte
abbrev pub value_count : Option (List ℕ) → ℕ
value_count None = 1
value_count (Some bytes) = min (length bytes + 1) 4294967295

-- how many elements a list of values gives
abbrev pub list_count : {A : Type 0} → List A → ℕ
list_count values = min (length values) 4294967295

-- ---- names

-- the name of a declarator; each declarator in a declaration has one
abbrev pub name_by : Option (ℕ × Name) → Name
name_by None = []
name_by (Some p) = p.1

-- a variable of a block gets its name
abbrev pub declare : Stage → ℕ → Option (ℕ × Name) → CType → Rule State Operand
declare g line name t = local g line (name_by name) t

-- the name of a parameter of a list, where it has one
abbrev pub declare_parameter : Stage → ℕ → Option (ℕ × Name) → CType → Rule State (Unit {0})
declare_parameter g line None t = pure tt
declare_parameter g line (Some p) t = list_parameter g line p.1 t
