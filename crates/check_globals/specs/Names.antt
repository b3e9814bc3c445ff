-- Names at file scope. A prototype may precede its function, and may stand again with the same type; every other name
-- stands once. In a declaration the type comes first, then the name, then the initializer. `()` behind the name of a
-- function means that it has no parameters. These are this project's own rules, after C's.
use Rattle.std.specs.Prelude.{ℕ, ◌+◌, min, Bool, true, false, not, ◌||◌, if◌then◌else◌, List, [], ◌∷◌, Option, Some}
use Rattle.std.specs.Prelude.{None, Ok}
use Rattle.c_types.specs.declared.ctype.CType.{CType}
use Rattle.check_scopes.specs.declared.names.Meaning.{Meaning}
use Rattle.check_scopes.specs.declared.names.MeaningKind.{MeaningKind}
use Rattle.check_scopes.specs.declared.names.MeaningKind.TheVariants as kind
use Rattle.check_scopes.specs.Scopes.{Name, find}
use Rattle.c_types.specs.Types.{same}
use Rattle.c_type_refs.specs.Sizes.{limited_size}
use Rattle.check_declarators.specs.declared.steps.Step.{Step}
use Rattle.check_declarators.specs.declared.steps.Step.TheVariants as step
use Rattle.tick_tree.specs.declared.fault.FaultKind.TheVariants as fault
use Rattle.tick_tree.specs.Faults.{refuse}
use Rattle.check_rules.specs.Functions as functions
use Rattle.check_rules.specs.Images as images
use Rattle.check_rules.specs.Walks.{Rule, ◌>>=◌}
use Rattle.check_rules.specs.declared.state.State.{State}
use Rattle.check_rules.specs.Locals.{meaning}
use Rattle.check_rules.specs.Names.{declare}
use Rattle.check_globals.specs.declared.names.Before.{Before}
use Rattle.check_globals.specs.declared.names.Before.TheVariants as before
use Rattle.word32.specs.declared.map.TheConstants.{OBJECTS}

-- ---- types

abbrev pub without_parameters : Step → Step
without_parameters (step.Prefix p) = step.Prefix p
without_parameters (step.Array n) = step.Array n
without_parameters (step.Function list) = step.Function list
without_parameters step.Unlisted = step.Function []

-- the steps of a declarator at file scope: `()` at its name is an empty list
abbrev pub named_steps : List Step → List Step
named_steps [] = []
named_steps (s ∷ ss) = without_parameters s ∷ ss

-- ---- what a name is already

abbrev pub is_function : MeaningKind → Bool
is_function kind.Variable = false
is_function kind.Parameter = false
is_function kind.Global = false
is_function kind.Function = true
is_function kind.Library = false

abbrev pub before_by : Bool → CType → Option Meaning → Before
before_by is_defined t None = before.Nothing
before_by is_defined t (Some m) =
    if not (is_function m.kind) || is_defined then before.Taken
    else (if same m.ctype t then before.SamePrototype else before.OtherPrototype)

-- what a name is that is declared with this type
abbrev pub known_before : Name → CType → State → Before
known_before name t s = before_by (functions.is_defined name s.functions) t (find s.scopes name)

-- ---- prototypes

-- the text has a prototype here
abbrev pub note : ℕ → Name → Rule State (Unit {0})
note line name s = Ok (tt, record s { functions = functions.with_prototype line name s.functions })

abbrev pub first_prototype : ℕ → Name → CType → Rule State (Unit {0})
first_prototype line name t s =
    (declare line name (meaning kind.Function t (functions.number name s.functions)) >>= (λ u. note line name)) s

abbrev pub prototype_by : Before → ℕ → Name → CType → Rule State (Unit {0})
prototype_by before.Nothing line name t s = first_prototype line name t s
prototype_by before.SamePrototype line name t s = note line name s
prototype_by before.OtherPrototype line name t s = refuse fault.TypeMismatch line
prototype_by before.Taken line name t s = refuse fault.Duplicate line

-- a prototype of this name and type
unfoldable pub prototype : ℕ → Name → CType → Rule State (Unit {0})
prototype line name t s = prototype_by (known_before name t s) line name t s

-- ---- variables

abbrev pub size_by : Option ℕ → ℕ
size_by None = 0
size_by (Some n) = n

-- the address of the global at this place
abbrev pub address : ℕ → ℕ
address at = min (OBJECTS + at) 4294967295

abbrev pub with_global : CType → State → State
with_global t s = record s { image = images.with_global (size_by (limited_size t)) s.image }

abbrev pub first_variable : ℕ → Name → CType → Rule State ℕ
first_variable line name t s =
    (declare line name (meaning kind.Global t (address (images.place s.image))) >>=
    (λ u z. Ok (images.place s.image, z))) (with_global t s)

abbrev pub variable_by : Before → ℕ → Name → CType → Rule State ℕ
variable_by before.Nothing line name t s = first_variable line name t s
variable_by before.SamePrototype line name t s = refuse fault.TypeMismatch line
variable_by before.OtherPrototype line name t s = refuse fault.TypeMismatch line
variable_by before.Taken line name t s = refuse fault.Duplicate line

-- a variable of this name and type; its place from the first global on
unfoldable pub variable : ℕ → Name → CType → Rule State ℕ
variable line name t s = variable_by (known_before name t s) line name t s
