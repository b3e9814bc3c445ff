-- The definition of a function: its name, which may have a prototype of the same type; then its parameters, in the
-- scope of its outermost block; then its body. These are this project's own rules, after C's.
use Rattle.std.specs.Prelude.{ℕ, min, List, [], ◌∷◌, length, Option, Some, None, Ok, Err}
use Rattle.limits.specs.declared.program.TheConstants.{NODE_TOP}
use Rattle.c_types.specs.declared.ctype.CType.{CType}
use Rattle.c_types.specs.declared.ctype.Layer.{Layer, out-Layer}
use Rattle.c_types.specs.declared.ctype.Layer.TheOpen.{Layer-F}
use Rattle.check_scopes.specs.declared.names.MeaningKind.TheVariants as kind
use Rattle.check_scopes.specs.Scopes.{Name}
use Rattle.c_types.specs.Types.{Opened, layers_of, outermost}
use Rattle.check_forms.specs.Forms.{declared_name}
use Rattle.check_types.specs.Shapes.{inner}
use Rattle.tick_tree.specs.declared.fault.FaultKind.TheVariants as fault
use Rattle.tick_tree.specs.declared.syntax.Parameter.{Parameter, out-Parameter}
use Rattle.tick_tree.specs.Faults.{Checked, refuse}
use Rattle.typed_tree.specs.declared.expression.Stmt.{Stmt}
use Rattle.typed_tree.specs.declared.program.Function.{Function}
use Rattle.typed_tree.specs.Sizes.{statement_size}
use Rattle.check_rules.specs.declared.functions.Functions.{Functions}
use Rattle.check_rules.specs.Frames as frames
use Rattle.check_rules.specs.Functions as functions
use Rattle.check_rules.specs.Walks.{Rule, ◌>>=◌, pure}
use Rattle.check_rules.specs.declared.state.State.{State}
use Rattle.check_rules.specs.Locals.{meaning, parameter, with_parameter}
use Rattle.check_rules.specs.Names.{declare}
use Rattle.check_globals.specs.declared.names.Before.{Before}
use Rattle.check_globals.specs.declared.names.Before.TheVariants as before
use Rattle.check_rules.specs.Declarations.{name_by}
use Rattle.check_globals.specs.Names.{known_before}

-- ---- names

abbrev pub with_functions : State → Checked (Unit {0} × Functions) → Checked (Unit {0} × State)
with_functions s (Ok r) = Ok (r.0, record s { functions = r.1 })
with_functions s (Err f) = Err f

-- a function of this name is defined, once
abbrev pub define : ℕ → Name → Rule State (Unit {0})
define line name s = with_functions s (functions.define line name s.functions)

abbrev pub first_function : ℕ → Name → CType → Rule State (Unit {0})
first_function line name t s =
    (declare line name (meaning kind.Function t (functions.next s.functions)) >>= (λ u. define line name)) s

abbrev pub function_by : Before → ℕ → Name → CType → Rule State (Unit {0})
function_by before.Nothing line name t s = first_function line name t s
function_by before.SamePrototype line name t s = define line name s
function_by before.OtherPrototype line name t s = refuse fault.TypeMismatch line
function_by before.Taken line name t s = refuse fault.Duplicate line

-- a function of this name and type
unfoldable pub named : ℕ → Name → CType → Rule State (Unit {0})
named line name t s = function_by (known_before name t s) line name t s

-- ---- parameters

abbrev pub types_at : Opened → List CType
types_at (Layer-F.Function list) = list
types_at _ = []

abbrev pub types_by : Option Layer → List CType
types_by None = []
types_by (Some l) = types_at (out-Layer l)

-- the types of a function's parameters
abbrev pub types_of : CType → List CType
types_of t = types_by (outermost (layers_of t))

-- how many parameters a function has
abbrev pub count_of : CType → ℕ
count_of t = min (length (types_of t)) 4294967295

-- a parameter as it is written: the line of its declaration, and its name with its line
abbrev pub Given : Type 0
Given = ℕ × Option (ℕ × Name)

abbrev pub given : Parameter → Given
given p = ((out-Parameter p).line, declared_name (out-Parameter p).declarator)

-- a parameter may lack a name
abbrev pub parameter_by : ℕ → Option (ℕ × Name) → CType → Rule State (Unit {0})
parameter_by line None t s = Ok (tt, with_parameter t s)
parameter_by line (Some p) t s = parameter line p.1 t s

abbrev pub parameters : List CType → List Given → Rule State (Unit {0})
parameters [] gs = pure tt
parameters (t ∷ ts) [] = pure tt
parameters (t ∷ ts) (g ∷ gs) = parameter_by g.0 g.1 t >>= (λ u. parameters ts gs)

-- in a function of this type, whose parameters are written so
unfoldable pub begun : CType → List Given → Rule State (Unit {0})
begun t gs s = parameters (types_of t) gs (record s { frame = frames.began (inner t) s.frame })

-- ---- the end

-- the line of the name, else that of the declaration
abbrev pub line_by : ℕ → Option (ℕ × Name) → ℕ
line_by line None = line
line_by line (Some p) = p.0

abbrev pub function : ℕ → Option (ℕ × Name) → CType → Stmt → State → Function
function line name t body s = record {
  name = name_by name;
  line = line_by line name;
  params = count_of t;
  object = s.frame.object;
  size = min (statement_size body) NODE_TOP;
  body = body;
}

-- after a function of this type, whose body has this node
unfoldable pub ended : ℕ → Option (ℕ × Name) → CType → Stmt → Rule State (Unit {0})
ended line name t body s =
    Ok (
      tt,
      record s {
        functions = functions.with_function (function line name t body s) s.functions;
        frame =
            frames.ended s.frame;
      },
    )
