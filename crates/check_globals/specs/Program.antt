-- The walk over a program, whose items stand at file scope: declarations of variables and prototypes, and functions. A
-- program is walked twice, by the same definition: the second walk knows from the first which variables need an
-- address, where the globals end and which functions there are. What is checked of the whole program comes after both
-- walks. These are this project's own rules; what may stand at file scope is C's.
use Rattle.std.specs.Prelude.{◌≡◌, ℕ, Bool, true, false, ◌&&◌, if◌then◌else◌, List, [], ◌∷◌, length, map, Option, Some}
use Rattle.std.specs.Prelude.{None, is_some, Result, Ok, Err}
use Rattle.c_types.specs.declared.ctype.CType.{CType}
use Rattle.check_declarators.specs.declared.steps.Role.TheVariants as role
use Rattle.check_declarators.specs.declared.steps.Step.{Step}
use Rattle.check_declarators.specs.Making.{declared_type}
use Rattle.check_declarators.specs.Words as words
use Rattle.check_types.specs.Shapes.{inner, is_function}
use Rattle.tick_tree.specs.declared.base.Base.{Base}
use Rattle.tick_tree.specs.declared.fault.FaultKind.TheVariants as fault
use Rattle.tick_tree.specs.declared.syntax.Declaration.{Declaration}
use Rattle.tick_tree.specs.declared.syntax.External.{External}
use Rattle.tick_tree.specs.declared.syntax.External.TheVariants as ext
use Rattle.tick_tree.specs.declared.tree.Tree.{Tree}
use Rattle.tick_tree.specs.Faults.{Checked, refuse, ◌>>=◌ as ◌>>>=◌}
use Rattle.typed_tree.specs.declared.expression.Stmt.{Stmt as Act}
use Rattle.typed_tree.specs.declared.expression.Stmt.TheVariants as st
use Rattle.typed_tree.specs.declared.program.TypedParts.{TypedParts}
use Rattle.check_rules.specs.declared.state.Around.{Around}
use Rattle.check_rules.specs.declared.state.Stage.TheVariants as stage
use Rattle.check_rules.specs.declared.state.State.{State}
use Rattle.check_rules.specs.Blocks.{depth, enter, leave}
use Rattle.check_rules.specs.Starts.{start, again}
use Rattle.check_rules.specs.Walks.{Rule, ◌>>=◌, pure, lift}
use Rattle.check_rules.specs.ExpressionRules as rules
use Rattle.check_rules.specs.ExpressionRules.{Node, Shape, Item}
use Rattle.check_rules.specs.Declarations.{name_by}
use Rattle.check_rules.specs.Initializers.{is_text}
use Rattle.check_globals.specs.declared.statics.Row.{Row}
use Rattle.check_globals.specs.Functions as functions
use Rattle.check_globals.specs.Functions.{Given}
use Rattle.check_globals.specs.Names as names
use Rattle.check_globals.specs.Programs.{finished}
use Rattle.check_globals.specs.Statics as statics
use Rattle.check_globals.specs.Parameters.{parameters_of}
use Rattle.check_rules.specs.Walk.{Start, Nothing, Value, Values, InitParts, Declarations, declaration, with_start}
use Rattle.check_rules.specs.Walk.{shape, item}

-- ---- variables and prototypes

-- the type of a name at file scope
abbrev pub global_type : ℕ → Base → Shape → Start → Rule State CType
global_type line b d start =
    d.walk stage.Function >>=
    (λ ss. lift (declared_type role.FileScope line (words.base_of b) (with_start start (names.named_steps ss))))

-- the values of a list, by the type of an element, behind those so far
abbrev pub row : List Node → CType → Row → Rule State Row
row [] t r = pure r
row (e ∷ es) t r = e.walk stage.Function >>=
    (λ o. row es t (statics.row_more t e.written.constant (is_some e.written.string) o r))

abbrev pub static_list : ℕ → ℕ → CType → List Node → Rule State (Unit {0})
static_list line at t es = row es (inner t) (statics.row_begun t) >>= (λ r. statics.static_list line at t (length es) r)

abbrev pub static_walked : ℕ → ℕ → CType → Node → Rule State (Unit {0})
static_walked line at t e =
    e.walk stage.Function >>= (λ o. statics.static_value line at t e.written.constant (is_some e.written.string) o)

-- a string for an array of char stands in the array itself; every other value is walked
abbrev pub static_by : ℕ → ℕ → CType → Node → Option (List ℕ) → Rule State (Unit {0})
static_by line at t e None = static_walked line at t e
static_by line at t e (Some bytes) =
    if is_text t then statics.static_text line at t bytes else static_walked line at t e

-- the global at this place has this type and begins with this
abbrev pub static_begin : ℕ → ℕ → CType → Start → Rule State (Unit {0})
static_begin line at t Nothing = pure tt
static_begin line at t (Value e) = static_by line at t e e.written.string
static_begin line at t (Values es) = static_list line at t es

abbrev pub variable : ℕ → CType → Shape → Start → Rule State (Unit {0})
variable line t d start = names.variable line (name_by d.declared.name) t >>= (λ at. static_begin line at t start)

-- a list of values whose parent takes none
abbrev pub walked : List Node → Rule State (Unit {0})
walked [] = pure tt
walked (e ∷ es) = e.walk stage.Function >>= (λ o. walked es)

-- a function takes no initializer; its values are walked first
abbrev pub no_start : ℕ → Start → Rule State (Unit {0})
no_start line Nothing = pure tt
no_start line (Value e) = e.walk stage.Function >>= (λ o. lift (refuse fault.TypeMismatch line))
no_start line (Values es) = walked es >>= (λ u. lift (refuse fault.TypeMismatch line))

abbrev pub prototype : ℕ → CType → Shape → Start → Rule State (Unit {0})
prototype line t d start = names.prototype line (name_by d.declared.name) t >>= (λ u. no_start line start)

abbrev pub named : ℕ → CType → Shape → Start → Rule State (Unit {0})
named line t d start = if is_function t then prototype line t d start else variable line t d start

-- its type, its name, its initializer
abbrev pub global_parts : ℕ → Base → Shape → Start → Rule State (Unit {0})
global_parts line b d start = global_type line b d start >>= (λ t. named line t d start)

-- one declarator of a declaration
abbrev pub global : ℕ → Base → InitParts → Rule State (Unit {0})
global line b i = global_parts line b i.shape i.start

abbrev pub globals : ℕ → Base → List InitParts → Rule State (Unit {0})
globals line b [] = pure tt
globals line b (i ∷ is) = global line b i >>= (λ u. globals line b is)

abbrev pub declared : Declarations → Rule State (Unit {0})
declared d = globals d.line d.base d.inits

-- ---- functions

abbrev pub function_type : ℕ → Base → Shape → Rule State CType
function_type line b d =
    d.walk stage.Function >>= (λ ss. lift (declared_type role.FileScope line (words.base_of b) (names.named_steps ss)))

-- what stands round the items of a function's block
abbrev pub around : Around
around = record { stage = stage.Function; in_loop = false; in_switch = false; is_direct = false }

-- the parameters and the items of a function of this type
abbrev pub begun : CType → List Given → List Item → Rule State (List Act)
begun t gs items = functions.begun t gs >>= (λ u. rules.each items around)

-- its block, in which its parameters have their scope
abbrev pub body : CType → List Given → List Item → Rule State Act
body t gs items =
    depth >>= (λ n. enter >>= (λ outer. begun t gs items >>= (λ xs. leave n outer >>= (λ vs. pure (st.Block vs xs)))))

-- behind its name
abbrev pub function_rest : ℕ → CType → Shape → List Given → List Item → Rule State (Unit {0})
function_rest line t d gs items = body t gs items >>= (λ x. functions.ended line d.declared.name t x)

abbrev pub function : ℕ → Base → Shape → List Given → List Item → Rule State (Unit {0})
function line b d gs items =
    function_type line b d >>=
    (λ t. functions.named line (name_by d.declared.name) t >>= (λ u. function_rest line t d gs items))

-- ---- programs

abbrev pub external : External → Rule State (Unit {0})
external (ext.Function line b d items) = function line b (shape d) (parameters_of d) (map item items)
external (ext.Declaration d) = declared (declaration d)

abbrev pub walk : List External → Rule State (Unit {0})
walk [] = pure tt
walk (x ∷ xs) = external x >>= (λ u. walk xs)

-- the second walk, and what is checked after it
abbrev pub second_walk : List External → State → Checked TypedParts
second_walk xs s = walk xs s >>>= (λ r. finished r.1)

-- what the second walk knows, and that walk
abbrev pub walk_again : List External → State → Checked TypedParts
walk_again xs s = again s >>>= (λ r. second_walk xs r.1)

-- both walks
abbrev pub first_walk : List External → State → Checked TypedParts
first_walk xs s = walk xs s >>>= (λ r. walk_again xs r.1)

-- the parts of the typed program of a tree, or its first fault
unfoldable pub checked : Tree → Checked TypedParts
checked t = start >>>= (λ r. first_walk t.items r.1)
