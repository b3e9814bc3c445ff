-- The walk over items at file scope, once more.
use Rattle.std.proofs.Common.{◌≡◌, ℕ, ◌+◌, Bool, true, false, if◌then◌else◌, List, [], ◌∷◌, ◌++◌, length, map}
use Rattle.std.proofs.Common.{refl, ap, nat_le, ◌≤◌, length-append}
use Rattle.std.proofs.Common.{Option, Some, None, Result, Ok, Err, arith}
use Rattle.c_types.specs.declared.ctype.CType.{CType}
use Rattle.check_scopes.specs.declared.names.Meaning.{Meaning}
use Rattle.check_scopes.specs.declared.names.MeaningKind.TheVariants as kind
use Rattle.check_scopes.specs.Scopes.{Name, find, in_scope, innermost}
use Rattle.c_types.specs.Types.{same}
use Rattle.check_types.specs.Shapes.{inner}
use Rattle.check_operands.specs.declared.operand.Operand.{Operand}
use Rattle.check_operands.specs.Operands.{value_of}
use Rattle.tick_tree.specs.declared.fault.FaultKind.{FaultKind}
use Rattle.tick_tree.specs.declared.fault.FaultKind.TheVariants as fault
use Rattle.tick_tree.specs.Faults.{Checked, refuse, ◌>>=◌ as ◌>>>=◌}
use Rattle.typed_tree.specs.declared.expression.Stmt.{Stmt}
use Rattle.check_rules.specs.Frames as frames
use Rattle.check_rules.specs.Functions as tables
use Rattle.check_rules.specs.Images as images
use Rattle.check_rules.specs.declared.image.Image.{Image}
use Rattle.check_rules.specs.declared.functions.Functions.{Functions}
use Rattle.check_rules.specs.Walks.{Rule, ◌>>=◌}
use Rattle.check_rules.specs.declared.state.State.{State}
use Rattle.check_rules.specs.Locals.{meaning}
use Rattle.check_rules.specs.Names as scope_names
use Rattle.check_globals.specs.declared.statics.Row.{Row}
use Rattle.check_globals.specs.Names as names
use Rattle.check_globals.specs.Functions as functions
use Rattle.check_globals.specs.Functions.{Given}
use Rattle.check_globals.specs.Statics as statics
use Rattle.word32.specs.declared.map.TheConstants.{GLOBAL_BYTES}
use Rattle.typed_tree.specs.declared.expression.Stmt.TheVariants as st
use Rattle.tick_tree.specs.declared.base.Base.{Base}
use Rattle.tick_tree.specs.declared.syntax.External.{External}
use Rattle.tick_tree.specs.declared.syntax.External.TheVariants as ext
use Rattle.tick_tree.specs.declared.syntax.Stmt.{Stmt as Stmt-T}
use Rattle.check_rules.specs.declared.state.Stage.TheVariants as stage
use Rattle.check_rules.specs.ExpressionRules.{Node, Shape, Item}
use Rattle.check_types.specs.Shapes.{is_function}
use Rattle.check_rules.specs.Declarations.{name_by}
use Rattle.check_rules.specs.Initializers.{is_text}
use Rattle.check_globals.specs.Program as program
use Rattle.check_globals.specs.Parameters.{parameters_of}
use Rattle.check_rules.specs.Walk.{Start, Nothing, Value, Values, InitParts, item, shape}
use Rattle.wf_walk.specs.Parts.{EachPart}
use Rattle.walk_again.specs.Again.{AgainNode, AgainShape, AgainItem, AgainStart, AgainInit}
use Rattle.walk_again.proofs.Expressions.{scope_again, each_again}
use Rattle.wf_walk.proofs.Induction.{holds_stmt, holds_declarator, holds_declaration}
use Rattle.walk_again.proofs.Whole.{asked, rules_again}
use Rattle.walk_again.specs.Again.{Found, told, told_image, Kept, After, Again}
use Rattle.walk_again.proofs.Steps.{same_kept, by_after, after, pure_again, lift_again, bind_again}
use Rattle.walk_again.proofs.Steps.{again_first}
use Rattle.walk_again.proofs.States.{declare_again, parameter_again, with_parameter_again, both_after}

-- ---- prototypes: there is one more, whatever else changes

-- where a prototype came, nothing is asked of the second walk
noted : {A : Type 0} (k : Found) (s new : State) (x : A) (q : Checked (A × State)) → Kept s new →
    length s.functions.prototypes + 1 ≤ length new.functions.prototypes → After k s (Ok (x, new)) q
noted k s new x q l h = (l, λ z. absurd (omega (arith, h, z.prototypes)))

more_prototypes : (line : ℕ) (name : Name) (f : Functions) →
    length f.prototypes + 1 ≤ length (tables.with_prototype line name f).prototypes
more_prototypes line name f = simp length-append (omega arith)

note_kept : (line : ℕ) (name : Name) (s : State) →
    Kept s (record s { functions = tables.with_prototype line name s.functions })
note_kept line name s = record {
  objects = refl;
  strings = omega arith;
  prototypes = omega (arith, more_prototypes line name s.functions);
}

note_after : (k : Found) (line : ℕ) (name : Name) (s : State) (q : Checked (Unit {0} × State)) →
    After k s (names.note line name s) q
note_after k line name s q = noted {A = Unit {0}} k s _ tt q (note_kept line name s) (more_prototypes line name
    s.functions)

first_by : (k : Found) (line : ℕ) (name : Name) (what : Meaning) (s : State) (m : Option Meaning)
    (q : Checked (Unit {0} × State)) →
    After k s (scope_names.declared_by line name what s m >>>= (λ r. names.note line name r.1)) q
first_by k line name what s None q =
    noted {A = Unit {0}} k s _ tt q
    (record {
      objects = refl;
      strings = omega arith;
      prototypes = omega (
        arith,
        more_prototypes line name
            s.functions,
      );
    })
    (more_prototypes line name s.functions)
first_by k line name what s (Some m) q = tt

first_after : (k : Found) (line : ℕ) (name : Name) (what : Meaning) (s : State) (q : Checked (Unit {0} × State)) →
    After k s ((scope_names.declare line name what >>= (λ u. names.note line name)) s) q
unfolding scope_names.declare
first_after k line name what s q = first_by k line name what s (in_scope (innermost s.scopes) name) q

known_prototype : (k : Found) (line : ℕ) (name : Name) (t : CType) (s : State) (m : Meaning) (d a b : Bool)
    (q : Checked (Unit {0} × State)) → names.is_function m.kind ≡ a → same m.ctype t ≡ b →
    After k s (names.prototype_by (names.before_by d t (Some m)) line name t s) q
known_prototype k line name t s m d false b q e h = rw e tt
known_prototype k line name t s m true true b q e h = rw e tt
known_prototype k line name t s m false true true q e h = rw (e, h) (note_after k line name s q)
known_prototype k line name t s m false true false q e h = rw (e, h) tt

prototype_by_after : (k : Found) (line : ℕ) (name : Name) (t : CType) (s : State) (d : Bool) (m : Option Meaning)
    (q : Checked (Unit {0} × State)) → After k s (names.prototype_by (names.before_by d t m) line name t s) q
prototype_by_after k line name t s d None q =
    first_after k line name (meaning kind.Function t (tables.number name s.functions)) s q
prototype_by_after k line name t s d (Some m) q =
    known_prototype k line name t s m d (names.is_function m.kind) (same m.ctype t) q refl refl

pub prototype_again : {k : Found} (line : ℕ) (name : Name) (t : CType) → Again k (names.prototype line name t)
unfolding names.prototype
prototype_again {k = k} line name t =
    by_after (λ s e. prototype_by_after k line name t s (tables.is_defined name s.functions) (find s.scopes name) _)

-- ---- variables

first_variable_after : (k : Found) (line : ℕ) (name : Name) (t : CType) (s : State) → s.frame.objects ≡ [] →
    After k s (names.first_variable line name t s) (names.first_variable line name t (told k s))
first_variable_after k line name t s e =
    after (again_first {k = k} (names.with_global t) (λ z. same_kept z _ refl refl refl) (λ z. refl)
    (bind_again (declare_again line name (meaning kind.Global t (names.address (images.place s.image))))
    (λ u. pure_again (images.place s.image)))) s e

known_variable : (k : Found) (line : ℕ) (name : Name) (t : CType) (s : State) (m : Meaning) (d a b : Bool) →
    names.is_function m.kind ≡ a → same m.ctype t ≡ b →
    After k s (names.variable_by (names.before_by d t (Some m)) line name t s)
    (names.variable_by (names.before_by d t (Some m)) line name t (told k s))
known_variable k line name t s m d false b e h = rw e tt
known_variable k line name t s m true true b e h = rw e tt
known_variable k line name t s m false true true e h = rw (e, h) tt
known_variable k line name t s m false true false e h = rw (e, h) tt

variable_by_after : (k : Found) (line : ℕ) (name : Name) (t : CType) (s : State) (d : Bool) (m : Option Meaning) →
    s.frame.objects ≡ [] → After k s (names.variable_by (names.before_by d t m) line name t s)
    (names.variable_by (names.before_by d t m) line name t (told k s))
variable_by_after k line name t s d None e = first_variable_after k line name t s e
variable_by_after k line name t s d (Some m) e =
    known_variable k line name t s m d (names.is_function m.kind) (same m.ctype t) refl refl

pub variable_name_again : {k : Found} (line : ℕ) (name : Name) (t : CType) → Again k (names.variable line name t)
unfolding names.variable
variable_name_again {k = k} line name t =
    by_after (λ s e. variable_by_after k line name t s (tables.is_defined name s.functions) (find s.scopes name) e)

-- ---- initializers

bytes_by : (b : Bool) (at : ℕ) (bytes : List ℕ) (i : Image) →
    (if b then record i { globals = images.up_to at i.globals ++ bytes } else i).strings ≡ i.strings
bytes_by true at bytes i = refl
bytes_by false at bytes i = refl

told_by : (k : Found) (b : Bool) (at : ℕ) (bytes : List ℕ) (i : Image) →
    (if b then record (told_image k i) { globals = images.up_to at i.globals ++ bytes } else told_image k i) ≡
    told_image k (if b then record i { globals = images.up_to at i.globals ++ bytes } else i)
told_by k true at bytes i = refl
told_by k false at bytes i = refl

abbrev with_image : State → Image → Checked (Unit {0} × State)
with_image s i = Ok (tt, record s { image = i })

fill_after : (k : Found) (at : ℕ) (bytes : List ℕ) (s : State) →
    After k s (statics.fill at bytes s) (statics.fill at bytes (told k s))
fill_after k at bytes s = (
  same_kept s _ refl (bytes_by (nat_le at GLOBAL_BYTES) at bytes s.image) refl,
  λ z. ap (with_image (told k s)) (told_by k (nat_le at GLOBAL_BYTES) at bytes s.image),
)

value_by_after : (k : Found) (line at : ℕ) (t : CType) (r : Result ℕ FaultKind) (s : State) →
    After k s (statics.value_by line at t r s) (statics.value_by line at t r (told k s))
value_by_after k line at t (Ok n) s = fill_after k at _ s
value_by_after k line at t (Err f) s = tt

pub static_value_again : {k : Found} (line at : ℕ) (t : CType) (form string : Bool) (o : Operand) →
    Again k (statics.static_value line at t form string o)
unfolding statics.static_value
static_value_again {k = k} line at t form string o = by_after
    (λ s e. value_by_after k line at t (statics.sized_word t (statics.static_word form string (value_of o) t)) s)

text_by_after : (k : Found) (b : Bool) (line at : ℕ) (bytes : List ℕ) (s : State) →
    After k s (if b then refuse fault.BadArray line else statics.fill at bytes s)
    (if b then refuse fault.BadArray line else statics.fill at bytes (told k s))
text_by_after k true line at bytes s = tt
text_by_after k false line at bytes s = fill_after k at bytes s

pub static_text_again : {k : Found} (line at : ℕ) (t : CType) (bytes : List ℕ) →
    Again k (statics.static_text line at t bytes)
unfolding statics.static_text
static_text_again {k = k} line at t bytes = by_after
    (λ s e. text_by_after k (statics.lacks_room (length (bytes ++ 0 ∷ [])) t) line at (bytes ++ 0 ∷ []) s)

list_by_after : (k : Found) (line at : ℕ) (bytes : List ℕ) (f : Option FaultKind) (s : State) →
    After k s (statics.list_by line at bytes f s) (statics.list_by line at bytes f (told k s))
list_by_after k line at bytes None s = fill_after k at bytes s
list_by_after k line at bytes (Some f) s = tt

pub static_list_again : {k : Found} (line at : ℕ) (t : CType) (count : ℕ) (row : Row) →
    Again k (statics.static_list line at t count row)
unfolding statics.static_list
static_list_again {k = k} line at t count row =
    by_after (λ s e. list_by_after k line at row.bytes (statics.row_breaks count t row) s)

-- ---- functions

defined_after : (k : Found) (line : ℕ) (name : Name) (s : State) (m : Option Meaning) →
    After k s (functions.with_functions s (tables.defined_by line name s.functions m))
    (functions.with_functions (told k s) (tables.defined_by line name (told k s).functions m))
defined_after k line name s None = (same_kept s _ refl refl refl, λ z. refl)
defined_after k line name s (Some m) = tt

define_again : {k : Found} (line : ℕ) (name : Name) → Again k (functions.define line name)
unfolding tables.define
define_again {k = k} line name =
    by_after (λ s e. defined_after k line name s (in_scope (innermost s.functions.defined) name))

first_function_after : (k : Found) (line : ℕ) (name : Name) (t : CType) (s : State) → s.frame.objects ≡ [] →
    After k s (functions.first_function line name t s) (functions.first_function line name t (told k s))
first_function_after k line name t s e =
    after (bind_again (declare_again {k = k} line name (meaning kind.Function t (tables.next s.functions)))
    (λ u. define_again line name)) s e

known_function : (k : Found) (line : ℕ) (name : Name) (t : CType) (s : State) (m : Meaning) (d a b : Bool) →
    s.frame.objects ≡ [] → names.is_function m.kind ≡ a → same m.ctype t ≡ b →
    After k s (functions.function_by (names.before_by d t (Some m)) line name t s)
    (functions.function_by (names.before_by d t (Some m)) line name t (told k s))
known_function k line name t s m d false b o e h = rw e tt
known_function k line name t s m true true b o e h = rw e tt
known_function k line name t s m false true true o e h = rw (e, h) (after (define_again {k = k} line name) s o)
known_function k line name t s m false true false o e h = rw (e, h) tt

function_by_after : (k : Found) (line : ℕ) (name : Name) (t : CType) (s : State) (d : Bool) (m : Option Meaning) →
    s.frame.objects ≡ [] → After k s (functions.function_by (names.before_by d t m) line name t s)
    (functions.function_by (names.before_by d t m) line name t (told k s))
function_by_after k line name t s d None e = first_function_after k line name t s e
function_by_after k line name t s d (Some m) e =
    known_function k line name t s m d (names.is_function m.kind) (same m.ctype t) e refl refl

pub named_function_again : {k : Found} (line : ℕ) (name : Name) (t : CType) → Again k (functions.named line name t)
unfolding functions.named
named_function_again {k = k} line name t =
    by_after (λ s e. function_by_after k line name t s (tables.is_defined name s.functions) (find s.scopes name) e)

-- ---- parameters

given_again : {k : Found} (line : ℕ) (n : Option (ℕ × Name)) (t : CType) → Again k (functions.parameter_by line n t)
given_again {k = k} line None t = by_after (λ s e. both_after k s _ _ (with_parameter_again k t s e))
given_again line (Some p) t = parameter_again line p.1 t

parameters_again : {k : Found} (ts : List CType) (gs : List Given) → Again k (functions.parameters ts gs)
parameters_again [] gs = pure_again tt
parameters_again (t ∷ ts) [] = pure_again tt
parameters_again (t ∷ ts) (g ∷ gs) = bind_again (given_again g.0 g.1 t) (λ u. parameters_again ts gs)

abbrev into : CType → State → State
into t s = record s { frame = frames.began (inner t) s.frame }

begun_again : {k : Found} (t : CType) (gs : List Given) → Again k (functions.begun t gs)
unfolding functions.begun
begun_again t gs =
    again_first (into t) (λ s. same_kept s _ refl refl refl) (λ s. refl) (parameters_again (functions.types_of t) gs)

ended_again : {k : Found} (line : ℕ) (n : Option (ℕ × Name)) (t : CType) (x : Stmt) →
    Again k (functions.ended line n t x)
unfolding functions.ended
ended_again line n t x = by_after (λ s e. (same_kept s _ refl refl refl, λ z. refl))

-- ---- items

pub function_again : {k : Found} (line : ℕ) (b : Base) (d : Shape) (gs : List Given) (items : List Item) →
    AgainShape k d → EachPart (AgainItem k) items → Again k (program.function line b d gs items)
function_again line b d gs items h hs =
    bind_again (bind_again (h.at stage.Function) (λ ss. lift_again _))
    (λ t. bind_again (named_function_again line (name_by d.declared.name) t)
    (λ u. bind_again (scope_again (λ xs vs. st.Block vs xs) (bind_again (begun_again t gs) (λ v. each_again items
    program.around hs)))
    (λ x. ended_again line d.declared.name t x)))

walked_again : {k : Found} (es : List Node) → EachPart (AgainNode k) es → Again k (program.walked es)
walked_again [] h = pure_again tt
walked_again (e ∷ es) h = bind_again (h.0.at stage.Function) (λ o. walked_again es h.1)

no_start_again : {k : Found} (line : ℕ) (x : Start) → AgainStart k x → Again k (program.no_start line x)
no_start_again line Nothing h = pure_again tt
no_start_again line (Value e) h =
    bind_again (h.at stage.Function) (λ o. lift_again (refuse {A = Unit {0}} fault.TypeMismatch line))
no_start_again line (Values es) h =
    bind_again (walked_again es h) (λ u. lift_again (refuse {A = Unit {0}} fault.TypeMismatch line))

row_again : {k : Found} (es : List Node) (t : CType) (r : Row) → EachPart (AgainNode k) es →
    Again k (program.row es t r)
row_again [] t r h = pure_again r
row_again (e ∷ es) t r h = bind_again (h.0.at stage.Function) (λ o. row_again es t _ h.1)

static_walked_again : {k : Found} (line at : ℕ) (t : CType) (e : Node) → AgainNode k e →
    Again k (program.static_walked line at t e)
static_walked_again line at t e h = bind_again (h.at stage.Function) (λ o. static_value_again line at t _ _ o)

text_or_value : {A : Type 0} {k : Found} (b : Bool) (r q : Rule State A) → Again k r → Again k q →
    Again k (if b then r else q)
text_or_value true r q h i = h
text_or_value false r q h i = i

static_by_again : {k : Found} (line at : ℕ) (t : CType) (e : Node) (x : Option (List ℕ)) → AgainNode k e →
    Again k (program.static_by line at t e x)
static_by_again line at t e None h = static_walked_again line at t e h
static_by_again line at t e (Some bytes) h =
    text_or_value (is_text t) (statics.static_text line at t bytes) (program.static_walked line at t e)
    (static_text_again line at t bytes) (static_walked_again line at t e h)

static_begin_again : {k : Found} (line at : ℕ) (t : CType) (x : Start) → AgainStart k x →
    Again k (program.static_begin line at t x)
static_begin_again line at t Nothing h = pure_again tt
static_begin_again line at t (Value e) h = static_by_again line at t e e.written.string h
static_begin_again line at t (Values es) h =
    bind_again (row_again es (inner t) (statics.row_begun t) h) (λ r. static_list_again line at t (length es) r)

named_again : {k : Found} (b : Bool) (line : ℕ) (t : CType) (d : Shape) (x : Start) → AgainStart k x →
    Again k (if b then program.prototype line t d x else program.variable line t d x)
named_again true line t d x h =
    bind_again (prototype_again line (name_by d.declared.name) t) (λ u. no_start_again line x h)
named_again false line t d x h =
    bind_again (variable_name_again line (name_by d.declared.name) t) (λ at. static_begin_again line at t x h)

global_again : {k : Found} (line : ℕ) (b : Base) (i : InitParts) → AgainInit k i → Again k (program.global line b i)
global_again line b i h =
    bind_again (bind_again (h.shape.at stage.Function) (λ ss. lift_again _))
    (λ t. named_again (is_function t) line t i.shape i.start h.start)

globals_again : {k : Found} (line : ℕ) (b : Base) (is : List InitParts) → EachPart (AgainInit k) is →
    Again k (program.globals line b is)
globals_again line b [] h = pure_again tt
globals_again line b (i ∷ is) h = bind_again (global_again line b i h.0) (λ u. globals_again line b is h.1)

each_item : (k : Found) (list : List Stmt-T) → EachPart (AgainItem k) (map item list)
each_item k [] = tt
each_item k (x ∷ xs) = (holds_stmt (asked k) (rules_again k) x, each_item k xs)

external_again : (k : Found) (x : External) → Again k (program.external x)
external_again k (ext.Function line b d items) =
    function_again line b (shape d) (parameters_of d) (map item items) (holds_declarator (asked k) (rules_again k) d)
    (each_item k items)
external_again k (ext.Declaration d) =
    globals_again _ _ _ (holds_declaration (asked k) (rules_again k) d)

pub walk_again : (k : Found) (xs : List External) → Again k (program.walk xs)
walk_again k [] = pure_again tt
walk_again k (x ∷ xs) = bind_again (external_again k x) (λ u. walk_again k xs)
