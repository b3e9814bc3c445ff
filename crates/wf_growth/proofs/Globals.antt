-- What the walk over declarations at file scope makes grow.
use Rattle.std.proofs.Common.{◌≡◌, ℕ, Bool, true, false, if◌then◌else◌, List, [], ◌∷◌, ◌++◌, length, refl, Option, Some}
use Rattle.std.proofs.Common.{None, is_some, Result, Ok, Err, arith}
use Rattle.c_types.specs.declared.ctype.CType.{CType}
use Rattle.check_scopes.specs.declared.names.Meaning.{Meaning}
use Rattle.check_scopes.specs.declared.names.MeaningKind.TheVariants as kind
use Rattle.check_scopes.specs.Scopes.{Name, find}
use Rattle.c_types.specs.Types.{same}
use Rattle.check_types.specs.Shapes.{inner, is_function}
use Rattle.check_operands.specs.declared.operand.Operand.{Operand}
use Rattle.check_operands.specs.Operands.{value_of}
use Rattle.tick_tree.specs.declared.base.Base.{Base}
use Rattle.tick_tree.specs.declared.fault.FaultKind.{FaultKind}
use Rattle.tick_tree.specs.declared.fault.FaultKind.TheVariants as fault
use Rattle.tick_tree.specs.Faults.{Checked, refuse}
use Rattle.check_rules.specs.Functions as tables
use Rattle.check_rules.specs.Images as images
use Rattle.check_rules.specs.Walks.{Rule}
use Rattle.check_rules.specs.declared.state.Stage.TheVariants as stage
use Rattle.check_rules.specs.declared.state.State.{State}
use Rattle.check_rules.specs.Locals.{meaning}
use Rattle.check_rules.specs.ExpressionRules.{Node, Shape}
use Rattle.check_rules.specs.Declarations.{name_by}
use Rattle.check_rules.specs.Initializers.{is_text}
use Rattle.check_globals.specs.declared.statics.Row.{Row}
use Rattle.check_globals.specs.Names as names
use Rattle.check_globals.specs.Statics as statics
use Rattle.check_globals.specs.Program as program
use Rattle.check_rules.specs.Walk.{Start, Nothing, Value, Values, InitParts, Declarations}
use Rattle.wf_growth_rules.specs.Light.{Light, After, Bounded, LightNode, Each, none, more}
use Rattle.wf_growth_rules.proofs.Walks.{weak, by_after, after, pure_light, lift_light, bind_light, light_first}
use Rattle.wf_growth_rules.proofs.States.{same_light, declare_light}
use Rattle.wf_growth_rules.specs.Parts.{LightStart, nothing, value, values, LightInit, LightDeclarations}

-- ---- names

note_light : (line : ℕ) (name : Name) → Bounded 0 (names.note line name)
note_light line name = by_after (λ s. same_light 0 s _ refl refl refl refl)

first_prototype_light : (line : ℕ) (name : Name) (t : CType) (s : State) →
    After 0 s (names.first_prototype line name t s)
first_prototype_light line name t s =
    after (weak 0 (bind_light (declare_light line name (meaning kind.Function t (tables.number name s.functions)))
    (λ u. note_light line name)) (omega arith)) s

known_prototype : (line : ℕ) (name : Name) (t : CType) (s : State) (m : Meaning) (d a b : Bool) →
    names.is_function m.kind ≡ a → same m.ctype t ≡ b →
    After 0 s (names.prototype_by (names.before_by d t (Some m)) line name t s)
known_prototype line name t s m d false b e h = rw e tt
known_prototype line name t s m true true b e h = rw e tt
known_prototype line name t s m false true true e h = rw (e, h) (after (note_light line name) s)
known_prototype line name t s m false true false e h = rw (e, h) tt

prototype_by_light : (line : ℕ) (name : Name) (t : CType) (s : State) (d : Bool) (m : Option Meaning) →
    After 0 s (names.prototype_by (names.before_by d t m) line name t s)
prototype_by_light line name t s d None = first_prototype_light line name t s
prototype_by_light line name t s d (Some m) =
    known_prototype line name t s m d (names.is_function m.kind) (same m.ctype t) refl refl

prototype_light : (line : ℕ) (name : Name) (t : CType) → Bounded 0 (names.prototype line name t)
unfolding names.prototype
prototype_light line name t =
    by_after (λ s. prototype_by_light line name t s (tables.is_defined name s.functions) (find s.scopes name))

with_global_light : (t : CType) (s : State) → Light 0 s (names.with_global t s)
with_global_light t s = same_light 0 s _ refl refl refl refl

first_variable_light : (line : ℕ) (name : Name) (t : CType) (s : State) → After 0 s (names.first_variable line name t s)
first_variable_light line name t s =
    after (weak {A = ℕ} 0 (light_first (names.with_global t) (with_global_light t)
    (bind_light (declare_light line name (meaning kind.Global t (names.address (images.place s.image))))
    (λ u. pure_light (images.place s.image)))) (omega arith)) s

known_variable : (line : ℕ) (name : Name) (t : CType) (s : State) (m : Meaning) (d a b : Bool) →
    names.is_function m.kind ≡ a → same m.ctype t ≡ b →
    After 0 s (names.variable_by (names.before_by d t (Some m)) line name t s)
known_variable line name t s m d false b e h = rw e tt
known_variable line name t s m true true b e h = rw e tt
known_variable line name t s m false true true e h = rw (e, h) tt
known_variable line name t s m false true false e h = rw (e, h) tt

variable_by_light : (line : ℕ) (name : Name) (t : CType) (s : State) (d : Bool) (m : Option Meaning) →
    After 0 s (names.variable_by (names.before_by d t m) line name t s)
variable_by_light line name t s d None = first_variable_light line name t s
variable_by_light line name t s d (Some m) =
    known_variable line name t s m d (names.is_function m.kind) (same m.ctype t) refl refl

variable_name_light : (line : ℕ) (name : Name) (t : CType) → Bounded 0 (names.variable line name t)
unfolding names.variable
variable_name_light line name t =
    by_after (λ s. variable_by_light line name t s (tables.is_defined name s.functions) (find s.scopes name))

-- ---- initializers

fill_light : (at : ℕ) (bytes : List ℕ) (s : State) → After 0 s (statics.fill at bytes s)
fill_light at bytes s = same_light 0 s _ refl refl refl refl

value_by_light : (line at : ℕ) (t : CType) (r : Result ℕ FaultKind) (s : State) →
    After 0 s (statics.value_by line at t r s)
value_by_light line at t (Ok n) s = fill_light at _ s
value_by_light line at t (Err k) s = tt

static_value_light : (line at : ℕ) (t : CType) (form string : Bool) (o : Operand) →
    Bounded 0 (statics.static_value line at t form string o)
unfolding statics.static_value
static_value_light line at t form string o =
    by_after (λ s. value_by_light line at t (statics.sized_word t (statics.static_word form string (value_of o) t)) s)

text_by_light : (b : Bool) (at : ℕ) (bytes : List ℕ) (s : State) (r : Checked (Unit {0} × State)) → After 0 s r →
    After 0 s (if b then r else statics.fill at bytes s)
text_by_light true at bytes s r h = h
text_by_light false at bytes s r h = fill_light at bytes s

static_text_light : (line at : ℕ) (t : CType) (bytes : List ℕ) → Bounded 0 (statics.static_text line at t bytes)
unfolding statics.static_text
static_text_light line at t bytes =
    by_after (λ s. text_by_light (statics.lacks_room (length (bytes ++ 0 ∷ [])) t) at (bytes ++ 0 ∷ []) s
    (refuse fault.BadArray line) tt)

list_by_light : (line at : ℕ) (bytes : List ℕ) (k : Option FaultKind) (s : State) →
    After 0 s (statics.list_by line at bytes k s)
list_by_light line at bytes None s = fill_light at bytes s
list_by_light line at bytes (Some k) s = tt

static_list_light : (line at : ℕ) (t : CType) (n : ℕ) (r : Row) → Bounded 0 (statics.static_list line at t n r)
unfolding statics.static_list
static_list_light line at t n r = by_after (λ s. list_by_light line at r.bytes (statics.row_breaks n t r) s)

row_light : (es : List Node) {w : ℕ} (t : CType) (r : Row) → Each LightNode w es → Bounded w (program.row es t r)
row_light [] t r none = pure_light r
row_light (e ∷ es) t r (more h hs) =
    bind_light (h.at stage.Function)
    (λ o. row_light es t (statics.row_more t e.written.constant (is_some e.written.string) o r) hs)

static_walked_light : {w : ℕ} (line at : ℕ) (t : CType) (e : Node) → LightNode w e →
    Bounded w (program.static_walked line at t e)
static_walked_light line at t e h =
    weak _ (bind_light (h.at stage.Function)
    (λ o. static_value_light line at t e.written.constant (is_some e.written.string) o)) (omega arith)

either_light : {A : Type 0} {w : ℕ} (b : Bool) (r q : Rule State A) → Bounded w r → Bounded w q →
    Bounded w (if b then r else q)
either_light true r q h k = h
either_light false r q h k = k

static_by_light : {w : ℕ} (line at : ℕ) (t : CType) (e : Node) (text : Option (List ℕ)) → LightNode w e →
    Bounded w (program.static_by line at t e text)
static_by_light line at t e None h = static_walked_light line at t e h
static_by_light line at t e (Some bytes) h =
    either_light (is_text t) _ _ (weak _ (static_text_light line at t bytes) (omega arith))
    (static_walked_light line at t e h)

static_begin_light : {w : ℕ} (line at : ℕ) (t : CType) (start : Start) → LightStart w start →
    Bounded w (program.static_begin line at t start)
static_begin_light line at t Nothing nothing = weak _ (pure_light tt) (omega arith)
static_begin_light line at t (Value e) (value h) = static_by_light line at t e e.written.string h
static_begin_light line at t (Values es) (values le hs) =
    weak _ (bind_light (row_light es (inner t) (statics.row_begun t) hs)
    (λ r. static_list_light line at t (length es) r)) (omega arith)

walked_light : (es : List Node) {w : ℕ} → Each LightNode w es → Bounded w (program.walked es)
walked_light [] none = pure_light tt
walked_light (e ∷ es) (more h hs) = bind_light (h.at stage.Function) (λ o. walked_light es hs)

no_start_light : {w : ℕ} (line : ℕ) (start : Start) → LightStart w start → Bounded w (program.no_start line start)
no_start_light line Nothing nothing = weak _ (pure_light tt) (omega arith)
no_start_light line (Value e) (value h) =
    weak _ (bind_light (h.at stage.Function) (λ o. lift_light (refuse {A = Unit {0}} fault.TypeMismatch line)))
    (omega arith)
no_start_light line (Values es) (values le hs) =
    weak _ (bind_light (walked_light es hs) (λ u. lift_light (refuse {A = Unit {0}} fault.TypeMismatch line)))
    (omega arith)

-- ---- declarations

prototype_rule : {w : ℕ} (line : ℕ) (t : CType) (d : Shape) (start : Start) → LightStart w start →
    Bounded w (program.prototype line t d start)
prototype_rule line t d start h =
    weak _ (bind_light (prototype_light line (name_by d.declared.name) t) (λ u. no_start_light line start h))
    (omega arith)

variable_rule : {w : ℕ} (line : ℕ) (t : CType) (d : Shape) (start : Start) → LightStart w start →
    Bounded w (program.variable line t d start)
variable_rule line t d start h =
    weak _ (bind_light (variable_name_light line (name_by d.declared.name) t)
    (λ at. static_begin_light line at t start h)) (omega arith)

global_light : {w : ℕ} (line : ℕ) (b : Base) (i : InitParts) → LightInit w i → Bounded w (program.global line b i)
global_light line b i h =
    weak _ (bind_light (bind_light (h.shape.at stage.Function) (λ ss. lift_light _))
    (λ t. either_light (is_function t) _ _ (prototype_rule line t i.shape i.start h.start)
    (variable_rule line t i.shape i.start h.start))) (omega arith)

globals_light : (is : List InitParts) {w : ℕ} (line : ℕ) (b : Base) → Each LightInit w is →
    Bounded w (program.globals line b is)
globals_light [] line b none = pure_light tt
globals_light (i ∷ is) line b (more h hs) = bind_light (global_light line b i h) (λ u. globals_light is line b hs)

pub declared_light : {w : ℕ} (d : Declarations) → LightDeclarations w d → Bounded w (program.declared d)
declared_light d h = weak _ (globals_light d.inits d.line d.base h.inits) (omega arith)
