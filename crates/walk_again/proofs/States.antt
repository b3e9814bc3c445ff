-- The steps on the state, once more.
use Rattle.std.proofs.Common.{◌≡◌, ℕ, ◌+◌, ◌≤◌, Bool, true, false, ◌||◌, if◌then◌else◌, List, []}
use Rattle.std.proofs.Common.{length, refl, ap, sym, ◌∙◌}
use Rattle.std.proofs.Common.{Option, Some, None, Ok, Err, slice_get, length-append, arith}
use Rattle.c_types.specs.declared.ctype.CType.{CType}
use Rattle.c_types.specs.Types.{layers_of}
use Rattle.check_scopes.specs.declared.names.Meaning.{Meaning}
use Rattle.check_scopes.specs.declared.names.MeaningKind.{MeaningKind}
use Rattle.check_scopes.specs.declared.names.MeaningKind.TheVariants as kind
use Rattle.check_scopes.specs.Scopes.{Name, find, in_scope, innermost}
use Rattle.check_declarators.specs.Making.{is_array}
use Rattle.check_types.specs.Shapes.{is_cspec, is_vspec, over, void}
use Rattle.c_types.specs.declared.ctype.Layer.TheVariants as layer
use Rattle.typed_tree.specs.declared.program.TickBody.TheVariants as body
use Rattle.tick_tree.specs.Faults.{Checked, ◌>>=◌ as ◌>>>=◌}
use Rattle.typed_tree.specs.declared.expression.Stmt.{Stmt}
use Rattle.typed_tree.specs.declared.program.TickBody.{TickBody}
use Rattle.check_operands.specs.declared.operand.Operand.{Operand}
use Rattle.check_operands.specs.Operands.{value_of}
use Rattle.check_operands.specs.Stages as stages
use Rattle.check_operands.specs.Places as places
use Rattle.tick_tree.specs.declared.base.UnaryOp.{UnaryOp}
use Rattle.tick_tree.specs.declared.base.UnaryOp.TheVariants as unary_op
use Rattle.check_operands.specs.declared.operand.Place.{Place}
use Rattle.check_operands.specs.declared.operand.Place.TheVariants as place
use Rattle.check_operands.specs.declared.operand.Value.{Value}
use Rattle.check_rules.specs.declared.state.Stage.{Stage}
use Rattle.check_rules.specs.declared.state.Stage.TheVariants as stage
use Rattle.check_rules.specs.declared.state.State.{State}
use Rattle.check_rules.specs.Blocks.{depth, enter, leave}
use Rattle.check_rules.specs.Locals as locals
use Rattle.check_rules.specs.Names as names
use Rattle.check_rules.specs.declared.frame.Home.{Home}
use Rattle.check_rules.specs.declared.frame.Home.TheVariants as home
use Rattle.check_rules.specs.declared.frame.Frame.{Frame}
use Rattle.check_rules.specs.Frames as frames
use Rattle.check_rules.specs.Images as images
use Rattle.check_rules.specs.Walks.{Rule, ◌>>=◌}
use Rattle.check_rules.specs.Productions as productions
use Rattle.walk_again.specs.Again.{Found, told, told_frame, Kept, After, Again}
use Rattle.walk_again.proofs.Steps.{kept_refl, same_kept, by_after, after, lift_after, lift_again, bind_again}

-- ---- names

-- an answer with its state, of each walk
abbrev pub Both : {A : Type 0} → Found → State → A × State → A × State → Type 0
Both k s x y = Kept s x.1 × (y ≡ (x.0, told k x.1))

pub both_after : {A : Type 0} (k : Found) (s : State) (x y : A × State) → Both k s x y →
    After {A = A} k s (Ok x) (Ok y)
both_after k s x y h = (h.0, λ z. ap (λ p. Ok p) h.1)

variable_by : (k : Found) (b c : Bool) (s : State) (x y z p q r : Operand × State) → Both k s x p → Both k s y q →
    Both k s z r →
    Both k s (if◌then◌else◌ {A = Operand × State} b x (if◌then◌else◌ {A = Operand × State} c y z))
    (if◌then◌else◌ {A = Operand × State} b p (if◌then◌else◌ {A = Operand × State} c q r))
variable_by k true c s x y z p q r h i j = h
variable_by k false true s x y z p q r h i j = i
variable_by k false false s x y z p q r h i j = j

outer_variable_again : (k : Found) (n : ℕ) (h : Home) (t : CType) (s : State) →
    Both k s (names.outer_variable n h t s) (names.outer_variable n h t (told k s))
outer_variable_again k n h t s =
    variable_by k (is_cspec t) (is_vspec t) s _ _ _ _ _ _ (same_kept s _ refl refl refl, refl) (
      same_kept s _
          refl refl refl,
      refl,
    )
    (same_kept s _ refl refl refl, refl)

outer_global_again : (k : Found) (n : ℕ) (t : CType) (s : State) →
    Both k s (names.outer_global n t s) (names.outer_global n t (told k s))
outer_global_again k n t s =
    variable_by k (is_cspec t) (is_vspec t) s _ _ _ _ _ _ (same_kept s _ refl refl refl, refl) (
      same_kept s _
          refl refl refl,
      refl,
    )
    (kept_refl s, refl)

in_tick_again : (k : Found) (n : ℕ) (t : CType) (h : Option Home) (s : State) →
    After k s (names.in_tick n t h s) (names.in_tick n t h (told k s))
in_tick_again k n t None s = (kept_refl s, λ z. refl)
in_tick_again k n t (Some h) s = both_after k s _ _ (outer_variable_again k n h t s)

under_dollar_again : (k : Found) (line n : ℕ) (t : CType) (h : Option Home) (s : State) →
    After k s (names.under_dollar line n t h s) (names.under_dollar line n t h (told k s))
under_dollar_again k line n t None s = tt
under_dollar_again k line n t (Some h) s = (kept_refl s, λ z. refl)

variable_again : (k : Found) (line : ℕ) (g : Stage) (n : ℕ) (t : CType) (s : State) →
    After k s (names.variable line g n t s) (names.variable line g n t (told k s))
variable_again k line stage.Function n t s = (kept_refl s, λ z. refl)
variable_again k line stage.Tick n t s = in_tick_again k n t (slice_get s.frame.homes n) s
variable_again k line stage.Dollar n t s = under_dollar_again k line n t (slice_get s.frame.homes n) s

any_parameter_again : (k : Found) (g : Stage) (n : ℕ) (t : CType) (s : State) →
    After k s (names.parameter g n t s) (names.parameter g n t (told k s))
any_parameter_again k stage.Function n t s = (kept_refl s, λ z. refl)
any_parameter_again k stage.Tick n t s =
    both_after k s _ _ (outer_variable_again k n (names.home_by (slice_get s.frame.homes n)) t s)
any_parameter_again k stage.Dollar n t s = (kept_refl s, λ z. refl)

global_again : (k : Found) (g : Stage) (n : ℕ) (t : CType) (s : State) →
    Both k s (names.global g n t s) (names.global g n t (told k s))
global_again k stage.Function n t s = (kept_refl s, refl)
global_again k stage.Tick n t s = outer_global_again k n t s
global_again k stage.Dollar n t s = (kept_refl s, refl)

meant_again : (k : Found) (line : ℕ) (g : Stage) (m : MeaningKind) (n : ℕ) (t : CType) (s : State) →
    After k s (names.meant line g m n t s) (names.meant line g m n t (told k s))
meant_again k line g kind.Variable n t s = variable_again k line g n t s
meant_again k line g kind.Parameter n t s = any_parameter_again k g n t s
meant_again k line g kind.Global n t s = both_after k s _ _ (global_again k g n t s)
meant_again k line g kind.Function n t s = (kept_refl s, λ z. refl)
meant_again k line g kind.Library n t s = tt

named_by_again : (k : Found) (line : ℕ) (g : Stage) (m : Option Meaning) (s : State) →
    After k s (names.named_by line g m s) (names.named_by line g m (told k s))
named_by_again k line g None s = tt
named_by_again k line g (Some m) s = meant_again k line g m.kind m.index m.ctype s

pub named_again : {k : Found} (line : ℕ) (g : Stage) (name : Name) → Again k (names.named line g name)
unfolding names.named
named_again {k = k} line g name = by_after (λ s e. named_by_again k line g (find s.scopes name) s)

-- ---- declarations

declared_by_again : (k : Found) (line : ℕ) (name : Name) (what : Meaning) (s : State) (m : Option Meaning) →
    After k s (names.declared_by line name what s m) (names.declared_by line name what (told k s) m)
declared_by_again k line name what s None = (same_kept s _ refl refl refl, λ z. refl)
declared_by_again k line name what s (Some m) = tt

pub declare_again : {k : Found} (line : ℕ) (name : Name) (what : Meaning) → Again k (names.declare line name what)
unfolding names.declare
declare_again {k = k} line name what =
    by_after (λ s e. declared_by_again k line name what s (in_scope (innermost s.scopes) name))

-- a name, and then the thing itself
declared_more : {A : Type 0} (k : Found) (line : ℕ) (name : Name) (what : Meaning) (s : State) (r : Rule State A) →
    s.frame.objects ≡ [] → Again k r →
    After k s ((names.declare line name what >>= (λ u. r)) s) ((names.declare line name what >>= (λ u. r)) (told k s))
declared_more k line name what s r e b = after (bind_again (declare_again line name what) (λ u. b)) s e

-- ---- variables

-- no earlier walk marked the next variable
unmarked : (f : Frame) → f.objects ≡ [] → frames.needs_address f ≡ false
unmarked f e = rw e refl

told_unmarked : (k : Found) (f : Frame) → frames.needs_address (told_frame k f) ≡ false
told_unmarked k f = k.unmarked (length f.done) (length f.homes)

same_object : (k : Found) (t : CType) (f : Frame) → f.objects ≡ [] →
    frames.is_object t (told_frame k f) ≡ frames.is_object t f
same_object k t f e = ap (λ b. is_array (layers_of t) || b) (told_unmarked k f ∙ sym (unmarked f e))

variable_of : (k : Found) (b : Bool) (t : CType) (f : Frame) →
    (if b then frames.object_variable (frames.words t) (told_frame k f) else frames.register_variable (told_frame
    k f))
    ≡ told_frame k (if b then frames.object_variable (frames.words t) f else frames.register_variable f)
variable_of k true t f = refl
variable_of k false t f = refl

variable_frame : (k : Found) (t : CType) (f : Frame) → f.objects ≡ [] →
    frames.variable t (told_frame k f) ≡ told_frame k (frames.variable t f)
unfolding frames.variable
variable_frame k t f e = rw (same_object k t f e) (variable_of k (frames.is_object t f) t f)

variable_objects_by : (b : Bool) (t : CType) (f : Frame) →
    (if b then frames.object_variable (frames.words t) f else frames.register_variable f).objects ≡ f.objects
variable_objects_by true t f = refl
variable_objects_by false t f = refl

variable_objects : (t : CType) (f : Frame) → (frames.variable t f).objects ≡ f.objects
unfolding frames.variable
variable_objects t f = variable_objects_by (frames.is_object t f) t f

home_again : (k : Found) (t : CType) (f : Frame) → f.objects ≡ [] →
    locals.next_home t (told_frame k f) ≡ locals.next_home t f
home_again k t f e = ap (λ b. if b then home.Object f.object else home.Register) (same_object k t f e)

pairs : {A B : Type 0} {a b : A} {c d : B} → a ≡ b → c ≡ d → ◌≡◌ {A = A × B} (a, c) (b, d)
pairs p q = cc

made_outer_again : (k : Found) (t : CType) (s : State) → s.frame.objects ≡ [] →
    Both k s (locals.made_outer t s) (locals.made_outer t (told k s))
made_outer_again k t s e = (
  same_kept s _ (variable_objects t s.frame) refl refl,
  ap (λ p. (
    names.operand (names.place_by (frames.number s.frame) p.0) t,
    record (told k s) { frame = p.1 },
  ))
      (pairs (home_again k t s.frame e) (variable_frame k t s.frame e)),
)

made_inner_again : (k : Found) (t : CType) (s : State) →
    Both k s (locals.made_inner t s) (locals.made_inner t (told k s))
made_inner_again k t s = (same_kept s _ refl refl refl, refl)

parameter_of : (k : Found) (b : Bool) (t : CType) (f : Frame) →
    (if b then frames.object_parameter t (told_frame k f) else frames.register_parameter t (told_frame k f))
    ≡ told_frame k (if b then frames.object_parameter t f else frames.register_parameter t f)
parameter_of k true t f = refl
parameter_of k false t f = refl

parameter_frame : (k : Found) (t : CType) (f : Frame) → f.objects ≡ [] →
    frames.parameter t (told_frame k f) ≡ told_frame k (frames.parameter t f)
unfolding frames.parameter
parameter_frame k t f e =
    rw (told_unmarked k f ∙ sym (unmarked f e)) (parameter_of k (frames.needs_address f) t f)

parameter_objects_by : (b : Bool) (t : CType) (f : Frame) →
    (if b then frames.object_parameter t f else frames.register_parameter t f).objects ≡ f.objects
parameter_objects_by true t f = refl
parameter_objects_by false t f = refl

parameter_objects : (t : CType) (f : Frame) → (frames.parameter t f).objects ≡ f.objects
unfolding frames.parameter
parameter_objects t f = parameter_objects_by (frames.needs_address f) t f

outer_local_again : {k : Found} (line : ℕ) (name : Name) (t : CType) → Again k (locals.outer_local line name t)
unfolding locals.outer_local
outer_local_again {k = k} line name t =
    by_after (λ s e. declared_more k line name _ s (λ z. Ok (locals.made_outer t z)) e
    (by_after (λ z o. both_after k z _ _ (made_outer_again k t z o))))

inner_local_again : {k : Found} (line : ℕ) (name : Name) (t : CType) → Again k (locals.inner_local line name t)
unfolding locals.inner_local
inner_local_again {k = k} line name t =
    by_after (λ s e. declared_more k line name _ s (λ z. Ok (locals.made_inner t z)) e
    (by_after (λ z o. both_after k z _ _ (made_inner_again k t z))))

-- a variable of a block
pub local_again : {k : Found} (g : Stage) (line : ℕ) (name : Name) (t : CType) → Again k (locals.local g line name t)
local_again stage.Function line name t = outer_local_again line name t
local_again stage.Tick line name t = inner_local_again line name t
local_again stage.Dollar line name t = outer_local_again line name t

abbrev with_frame : State → Frame → Unit {0} × State
with_frame s f = (tt, record s { frame = f })

pub with_parameter_again : (k : Found) (t : CType) (s : State) → s.frame.objects ≡ [] →
    Both {A = Unit {0}} k s (tt, locals.with_parameter t s) (tt, locals.with_parameter t (told k s))
with_parameter_again k t s e = (
  same_kept s _ (parameter_objects t s.frame) refl refl,
  ap (with_frame (told k s)) (parameter_frame k t s.frame e),
)

-- a parameter of the function
pub parameter_again : {k : Found} (line : ℕ) (name : Name) (t : CType) → Again k (locals.parameter line name t)
unfolding locals.parameter
parameter_again {k = k} line name t =
    by_after (λ s e. declared_more k line name _ s (λ z. Ok (tt, locals.with_parameter t z)) e
    (by_after (λ z o. both_after k z _ _ (with_parameter_again k t z o))))

list_same : (k : Found) (g : Stage) (t : CType) (f : Frame) →
    locals.list_meaning g t (told_frame k f) ≡ locals.list_meaning g t f
list_same k stage.Function t f = refl
list_same k stage.Tick t f = refl
list_same k stage.Dollar t f = refl

-- a parameter of a list
pub list_parameter_again : {k : Found} (g : Stage) (line : ℕ) (name : Name) (t : CType) →
    Again k (locals.list_parameter g line name t)
unfolding locals.list_parameter
list_parameter_again {k = k} g line name t =
    by_after (λ s e. rw (list_same k g t s.frame)
    (after (declare_again {k = k} line name (locals.list_meaning g t s.frame)) s e))

-- ---- blocks

pub depth_again : {k : Found} → Again k depth
depth_again = by_after (λ s e. (kept_refl s, λ z. refl))

pub enter_again : {k : Found} → Again k enter
unfolding enter
enter_again = by_after (λ s e. (same_kept s _ refl refl refl, λ z. refl))

pub leave_again : {k : Found} (n : ℕ) (outer : List Stmt) → Again k (leave n outer)
unfolding leave
leave_again n outer = by_after (λ s e. (same_kept s _ refl refl refl, λ z. refl))

-- ---- productions

address_by_again : (k : Found) (line : ℕ) (t : CType) (p : Place) (s : State) →
    After k s (productions.address_by line t p s) (productions.address_by line t p (told k s))
address_by_again k line t (place.Value e) s = tt
address_by_again k line t (place.Register i) s = (same_kept s _ refl refl refl, λ z. refl)
address_by_again k line t (place.Generated i) s = tt
address_by_again k line t (place.Memory a) s = (kept_refl s, λ z. refl)
address_by_again k line t (place.Function f) s = tt

address_at_again : (k : Found) (line : ℕ) (g : Stage) (o : Operand) (s : State) →
    After k s (productions.address_at line g o s) (productions.address_at line g o (told k s))
address_at_again k line stage.Function o s = address_by_again k line o.ctype o.place s
address_at_again k line stage.Tick o s = lift_after k (places.address line o) s
address_at_again k line stage.Dollar o s = address_by_again k line o.ctype o.place s

address_node_again : {k : Found} (line : ℕ) (g : Stage) (o : Operand) → Again k (productions.address_node line g o)
unfolding productions.address_node
address_node_again {k = k} line g o = by_after (λ s e. address_at_again k line g o s)

dollar_after : (k : Found) (v : Checked Value) (s : State) →
    After k s (v >>>= (λ v. Ok (productions.dollar_by v s))) (v >>>= (λ v. Ok (productions.dollar_by v (told k s))))
dollar_after k (Ok v) s = (same_kept s _ refl refl refl, λ z. refl)
dollar_after k (Err f) s = tt

dollar_node_again : {k : Found} (line : ℕ) (o : Operand) → Again k (productions.dollar_node line o)
unfolding productions.dollar_node
dollar_node_again {k = k} line o = by_after (λ s e. dollar_after k (stages.dollar line (value_of o)) s)

-- an operator before its operand
pub unary_node_again : {k : Found} (line : ℕ) (op : UnaryOp) (g : Stage) (o : Operand) →
    Again k (productions.unary_node line op g o)
unary_node_again line unary_op.Plus g o = lift_again _
unary_node_again line unary_op.Minus g o = lift_again _
unary_node_again line unary_op.Complement g o = lift_again _
unary_node_again line unary_op.Not g o = lift_again _
unary_node_again line unary_op.Star g o = lift_again _
unary_node_again line unary_op.Address g o = address_node_again line g o
unary_node_again line unary_op.Dollar g o = dollar_node_again line o
unary_node_again line unary_op.Increment g o = lift_again _
unary_node_again line unary_op.Decrement g o = lift_again _

-- a string adds its zero byte at least
more_strings : (bytes : List ℕ) (s : State) →
    length s.image.strings + 1 ≤ length (images.with_string bytes s.image).strings
more_strings bytes s = simp length-append (omega arith)

pub string_node_again : {k : Found} (bytes : List ℕ) → Again k (λ s. Ok (productions.string_node bytes s))
string_node_again {k = k} bytes = by_after (λ s e. (
  record { objects = refl; strings = omega (arith, more_strings bytes s); prototypes = omega arith },
  λ z. absurd (omega (arith, more_strings bytes s, z.strings)),
))

-- into a tick, which has captured nothing and has no variable
pub entered_kept : (s : State) → Kept s (productions.tick_entered s)
entered_kept s = same_kept s _ refl refl refl

pub entered_again : (k : Found) (s : State) →
    productions.tick_entered (told k s) ≡ told k (productions.tick_entered s)
entered_again k s = refl

tick_left_again : (k : Found) (b : TickBody) (t : CType) (s : State) →
    Both k s (productions.tick_left b t s) (productions.tick_left b t (told k s))
tick_left_again k b t s = (same_kept s _ refl refl refl, refl)

-- after a tick of an expression
pub expression_again : {k : Found} (o : Operand) → Again k (λ z. Ok (productions.tick_expression o z))
unfolding productions.tick_expression
expression_again {k = k} o = by_after
    (λ s e. both_after k s _ _ (tick_left_again k (body.Expression (value_of o).code) (stages.specification
    (value_of o).ctype) s))

-- after a tick of a block
pub left_again : {k : Found} (b : Stmt) → Again k (λ z. Ok (productions.tick_block b z))
left_again {k = k} b =
    by_after (λ s e. both_after k s _ _ (tick_left_again k (body.Statement b) (over layer.Cspec void) s))
