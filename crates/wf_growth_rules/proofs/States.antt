-- What the steps on the state make grow.
use Rattle.std.proofs.Common.{◌≡◌, ℕ, ◌+◌, ◌≤◌, Bool, true, false, if◌then◌else◌, List, [], ◌∷◌, ◌++◌, length, refl}
use Rattle.std.proofs.Common.{Option, Some, None, Ok, Err, slice_get, length-append, arith}
use Rattle.c_types.specs.declared.ctype.CType.{CType}
use Rattle.check_scopes.specs.declared.names.Meaning.{Meaning}
use Rattle.check_scopes.specs.declared.names.MeaningKind.{MeaningKind}
use Rattle.check_scopes.specs.declared.names.MeaningKind.TheVariants as kind
use Rattle.check_scopes.specs.Scopes.{Name, find, in_scope, innermost}
use Rattle.check_types.specs.Shapes.{is_cspec, is_vspec, over, void}
use Rattle.c_types.specs.declared.ctype.Layer.TheVariants as layer
use Rattle.typed_tree.specs.declared.program.TickBody.TheVariants as body
use Rattle.tick_tree.specs.Faults.{Checked, ◌>>=◌ as ◌>>>=◌}
use Rattle.typed_tree.specs.declared.expression.CaptureKind.{CaptureKind}
use Rattle.typed_tree.specs.declared.expression.Expr.{Expr}
use Rattle.typed_tree.specs.declared.expression.Stmt.{Stmt}
use Rattle.typed_tree.specs.declared.program.TickBody.{TickBody}
use Rattle.check_operands.specs.declared.operand.Operand.{Operand}
use Rattle.check_operands.specs.Operands.{value_of}
use Rattle.check_operands.specs.Stages as stages
use Rattle.check_operands.specs.Places as places
use Rattle.tick_tree.specs.declared.base.UnaryOp.{UnaryOp}
use Rattle.tick_tree.specs.declared.base.UnaryOp.TheVariants as unary_op
use Rattle.check_operands.specs.declared.operand.Place.{Place}
use Rattle.check_operands.specs.declared.operand.Place.TheVariants as place
use Rattle.check_operands.specs.declared.operand.Value.{Value}
use Rattle.check_rules.specs.declared.state.Stage.{Stage}
use Rattle.check_rules.specs.declared.state.Stage.TheVariants as stage
use Rattle.check_rules.specs.declared.state.State.{State}
use Rattle.check_rules.specs.Blocks.{depth, enter, leave}
use Rattle.check_rules.specs.Locals as locals
use Rattle.check_rules.specs.Names as names
use Rattle.check_rules.specs.declared.frame.Home.{Home}
use Rattle.check_rules.specs.declared.frame.Frame.{Frame}
use Rattle.check_rules.specs.Frames as frames
use Rattle.check_rules.specs.Walks.{Rule, ◌>>=◌}
use Rattle.check_rules.specs.Productions as productions
use Rattle.wf_growth_rules.specs.Light.{Light, After, Bounded}
use Rattle.wf_growth_rules.proofs.Walks.{light_refl, weak, by_after, after, lift_after, lift_light, bind_light}

-- ---- tables

-- where the counted tables stay, whatever else changes
pub same_light : (w : ℕ) (s new : State) → new.ticks.captures ≡ s.ticks.captures → new.frame.inner ≡ s.frame.inner →
    new.frame.homes ≡ s.frame.homes → new.ticks.all ≡ s.ticks.all → Light w s new
same_light w s new a b c d =
    record {
      captures = rw a (omega arith);
      inner = omega arith;
      homes = rw c (omega arith);
      ticks =
          rw d (omega arith);
    }

pub one_more : {A : Type 0} (xs : List A) (x : A) → length (xs ++ x ∷ []) ≤ length xs + 1
one_more xs x = simp length-append (omega arith)

captured_light : (k : CaptureKind) (e : Expr) (s : State) → Light 1 s (names.captured k e s)
captured_light k e s = record { captures = one_more _ _; inner = omega arith; homes = omega arith; ticks = omega arith }

-- ---- names

variable_by : (b c : Bool) (s : State) (x y z : Operand × State) → Light 1 s x.1 → Light 1 s y.1 → Light 1 s z.1 →
    Light 1 s (if◌then◌else◌ {A = Operand × State} b x (if◌then◌else◌ {A = Operand × State} c y z)).1
variable_by true c s x y z k l m = k
variable_by false true s x y z k l m = l
variable_by false false s x y z k l m = m

object_light : (n : ℕ) (h : Home) (t : CType) (s : State) → Light 1 s (names.outer_object n h t s).1
object_light n h t s = record { captures = one_more _ _; inner = omega arith; homes = omega arith; ticks = omega arith }

outer_variable_light : (n : ℕ) (h : Home) (t : CType) (s : State) → Light 1 s (names.outer_variable n h t s).1
outer_variable_light n h t s =
    variable_by (is_cspec t) (is_vspec t) s _ _ _ (captured_light _ _ s) (captured_light _ _ s) (object_light n h t s)

outer_global_light : (n : ℕ) (t : CType) (s : State) → Light 1 s (names.outer_global n t s).1
outer_global_light n t s =
    variable_by (is_cspec t) (is_vspec t) s _ _ _ (captured_light _ _ s) (captured_light _ _ s) (light_refl 1 s)

in_tick_light : (n : ℕ) (t : CType) (h : Option Home) (s : State) → After 1 s (names.in_tick n t h s)
in_tick_light n t None s = light_refl 1 s
in_tick_light n t (Some h) s = outer_variable_light n h t s

under_dollar_light : (line n : ℕ) (t : CType) (h : Option Home) (s : State) →
    After 1 s (names.under_dollar line n t h s)
under_dollar_light line n t None s = tt
under_dollar_light line n t (Some h) s = light_refl 1 s

variable_light : (line : ℕ) (g : Stage) (n : ℕ) (t : CType) (s : State) → After 1 s (names.variable line g n t s)
variable_light line stage.Function n t s = light_refl 1 s
variable_light line stage.Tick n t s = in_tick_light n t (slice_get s.frame.homes n) s
variable_light line stage.Dollar n t s = under_dollar_light line n t (slice_get s.frame.homes n) s

any_parameter_light : (g : Stage) (n : ℕ) (t : CType) (s : State) → After 1 s (names.parameter g n t s)
any_parameter_light stage.Function n t s = light_refl 1 s
any_parameter_light stage.Tick n t s = outer_variable_light n (names.home_by (slice_get s.frame.homes n)) t s
any_parameter_light stage.Dollar n t s = light_refl 1 s

global_light : (g : Stage) (n : ℕ) (t : CType) (s : State) → Light 1 s (names.global g n t s).1
global_light stage.Function n t s = light_refl 1 s
global_light stage.Tick n t s = outer_global_light n t s
global_light stage.Dollar n t s = light_refl 1 s

meant_light : (line : ℕ) (g : Stage) (k : MeaningKind) (n : ℕ) (t : CType) (s : State) →
    After 1 s (names.meant line g k n t s)
meant_light line g kind.Variable n t s = variable_light line g n t s
meant_light line g kind.Parameter n t s = any_parameter_light g n t s
meant_light line g kind.Global n t s = global_light g n t s
meant_light line g kind.Function n t s = light_refl 1 s
meant_light line g kind.Library n t s = tt

named_by_light : (line : ℕ) (g : Stage) (m : Option Meaning) (s : State) → After 1 s (names.named_by line g m s)
named_by_light line g None s = tt
named_by_light line g (Some m) s = meant_light line g m.kind m.index m.ctype s

pub named_light : (line : ℕ) (g : Stage) (name : Name) → Bounded 1 (names.named line g name)
unfolding names.named
named_light line g name = by_after (λ s. named_by_light line g (find s.scopes name) s)

-- ---- declarations

declared_by_light : (line : ℕ) (name : Name) (what : Meaning) (s : State) (m : Option Meaning) →
    After 0 s (names.declared_by line name what s m)
declared_by_light line name what s None = same_light 0 s _ refl refl refl refl
declared_by_light line name what s (Some m) = tt

pub declare_light : (line : ℕ) (name : Name) (what : Meaning) → Bounded 0 (names.declare line name what)
unfolding names.declare
declare_light line name what = by_after (λ s. declared_by_light line name what s (in_scope (innermost s.scopes) name))

-- a name, and then the thing itself
declared_more : {A : Type 0} {w : ℕ} (line : ℕ) (name : Name) (what : Meaning) (s : State) (r : Rule State A) →
    Bounded w r → After w s ((names.declare line name what >>= (λ u. r)) s)
declared_more {w = w} line name what s r b =
    after (weak w (bind_light (declare_light line name what) (λ u. b)) (omega arith)) s

-- ---- variables

pub variable_homes : (b : Bool) (x y : Frame) (n : ℕ) → length x.homes ≤ n → length y.homes ≤ n →
    length (if b then x else y).homes ≤ n
variable_homes true x y n h k = h
variable_homes false x y n h k = k

pub variable_inner : (b : Bool) (x y : Frame) (n : ℕ) → x.inner ≤ n → y.inner ≤ n → (if b then x else y).inner ≤ n
variable_inner true x y n h k = h
variable_inner false x y n h k = k

made_outer_light : (t : CType) (s : State) → Light 1 s (locals.made_outer t s).1
unfolding frames.variable
made_outer_light t s = record {
  captures = omega arith;
  inner = variable_inner (frames.is_object t s.frame) _ _ (s.frame.inner + 1) (omega arith) (omega arith);
  homes = variable_homes (frames.is_object t s.frame) _ _ (length s.frame.homes + 1) (one_more _ _) (one_more _ _);
  ticks = omega arith;
}

made_inner_light : (t : CType) (s : State) → Light 1 s (locals.made_inner t s).1
made_inner_light t s = record { captures = omega arith; inner = omega arith; homes = omega arith; ticks = omega arith }

pub with_parameter_light : (t : CType) (s : State) → Light 1 s (locals.with_parameter t s)
unfolding frames.parameter
with_parameter_light t s = record {
  captures = omega arith;
  inner = variable_inner (frames.needs_address s.frame) _ _ (s.frame.inner + 1) (omega arith) (omega arith);
  homes = variable_homes (frames.needs_address s.frame) _ _ (length s.frame.homes + 1) (one_more _ _) (one_more _ _);
  ticks = omega arith;
}

outer_local_light : (line : ℕ) (name : Name) (t : CType) → Bounded 1 (locals.outer_local line name t)
unfolding locals.outer_local
outer_local_light line name t =
    by_after (λ s. declared_more line name _ s (λ z. Ok (locals.made_outer t z)) (by_after (made_outer_light t)))

inner_local_light : (line : ℕ) (name : Name) (t : CType) → Bounded 1 (locals.inner_local line name t)
unfolding locals.inner_local
inner_local_light line name t =
    by_after (λ s. declared_more line name _ s (λ z. Ok (locals.made_inner t z)) (by_after (made_inner_light t)))

-- a variable of a block
pub local_light : (g : Stage) (line : ℕ) (name : Name) (t : CType) → Bounded 1 (locals.local g line name t)
local_light stage.Function line name t = outer_local_light line name t
local_light stage.Tick line name t = inner_local_light line name t
local_light stage.Dollar line name t = outer_local_light line name t

-- a parameter of the function
pub parameter_light : (line : ℕ) (name : Name) (t : CType) → Bounded 1 (locals.parameter line name t)
unfolding locals.parameter
parameter_light line name t =
    by_after (λ s. declared_more line name _ s (λ z. Ok (tt, locals.with_parameter t z))
    (by_after (with_parameter_light t)))

-- a parameter of a list
pub list_parameter_light : (g : Stage) (line : ℕ) (name : Name) (t : CType) →
    Bounded 0 (locals.list_parameter g line name t)
unfolding locals.list_parameter
list_parameter_light g line name t = by_after (λ s. after (declare_light line name (locals.list_meaning g t s.frame)) s)

-- ---- blocks

pub depth_light : Bounded 0 depth
depth_light = by_after (λ s. light_refl 0 s)

pub enter_light : Bounded 0 enter
unfolding enter
enter_light = by_after (λ s. same_light 0 s _ refl refl refl refl)

pub leave_light : (n : ℕ) (outer : List Stmt) → Bounded 0 (leave n outer)
unfolding leave
leave_light n outer = by_after (λ s. same_light 0 s _ refl refl refl refl)

-- ---- productions

address_by_light : (line : ℕ) (t : CType) (p : Place) (s : State) → After 0 s (productions.address_by line t p s)
address_by_light line t (place.Value e) s = tt
address_by_light line t (place.Register i) s = same_light 0 s _ refl refl refl refl
address_by_light line t (place.Generated i) s = tt
address_by_light line t (place.Memory a) s = light_refl 0 s
address_by_light line t (place.Function f) s = tt

address_at_light : (line : ℕ) (g : Stage) (o : Operand) (s : State) → After 0 s (productions.address_at line g o s)
address_at_light line stage.Function o s = address_by_light line o.ctype o.place s
address_at_light line stage.Tick o s = lift_after (places.address line o) s
address_at_light line stage.Dollar o s = address_by_light line o.ctype o.place s

address_node_light : (line : ℕ) (g : Stage) (o : Operand) → Bounded 0 (productions.address_node line g o)
unfolding productions.address_node
address_node_light line g o = by_after (λ s. address_at_light line g o s)

dollar_after : (v : Checked Value) (s : State) → After 1 s (v >>>= (λ v. Ok (productions.dollar_by v s)))
dollar_after (Ok v) s = captured_light _ _ s
dollar_after (Err f) s = tt

dollar_node_light : (line : ℕ) (o : Operand) → Bounded 1 (productions.dollar_node line o)
unfolding productions.dollar_node
dollar_node_light line o = by_after (λ s. dollar_after (stages.dollar line (value_of o)) s)

-- an operator before its operand
pub unary_node_light : (line : ℕ) (op : UnaryOp) (g : Stage) (o : Operand) →
    Bounded 1 (productions.unary_node line op g o)
unary_node_light line unary_op.Plus g o = weak 1 (lift_light _) (omega arith)
unary_node_light line unary_op.Minus g o = weak 1 (lift_light _) (omega arith)
unary_node_light line unary_op.Complement g o = weak 1 (lift_light _) (omega arith)
unary_node_light line unary_op.Not g o = weak 1 (lift_light _) (omega arith)
unary_node_light line unary_op.Star g o = weak 1 (lift_light _) (omega arith)
unary_node_light line unary_op.Address g o = weak 1 (address_node_light line g o) (omega arith)
unary_node_light line unary_op.Dollar g o = dollar_node_light line o
unary_node_light line unary_op.Increment g o = weak 1 (lift_light _) (omega arith)
unary_node_light line unary_op.Decrement g o = weak 1 (lift_light _) (omega arith)

pub string_node_light : (bytes : List ℕ) → Bounded 0 (λ s. Ok (productions.string_node bytes s))
string_node_light bytes = by_after (λ s. same_light 0 s _ refl refl refl refl)

-- into a tick, which has captured nothing and has no variable
pub entered_light : (s : State) → Light 0 s (productions.tick_entered s)
entered_light s = record { captures = omega arith; inner = omega arith; homes = omega arith; ticks = omega arith }

tick_left_light : (b : TickBody) (t : CType) (s : State) → Light 1 s (productions.tick_left b t s).1
tick_left_light b t s = record
    { captures = omega arith; inner = omega arith; homes = omega arith; ticks = one_more _ _ }

-- after a tick of an expression
pub expression_light : (o : Operand) → Bounded 1 (λ z. Ok (productions.tick_expression o z))
unfolding productions.tick_expression
expression_light o = by_after
    (λ s. tick_left_light (body.Expression (value_of o).code) (stages.specification (value_of o).ctype) s)

-- after a tick of a block
pub left_light : (b : Stmt) → Bounded 1 (λ z. Ok (productions.tick_block b z))
left_light b = by_after (λ s. tick_left_light (body.Statement b) (over layer.Cspec void) s)
