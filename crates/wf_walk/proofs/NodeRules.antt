-- The rules of single nodes that constants are made of: of good operands they make a good one. This is the one place
-- here where the laws on single nodes are cited.
use Rattle.std.proofs.Common.{◌≡◌, ℕ, Bool, true, false, ◌&&◌, if◌then◌else◌, [], ◌∷◌, ap, ◌∙◌, Ok, Err}
use Rattle.icode_ops.specs.declared.kind.UnKind.{UnKind}
use Rattle.icode_ops.specs.declared.kind.UnKind.TheVariants as un
use Rattle.c_types.specs.declared.ctype.CType.{CType}
use Rattle.c_types.specs.declared.ctype.Layer.TheVariants as layer
use Rattle.check_types.specs.Shapes.{over}
use Rattle.tick_tree.specs.declared.base.BinaryOp.{BinaryOp}
use Rattle.tick_tree.specs.declared.base.StepOp.{StepOp}
use Rattle.tick_tree.specs.declared.base.UnaryOp.{UnaryOp}
use Rattle.tick_tree.specs.declared.base.UnaryOp.TheVariants as unary_op
use Rattle.tick_tree.specs.declared.fault.FaultKind.TheVariants as fault
use Rattle.tick_tree.specs.Faults.{Checked, refuse, ◌>>=◌}
use Rattle.typed_tree.specs.declared.expression.CaptureKind.{CaptureKind}
use Rattle.typed_tree.specs.declared.expression.Expr.{Expr}
use Rattle.typed_tree.specs.declared.expression.Expr.TheVariants as ex
use Rattle.check_operands.specs.declared.operand.Operand.{Operand}
use Rattle.check_operands.specs.declared.operand.Place.TheVariants as place
use Rattle.check_operands.specs.declared.operand.Value.{Value}
use Rattle.check_operands.specs.Operands as nodes
use Rattle.check_operands.specs.Operands.{value_of, settled, made}
use Rattle.check_operands.specs.Stages as stages
use Rattle.check_operands.specs.Places as places
use Rattle.check_rules.specs.declared.state.Stage.{Stage}
use Rattle.check_rules.specs.Productions
use Rattle.wellformed.specs.Places.{Around}
use Rattle.wellformed.specs.Values.{is_used}
use Rattle.wellformed.proofs.Equations.{part_capture}
use Rattle.wf_nodes.specs.Right.{Stands, IsRight, Unless}
use Rattle.wf_nodes.proofs.OperandScopes.{operands_stand, prefixes_stand, stages_stand}
use Rattle.wf_nodes.proofs.OperatorScopes.{operators_stand}
use Rattle.wf_nodes.proofs.PlaceScopes.{places_stand}
use Rattle.wf_nodes.specs.Used.{IsUsedValue, IsUsed, Unless as UnlessUsed}
use Rattle.wf_nodes.specs.Values.{IsCaptured}
use Rattle.wf_nodes.proofs.NodeValues.{nodes_use}
use Rattle.wf_nodes.proofs.OperandValues.{operands_use, prefixes_use}
use Rattle.wf_nodes.proofs.OperatorValues.{operators_use}
use Rattle.wf_nodes.proofs.PlaceValues.{places_use}
use Rattle.wf_nodes.proofs.Stages.{stages_use}
use Rattle.wf_walk.specs.Steps.{EachCapture}
use Rattle.wf_walk.specs.Good.{Good}

-- ---- rules that may be broken

pub record GoodValue (a : Around) (v : Value) : Type 0 where
  pub stands : Stands a v.code
  pub used : IsUsedValue v

together : (a : Around) (r : Checked Operand) → Unless (IsRight a) r → UnlessUsed IsUsed r → Unless (Good a) r
together a (Ok o) h k = (h, k)
together a (Err f) h k = tt

pub unless_next : {A B : Type 0} (P : A → Type 0) (Q : B → Type 0) (r : Checked A) (f : A → Checked B) → Unless P r →
    ((x : A) → P x → Unless Q (f x)) → Unless Q (r >>= f)
unless_next P Q (Ok x) f h k = k x h
unless_next P Q (Err e) f h k = tt

-- ---- operands

pub good_value : (a : Around) (o : Operand) → Good a o → GoodValue a (value_of o)
good_value a o h = record { stands = operands_stand.value a o h.0; used = operands_use.value o h.1 }

pub good_settled : (a : Around) (o : Operand) → Good a o → Good a (settled o)
good_settled a o h = (operands_stand.settled a o h.0, operands_use.settled o h.1)

pub good_number : (a : Around) (n : ℕ) (u : Bool) → Good a (nodes.number n u)
good_number a n u = (operands_stand.number a n u, operands_use.number n u)

pub good_character : (a : Around) (n : ℕ) → Good a (nodes.character n)
good_character a n = (operands_stand.character a n, operands_use.character n)

pub good_size : (a : Around) (line : ℕ) (t : CType) → Unless (Good a) (nodes.size line t)
good_size a line t = together a _ (operands_stand.size a line t) (operands_use.size line t)

-- ---- prefixes

good_on_integer : (a : Around) (line : ℕ) (k : UnKind) (v : Value) → GoodValue a v →
    Unless (Good a) (nodes.on_integer line k v)
good_on_integer a line k v h =
    together a _ (prefixes_stand.on_integer a line k v h.stands) (prefixes_use.on_integer line k v h.used)

good_negated : (a : Around) (line : ℕ) (v : Value) → GoodValue a v → Unless (Good a) (nodes.negated line v)
good_negated a line v h = together a _ (prefixes_stand.negated a line v h.stands) (prefixes_use.negated line v h.used)

good_plus : (a : Around) (line : ℕ) (v : Value) → GoodValue a v → Unless (Good a) (nodes.plus line v)
good_plus a line v h = together a _ (prefixes_stand.plus a line v h.stands) (prefixes_use.plus line v h.used)

good_dereferenced : (a : Around) (line : ℕ) (v : Value) → GoodValue a v → Unless (Good a) (nodes.dereferenced line v)
good_dereferenced a line v h =
    together a _ (prefixes_stand.dereferenced a line v h.stands) (prefixes_use.dereferenced line v h.used)

pub good_signed : (a : Around) (line : ℕ) (op : UnaryOp) (o : Operand) → Good a o →
    Unless (Good a) (Productions.signed_node line op o)
good_signed a line unary_op.Minus o h = good_on_integer a line un.Negate (value_of o) (good_value a o h)
good_signed a line unary_op.Complement o h = good_on_integer a line un.Complement (value_of o) (good_value a o h)
good_signed a line unary_op.Not o h = good_negated a line (value_of o) (good_value a o h)
good_signed a line unary_op.Plus o h = good_plus a line (value_of o) (good_value a o h)
good_signed a line unary_op.Star o h = good_plus a line (value_of o) (good_value a o h)
good_signed a line unary_op.Address o h = good_plus a line (value_of o) (good_value a o h)
good_signed a line unary_op.Dollar o h = good_plus a line (value_of o) (good_value a o h)
good_signed a line unary_op.Increment o h = good_plus a line (value_of o) (good_value a o h)
good_signed a line unary_op.Decrement o h = good_plus a line (value_of o) (good_value a o h)

left_if : (P : Operand → Type 0) (b : Bool) (r : Checked Operand) (o : Operand) → P o → Unless P r →
    Unless P (if b then r else Ok o)
left_if P true r o h k = k
left_if P false r o h k = h

good_left : (a : Around) (line : ℕ) (g : Stage) (o : Operand) → Good a o → Unless (Good a) (Productions.left line g o)
unfolding Productions.left
good_left a line g o h = left_if (Good a) (Productions.is_tick g && Productions.is_specification o.ctype)
    (refuse fault.StageInTick line) o h tt

pub good_star : (a : Around) (line : ℕ) (g : Stage) (o : Operand) → Good a o →
    Unless (Good a) (Productions.star_node line g o)
unfolding Productions.star_node
good_star a line g o h =
    unless_next (Good a) (Good a) (nodes.dereferenced line (value_of o)) (Productions.left line g)
    (good_dereferenced a line (value_of o) (good_value a o h)) (λ x k. good_left a line g x k)

pub good_cast : (a : Around) (line : ℕ) (t : CType) (o : Operand) → Good a o →
    Unless (Good a) (Productions.cast_node line t o)
unfolding Productions.cast_node
good_cast a line t o h =
    let v = good_value a o h in
    together a _ (prefixes_stand.cast a line t (value_of o) v.stands) (prefixes_use.cast line t (value_of o) v.used)

pub good_step : (a : Around) (line : ℕ) (s : StepOp) (o : Operand) → Good a o →
    Unless (Good a) (Productions.step_node line s o)
unfolding Productions.step_node
good_step a line s o h =
    let k = good_settled a o h in
    together a _ (places_stand.stepped a line s (settled o) k.0) (places_use.stepped line s (settled o) k.1)

-- ---- operators

pub good_binary : (a : Around) (line : ℕ) (op : BinaryOp) (o p : Operand) → Good a o → Good a p →
    Unless (Good a) (Productions.binary_node line op o p)
unfolding Productions.binary_node nodes.values
good_binary a line op o p h k =
    let v = good_value a o h in
    let w = good_value a p k in
    together a _ (operators_stand.binary a line op (value_of o) (value_of p) v.stands w.stands)
    (operators_use.binary line op (value_of o) (value_of p) v.used w.used)

-- ---- addresses

-- what stands at an address
abbrev in_memory : Expr → CType → Operand
in_memory e t = record { place = place.Memory e; ctype = t; zero = false }

pub good_address : (a : Around) (e : Expr) (t : CType) → Good a (in_memory e t) → Good a (made e (over layer.Pointer t))
unfolding places.address
good_address a e t h = together a (places.address 0 (in_memory e t)) (places_stand.address a 0 (in_memory e t) h.0)
    (places_use.address 0 (in_memory e t) h.1)

-- ---- captures

pub record GoodCapture (a : Around) (v : Value) : Type 0 where
  pub stands : Stands a v.code
  pub captured : IsCaptured v

captures : (a : Around) (r : Checked Value) → Unless (λ v. Stands a v.code) r → UnlessUsed IsCaptured r →
    Unless (GoodCapture a) r
captures a (Ok v) h k = record { stands = h; captured = k }
captures a (Err f) h k = tt

pub good_dollar : (a : Around) (line : ℕ) (o : Operand) → Good a o →
    Unless (GoodCapture a) (stages.dollar line (value_of o))
good_dollar a line o h =
    let v = good_value a o h in
    captures a _ (stages_stand.dollar a line (value_of o) v.stands) (stages_use.dollar line (value_of o) v.used)

-- one capture
pub one_capture : (a : Around) (k : CaptureKind) (e : Expr) → Stands a e → is_used e ≡ true →
    EachCapture a (ex.Capture k e ∷ [])
one_capture a k e h u = (ap (λ p. p.is_capture a) (part_capture k e) ∙ h, nodes_use.capture k e u, tt)
