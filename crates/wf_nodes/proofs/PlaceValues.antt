-- The rules on what changes a place, or takes its address.
use Rattle.std.proofs.Common.{◌≡◌, ℕ, true, false, refl, Option, Some, None}
use Rattle.c_types.specs.declared.ctype.CType.{CType}
use Rattle.c_types.specs.declared.ctype.Integer.{Integer}
use Rattle.c_types.specs.declared.ctype.Integer.TheVariants as kind
use Rattle.c_types.specs.declared.ctype.Layer.TheVariants as layer
use Rattle.check_types.specs.Shapes.{integer_of, is_void, width_of, narrowing}
use Rattle.tick_tree.specs.declared.base.ModifyOp.{ModifyOp}
use Rattle.tick_tree.specs.declared.base.StepOp.{StepOp}
use Rattle.tick_tree.specs.declared.fault.FaultKind.TheVariants as fault
use Rattle.typed_tree.specs.declared.expression.Expr.{Expr}
use Rattle.typed_tree.specs.declared.expression.Expr.TheVariants as ex
use Rattle.check_operands.specs.declared.operand.Operand.{Operand}
use Rattle.check_operands.specs.declared.operand.Place.{Place}
use Rattle.check_operands.specs.declared.operand.Place.TheVariants as place
use Rattle.check_operands.specs.declared.operand.Value.{Value}
use Rattle.check_operands.specs.declared.combined.Combined.{Combined}
use Rattle.check_operands.specs.declared.combined.Combined.TheVariants as by_form
use Rattle.check_operands.specs.Operands.{converted}
use Rattle.check_operands.specs.Operators.{built, combine}
use Rattle.check_operands.specs.Places.{is_place, place_breaks, void_breaks, mismatches, assign_breaks, stored, assign}
use Rattle.check_operands.specs.Places.{operator_of, comes_back, narrowing_of, narrowed, kind_in, right_in, changed}
use Rattle.check_operands.specs.Places.{modified, modify_by, modify, step_of, step_kind, stepped_by, stepped, amount}
use Rattle.check_operands.specs.Places.{posted, post_by, post, address_of, address}
use Rattle.wf_nodes.specs.Used.{Leaves, IsUsedValue, UsedPlace, IsUsed, Unless}
use Rattle.wf_nodes.specs.Values.{PlacesUse}
use Rattle.wf_nodes.proofs.Broken.{unless_by, no_fault, no_other, is_so, no_first}
use Rattle.wf_nodes.proofs.NodeValues.{as_used, left_of, const_left, var_left, generated_left, set_left}
use Rattle.wf_nodes.proofs.NodeValues.{set_generated_left}
use Rattle.wf_nodes.proofs.NodeValues.{post_variable_left, post_generated_left, store_left, modify_left, post_left}
use Rattle.wf_nodes.proofs.OperandValues.{converted_by_left, converted_left}
use Rattle.wf_nodes.proofs.Combining.{value_of_operator}
use Rattle.wf_nodes.proofs.OperatorValues.{scaled_left, built_left}
use Rattle.wf_nodes.proofs.Types.{layer_type}

-- what can be set isn't void
place_type : (p : Place) (t : CType) → is_place p ≡ true → UsedPlace p t → is_void t ≡ false
place_type (place.Value e) t h u = cc
place_type (place.Register i) t h u = u
place_type (place.Generated i) t h u = u
place_type (place.Memory e) t h u = u.type
place_type (place.Function f) t h u = cc

-- ---- `=`

stored_left : (p : Place) (t : CType) (e : Expr) → UsedPlace p t → Leaves e → Leaves (stored p t e)
stored_left (place.Value x) t e h k = k
stored_left (place.Register i) t e h k = set_left i e k
stored_left (place.Generated i) t e h k = set_generated_left i e k
stored_left (place.Memory x) t e h k = store_left (width_of t) x e h.address k
stored_left (place.Function f) t e h k = k

assigned_place : (o : Operand) (v : Value) → assign_breaks o v ≡ None → place_breaks o (void_breaks v) ≡ None
assigned_place o v k = no_other (mismatches o.ctype v) fault.TypeMismatch _ k

assign_used : (line : ℕ) (o : Operand) (v : Value) → IsUsed o → IsUsedValue v → Unless IsUsed (assign line o v)
unfolding assign
assign_used line o v h u =
    unless_by IsUsed line _ _
    (λ k. let p : place_breaks o (void_breaks v) ≡ None = assigned_place o v k in
    let n : is_void v.ctype ≡ false =
    no_fault (is_void v.ctype) fault.VoidValue None (no_first (is_place o.place) fault.NotPlace _ p) in
    as_used o.ctype _ (stored_left o.place o.ctype (converted v o.ctype) h
    (converted_left v o.ctype (left_of v.ctype v.code u n)))
    (place_type o.place o.ctype (is_so (is_place o.place) fault.NotPlace _ p) h))

-- ---- `op=`

narrowing_left : (k : Option Integer) (e : Expr) → Leaves e → Leaves (narrowing_of k e)
narrowing_left None e h = h
narrowing_left (Some k) e h = converted_by_left (narrowing k) e h

narrowed_left : (t : CType) (e : Expr) → Leaves e → Leaves (narrowed t e)
narrowed_left t e h = narrowing_left (integer_of t) e h

right_left : (c : Combined) (e : Expr) → Leaves e → Leaves (right_in c e)
right_left (by_form.Words k t) e h = h
right_left (by_form.ScaledRight k n) e h = scaled_left e n h
right_left (by_form.ScaledLeft n) e h = h
right_left (by_form.Divided n) e h = h

changed_left : (c : Combined) (p : Place) (t : CType) (e : Expr) → UsedPlace p t → Leaves e → Leaves (changed c p t e)
changed_left c (place.Value x) t e h k = k
changed_left c (place.Register i) t e h k =
    set_left i _ (narrowed_left t (built c (ex.Var i) e) (built_left c (ex.Var i) e (var_left i) k))
changed_left c (place.Generated i) t e h k = set_generated_left i _ (built_left c (ex.VGet i) e (generated_left i) k)
changed_left c (place.Memory x) t e h k =
    modify_left (width_of t) (kind_in c) x (right_in c e) h.address (right_left c e k)
changed_left c (place.Function f) t e h k = k

modified_used : (line : ℕ) (c : Combined) (o : Operand) (e : Expr) → IsUsed o → (comes_back c ≡ true → Leaves e) →
    Unless IsUsed (modified line c o e)
modified_used line c o e h k =
    unless_by IsUsed line _ _
    (λ b. as_used o.ctype _ (changed_left c o.place o.ctype e h (k (is_so (comes_back c) fault.TypeMismatch _ b)))
    (place_type o.place o.ctype
    (is_so (is_place o.place) fault.NotPlace None (no_first (comes_back c) fault.TypeMismatch _ b)) h))

modify_by_used : (line : ℕ) (o : Operand) (v : Value) (c : Option Combined) →
    ((d : Combined) → c ≡ Some d → comes_back d ≡ true → Leaves v.code) → IsUsed o →
    Unless IsUsed (modify_by line o v c)
modify_by_used line o v None k h = tt
modify_by_used line o v (Some c) k h = modified_used line c o v.code h (k c refl)

modify_used : (line : ℕ) (m : ModifyOp) (o : Operand) (v : Value) → IsUsed o → IsUsedValue v →
    Unless IsUsed (modify line m o v)
unfolding modify
modify_used line m o v h u =
    modify_by_used line o v (combine (operator_of m) o.ctype false v.ctype v.zero)
    (λ d e b. left_of v.ctype v.code u (value_of_operator (operator_of m) o.ctype false v.ctype v.zero d e b)) h

-- ---- `++` and `--`

stepped_by_used : (line : ℕ) (s : StepOp) (o : Operand) (n : Option ℕ) → IsUsed o →
    Unless IsUsed (stepped_by line s o n)
stepped_by_used line s o None h = tt
stepped_by_used line s o (Some n) h =
    modified_used line (by_form.Words (step_kind s) kind.Int) o (ex.Const n) h (λ b. const_left n)

stepped_used : (line : ℕ) (s : StepOp) (o : Operand) → IsUsed o → Unless IsUsed (stepped line s o)
unfolding stepped
stepped_used line s o h = stepped_by_used line s o (step_of o.ctype) h

posted_left : (p : Place) (t : CType) (n : ℕ) → is_place p ≡ true → UsedPlace p t → Leaves (posted p t n)
posted_left (place.Value x) t n h u = cc
posted_left (place.Register i) t n h u = post_variable_left i (width_of t) n
posted_left (place.Generated i) t n h u = post_generated_left i n
posted_left (place.Memory x) t n h u = post_left (width_of t) n x u.address
posted_left (place.Function f) t n h u = const_left f

post_by_used : (line : ℕ) (s : StepOp) (o : Operand) (n : Option ℕ) → IsUsed o → Unless IsUsed (post_by line s o n)
post_by_used line s o None h = tt
post_by_used line s o (Some n) h =
    unless_by IsUsed line _ _
    (λ b. let p : is_place o.place ≡ true = is_so (is_place o.place) fault.NotPlace None b in
    as_used o.ctype _ (posted_left o.place o.ctype (amount s n) p h) (place_type o.place o.ctype p h))

post_used : (line : ℕ) (s : StepOp) (o : Operand) → IsUsed o → Unless IsUsed (post line s o)
unfolding post
post_used line s o h = post_by_used line s o (step_of o.ctype) h

-- ---- `&`

address_of_used : (line : ℕ) (p : Place) (t : CType) → UsedPlace p t → Unless IsUsed (address_of line p t)
address_of_used line (place.Value e) t h = tt
address_of_used line (place.Register i) t h = tt
address_of_used line (place.Generated i) t h = tt
address_of_used line (place.Memory e) t h = as_used _ e h.address (layer_type layer.Pointer t)
address_of_used line (place.Function f) t h = tt

address_used : (line : ℕ) (o : Operand) → IsUsed o → Unless IsUsed (address line o)
unfolding address
address_used line o h = address_of_used line o.place o.ctype h

pub places_use : PlacesUse
places_use = record {
  assign = assign_used;
  modify = modify_used;
  stepped = stepped_used;
  post = post_used;
  address = address_used;
}
