-- The rules on what changes a place, or takes its address.
use Rattle.std.proofs.Common.{ℕ, false, Option, Some, None}
use Rattle.c_types.specs.declared.ctype.CType.{CType}
use Rattle.c_types.specs.declared.ctype.Integer.{Integer}
use Rattle.c_types.specs.declared.ctype.Integer.TheVariants as kind
use Rattle.check_types.specs.Shapes.{integer_of, width_of, narrowing}
use Rattle.tick_tree.specs.declared.base.ModifyOp.{ModifyOp}
use Rattle.tick_tree.specs.declared.base.StepOp.{StepOp}
use Rattle.typed_tree.specs.declared.expression.Expr.{Expr}
use Rattle.typed_tree.specs.declared.expression.Expr.TheVariants as ex
use Rattle.check_operands.specs.declared.operand.Operand.{Operand}
use Rattle.check_operands.specs.declared.operand.Place.{Place}
use Rattle.check_operands.specs.declared.operand.Place.TheVariants as place
use Rattle.check_operands.specs.declared.operand.Value.{Value}
use Rattle.check_operands.specs.declared.combined.Combined.{Combined}
use Rattle.check_operands.specs.declared.combined.Combined.TheVariants as by_form
use Rattle.check_operands.specs.Operators.{combine, built}
use Rattle.check_operands.specs.Operands.{converted}
use Rattle.check_operands.specs.Places.{stored, assign, operator_of, narrowing_of, narrowed, kind_in, right_in, changed}
use Rattle.check_operands.specs.Places.{modified, modify_by, modify, step_of, step_kind, stepped_by, stepped, amount}
use Rattle.check_operands.specs.Places.{posted, post_by, post, address_of, address}
use Rattle.wellformed.specs.Places.{Around}
use Rattle.wf_nodes.specs.Right.{Stands, RightPlace, IsRight, Unless}
use Rattle.wf_nodes.specs.Scopes.{PlacesStand}
use Rattle.wf_nodes.proofs.NodeScopes.{const_stands, var_stands, set_stands, post_variable_stands, generated_stands}
use Rattle.wf_nodes.proofs.NodeScopes.{set_generated_stands, post_generated_stands, store_stands, modify_stands}
use Rattle.wf_nodes.proofs.NodeScopes.{post_stands, unless_by}
use Rattle.wf_nodes.proofs.OperandScopes.{converted_by_stands, converted_stands}
use Rattle.wf_nodes.proofs.OperatorScopes.{scaled_stands, built_stands}

stored_stands : (a : Around) (p : Place) (t : CType) (e : Expr) → RightPlace a p t → Stands a e →
    Stands a (stored p t e)
stored_stands a (place.Value x) t e h k = k
stored_stands a (place.Register i) t e h k = set_stands a i e h k
stored_stands a (place.Generated i) t e h k = set_generated_stands a i e h k
stored_stands a (place.Memory x) t e h k = store_stands a (width_of t) x e h k
stored_stands a (place.Function f) t e h k = k

assign_stands : (a : Around) (line : ℕ) (o : Operand) (v : Value) → IsRight a o → Stands a v.code →
    Unless (IsRight a) (assign line o v)
unfolding assign
assign_stands a line o v h k =
    unless_by (IsRight a) line _ _
    (stored_stands a o.place o.ctype (converted v o.ctype) h (converted_stands a v o.ctype k))

narrowing_stands : (a : Around) (k : Option Integer) (e : Expr) → Stands a e → Stands a (narrowing_of k e)
narrowing_stands a None e h = h
narrowing_stands a (Some k) e h = converted_by_stands a (narrowing k) e h

pub narrowed_stands : (a : Around) (t : CType) (e : Expr) → Stands a e → Stands a (narrowed t e)
narrowed_stands a t e h = narrowing_stands a (integer_of t) e h

right_stands : (a : Around) (c : Combined) (e : Expr) → Stands a e → Stands a (right_in c e)
right_stands a (by_form.Words k t) e h = h
right_stands a (by_form.ScaledRight k n) e h = scaled_stands a e n h
right_stands a (by_form.ScaledLeft n) e h = h
right_stands a (by_form.Divided n) e h = h

changed_stands : (a : Around) (c : Combined) (p : Place) (t : CType) (e : Expr) → RightPlace a p t → Stands a e →
    Stands a (changed c p t e)
changed_stands a c (place.Value x) t e h k = k
changed_stands a c (place.Register i) t e h k =
    set_stands a i _ h (narrowed_stands a t (built c (ex.Var i) e) (built_stands a c (ex.Var i) e (var_stands a i h) k))
changed_stands a c (place.Generated i) t e h k =
    set_generated_stands a i _ h (built_stands a c (ex.VGet i) e (generated_stands a i h) k)
changed_stands a c (place.Memory x) t e h k =
    modify_stands a (width_of t) (kind_in c) x (right_in c e) h (right_stands a c e k)
changed_stands a c (place.Function f) t e h k = k

modified_stands : (a : Around) (line : ℕ) (c : Combined) (o : Operand) (e : Expr) → IsRight a o → Stands a e →
    Unless (IsRight a) (modified line c o e)
modified_stands a line c o e h k = unless_by (IsRight a) line _ _ (changed_stands a c o.place o.ctype e h k)

modify_by_stands : (a : Around) (line : ℕ) (o : Operand) (v : Value) (c : Option Combined) → IsRight a o →
    Stands a v.code → Unless (IsRight a) (modify_by line o v c)
modify_by_stands a line o v None h k = tt
modify_by_stands a line o v (Some c) h k = modified_stands a line c o v.code h k

changing_stands : (a : Around) (line : ℕ) (m : ModifyOp) (o : Operand) (v : Value) → IsRight a o → Stands a v.code →
    Unless (IsRight a) (modify line m o v)
unfolding modify
changing_stands a line m o v h k =
    modify_by_stands a line o v (combine (operator_of m) o.ctype false v.ctype v.zero) h k

stepped_by_stands : (a : Around) (line : ℕ) (s : StepOp) (o : Operand) (n : Option ℕ) → IsRight a o →
    Unless (IsRight a) (stepped_by line s o n)
stepped_by_stands a line s o None h = tt
stepped_by_stands a line s o (Some n) h =
    modified_stands a line (by_form.Words (step_kind s) kind.Int) o (ex.Const n) h (const_stands a n)

stepped_stands : (a : Around) (line : ℕ) (s : StepOp) (o : Operand) → IsRight a o →
    Unless (IsRight a) (stepped line s o)
unfolding stepped
stepped_stands a line s o h = stepped_by_stands a line s o (step_of o.ctype) h

posted_stands : (a : Around) (p : Place) (t : CType) (n : ℕ) → RightPlace a p t → Stands a (posted p t n)
posted_stands a (place.Value x) t n h = h
posted_stands a (place.Register i) t n h = post_variable_stands a i (width_of t) n h
posted_stands a (place.Generated i) t n h = post_generated_stands a i n h
posted_stands a (place.Memory x) t n h = post_stands a (width_of t) n x h
posted_stands a (place.Function f) t n h = const_stands a f

post_by_stands : (a : Around) (line : ℕ) (s : StepOp) (o : Operand) (n : Option ℕ) → IsRight a o →
    Unless (IsRight a) (post_by line s o n)
post_by_stands a line s o None h = tt
post_by_stands a line s o (Some n) h = unless_by (IsRight a) line _ _ (posted_stands a o.place o.ctype (amount s n) h)

posting_stands : (a : Around) (line : ℕ) (s : StepOp) (o : Operand) → IsRight a o → Unless (IsRight a) (post line s o)
unfolding post
posting_stands a line s o h = post_by_stands a line s o (step_of o.ctype) h

address_of_stands : (a : Around) (line : ℕ) (p : Place) (t : CType) → RightPlace a p t →
    Unless (IsRight a) (address_of line p t)
address_of_stands a line (place.Value e) t h = tt
address_of_stands a line (place.Register i) t h = tt
address_of_stands a line (place.Generated i) t h = tt
address_of_stands a line (place.Memory e) t h = h
address_of_stands a line (place.Function f) t h = tt

address_stands : (a : Around) (line : ℕ) (o : Operand) → IsRight a o → Unless (IsRight a) (address line o)
unfolding address
address_stands a line o h = address_of_stands a line o.place o.ctype h

pub places_stand : PlacesStand
places_stand = record {
  assign = assign_stands;
  modify = changing_stands;
  stepped = stepped_stands;
  post = posting_stands;
  address = address_stands;
}
