-- The rules on operands and prefixes.
use Rattle.std.proofs.Common.{◌≡◌, ℕ, Bool, true, false, not, ◌&&◌, if◌then◌else◌, ◌∙◌, Option, Some, None}
use Rattle.word32.specs.declared.width.Width.{Width}
use Rattle.icode_ops.specs.declared.kind.UnKind.{UnKind}
use Rattle.c_types.specs.declared.ctype.CType.{CType}
use Rattle.c_types.specs.declared.ctype.Integer.TheVariants as kind
use Rattle.c_types.specs.declared.ctype.Layer.TheVariants as layer
use Rattle.c_types.specs.Types as types
use Rattle.c_types.specs.Types.{base_of, layers_of, under}
use Rattle.c_type_refs.specs.Sizes.{limited_size}
use Rattle.check_declarators.specs.Making.{decayed}
use Rattle.check_types.specs.Shapes.{integer, inner, decays, width_of, conversion, is_void, is_pointer, points_to_void}
use Rattle.check_types.specs.Shapes.{promoted}
use Rattle.tick_tree.specs.declared.fault.FaultKind.TheVariants as fault
use Rattle.typed_tree.specs.declared.expression.Expr.{Expr}
use Rattle.typed_tree.specs.declared.expression.Expr.TheVariants as ex
use Rattle.check_operands.specs.declared.operand.Operand.{Operand}
use Rattle.check_operands.specs.declared.operand.Place.{Place}
use Rattle.check_operands.specs.declared.operand.Place.TheVariants as place
use Rattle.check_operands.specs.declared.operand.Value.{Value}
use Rattle.check_operands.specs.Operands.{code_of, value_of, as_operand, at_address, settled, converted, converted_by}
use Rattle.check_operands.specs.Operands.{number, number_kind, character, string, size_by, condition, switched, plus}
use Rattle.check_operands.specs.Operands.{on_integer, pointer_breaks, dereferenced, negated, cast, effect, unless_kind}
use Rattle.wellformed.specs.Values.{is_right}
use Rattle.wf_nodes.specs.Used.{Leaves, UsedAs, IsUsedValue, InMemory, UsedPlace, IsUsed, Unless}
use Rattle.wf_nodes.specs.Values.{OperandsUse, PrefixesUse}
use Rattle.wf_nodes.proofs.Broken.{unless_by, unless_if, no_other, is_so, not_void, value_left, but_not}
use Rattle.wf_nodes.proofs.NodeValues.{as_used, retyped, const_left, var_left, generated_left, load_left, un_left}
use Rattle.wf_nodes.proofs.NodeValues.{void_used}
use Rattle.wf_nodes.proofs.Types.{integer_type, layer_type, inner_type, decayed_type, promoted_type}

memory_left : (b : Bool) (w : Width) (e : Expr) → Leaves e → Leaves (if b then e else ex.Load w e)
memory_left true w e h = h
memory_left false w e h = load_left w e h

code_used : (p : Place) (t : CType) → UsedPlace p t → UsedAs (decayed t) (code_of p t)
code_used (place.Value e) t h = retyped t (decayed t) e h (decayed_type t)
code_used (place.Register i) t h = as_used (decayed t) (ex.Var i) (var_left i) (decayed_type t ∙ h)
code_used (place.Generated i) t h = as_used (decayed t) (ex.VGet i) (generated_left i) (decayed_type t ∙ h)
code_used (place.Memory e) t h =
    as_used (decayed t) _ (memory_left (decays t) (width_of t) e h.address) (decayed_type t ∙ h.type)
code_used (place.Function f) t h = as_used (decayed t) (ex.Const f) (const_left f) (decayed_type t ∙ h)

pub value_used : (o : Operand) → IsUsed o → IsUsedValue (value_of o)
unfolding value_of
value_used o h = code_used o.place o.ctype h

effect_right : (o : Operand) → IsUsed o → is_right (effect o) ≡ true
effect_right o h = let u = value_used o h in u.right

settled_by : (b : Bool) (o : Operand) → IsUsed o → IsUsed (if b then as_operand (value_of o) else o)
settled_by true o h = value_used o h
settled_by false o h = h

settled_used : (o : Operand) → IsUsed o → IsUsed (settled o)
unfolding settled
settled_used o h = settled_by (decays o.ctype) o h

pub converted_by_left : (k : Option UnKind) (e : Expr) → Leaves e → Leaves (converted_by k e)
converted_by_left None e h = h
converted_by_left (Some k) e h = un_left k e h

pub converted_left : (v : Value) (t : CType) → Leaves v.code → Leaves (converted v t)
unfolding converted
converted_left v t h = converted_by_left (conversion v.ctype t) v.code h

number_used : (n : ℕ) (u : Bool) → IsUsed (number n u)
unfolding number
number_used n u = as_used _ _ (const_left n) (integer_type (number_kind u))

character_used : (n : ℕ) → IsUsed (character n)
unfolding character
character_used n = as_used _ _ (const_left n) (integer_type kind.Int)

string_used : (n : ℕ) → IsUsed (string n)
unfolding string
string_used n = as_used _ _ (const_left n) (layer_type layer.Pointer (integer kind.Char))

size_used : (line : ℕ) (n : Option ℕ) → Unless IsUsed (size_by line n)
size_used line None = tt
size_used line (Some n) = as_used _ _ (const_left n) (integer_type kind.Unsigned)

pub operands_use : OperandsUse
operands_use = record {
  value = value_used;
  effect = effect_right;
  settled = settled_used;
  converted = converted_left;
  number = number_used;
  character = character_used;
  string = string_used;
  size = λ line t. size_used line (limited_size t);
}

-- ---- prefixes

condition_left : (line : ℕ) (v : Value) → IsUsedValue v → Unless Leaves (condition line v)
unfolding condition
condition_left line v h = unless_by Leaves line _ v.code (λ k. value_left v _ h k)

switched_left : (line : ℕ) (v : Value) → IsUsedValue v → Unless Leaves (switched line v)
unfolding switched
switched_left line v h = unless_by Leaves line _ v.code (λ k. value_left v _ h k)

plus_used : (line : ℕ) (v : Value) → IsUsedValue v → Unless IsUsed (plus line v)
unfolding plus
plus_used line v h = unless_by IsUsed line _ _
    (λ k. retyped v.ctype (promoted v.ctype) v.code h (promoted_type v.ctype))

on_integer_used : (line : ℕ) (u : UnKind) (v : Value) → IsUsedValue v → Unless IsUsed (on_integer line u v)
unfolding on_integer
on_integer_used line u v h =
    unless_by IsUsed line _ _
    (λ k. as_used (promoted v.ctype) _ (un_left u v.code (value_left v _ h k))
    (promoted_type v.ctype ∙ not_void v _ k))

-- what a pointer that isn't one to void points to
pointed_value : (v : Value) → pointer_breaks v ≡ None →
    types.is_void (base_of v.ctype) (under (layers_of v.ctype)) ≡ false
pointed_value v k =
    but_not (is_pointer v.ctype) _ (is_so _ fault.BadOperand None (no_other (is_void v.ctype) fault.VoidValue _ k))

pointed_place : (v : Value) → IsUsedValue v → pointer_breaks v ≡ None → InMemory v.code (inner v.ctype)
pointed_place v h k = record {
  address = value_left v (unless_kind (is_pointer v.ctype && not (points_to_void v.ctype)) fault.BadOperand) h k;
  type = inner_type v.ctype ∙ pointed_value v k;
}

dereferenced_used : (line : ℕ) (v : Value) → IsUsedValue v → Unless IsUsed (dereferenced line v)
unfolding dereferenced
dereferenced_used line v h =
    unless_by IsUsed line (pointer_breaks v) (at_address v.code (inner v.ctype)) (pointed_place v h)

negated_used : (line : ℕ) (v : Value) → IsUsedValue v → Unless IsUsed (negated line v)
unfolding negated
negated_used line v h = unless_by IsUsed line _ _
    (λ k. as_used _ _ (un_left _ v.code (value_left v _ h k)) (integer_type kind.Int))

cast_used : (line : ℕ) (t : CType) (v : Value) → IsUsedValue v → Unless IsUsed (cast line t v)
unfolding cast
cast_used line t v h =
    unless_if IsUsed (is_void t) _ _ (λ e. void_used t v.code h.right e)
    (λ e. unless_by IsUsed line _ _ (λ k. as_used t _ (converted_left v t (value_left v _ h k)) e))

pub prefixes_use : PrefixesUse
prefixes_use = record {
  condition = condition_left;
  switched = switched_left;
  plus = plus_used;
  on_integer = on_integer_used;
  dereferenced = dereferenced_used;
  negated = negated_used;
  cast = cast_used;
}
