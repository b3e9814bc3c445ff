-- The rules on operands, prefixes and specifications.
use Rattle.std.proofs.Common.{◌≡◌, ℕ, Bool, true, false, if◌then◌else◌, Option, Some, None}
use Rattle.word32.specs.declared.width.Width.{Width}
use Rattle.icode_ops.specs.declared.kind.UnKind.{UnKind}
use Rattle.c_types.specs.declared.ctype.CType.{CType}
use Rattle.c_type_refs.specs.Sizes.{limited_size}
use Rattle.check_types.specs.Shapes.{decays, width_of, conversion, is_void}
use Rattle.typed_tree.specs.declared.expression.Expr.{Expr}
use Rattle.typed_tree.specs.declared.expression.Expr.TheVariants as ex
use Rattle.check_operands.specs.declared.operand.Operand.{Operand}
use Rattle.check_operands.specs.declared.operand.Place.{Place}
use Rattle.check_operands.specs.declared.operand.Place.TheVariants as place
use Rattle.check_operands.specs.declared.operand.Value.{Value}
use Rattle.check_operands.specs.Operands.{code_of, value_of, as_operand, settled, converted, converted_by, number}
use Rattle.check_operands.specs.Operands.{character, string, size_by, condition, switched, plus, on_integer}
use Rattle.check_operands.specs.Operands.{dereferenced, negated, cast}
use Rattle.check_operands.specs.Stages as stages
use Rattle.wellformed.specs.Places.{Around, in_function}
use Rattle.wf_nodes.specs.Right.{Stands, RightPlace, IsRight, Unless}
use Rattle.wf_nodes.specs.Scopes.{OperandsStand, PrefixesStand, StagesStand}
use Rattle.wf_nodes.proofs.NodeScopes.{const_stands, var_stands, generated_stands, load_stands, un_stands, void_stands}
use Rattle.wf_nodes.proofs.NodeScopes.{compile_stands, local_stands, parameter_stands, unless_by, unless_if}

memory_stands : (a : Around) (b : Bool) (w : Width) (e : Expr) → Stands a e → Stands a (if b then e else ex.Load w e)
memory_stands a true w e h = h
memory_stands a false w e h = load_stands a w e h

pub code_stands : (a : Around) (p : Place) (t : CType) → RightPlace a p t → Stands a (code_of p t)
code_stands a (place.Value e) t h = h
code_stands a (place.Register i) t h = var_stands a i h
code_stands a (place.Generated i) t h = generated_stands a i h
code_stands a (place.Memory e) t h = memory_stands a (decays t) (width_of t) e h
code_stands a (place.Function f) t h = const_stands a f

pub value_stands : (a : Around) (o : Operand) → IsRight a o → Stands a (value_of o).code
unfolding value_of
value_stands a o h = code_stands a o.place o.ctype h

settled_by : (a : Around) (b : Bool) (o : Operand) → IsRight a o → IsRight a (if b then as_operand (value_of o) else o)
settled_by a true o h = value_stands a o h
settled_by a false o h = h

settled_stands : (a : Around) (o : Operand) → IsRight a o → IsRight a (settled o)
unfolding settled
settled_stands a o h = settled_by a (decays o.ctype) o h

pub converted_by_stands : (a : Around) (k : Option UnKind) (e : Expr) → Stands a e → Stands a (converted_by k e)
converted_by_stands a None e h = h
converted_by_stands a (Some k) e h = un_stands a k e h

pub converted_stands : (a : Around) (v : Value) (t : CType) → Stands a v.code → Stands a (converted v t)
unfolding converted
converted_stands a v t h = converted_by_stands a (conversion v.ctype t) v.code h

number_stands : (a : Around) (n : ℕ) (u : Bool) → IsRight a (number n u)
unfolding number
number_stands a n u = const_stands a n

character_stands : (a : Around) (n : ℕ) → IsRight a (character n)
unfolding character
character_stands a n = const_stands a n

string_stands : (a : Around) (n : ℕ) → IsRight a (string n)
unfolding string
string_stands a n = const_stands a n

size_stands : (a : Around) (line : ℕ) (n : Option ℕ) → Unless (IsRight a) (size_by line n)
size_stands a line None = tt
size_stands a line (Some n) = const_stands a n

pub operands_stand : OperandsStand
operands_stand = record {
  value = value_stands;
  settled = settled_stands;
  converted = converted_stands;
  number = number_stands;
  character = character_stands;
  string = string_stands;
  size = λ a line t. size_stands a line (limited_size t);
}

condition_stands : (a : Around) (line : ℕ) (v : Value) → Stands a v.code → Unless (Stands a) (condition line v)
unfolding condition
condition_stands a line v h = unless_by (Stands a) line _ v.code h

switched_stands : (a : Around) (line : ℕ) (v : Value) → Stands a v.code → Unless (Stands a) (switched line v)
unfolding switched
switched_stands a line v h = unless_by (Stands a) line _ v.code h

plus_stands : (a : Around) (line : ℕ) (v : Value) → Stands a v.code → Unless (IsRight a) (plus line v)
unfolding plus
plus_stands a line v h = unless_by (IsRight a) line _ _ h

on_integer_stands : (a : Around) (line : ℕ) (k : UnKind) (v : Value) → Stands a v.code →
    Unless (IsRight a) (on_integer line k v)
unfolding on_integer
on_integer_stands a line k v h = unless_by (IsRight a) line _ _ (un_stands a k v.code h)

dereferenced_stands : (a : Around) (line : ℕ) (v : Value) → Stands a v.code → Unless (IsRight a) (dereferenced line v)
unfolding dereferenced
dereferenced_stands a line v h = unless_by (IsRight a) line _ _ h

negated_stands : (a : Around) (line : ℕ) (v : Value) → Stands a v.code → Unless (IsRight a) (negated line v)
unfolding negated
negated_stands a line v h = unless_by (IsRight a) line _ _ (un_stands a _ v.code h)

cast_stands : (a : Around) (line : ℕ) (t : CType) (v : Value) → Stands a v.code → Unless (IsRight a) (cast line t v)
unfolding cast
cast_stands a line t v h =
    unless_if (IsRight a) (is_void t) _ _ (void_stands a v.code h)
    (unless_by (IsRight a) line _ _ (converted_stands a v t h))

pub prefixes_stand : PrefixesStand
prefixes_stand = record {
  condition = condition_stands;
  switched = switched_stands;
  plus = plus_stands;
  on_integer = on_integer_stands;
  dereferenced = dereferenced_stands;
  negated = negated_stands;
  cast = cast_stands;
}

compiling_stands : (a : Around) (line : ℕ) (t : CType) (v : Value) → in_function a ≡ true → Stands a v.code →
    Unless (IsRight a) (stages.compile line t v)
unfolding stages.compile
compiling_stands a line t v h k = unless_by (IsRight a) line _ _ (compile_stands a v.code h k)

making_local_stands : (a : Around) (line : ℕ) (t : CType) → in_function a ≡ true →
    Unless (IsRight a) (stages.local line t)
unfolding stages.local
making_local_stands a line t h = unless_by (IsRight a) line _ _ (local_stands a h)

making_parameter_stands : (a : Around) (line : ℕ) (t : CType) (v : Value) → in_function a ≡ true → Stands a v.code →
    Unless (IsRight a) (stages.parameter line t v)
unfolding stages.parameter
making_parameter_stands a line t v h k = unless_by (IsRight a) line _ _ (parameter_stands a v.code h k)

dollar_stands : (a : Around) (line : ℕ) (v : Value) → Stands a v.code →
    Unless (λ w. Stands a w.code) (stages.dollar line v)
unfolding stages.dollar
dollar_stands a line v h = unless_by (λ (w : Value). Stands a w.code) line _ _ h

pub stages_stand : StagesStand
stages_stand = record {
  compile = compiling_stands;
  local = making_local_stands;
  parameter = making_parameter_stands;
  dollar = dollar_stands;
}
