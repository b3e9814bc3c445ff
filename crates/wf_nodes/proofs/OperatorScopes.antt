-- The rules on operators of two operands, indexes and choices.
use Rattle.std.proofs.Common.{ℕ, Bool, true, false, ◌==◌, ◌||◌, if◌then◌else◌, Option, Some, None}
use Rattle.icode_ops.specs.declared.kind.BinKind.TheVariants as bin
use Rattle.c_type_refs.specs.Sizes.{pointed_size}
use Rattle.check_types.specs.Shapes.{is_void, is_integer}
use Rattle.tick_tree.specs.declared.base.BinaryOp.{BinaryOp}
use Rattle.tick_tree.specs.declared.base.BinaryOp.TheVariants as op
use Rattle.typed_tree.specs.declared.expression.Expr.{Expr}
use Rattle.typed_tree.specs.declared.expression.Expr.TheVariants as ex
use Rattle.check_operands.specs.declared.operand.Value.{Value}
use Rattle.check_operands.specs.declared.combined.Combined.{Combined}
use Rattle.check_operands.specs.declared.combined.Combined.TheVariants as by_form
use Rattle.check_operands.specs.declared.combined.Joined.{Joined}
use Rattle.check_operands.specs.Operands.{comma}
use Rattle.check_operands.specs.Operators.{scaled, built, binary_by, combine, arithmetic, both, either, binary}
use Rattle.check_operands.specs.Operators.{index_by, index, choice_by, joined_type, choice}
use Rattle.wellformed.specs.Places.{Around}
use Rattle.wf_nodes.specs.Right.{Stands, IsRight, Unless}
use Rattle.wf_nodes.specs.Scopes.{OperatorsStand}
use Rattle.wf_nodes.proofs.NodeScopes.{const_stands, bin_stands, both_stand, either_stands, choice_stands, comma_stands}
use Rattle.wf_nodes.proofs.NodeScopes.{unless_by, unless_if}

scaled_by : (a : Around) (b : Bool) (e : Expr) (n : ℕ) → Stands a e →
    Stands a (if b then e else ex.Bin bin.Multiply e (ex.Const n))
scaled_by a true e n h = h
scaled_by a false e n h = bin_stands a bin.Multiply e (ex.Const n) h (const_stands a n)

pub scaled_stands : (a : Around) (e : Expr) (n : ℕ) → Stands a e → Stands a (scaled e n)
scaled_stands a e n h = scaled_by a (n == 1) e n h

quotient_by : (a : Around) (b : Bool) (e : Expr) (n : ℕ) → Stands a e →
    Stands a (if b then e else ex.Bin bin.DivideSigned e (ex.Const n))
quotient_by a true e n h = h
quotient_by a false e n h = bin_stands a bin.DivideSigned e (ex.Const n) h (const_stands a n)

pub built_stands : (a : Around) (c : Combined) (x y : Expr) → Stands a x → Stands a y → Stands a (built c x y)
built_stands a (by_form.Words k t) x y h i = bin_stands a k x y h i
built_stands a (by_form.ScaledRight k n) x y h i = bin_stands a k x (scaled y n) h (scaled_stands a y n i)
built_stands a (by_form.ScaledLeft n) x y h i = bin_stands a bin.Add (scaled x n) y (scaled_stands a x n h) i
built_stands a (by_form.Divided n) x y h i =
    quotient_by a (n == 1) (ex.Bin bin.Subtract x y) n (bin_stands a bin.Subtract x y h i)

binary_by_stands : (a : Around) (line : ℕ) (v w : Value) (c : Option Combined) → Stands a v.code → Stands a w.code →
    Unless (IsRight a) (binary_by line v w c)
binary_by_stands a line v w None h k = tt
binary_by_stands a line v w (Some c) h k = built_stands a c v.code w.code h k

arithmetic_stands : (a : Around) (line : ℕ) (o : BinaryOp) (v w : Value) → Stands a v.code → Stands a w.code →
    Unless (IsRight a) (arithmetic line o v w)
unfolding arithmetic
arithmetic_stands a line o v w h k =
    unless_if (IsRight a) (is_void v.ctype || is_void w.ctype) _ _ tt
    (binary_by_stands a line v w (combine o v.ctype v.zero w.ctype w.zero) h k)

conjunction_stands : (a : Around) (line : ℕ) (v w : Value) → Stands a v.code → Stands a w.code →
    Unless (IsRight a) (both line v w)
unfolding both
conjunction_stands a line v w h k = unless_by (IsRight a) line _ _ (both_stand a v.code w.code h k)

disjunction_stands : (a : Around) (line : ℕ) (v w : Value) → Stands a v.code → Stands a w.code →
    Unless (IsRight a) (either line v w)
unfolding either
disjunction_stands a line v w h k = unless_by (IsRight a) line _ _ (either_stands a v.code w.code h k)

binary_stands : (a : Around) (line : ℕ) (o : BinaryOp) (v w : Value) → Stands a v.code → Stands a w.code →
    Unless (IsRight a) (binary line o v w)
binary_stands a line op.And v w h k = conjunction_stands a line v w h k
binary_stands a line op.Or v w h k = disjunction_stands a line v w h k
binary_stands a line o v w h k = arithmetic_stands a line o v w h k

element_stands : (a : Around) (line : ℕ) (v w : Value) (n : Option ℕ) → Stands a v.code → Stands a w.code →
    Unless (IsRight a) (index_by line v w n)
element_stands a line v w None h k = tt
element_stands a line v w (Some n) h k = bin_stands a bin.Add v.code (scaled w.code n) h (scaled_stands a w.code n k)

index_stands : (a : Around) (line : ℕ) (v w : Value) → Stands a v.code → Stands a w.code →
    Unless (IsRight a) (index line v w)
unfolding index
index_stands a line v w h k =
    unless_if (IsRight a) (is_void v.ctype || is_void w.ctype) _ _ tt
    (unless_if (IsRight a) (is_integer w.ctype) _ _ (element_stands a line v w (pointed_size v.ctype) h k) tt)

choice_by_stands : (a : Around) (line : ℕ) (c v w : Value) (j : Option Joined) → Stands a c.code → Stands a v.code →
    Stands a w.code → Unless (IsRight a) (choice_by line c v w j)
choice_by_stands a line c v w None h k l = tt
choice_by_stands a line c v w (Some j) h k l =
    unless_by (IsRight a) line _ _ (choice_stands a c.code v.code w.code h k l)

one_of_two_stands : (a : Around) (line : ℕ) (c v w : Value) → Stands a c.code → Stands a v.code → Stands a w.code →
    Unless (IsRight a) (choice line c v w)
unfolding choice
one_of_two_stands a line c v w h k l = choice_by_stands a line c v w (joined_type v w) h k l

both_values_stand : (a : Around) (v w : Value) → Stands a v.code → Stands a w.code → IsRight a (comma v w)
unfolding comma
both_values_stand a v w h k = comma_stands a v.code w.code h k

pub operators_stand : OperatorsStand
operators_stand = record {
  comma = both_values_stand;
  binary = binary_stands;
  index = index_stands;
  choice = one_of_two_stands;
}
