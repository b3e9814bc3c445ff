-- Operators between two values. Integers are brought to their common type; a pointer and an integer scale by the size
-- of what the pointer points to; pointers compare as unsigned words. These are C's rules, on words of 32 bits.
use Rattle.std.specs.Prelude.{ℕ, Bool, true, false, ◌&&◌, ◌||◌, ◌==◌, if◌then◌else◌, Option, Some, None, Result, Ok}
use Rattle.std.specs.Prelude.{Err}
use Rattle.icode_ops.specs.declared.kind.BinKind.{BinKind}
use Rattle.icode_ops.specs.declared.kind.BinKind.TheVariants as bin
use Rattle.c_types.specs.declared.ctype.CType.{CType}
use Rattle.c_types.specs.declared.ctype.Integer.{Integer}
use Rattle.c_types.specs.declared.ctype.Integer.TheVariants as kind
use Rattle.c_types.specs.Types.{common, promoted, same, converts}
use Rattle.c_type_refs.specs.Sizes.{pointed_size}
use Rattle.check_types.specs.Shapes.{integer, integer_of, inner, is_void, is_integer, is_scalar, is_pointer}
use Rattle.check_types.specs.Shapes.{points_to_void, void}
use Rattle.tick_tree.specs.declared.base.BinaryOp.{BinaryOp}
use Rattle.tick_tree.specs.declared.base.BinaryOp.TheVariants as op
use Rattle.tick_tree.specs.declared.fault.FaultKind.{FaultKind}
use Rattle.tick_tree.specs.declared.fault.FaultKind.TheVariants as fault
use Rattle.tick_tree.specs.Faults.{Checked, refuse}
use Rattle.typed_tree.specs.declared.expression.Expr.{Expr}
use Rattle.typed_tree.specs.declared.expression.Expr.TheVariants as ex
use Rattle.check_operands.specs.declared.operand.Operand.{Operand}
use Rattle.check_operands.specs.declared.operand.Value.{Value}
use Rattle.check_operands.specs.declared.combined.Combined.{Combined}
use Rattle.check_operands.specs.declared.combined.Combined.TheVariants as by_form
use Rattle.check_operands.specs.declared.combined.Joined.{Joined}
use Rattle.check_operands.specs.declared.combined.Joined.TheVariants as joined
use Rattle.check_operands.specs.Operands.{made, at_address, by, unless_void, unless_kind, test_breaks}

-- ---- integers

abbrev pub is_unsigned : Integer → Bool
is_unsigned kind.Unsigned = true
is_unsigned _ = false

abbrev pub by_sign : Bool → BinKind → BinKind → BinKind
by_sign u a b = if u then a else b

-- the node's kind, on unsigned words or on signed ones; `&&` and `||` have nodes of their own
abbrev pub kind_of : BinaryOp → Bool → BinKind
kind_of op.Mul u = bin.Multiply
kind_of op.Div u = by_sign u bin.DivideUnsigned bin.DivideSigned
kind_of op.Rem u = by_sign u bin.RemainderUnsigned bin.RemainderSigned
kind_of op.Add u = bin.Add
kind_of op.Sub u = bin.Subtract
kind_of op.ShiftLeft u = bin.ShiftLeft
kind_of op.ShiftRight u = by_sign u bin.ShiftRightUnsigned bin.ShiftRightSigned
kind_of op.Less u = by_sign u bin.LessUnsigned bin.LessSigned
kind_of op.Greater u = by_sign u bin.GreaterUnsigned bin.GreaterSigned
kind_of op.AtMost u = by_sign u bin.LessOrEqualUnsigned bin.LessOrEqualSigned
kind_of op.AtLeast u = by_sign u bin.GreaterOrEqualUnsigned bin.GreaterOrEqualSigned
kind_of op.Equal u = bin.Equal
kind_of op.NotEqual u = bin.NotEqual
kind_of op.BitAnd u = bin.And
kind_of op.BitXor u = bin.Xor
kind_of op.BitOr u = bin.Or
kind_of op.And u = bin.And
kind_of op.Or u = bin.Or

abbrev pub is_comparison : BinaryOp → Bool
is_comparison op.Less = true
is_comparison op.Greater = true
is_comparison op.AtMost = true
is_comparison op.AtLeast = true
is_comparison op.Equal = true
is_comparison op.NotEqual = true
is_comparison _ = false

abbrev pub is_shift : BinaryOp → Bool
is_shift op.ShiftLeft = true
is_shift op.ShiftRight = true
is_shift _ = false

abbrev pub is_sum : BinaryOp → Bool
is_sum op.Add = true
is_sum _ = false

abbrev pub is_difference : BinaryOp → Bool
is_difference op.Sub = true
is_difference _ = false

-- the type that both operands are brought to; of a shift, that of the left one
unfoldable pub operation : BinaryOp → Integer → Integer → Integer
operation o x y = if is_shift o then promoted x else common x y

abbrev pub answer_kind : BinaryOp → Integer → Integer → Integer
answer_kind o x y = if is_comparison o then kind.Int else operation o x y

unfoldable pub integers : BinaryOp → Integer → Integer → Combined
integers o x y = by_form.Words (kind_of o (is_unsigned (operation o x y))) (answer_kind o x y)

-- ---- pointers

-- an unsigned comparison, where it is allowed
abbrev pub comparing : BinaryOp → Bool → Option Combined
comparing o allowed = if is_comparison o && allowed then Some (by_form.Words (kind_of o true) kind.Int) else None

abbrev pub scaled_left : Option ℕ → Option Combined
scaled_left None = None
scaled_left (Some size) = Some (by_form.ScaledLeft size)

-- an integer and a pointer: a sum, or a comparison where the integer is the literal 0
abbrev pub with_pointer : BinaryOp → Bool → CType → Option Combined
with_pointer o zero b = if is_sum o then scaled_left (pointed_size b) else comparing o (zero && is_pointer b)

abbrev pub scaled_right : BinaryOp → Option ℕ → Option Combined
scaled_right o None = None
scaled_right o (Some size) = Some (by_form.ScaledRight (kind_of o true) size)

-- a pointer and an integer: a sum, a difference, or a comparison where the integer is the literal 0
abbrev pub with_integer : BinaryOp → CType → Bool → Option Combined
with_integer o a zero =
    if is_sum o || is_difference o then scaled_right o (pointed_size a) else comparing o (zero && is_pointer a)

abbrev pub divided : Option ℕ → Option Combined
divided None = None
divided (Some size) = Some (by_form.Divided size)

-- pointers compare where they are the same or one is to void
abbrev pub comparable : CType → CType → Bool
comparable a b = is_pointer a && is_pointer b && (same a b || points_to_void a || points_to_void b)

abbrev pub difference : CType → CType → Option Combined
difference a b = if same a b then divided (pointed_size a) else None

-- two pointers: a difference of the same ones, or a comparison
abbrev pub with_pointers : BinaryOp → CType → CType → Option Combined
with_pointers o a b = if is_difference o then difference a b else comparing o (comparable a b)

abbrev pub combine_by : BinaryOp → CType → Bool → CType → Bool → Option Integer → Option Integer → Option Combined
combine_by o a za b zb (Some x) (Some y) = Some (integers o x y)
combine_by o a za b zb (Some x) None = with_pointer o za b
combine_by o a za b zb None (Some y) = with_integer o a zb
combine_by o a za b zb None None = with_pointers o a b

-- how an operator takes two values of these types, which are the literal 0 or not, where its rule has these types
unfoldable pub combine : BinaryOp → CType → Bool → CType → Bool → Option Combined
combine o a za b zb = combine_by o a za b zb (integer_of a) (integer_of b)

-- ---- nodes

abbrev pub scaled : Expr → ℕ → Expr
scaled e size = if size == 1 then e else ex.Bin bin.Multiply e (ex.Const size)

abbrev pub quotient : Expr → ℕ → Expr
quotient e size = if size == 1 then e else ex.Bin bin.DivideSigned e (ex.Const size)

-- the node of an operator on these two words
abbrev pub built : Combined → Expr → Expr → Expr
built (by_form.Words k t) x y = ex.Bin k x y
built (by_form.ScaledRight k size) x y = ex.Bin k x (scaled y size)
built (by_form.ScaledLeft size) x y = ex.Bin bin.Add (scaled x size) y
built (by_form.Divided size) x y = quotient (ex.Bin bin.Subtract x y) size

-- the type that an operator's value has
abbrev pub type_of : Combined → CType → CType → CType
type_of (by_form.Words k t) a b = integer t
type_of (by_form.ScaledRight k size) a b = a
type_of (by_form.ScaledLeft size) a b = b
type_of (by_form.Divided size) a b = integer kind.Int

abbrev pub combination : Combined → Value → Value → Operand
combination c a b = made (built c a.code b.code) (type_of c a.ctype b.ctype)

abbrev pub binary_by : ℕ → Value → Value → Option Combined → Checked Operand
binary_by line a b None = refuse fault.BadOperand line
binary_by line a b (Some c) = Ok (combination c a b)

-- an operator other than `&&` and `||`
unfoldable pub arithmetic : ℕ → BinaryOp → Value → Value → Checked Operand
arithmetic line o a b = if is_void a.ctype || is_void b.ctype then refuse fault.VoidValue line else
    binary_by line a b (combine o a.ctype a.zero b.ctype b.zero)

abbrev pub logic_breaks : Value → Value → Option FaultKind
logic_breaks a b = if is_void a.ctype || is_void b.ctype then Some fault.VoidValue else
    unless_kind (is_scalar a.ctype && is_scalar b.ctype) fault.BadOperand

unfoldable pub both : ℕ → Value → Value → Checked Operand
both line a b = by line (logic_breaks a b) (made (ex.And a.code b.code) (integer kind.Int))

unfoldable pub either : ℕ → Value → Value → Checked Operand
either line a b = by line (logic_breaks a b) (made (ex.Or a.code b.code) (integer kind.Int))

abbrev pub binary : ℕ → BinaryOp → Value → Value → Checked Operand
binary line op.And a b = both line a b
binary line op.Or a b = either line a b
binary line o a b = arithmetic line o a b

-- ---- indexes

-- the place of the element
abbrev pub element : Value → Value → ℕ → Operand
element a b size = at_address (ex.Bin bin.Add a.code (scaled b.code size)) (inner a.ctype)

abbrev pub index_by : ℕ → Value → Value → Option ℕ → Checked Operand
index_by line a b None = refuse fault.BadOperand line
index_by line a b (Some size) = Ok (element a b size)

-- `a[b]`, the place at the pointer's sum with the integer
unfoldable pub index : ℕ → Value → Value → Checked Operand
index line a b =
    if is_void a.ctype || is_void b.ctype then refuse fault.VoidValue line
    else (if is_integer b.ctype then index_by line a b (pointed_size a.ctype) else refuse fault.BadOperand line)

-- ---- one of two

abbrev pub joined_values : Value → Value → Option Joined
joined_values a b =
    if converts b.ctype a.ctype b.zero then Some joined.First
    else (if converts a.ctype b.ctype a.zero then Some joined.Second else None)

abbrev pub joined_by : Value → Value → Option Integer → Option Integer → Option Joined
joined_by a b (Some x) (Some y) = Some (joined.Common (common x y))
joined_by a b (Some x) None = joined_values a b
joined_by a b None y = joined_values a b

-- the type of `? a : b`, where there is one
unfoldable pub joined_type : Value → Value → Option Joined
joined_type a b =
    if is_void a.ctype && is_void b.ctype then Some joined.Void
    else (if is_void a.ctype || is_void b.ctype then None else joined_by a b (integer_of a.ctype) (integer_of b.ctype))

abbrev pub type_joined : Joined → CType → CType → CType
type_joined joined.Void a b = void
type_joined (joined.Common k) a b = integer k
type_joined joined.First a b = a
type_joined joined.Second a b = b

abbrev pub joining : Expr → Joined → Value → Value → Operand
joining test j a b = made (ex.Cond test a.code b.code) (type_joined j a.ctype b.ctype)

abbrev pub choice_by : ℕ → Value → Value → Value → Option Joined → Checked Operand
choice_by line c a b None = refuse fault.TypeMismatch line
choice_by line c a b (Some j) = by line (test_breaks c) (joining c.code j a b)

-- `c ? a : b`
unfoldable pub choice : ℕ → Value → Value → Value → Checked Operand
choice line c a b = choice_by line c a b (joined_type a b)
