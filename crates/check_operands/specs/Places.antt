-- What changes a place, and what takes its address. Of several rules that one node breaks, the lowest number counts: a
-- value that doesn't convert, then what is no place, then operand types, then a void value.
use Rattle.std.specs.Prelude.{ℕ, ◌-◌, ◌==◌, Bool, true, false, not, ◌&&◌, ◌||◌, if◌then◌else◌, Option, Some, None}
use Rattle.std.specs.Prelude.{Result, Ok, Err}
use Rattle.icode_ops.specs.declared.kind.BinKind.{BinKind}
use Rattle.icode_ops.specs.declared.kind.BinKind.TheVariants as bin
use Rattle.c_types.specs.declared.ctype.CType.{CType}
use Rattle.c_types.specs.declared.ctype.Layer.TheVariants as layer
use Rattle.c_types.specs.declared.ctype.Integer.{Integer}
use Rattle.c_types.specs.declared.ctype.Integer.TheVariants as kind
use Rattle.c_types.specs.Types.{converts}
use Rattle.c_type_refs.specs.Sizes.{pointed_size}
use Rattle.check_types.specs.Shapes.{integer_of, is_void, over, width_of, conversion, conversion_to, narrowing}
use Rattle.tick_tree.specs.declared.base.BinaryOp.{BinaryOp}
use Rattle.tick_tree.specs.declared.base.BinaryOp.TheVariants as op
use Rattle.tick_tree.specs.declared.base.ModifyOp.{ModifyOp}
use Rattle.tick_tree.specs.declared.base.ModifyOp.TheVariants as modify_op
use Rattle.tick_tree.specs.declared.base.StepOp.{StepOp}
use Rattle.tick_tree.specs.declared.base.StepOp.TheVariants as step_op
use Rattle.tick_tree.specs.declared.fault.FaultKind.{FaultKind}
use Rattle.tick_tree.specs.declared.fault.FaultKind.TheVariants as fault
use Rattle.tick_tree.specs.Faults.{Checked, refuse}
use Rattle.typed_tree.specs.declared.expression.Expr.{Expr}
use Rattle.typed_tree.specs.declared.expression.Expr.TheVariants as ex
use Rattle.check_operands.specs.declared.operand.Place.{Place}
use Rattle.check_operands.specs.declared.operand.Place.TheVariants as place
use Rattle.check_operands.specs.declared.operand.Operand.{Operand}
use Rattle.check_operands.specs.declared.operand.Value.{Value}
use Rattle.check_operands.specs.declared.combined.Combined.{Combined}
use Rattle.check_operands.specs.declared.combined.Combined.TheVariants as by_form
use Rattle.check_operands.specs.Operands.{made, by, converted, converted_by}
use Rattle.check_operands.specs.Operators.{combine, built, scaled}

abbrev pub is_place : Place → Bool
is_place (place.Value e) = false
is_place (place.Register i) = true
is_place (place.Generated i) = true
is_place (place.Memory a) = true
is_place (place.Function f) = false

-- ---- `=`

-- a place that has a type, and a value that is one, but doesn't convert
abbrev pub mismatches : CType → Value → Bool
mismatches t v = not (is_void t) && not (is_void v.ctype) && not (converts v.ctype t v.zero)

abbrev pub place_breaks : Operand → Option FaultKind → Option FaultKind
place_breaks o other = if is_place o.place then other else Some fault.NotPlace

abbrev pub void_breaks : Value → Option FaultKind
void_breaks v = if is_void v.ctype then Some fault.VoidValue else None

abbrev pub assign_breaks : Operand → Value → Option FaultKind
assign_breaks o v = if mismatches o.ctype v then Some fault.TypeMismatch else place_breaks o (void_breaks v)

-- the node that sets a place
abbrev pub stored : Place → CType → Expr → Expr
stored (place.Value x) t e = e
stored (place.Register i) t e = ex.SetVar i e
stored (place.Generated i) t e = ex.VSet i e
stored (place.Memory a) t e = ex.Store (width_of t) a e
stored (place.Function f) t e = e

abbrev pub assigned : Operand → Value → Operand
assigned o v = made (stored o.place o.ctype (converted v o.ctype)) o.ctype

-- `o = v`, which has the place's type
unfoldable pub assign : ℕ → Operand → Value → Checked Operand
assign line o v = by line (assign_breaks o v) (assigned o v)

-- ---- `op=`

abbrev pub operator_of : ModifyOp → BinaryOp
operator_of modify_op.Mul = op.Mul
operator_of modify_op.Div = op.Div
operator_of modify_op.Rem = op.Rem
operator_of modify_op.Add = op.Add
operator_of modify_op.Sub = op.Sub
operator_of modify_op.ShiftLeft = op.ShiftLeft
operator_of modify_op.ShiftRight = op.ShiftRight
operator_of modify_op.BitAnd = op.BitAnd
operator_of modify_op.BitXor = op.BitXor
operator_of modify_op.BitOr = op.BitOr

-- whether the operator's value converts to the place's type: an integer in an integer, a pointer in a pointer
abbrev pub comes_back : Combined → Bool
comes_back (by_form.Words k t) = true
comes_back (by_form.ScaledRight k size) = true
comes_back (by_form.ScaledLeft size) = false
comes_back (by_form.Divided size) = false

-- the rule that is broken where the operator doesn't take the types
abbrev pub modify_fault : Operand → Value → FaultKind
modify_fault o v = if is_place o.place then (if is_void v.ctype then fault.VoidValue else fault.BadOperand) else
    fault.NotPlace

-- the rule that is broken where it does
abbrev pub combined_breaks : Operand → Combined → Option FaultKind
combined_breaks o c = if comes_back c then place_breaks o None else Some fault.TypeMismatch

abbrev pub narrowing_of : Option Integer → Expr → Expr
narrowing_of None e = e
narrowing_of (Some k) e = converted_by (narrowing k) e

-- a word as a value of a type
abbrev pub narrowed : CType → Expr → Expr
narrowed t e = narrowing_of (integer_of t) e

abbrev pub kind_in : Combined → BinKind
kind_in (by_form.Words k t) = k
kind_in (by_form.ScaledRight k size) = k
kind_in (by_form.ScaledLeft size) = bin.Add
kind_in (by_form.Divided size) = bin.Subtract

-- the second operand of a change in memory
abbrev pub right_in : Combined → Expr → Expr
right_in (by_form.Words k t) e = e
right_in (by_form.ScaledRight k size) e = scaled e size
right_in (by_form.ScaledLeft size) e = e
right_in (by_form.Divided size) e = e

abbrev pub changed_register : Combined → ℕ → CType → Expr → Expr
changed_register c i t e = ex.SetVar i (narrowed t (built c (ex.Var i) e))

abbrev pub changed_generated : Combined → ℕ → Expr → Expr
changed_generated c i e = ex.VSet i (built c (ex.VGet i) e)

abbrev pub changed_memory : Combined → Expr → CType → Expr → Expr
changed_memory c a t e = ex.Modify (width_of t) (kind_in c) a (right_in c e)

-- the node that changes a place
abbrev pub changed : Combined → Place → CType → Expr → Expr
changed c (place.Value x) t e = e
changed c (place.Register i) t e = changed_register c i t e
changed c (place.Generated i) t e = changed_generated c i e
changed c (place.Memory a) t e = changed_memory c a t e
changed c (place.Function f) t e = e

abbrev pub changing : Combined → Operand → Expr → Operand
changing c o e = made (changed c o.place o.ctype e) o.ctype

abbrev pub modified : ℕ → Combined → Operand → Expr → Checked Operand
modified line c o e = by line (combined_breaks o c) (changing c o e)

abbrev pub modify_by : ℕ → Operand → Value → Option Combined → Checked Operand
modify_by line o v None = refuse (modify_fault o v) line
modify_by line o v (Some c) = modified line c o v.code

-- `o op= v`
unfoldable pub modify : ℕ → ModifyOp → Operand → Value → Checked Operand
modify line m o v = modify_by line o v (combine (operator_of m) o.ctype false v.ctype v.zero)

-- ---- `++` and `--`

abbrev pub step_by : CType → Option Integer → Option ℕ
step_by t (Some k) = Some 1
step_by t None = pointed_size t

-- what a step adds to a place of this type
abbrev pub step_of : CType → Option ℕ
step_of t = step_by t (integer_of t)

abbrev pub step_kind : StepOp → BinKind
step_kind step_op.Increment = bin.Add
step_kind step_op.Decrement = bin.Subtract

abbrev pub step_fault : Operand → FaultKind
step_fault o = if is_place o.place then fault.BadOperand else fault.NotPlace

abbrev pub stepped_by : ℕ → StepOp → Operand → Option ℕ → Checked Operand
stepped_by line s o None = refuse (step_fault o) line
stepped_by line s o (Some size) = modified line (by_form.Words (step_kind s) kind.Int) o (ex.Const size)

-- `++o` and `--o`
unfoldable pub stepped : ℕ → StepOp → Operand → Checked Operand
stepped line s o = stepped_by line s o (step_of o.ctype)

abbrev pub negative : ℕ → ℕ
negative size = if size == 0 then 0 else 4294967296 - size

-- the word that is added
abbrev pub amount : StepOp → ℕ → ℕ
amount step_op.Increment size = size
amount step_op.Decrement size = negative size

-- the node that steps a place and leaves the old value
abbrev pub posted : Place → CType → ℕ → Expr
posted (place.Value x) t n = x
posted (place.Register i) t n = ex.PostVar i (width_of t) n
posted (place.Generated i) t n = ex.VPost i n
posted (place.Memory a) t n = ex.Post (width_of t) n a
posted (place.Function f) t n = ex.Const f

abbrev pub posting : Operand → ℕ → Operand
posting o n = made (posted o.place o.ctype n) o.ctype

abbrev pub post_by : ℕ → StepOp → Operand → Option ℕ → Checked Operand
post_by line s o None = refuse (step_fault o) line
post_by line s o (Some size) = by line (place_breaks o None) (posting o (amount s size))

-- `o++` and `o--`
unfoldable pub post : ℕ → StepOp → Operand → Checked Operand
post line s o = post_by line s o (step_of o.ctype)

-- ---- `&`

abbrev pub address_of : ℕ → Place → CType → Checked Operand
address_of line (place.Value e) t = refuse fault.NotPlace line
address_of line (place.Register i) t = refuse fault.AddressOfRegister line
address_of line (place.Generated i) t = refuse fault.AddressOfRegister line
address_of line (place.Memory a) t = Ok (made a (over layer.Pointer t))
address_of line (place.Function f) t = refuse fault.NotPlace line

-- `&o` of what isn't settled: an array is a place here. A register variable of a function is none any more once its
-- address is taken, so what is a register here is one of generated code.
unfoldable pub address : ℕ → Operand → Checked Operand
address line o = address_of line o.place o.ctype
