-- Specifications: what a backquote, `$`, `compile`, `local` and `param` take and make. These are `C's rules, cut to
-- word types.
use Rattle.std.specs.Prelude.{ℕ, Bool, true, false, not, ◌&&◌, ◌||◌, if◌then◌else◌, Option, Some, None, Result, Ok, Err}
use Rattle.c_types.specs.declared.ctype.CType.{CType}
use Rattle.c_types.specs.declared.ctype.Layer.TheVariants as layer
use Rattle.check_types.specs.Shapes.{is_void, is_word, is_scalar, is_integer, is_cspec, over, promoted, void}
use Rattle.tick_tree.specs.declared.fault.FaultKind.{FaultKind}
use Rattle.tick_tree.specs.declared.fault.FaultKind.TheVariants as fault
use Rattle.tick_tree.specs.Faults.{Checked}
use Rattle.typed_tree.specs.declared.expression.Expr.{Expr}
use Rattle.typed_tree.specs.declared.expression.Expr.TheVariants as ex
use Rattle.check_operands.specs.declared.operand.Operand.{Operand}
use Rattle.check_operands.specs.declared.operand.Value.{Value}
use Rattle.check_operands.specs.Operands.{made, by, unless_void, unless_kind}

-- the type of the specification of an expression of this type
abbrev pub specification : CType → CType
specification t = over layer.Cspec (promoted t)

-- what `$` breaks: its operand has a word type once it is promoted
abbrev pub dollar_breaks : Value → Option FaultKind
dollar_breaks v = unless_void v (unless_kind (is_word (promoted v.ctype)) fault.BadOperand)

-- the value of `$v`
unfoldable pub dollar : ℕ → Value → Checked Value
dollar line v = by line (dollar_breaks v) (record { code = v.code; ctype = promoted v.ctype; zero = false })

-- a result of compiled code
abbrev pub compiles_to : CType → Bool
compiles_to t = is_void t || is_scalar t

abbrev pub compile_breaks : CType → Value → Option FaultKind
compile_breaks t v =
    if not (compiles_to t) then Some fault.TypeMismatch
    else unless_void v (unless_kind (is_cspec v.ctype) fault.TypeMismatch)

-- a pointer to a function of any arguments that answers this type
abbrev pub compiled_type : CType → CType
compiled_type t = over layer.Pointer (over layer.Unlisted t)

abbrev pub compiling : CType → Expr → Operand
compiling t e = made (ex.Compile e) (compiled_type t)

-- `compile(v, T)`
unfoldable pub compile : ℕ → CType → Value → Checked Operand
compile line t v = by line (compile_breaks t v) (compiling t v.code)

-- `local(T)`
unfoldable pub local : ℕ → CType → Checked Operand
local line t = by line (unless_kind (is_word t) fault.TypeMismatch) (made ex.Local (over layer.Vspec t))

abbrev pub parameter_breaks : CType → Value → Option FaultKind
parameter_breaks t v = if is_word t then unless_void v (unless_kind (is_integer v.ctype) fault.BadOperand) else
    Some fault.TypeMismatch

abbrev pub making_parameter : CType → Expr → Operand
making_parameter t e = made (ex.ParamOf e) (over layer.Vspec t)

-- `param(T, v)`
unfoldable pub parameter : ℕ → CType → Value → Checked Operand
parameter line t v = by line (parameter_breaks t v) (making_parameter t v.code)
