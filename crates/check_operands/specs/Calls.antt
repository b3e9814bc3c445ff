-- Calls and returns. A call of a static function by its plain name has its number; each other one goes through a
-- pointer.
use Rattle.std.specs.Prelude.{ℕ, slice_get, Bool, true, false, not, ◌&&◌, ◌||◌, ◌==◌, nat_le, if◌then◌else◌, List, []}
use Rattle.std.specs.Prelude.{◌∷◌, ◌++◌, length, Option, Some, None, Result, Ok, Err}
use Rattle.std.specs.List.{list_any, zip}
use Rattle.c_types.specs.declared.ctype.CType.{CType}
use Rattle.c_types.specs.declared.ctype.Integer.{Integer}
use Rattle.c_types.specs.declared.ctype.Integer.TheVariants as kind
use Rattle.c_types.specs.declared.ctype.Layer.{Layer, out-Layer}
use Rattle.c_types.specs.declared.ctype.Layer.TheOpen.{Layer-F}
use Rattle.c_types.specs.declared.ctype.Layer.TheVariants as layer
use Rattle.c_types.specs.Types.{Opened, converts, layers_of}
use Rattle.c_types.specs.Types as types
use Rattle.check_types.specs.Shapes.{integer, void, over, inner, is_void, is_pointer, integer_of}
use Rattle.tick_tree.specs.declared.fault.FaultKind.{FaultKind}
use Rattle.tick_tree.specs.declared.fault.FaultKind.TheVariants as fault
use Rattle.tick_tree.specs.Faults.{Checked, refuse}
use Rattle.typed_tree.specs.declared.expression.Answer.{Answer}
use Rattle.typed_tree.specs.declared.expression.Answer.TheVariants as answer
use Rattle.typed_tree.specs.declared.expression.Library.{Library}
use Rattle.typed_tree.specs.declared.expression.Library.TheVariants as library_of
use Rattle.typed_tree.specs.declared.expression.Expr.{Expr}
use Rattle.typed_tree.specs.declared.expression.Expr.TheVariants as ex
use Rattle.check_operands.specs.declared.operand.Place.{Place}
use Rattle.check_operands.specs.declared.operand.Place.TheVariants as place
use Rattle.check_operands.specs.declared.operand.Operand.{Operand}
use Rattle.check_operands.specs.declared.operand.Value.{Value}
use Rattle.check_operands.specs.declared.arguments.Argument.{Argument}
use Rattle.check_operands.specs.declared.arguments.Arguments.{Arguments}
use Rattle.check_operands.specs.declared.arguments.Callee.{Callee}
use Rattle.check_operands.specs.declared.arguments.Callee.TheVariants as callee
use Rattle.check_operands.specs.Operands.{made, by, value_of, converted}
use Rattle.check_operands.specs.Places.{narrowed}
use Rattle.limits.specs.declared.program.TheConstants.{MOST_ARGUMENTS}

-- ---- arguments

abbrev pub no_arguments : Arguments
no_arguments = record { codes = []; types = [] }

-- one argument more
abbrev pub with_argument : Arguments → Value → Arguments
with_argument list v = record {
  codes = list.codes ++ v.code ∷ [];
  types = list.types ++ (record { ctype = v.ctype; zero = v.zero }) ∷ [];
}

-- an argument that is a value, but doesn't convert to its parameter's type
abbrev pub mismatches : Argument → CType → Bool
mismatches a t = not (is_void a.ctype) && not (converts a.ctype t a.zero)

abbrev pub any_mismatches : List Argument → List CType → Bool
any_mismatches as_ ts = list_any (λ p. mismatches p.0 p.1) (zip as_ ts)

abbrev pub any_void : List Argument → Bool
any_void as_ = list_any (λ a. is_void a.ctype) as_

-- what arguments break by themselves: none is void, and no call has more than 8
abbrev pub arguments_break : List Argument → Option FaultKind
arguments_break as_ = if any_void as_ then Some fault.VoidValue else
    (if nat_le (length as_) MOST_ARGUMENTS then None else Some fault.TooManyParameters)

-- what arguments break against a declared list
abbrev pub listed_breaks : List Argument → List CType → Option FaultKind
listed_breaks as_ ts =
    if length as_ == length ts then (if any_mismatches as_ ts then Some fault.TypeMismatch else arguments_break as_)
    else Some fault.ArgumentCount

abbrev pub called_breaks_at : List Argument → Opened → Option FaultKind
called_breaks_at as_ (Layer-F.Function ts) = listed_breaks as_ ts
called_breaks_at as_ Layer-F.Unlisted = arguments_break as_
called_breaks_at as_ _ = Some fault.NotFunction

abbrev pub called_breaks_by : List Argument → Option Layer → Option FaultKind
called_breaks_by as_ None = Some fault.NotFunction
called_breaks_by as_ (Some l) = called_breaks_at as_ (out-Layer l)

-- what a call of what has this type breaks
abbrev pub called_breaks : CType → List Argument → Option FaultKind
called_breaks t as_ = called_breaks_by as_ (types.outermost (layers_of t))

-- ---- calls

abbrev pub answer_of : CType → Answer
answer_of t = if is_void t then answer.Void else answer.Value

-- the node of a call whose answer has this type
abbrev pub call_node : Callee → CType → List Expr → Expr
call_node (callee.Static f) t es = ex.Call (answer_of t) f es
call_node (callee.Number e) t es = narrowed t (ex.CallNumber (answer_of t) e es)

-- a call of what has this function type
unfoldable pub called : ℕ → Callee → CType → Arguments → Checked Operand
called line f t list = by line (called_breaks t list.types) (made (call_node f (inner t) list.codes) (inner t))

abbrev pub through : ℕ → Value → Arguments → Checked Operand
through line v list = if is_pointer v.ctype then called line (callee.Number v.code) (inner v.ctype) list else
    refuse fault.NotFunction line

abbrev pub static_number : Place → Option ℕ
static_number (place.Value e) = None
static_number (place.Register i) = None
static_number (place.Generated i) = None
static_number (place.Memory a) = None
static_number (place.Function f) = Some f

abbrev pub call_by : ℕ → Operand → Arguments → Option ℕ → Checked Operand
call_by line o list (Some f) = called line (callee.Static f) o.ctype list
call_by line o list None = through line (value_of o) list

-- `o(..)`
unfoldable pub call : ℕ → Operand → Arguments → Checked Operand
call line o list = call_by line o list (static_number o.place)

-- ---- the library

-- the library functions by their numbers: getchar, putchar, putint, malloc and exit
abbrev pub library_kind : ℕ → Option Library
library_kind n =
    if n == 0 then None
    else (if n == 1 then Some library_of.Putchar
    else (if n == 2 then Some library_of.Putint
    else (if n == 3 then Some library_of.Malloc
    else Some library_of.Exit)))

-- the node, by the argument that it has
abbrev pub library_node : Option Library → Option Expr → Expr
library_node None e = ex.Getchar
library_node (Some k) None = ex.Getchar
library_node (Some k) (Some e) = ex.Lib k e

-- a call of a library function by its number, which has this type
unfoldable pub library : ℕ → ℕ → CType → Arguments → Checked Operand
library line n t list = by line (called_breaks t list.types)
    (made (library_node (library_kind n) (slice_get list.codes 0)) (inner t))

-- ---- returns

abbrev pub return_breaks : CType → Value → Option FaultKind
return_breaks wanted v =
    if is_void v.ctype then Some fault.VoidValue
    else (if is_void wanted then Some fault.BadReturn
    else (if converts v.ctype wanted v.zero then None else Some fault.TypeMismatch))

-- the node that a function whose result has this type returns
unfoldable pub returned : ℕ → CType → Value → Checked Expr
returned line wanted v = by line (return_breaks wanted v) (converted v wanted)

-- the node that a tick returns: any value
unfoldable pub tick_returned : ℕ → Value → Checked Expr
tick_returned line v = if is_void v.ctype then refuse fault.VoidValue line else Ok v.code
