-- What an expression is: its type, what it names, and its value. An array or a function stands for a pointer wherever
-- its value is used, as in C, and a narrow value is loaded by its width.
use Rattle.std.specs.Prelude.{ℕ, Bool, true, false, not, ◌&&◌, ◌||◌, ◌==◌, if◌then◌else◌, List, [], ◌∷◌, ◌++◌, Option}
use Rattle.std.specs.Prelude.{Some, None, Result, Ok, Err}
use Rattle.icode_ops.specs.declared.kind.UnKind.{UnKind}
use Rattle.icode_ops.specs.declared.kind.UnKind.TheVariants as un
use Rattle.c_types.specs.declared.ctype.CType.{CType}
use Rattle.c_types.specs.declared.ctype.Integer.{Integer}
use Rattle.c_types.specs.declared.ctype.Integer.TheVariants as kind
use Rattle.c_types.specs.declared.ctype.Layer.TheVariants as layer
use Rattle.c_types.specs.Types.{converts}
use Rattle.c_type_refs.specs.Sizes.{limited_size}
use Rattle.check_declarators.specs.Making.{decayed}
use Rattle.check_types.specs.Shapes.{integer, void, over, inner, promoted, decays, is_void, is_word, is_scalar}
use Rattle.check_types.specs.Shapes.{is_integer, is_pointer, points_to_void, width_of, conversion}
use Rattle.tick_tree.specs.declared.fault.FaultKind.{FaultKind}
use Rattle.tick_tree.specs.declared.fault.FaultKind.TheVariants as fault
use Rattle.tick_tree.specs.Faults.{Checked, ◌>>=◌, refuse}
use Rattle.typed_tree.specs.declared.expression.Expr.{Expr}
use Rattle.typed_tree.specs.declared.expression.Expr.TheVariants as ex
use Rattle.check_operands.specs.declared.operand.Place.{Place}
use Rattle.check_operands.specs.declared.operand.Place.TheVariants as place
use Rattle.check_operands.specs.declared.operand.Operand.{Operand}
use Rattle.check_operands.specs.declared.operand.Value.{Value}

-- ---- values

-- the node of the value of what has this place and type
abbrev pub code_of : Place → CType → Expr
code_of (place.Value e) t = e
code_of (place.Register i) t = ex.Var i
code_of (place.Generated i) t = ex.VGet i
code_of (place.Memory a) t = if decays t then a else ex.Load (width_of t) a
code_of (place.Function f) t = ex.Const f

-- the value of an operand; a void one is a value here that no rule takes
unfoldable pub value_of : Operand → Value
value_of o = record { code = code_of o.place o.ctype; ctype = decayed o.ctype; zero = o.zero }

abbrev pub plain : Expr → CType → Value
plain code t = record { code = code; ctype = t; zero = false }

-- a value as an operand
abbrev pub as_operand : Value → Operand
as_operand v = record { place = place.Value v.code; ctype = v.ctype; zero = v.zero }

-- an expression of this node and type, which is no place
abbrev pub made : Expr → CType → Operand
made code t = as_operand (plain code t)

-- what stands at this address
abbrev pub at_address : Expr → CType → Operand
at_address a t = record { place = place.Memory a; ctype = t; zero = false }

-- an operand outside `&`: an array or a function has become a pointer, which is no place
unfoldable pub settled : Operand → Operand
settled o = if decays o.ctype then as_operand (value_of o) else o

unfoldable pub values : Operand → Operand → Value × Value
values a b = (value_of a, value_of b)

-- ---- conversions

abbrev pub converted_by : Option UnKind → Expr → Expr
converted_by None e = e
converted_by (Some k) e = ex.Un k e

-- the node of a value of one type as a value of another
unfoldable pub converted : Value → CType → Expr
converted v to = converted_by (conversion v.ctype to) v.code

-- a value that is none, or one that converts to a wanted type
abbrev pub suits : Value → CType → Bool
suits v to = is_void v.ctype || converts v.ctype to v.zero

-- ---- constants

abbrev pub number_kind : Bool → Integer
number_kind unsigned = if unsigned then kind.Unsigned else kind.Int

-- a number token: the value 0 is the literal 0
unfoldable pub number : ℕ → Bool → Operand
number n unsigned = record { place = place.Value (ex.Const n); ctype = integer (number_kind unsigned); zero = n == 0 }

unfoldable pub character : ℕ → Operand
character n = made (ex.Const n) (integer kind.Int)

-- a string at this address is a value of type `char *`
unfoldable pub string : ℕ → Operand
string address = made (ex.Const address) (over layer.Pointer (integer kind.Char))

abbrev pub size_by : ℕ → Option ℕ → Checked Operand
size_by line None = refuse fault.BadOperand line
size_by line (Some n) = Ok (made (ex.Const n) (integer kind.Unsigned))

-- `sizeof(T)`
abbrev pub size : ℕ → CType → Checked Operand
size line t = size_by line (limited_size t)

-- ---- tests

abbrev pub unless_void : Value → Option FaultKind → Option FaultKind
unless_void v other = if is_void v.ctype then Some fault.VoidValue else other

abbrev pub unless_kind : Bool → FaultKind → Option FaultKind
unless_kind ok k = if ok then None else Some k

-- what a test breaks
abbrev pub test_breaks : Value → Option FaultKind
test_breaks v = unless_void v (unless_kind (is_scalar v.ctype) fault.BadOperand)

abbrev pub by : {A : Type 0} → ℕ → Option FaultKind → A → Checked A
by line None x = Ok x
by line (Some k) x = refuse k line

-- the node of a test: an integer or a pointer
unfoldable pub condition : ℕ → Value → Checked Expr
condition line v = by line (test_breaks v) v.code

-- the node of the value of a switch: an integer
unfoldable pub switched : ℕ → Value → Checked Expr
switched line v = by line (unless_void v (unless_kind (is_integer v.ctype) fault.BadOperand)) v.code

-- ---- prefixes

-- the rule that an operand which is to be an integer breaks
abbrev pub integer_breaks : Value → Option FaultKind
integer_breaks v = unless_void v (unless_kind (is_integer v.ctype) fault.BadOperand)

-- unary `+`, which is no node
unfoldable pub plus : ℕ → Value → Checked Operand
plus line v = by line (integer_breaks v) (made v.code (promoted v.ctype))

-- `-` and `~`
unfoldable pub on_integer : ℕ → UnKind → Value → Checked Operand
on_integer line k v = by line (integer_breaks v) (made (ex.Un k v.code) (promoted v.ctype))

-- a pointer to something that isn't void
abbrev pub pointer_breaks : Value → Option FaultKind
pointer_breaks v = unless_void v (unless_kind (is_pointer v.ctype && not (points_to_void v.ctype)) fault.BadOperand)

-- `*`: the place that a pointer points to
unfoldable pub dereferenced : ℕ → Value → Checked Operand
dereferenced line v = by line (pointer_breaks v) (at_address v.code (inner v.ctype))

-- `!`
unfoldable pub negated : ℕ → Value → Checked Operand
negated line v = by line (test_breaks v) (made (ex.Un un.IsZero v.code) (integer kind.Int))

-- a cast: integers and pointers to integers and pointers, and anything to void
abbrev pub cast_breaks : CType → Value → Option FaultKind
cast_breaks t v = unless_void v (unless_kind (is_scalar t && is_scalar v.ctype) fault.BadOperand)

unfoldable pub cast : ℕ → CType → Value → Checked Operand
cast line t v = if is_void t then Ok (made (ex.Void v.code) t) else by line (cast_breaks t v) (made (converted v t) t)

-- `a, b`: the type and the value of b
unfoldable pub comma : Value → Value → Operand
comma a b = made (ex.Comma a.code b.code) b.ctype

-- a statement that is an expression
abbrev pub effect : Operand → Expr
effect o = (value_of o).code
