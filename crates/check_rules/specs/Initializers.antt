-- Initializers in a block. A variable that is no array takes one value, by assignment; a brace list initializes no such
-- variable, and an array of a block takes no initializer at all. Whether an array that has its length from its
-- initializer is too large is asked behind the initializer's expressions, and before its own rules. Of several rules
-- that are broken, by the values of a list too, the lowest number counts. A void value breaks VoidValue alone. These
-- are this project's own rules.
use Rattle.std.specs.Prelude.{ℕ, Bool, true, false, not, ◌&&◌, ◌||◌, ◌==◌, nat_lt, if◌then◌else◌, List, [], ◌∷◌, length}
use Rattle.std.specs.Prelude.{Option, Some, None, Ok}
use Rattle.c_types.specs.declared.ctype.Base.{Base}
use Rattle.c_types.specs.declared.ctype.Base.TheVariants as base
use Rattle.c_types.specs.declared.ctype.CType.{CType}
use Rattle.c_types.specs.declared.ctype.Integer.TheVariants as integer
use Rattle.c_types.specs.Types.{base_of, layers_of, converts}
use Rattle.c_type_refs.specs.Sizes.{limited_size}
use Rattle.check_declarators.specs.Making
use Rattle.check_declarators.specs.Making.{lower}
use Rattle.check_types.specs.Shapes.{is_void}
use Rattle.tick_tree.specs.declared.fault.FaultKind.{FaultKind}
use Rattle.tick_tree.specs.declared.fault.FaultKind.TheVariants as fault
use Rattle.tick_tree.specs.Faults.{Checked, refuse, number, ◌>>=◌}
use Rattle.typed_tree.specs.declared.expression.Stmt.{Stmt}
use Rattle.typed_tree.specs.declared.expression.Stmt.TheVariants as st
use Rattle.check_operands.specs.declared.operand.Operand.{Operand}
use Rattle.check_operands.specs.declared.operand.Value.{Value}
use Rattle.check_operands.specs.Operands.{value_of, effect}
use Rattle.check_operands.specs.Places as places

abbrev pub is_array : CType → Bool
is_array t = Making.is_array (layers_of t)

abbrev pub is_char : Base → Bool
is_char base.Void = false
is_char (base.Integer integer.Char) = true
is_char (base.Integer _) = false

-- an array of char
abbrev pub is_text : CType → Bool
is_text t = is_array t && length (layers_of t) == 1 && is_char (base_of t)

abbrev pub is_size : Option ℕ → Bool
is_size None = false
is_size (Some n) = nat_lt 0 n

-- a type of some bytes, of at most 4,194,304: an array whose length is counted may have another
abbrev pub has_size : CType → Bool
has_size t = is_size (limited_size t)

-- what a value breaks as an initializer of this type
abbrev pub value_breaks : Value → CType → Option FaultKind
value_breaks v t = if is_void v.ctype then Some fault.VoidValue else
    (if converts v.ctype t v.zero then None else Some fault.TypeMismatch)

-- the rule of the lower number, of one that may be broken and one that is
abbrev pub lowest : Option FaultKind → FaultKind → FaultKind
lowest None k = k
lowest (Some b) k = if nat_lt (number k) (number b) then k else b

-- what a value breaks as the initializer of an array of a block; whether it is a string is said
abbrev pub array_breaks : Bool → Value → CType → FaultKind
array_breaks string v t =
    if not (has_size t) || string && is_text t then fault.BadArray else lowest (value_breaks v t) fault.BadArray

-- a variable that is no array begins with this value: an assignment
unfoldable pub initialized : ℕ → Operand → Operand → Checked (List Stmt)
initialized line p o = places.assign line p (value_of o) >>= (λ r. Ok (st.Eval (effect r) ∷ []))

-- a variable begins with this value, which is a string or not
unfoldable pub from_value : ℕ → Operand → Bool → Operand → Checked (List Stmt)
from_value line p string o =
    if is_array p.ctype then refuse (array_breaks string (value_of o) p.ctype) line else initialized line p o

-- one value of a list more
unfoldable pub element : Operand → CType → Option FaultKind → Option FaultKind
element o t broken = lower broken (value_breaks (value_of o) t)

-- what a list breaks, for an array or not, that has a size or not, whose values break this
abbrev pub list_breaks : Bool → Bool → Option FaultKind → FaultKind
list_breaks is_row sized broken =
    if is_row && sized then lowest broken fault.BadArray else (if is_row then fault.BadArray else fault.TypeMismatch)

-- a variable begins with a list of values, which break this
abbrev pub from_list : ℕ → Bool → Bool → Option FaultKind → Checked (List Stmt)
from_list line is_row sized broken = refuse (list_breaks is_row sized broken) line
