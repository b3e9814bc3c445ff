-- Initializers at file scope. They are constant expressions, strings for `char *`, lists of these for an array, and a
-- string for an array of char, which stands in the array itself with its zero byte. A value breaks VoidValue alone,
-- else TypeMismatch where it doesn't convert, else BadOperand where it is of another form or has no value. Of several
-- rules that a list breaks, the lowest number counts. Whether an array that has its length from its initializer is too
-- large is asked behind the initializer's expressions, and before its own rules: BadArray. These are this project's own
-- rules.
use Rattle.std.specs.Prelude.{ℕ, ◌/◌, ◌%◌, Bool, not, ◌&&◌, ◌||◌, ◌==◌, nat_lt, if◌then◌else◌, List, [], ◌∷◌, ◌++◌}
use Rattle.std.specs.Prelude.{length, Option, Some, None, Result, Ok, Err}
use Rattle.word32.specs.declared.width.Width.{Width}
use Rattle.word32.specs.declared.width.Width.TheVariants as width
use Rattle.c_types.specs.declared.ctype.CType.{CType}
use Rattle.c_types.specs.declared.ctype.Layer.{Layer, out-Layer}
use Rattle.c_types.specs.declared.ctype.Layer.TheOpen.{Layer-F}
use Rattle.c_types.specs.Types.{Opened, base_of, layers_of, outermost, is_pointer}
use Rattle.check_declarators.specs.Making.{lower}
use Rattle.check_types.specs.Shapes.{width_of}
use Rattle.tick_tree.specs.declared.fault.FaultKind.{FaultKind}
use Rattle.tick_tree.specs.declared.fault.FaultKind.TheVariants as fault
use Rattle.tick_tree.specs.Faults.{refuse}
use Rattle.check_operands.specs.declared.operand.Operand.{Operand}
use Rattle.check_operands.specs.declared.operand.Value.{Value}
use Rattle.check_operands.specs.Operands.{value_of}
use Rattle.meaning_operators.specs.Constants.{constant}
use Rattle.check_rules.specs.Images as images
use Rattle.check_rules.specs.Walks.{Rule}
use Rattle.check_rules.specs.declared.state.State.{State}
use Rattle.check_rules.specs.Initializers.{is_array, is_char, has_size, value_breaks}
use Rattle.check_globals.specs.declared.statics.Row.{Row}

-- ---- bytes

-- the bytes of a word as a value of this width, the most significant first
abbrev pub bytes_of : Width → ℕ → List ℕ
bytes_of width.SignedByte n = n % 256 ∷ []
bytes_of width.Byte n = n % 256 ∷ []
bytes_of width.SignedHalf n = n / 256 % 256 ∷ n % 256 ∷ []
bytes_of width.Half n = n / 256 % 256 ∷ n % 256 ∷ []
bytes_of width.Word n = n / 16777216 % 256 ∷ n / 65536 % 256 ∷ n / 256 % 256 ∷ n % 256 ∷ []

-- the global at this place begins with these bytes
abbrev pub fill : ℕ → List ℕ → Rule State (Unit {0})
fill at bytes s = Ok (tt, record s { image = images.with_bytes at bytes s.image })

-- ---- one value

-- `char *`
abbrev pub is_text_pointer : CType → Bool
is_text_pointer t = length (layers_of t) == 1 && is_pointer (outermost (layers_of t)) && is_char (base_of t)

abbrev pub constant_by : Option ℕ → Result ℕ FaultKind
constant_by None = Err fault.BadOperand
constant_by (Some n) = Ok n

abbrev pub formed : Bool → Value → Result ℕ FaultKind
formed allowed v = if allowed then constant_by (constant v.code) else Err fault.BadOperand

abbrev pub word_by : Option FaultKind → Bool → Value → Result ℕ FaultKind
word_by None allowed v = formed allowed v
word_by (Some k) allowed v = Err k

-- the word of a static value, or what it breaks; whether it has the form of a constant and whether it is a string are
-- said
abbrev pub static_word : Bool → Bool → Value → CType → Result ℕ FaultKind
static_word form string v t = word_by (value_breaks v t) (form || string && is_text_pointer t) v

abbrev pub value_by : ℕ → ℕ → CType → Result ℕ FaultKind → Rule State (Unit {0})
value_by line at t (Ok n) s = fill at (bytes_of (width_of t) n) s
value_by line at t (Err k) s = refuse k line

-- what a value gives a type, where that has a size
abbrev pub sized_word : CType → Result ℕ FaultKind → Result ℕ FaultKind
sized_word t word = if has_size t then word else Err fault.BadArray

-- the global at this place has this type and begins with this value
unfoldable pub static_value : ℕ → ℕ → CType → Bool → Bool → Operand → Rule State (Unit {0})
static_value line at t form string o s = value_by line at t (sized_word t (static_word form string (value_of o) t)) s

-- ---- an array

abbrev pub elements_at : Opened → ℕ
elements_at (Layer-F.Array n) = n
elements_at _ = 0

abbrev pub elements_by : Option Layer → ℕ
elements_by None = 0
elements_by (Some l) = elements_at (out-Layer l)

-- how many elements an array has
abbrev pub elements_of : CType → ℕ
elements_of t = elements_by (outermost (layers_of t))

abbrev pub is_too_long : ℕ → CType → Bool
is_too_long count t = nat_lt (elements_of t) count

-- the array has no size, or so many elements are too many
abbrev pub lacks_room : ℕ → CType → Bool
lacks_room count t = not (has_size t) || is_too_long count t

-- an array of char begins with a string and its zero byte
unfoldable pub static_text : ℕ → ℕ → CType → List ℕ → Rule State (Unit {0})
static_text line at t bytes s =
    if lacks_room (length (bytes ++ 0 ∷ [])) t then refuse fault.BadArray line else fill at (bytes ++ 0 ∷ []) s

-- before the values of a list
abbrev pub row_begun : CType → Row
row_begun t = record { broken = if is_array t then None else Some fault.TypeMismatch; bytes = [] }

abbrev pub row_by : CType → Row → Result ℕ FaultKind → Row
row_by t row (Ok n) = record row { bytes = row.bytes ++ bytes_of (width_of t) n }
row_by t row (Err k) = record row { broken = lower row.broken (Some k) }

-- one value of a list more, by the type of an element
unfoldable pub row_more : CType → Bool → Bool → Operand → Row → Row
row_more t form string o row = row_by t row (static_word form string (value_of o) t)

-- what a list of so many values breaks
abbrev pub row_breaks : ℕ → CType → Row → Option FaultKind
row_breaks count t row =
    if has_size t then (if is_too_long count t then lower row.broken (Some fault.BadArray) else row.broken)
    else Some fault.BadArray

abbrev pub list_by : ℕ → ℕ → List ℕ → Option FaultKind → Rule State (Unit {0})
list_by line at bytes None s = fill at bytes s
list_by line at bytes (Some k) s = refuse k line

-- the global at this place has this type and begins with a list of so many values
unfoldable pub static_list : ℕ → ℕ → CType → ℕ → Row → Rule State (Unit {0})
static_list line at t count row s = list_by line at row.bytes (row_breaks count t row) s
