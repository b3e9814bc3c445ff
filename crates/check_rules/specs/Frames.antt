-- What the walk knows of the function that it is in. A variable is a frame object where its type is an array, or where
-- an earlier walk saw that it needs an address; every other one is a register variable of its own number. Frame objects
-- stand one after the other, each a multiple of 4 bytes long. These are this project's own rules.
use Rattle.std.specs.Prelude.{ℕ, ◌+◌, ◌*◌, ◌/◌, min, Bool, true, false, ◌||◌, nat_lt, if◌then◌else◌, List, [], ◌∷◌}
use Rattle.std.specs.Prelude.{◌++◌, length, slice_get, slice_set, Option, Some, None}
use Rattle.c_types.specs.declared.ctype.CType.{CType}
use Rattle.c_types.specs.Types.{layers_of}
use Rattle.c_type_refs.specs.Sizes.{limited_size}
use Rattle.c_types.specs.Kinds.{is_array}
use Rattle.check_types.specs.Shapes.{width_of, void}
use Rattle.typed_tree.specs.declared.expression.Stmt.{Stmt}
use Rattle.typed_tree.specs.declared.expression.Stmt.TheVariants as st
use Rattle.check_rules.specs.declared.frame.Home.TheVariants as home
use Rattle.check_rules.specs.declared.frame.Frame.{Frame}
use Rattle.limits.specs.declared.program.TheConstants.{PLACE_TOP}

-- before all functions
abbrev pub new : Frame
new = record { result = void; homes = []; inner = 0; object = 0; nodes = []; marks = []; done = []; objects = [] }

-- a count of things, as far as a word counts
abbrev pub count : {A : Type 0} → List A → ℕ
count xs = min (length xs) 4294967295

-- the number of the function's next variable
abbrev pub number : Frame → ℕ
number f = count f.homes

-- ---- marks

abbrev pub mark_by : Option Bool → Bool
mark_by None = false
mark_by (Some m) = m

-- what these marks say of the variable of this number
abbrev pub mark_in : ℕ → Option (List Bool) → Bool
mark_in n None = false
mark_in n (Some marks) = mark_by (slice_get marks n)

-- whether an earlier walk saw that the next variable needs an address
abbrev pub needs_address : Frame → Bool
needs_address f = mark_in (length f.homes) (slice_get f.objects (length f.done))

abbrev pub with_mark : ℕ → List Bool → List Bool
with_mark n marks = if nat_lt n (length marks) then slice_set marks n true else marks

-- the variable of this number needs an address
abbrev pub marked : ℕ → Frame → Frame
marked n f = record f { marks = with_mark n f.marks }

-- ---- variables

abbrev pub words_by : Option ℕ → ℕ
words_by None = 0
words_by (Some bytes) = (bytes + 3) / 4

-- how many words an object of this type takes
abbrev pub words : CType → ℕ
words t = words_by (limited_size t)

-- the bytes of frame objects after so many words more, up to one word over the limit
abbrev pub after : ℕ → ℕ → ℕ
after object n = min (object + 4 * n) PLACE_TOP

abbrev pub is_object : CType → Frame → Bool
is_object t f = is_array (layers_of t) || needs_address f

abbrev pub object_variable : ℕ → Frame → Frame
object_variable n f = record f {
  homes = f.homes ++ home.Object f.object ∷ [];
  marks = f.marks ++ false ∷ [];
  nodes = f.nodes ++ st.Object f.object n ∷ [];
  object = after f.object n;
}

abbrev pub register_variable : Frame → Frame
register_variable f = record f {
  homes = f.homes ++ home.Register ∷ [];
  marks = f.marks ++ false ∷ [];
  nodes = f.nodes ++ st.Variable (number f) ∷ [];
}

-- one variable more of a block of the function
unfoldable pub variable : CType → Frame → Frame
variable t f = if is_object t f then object_variable (words t) f else register_variable f

abbrev pub object_parameter : CType → Frame → Frame
object_parameter t f = record f {
  homes = f.homes ++ home.Object f.object ∷ [];
  marks = f.marks ++ false ∷ [];
  nodes = f.nodes ++ st.ParameterObject (number f) (width_of t) f.object ∷ [];
  object = after f.object 1;
}

abbrev pub register_parameter : CType → Frame → Frame
register_parameter t f = record f {
  homes = f.homes ++ home.Register ∷ [];
  marks = f.marks ++ false ∷ [];
  nodes = f.nodes ++ st.Parameter (number f) (width_of t) ∷ [];
}

-- one parameter more of the function; its type is neither an array nor a function
unfoldable pub parameter : CType → Frame → Frame
parameter t f = if needs_address f then object_parameter t f else register_parameter t f

-- the number of the tick's next variable: they follow the function's
abbrev pub inner_number : Frame → ℕ
inner_number f = min (count f.homes + f.inner) 4294967295

-- one variable more of a block of the tick
abbrev pub inner_variable : Frame → Frame
inner_variable f = record f { inner = min (f.inner + 1) 4294967295; nodes = f.nodes ++ st.Variable f.inner ∷ [] }

-- in a tick, which has no variable yet
abbrev pub ticked : Frame → Frame
ticked f = record f { inner = 0 }

-- ---- blocks and functions

-- in a block of its own, which has no variable yet
abbrev pub entered : Frame → Frame
entered f = record f { nodes = [] }

-- back in the block whose variables are these
abbrev pub left : List Stmt → Frame → Frame
left outer f = record f { nodes = outer }

-- in a function that answers this type
abbrev pub began : CType → Frame → Frame
began t f = record f { result = t; homes = []; inner = 0; object = 0; nodes = []; marks = [] }

-- after that function
abbrev pub ended : Frame → Frame
ended f = record f { marks = []; done = f.done ++ f.marks ∷ [] }

-- before all functions, with the marks that this walk made as those of an earlier one
abbrev pub again : Frame → Frame
again f = record new { objects = f.done }
