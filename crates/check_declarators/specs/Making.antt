-- The type that a declaration gives to a name, or the first rule on types that it breaks. The rules are C's, cut to
-- this project's language, with its specifications: a cspec is of void or a word type, a vspec of a word type, a type
-- has at most 4,194,304 bytes, and a list has at most 8 parameters. All the rules stand at one node, the declaration:
-- its line is the fault's, and of several broken rules the one of the lowest number counts.
use Rattle.std.specs.Prelude.{ℕ, ◌*◌, Bool, true, false, ◌&&◌, ◌||◌, nat_lt, nat_le, if◌then◌else◌, List, [], ◌∷◌, ◌++◌}
use Rattle.std.specs.Prelude.{length, Option, Some, None, Result, Ok, Err}
use Rattle.c_types.specs.declared.ctype.Integer.TheVariants as kind
use Rattle.c_types.specs.declared.ctype.Base.{Base}
use Rattle.c_types.specs.declared.ctype.Base.TheVariants as base
use Rattle.c_types.specs.declared.ctype.Layer.{Layer, out-Layer}
use Rattle.c_types.specs.declared.ctype.Layer.TheVariants as layer
use Rattle.c_types.specs.declared.ctype.Layer.TheOpen.{Layer-F}
use Rattle.c_types.specs.declared.ctype.CType.{CType}
pub use Rattle.c_types.specs.Types.{ctype}
pub use Rattle.c_types.specs.Kinds.{is_array_at, is_array_layer, is_array, is_function_at, is_function_layer}
pub use Rattle.c_types.specs.Kinds.{is_function}
pub use Rattle.c_types.specs.Kinds.{is_word_base, is_word}
use Rattle.c_types.specs.Types.{Opened, base_size, size_under, outermost, under, is_void, is_pointer, base_of}
use Rattle.c_types.specs.Types.{layers_of}
use Rattle.tick_tree.specs.declared.fault.Fault.{Fault}
use Rattle.tick_tree.specs.declared.fault.FaultKind.{FaultKind}
use Rattle.tick_tree.specs.declared.fault.FaultKind.TheVariants.{TypeMismatch, VoidValue, BadArray, TooManyParameters}
use Rattle.tick_tree.specs.Faults.{number}
use Rattle.tick_tree.specs.declared.base.Prefix.{Prefix}
use Rattle.tick_tree.specs.declared.base.Prefix.TheVariants as prefix
use Rattle.check_declarators.specs.declared.steps.Length.{Length}
use Rattle.check_declarators.specs.declared.steps.Length.TheVariants as len
use Rattle.check_declarators.specs.declared.steps.Role.{Role}
use Rattle.check_declarators.specs.declared.steps.Role.TheVariants as role
use Rattle.check_declarators.specs.declared.steps.Step.{Step}
use Rattle.check_declarators.specs.declared.steps.Step.TheVariants as step
use Rattle.check_declarators.specs.Steps.{layer_of, filled}
use Rattle.limits.specs.declared.program.TheConstants.{MAX_SIZE, MOST_ARGUMENTS}

-- the bytes of these layers over their base
abbrev pub bytes : Base → List Layer → ℕ
bytes b ls = size_under (base_size b) ls

-- ---- what a step breaks

abbrev pub unless : Bool → FaultKind → Option FaultKind
unless ok k = if ok then None else Some k

-- an array of `count` has a length and no more bytes than a type may have
abbrev pub is_count : ℕ → ℕ → Bool
is_count count size = nat_lt 0 count && nat_le size MAX_SIZE

-- What the length of an array breaks whose elements have so many bytes. What an initializer counts is tested behind it.
abbrev pub length_breaks : Length → ℕ → Option FaultKind
length_breaks (len.Constant n) size = unless (is_count n (size * n)) BadArray
length_breaks len.Absent size = Some BadArray
length_breaks len.Computed size = Some BadArray
length_breaks len.Void size = Some VoidValue
length_breaks (len.Counted n) size = None

abbrev pub array_breaks : Length → Base → List Layer → Option FaultKind
array_breaks n b ls = if is_function ls then Some TypeMismatch else
    (if is_void b ls then Some VoidValue else length_breaks n (bytes b ls))

abbrev pub prefix_breaks : Prefix → Base → List Layer → Option FaultKind
prefix_breaks prefix.Star b ls = None
prefix_breaks prefix.Cspec b ls = unless (is_void b ls || is_word b ls) TypeMismatch
prefix_breaks prefix.Vspec b ls = unless (is_word b ls) TypeMismatch

-- no function answers a function or an array
abbrev pub result_breaks : List Layer → Option FaultKind
result_breaks ls = if is_function ls || is_array ls then Some TypeMismatch else None

abbrev pub function_breaks : ℕ → List Layer → Option FaultKind
function_breaks count ls =
    if is_function ls || is_array ls then Some TypeMismatch else unless (nat_le count MOST_ARGUMENTS) TooManyParameters

-- the rule of the lowest number that is broken where this step is taken on these layers over their base
abbrev pub breaks : Step → Base → List Layer → Option FaultKind
breaks (step.Prefix p) b ls = prefix_breaks p b ls
breaks (step.Array n) b ls = array_breaks n b ls
breaks (step.Function list) b ls = function_breaks (length list) ls
breaks step.Unlisted b ls = result_breaks ls

-- ---- all steps

abbrev pub lower_of : FaultKind → FaultKind → Option FaultKind
lower_of a b = if nat_lt (number b) (number a) then Some b else Some a

-- the broken rule of the lower number
abbrev pub lower : Option FaultKind → Option FaultKind → Option FaultKind
lower None b = b
lower (Some a) None = Some a
lower (Some a) (Some b) = lower_of a b

-- the layers after these steps, of which the last is taken first
abbrev pub made : List Step → List Layer → List Layer
made [] ls = ls
made (s ∷ ss) ls = made ss ls ++ layer_of s ∷ []

-- the broken rule of the lowest number of all steps
abbrev pub worst : List Step → Base → List Layer → Option FaultKind
worst [] b ls = None
worst (s ∷ ss) b ls = lower (worst ss b ls) (breaks s b (made ss ls))

abbrev pub void_breaks : Base → List Layer → Option FaultKind
void_breaks b ls = if is_void b ls then Some VoidValue else None

-- what the whole type breaks by what it is declared for
abbrev pub role_breaks : Role → Base → List Layer → Option FaultKind
role_breaks role.Typename b ls = None
role_breaks role.FileScope b ls = void_breaks b ls
role_breaks role.Local b ls = if is_function ls then Some TypeMismatch else void_breaks b ls
role_breaks role.Parameter b ls = void_breaks b ls

-- ---- the type

-- an array becomes a pointer to its element, and a function one to itself
abbrev pub decayed_layers : List Layer → List Layer
decayed_layers ls = if is_array ls then under ls ++ layer.Pointer ∷ [] else
    (if is_function ls then ls ++ layer.Pointer ∷ [] else ls)

-- the type that a value has whose place has this type
unfoldable pub decayed : CType → CType
decayed t = ctype (base_of t) (decayed_layers (layers_of t))

abbrev pub finished : Role → Base → List Layer → CType
finished role.Typename b ls = ctype b ls
finished role.FileScope b ls = ctype b ls
finished role.Local b ls = ctype b ls
finished role.Parameter b ls = ctype b (decayed_layers ls)

-- the outermost array of a parameter may lack its length
abbrev pub taken_as : Role → List Step → List Step
taken_as role.Typename ss = ss
taken_as role.FileScope ss = ss
taken_as role.Local ss = ss
taken_as role.Parameter ss = filled 1 ss

abbrev pub answer : ℕ → CType → Option FaultKind → Result CType Fault
answer line t None = Ok t
answer line t (Some k) = Err (record { kind = k; line = line; token = 0 })

abbrev pub declared_by : Role → ℕ → Base → List Step → Result CType Fault
declared_by r line b ss = answer line (finished r b (made ss [])) (lower (worst ss b []) (role_breaks r b (made ss [])))

-- the type that these steps make of this base, or the fault of the lowest number
unfoldable pub declared_type : Role → ℕ → Base → List Step → Result CType Fault
declared_type r line b ss = declared_by r line b (taken_as r ss)
