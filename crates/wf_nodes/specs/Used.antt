-- What is used right: an expression of a type, which leaves a value exactly where the type isn't void, and an operand,
-- whose place has a value of its type.
use Rattle.std.specs.Prelude.{◌≡◌, ℕ, Bool, true, false, not, List, [], ◌∷◌, length, Option, Some, None, Ok, Err}
use Rattle.c_types.specs.declared.ctype.CType.{CType}
use Rattle.c_types.specs.declared.ctype.Layer.{Layer, out-Layer}
use Rattle.c_types.specs.declared.ctype.Layer.TheOpen.{Layer-F}
use Rattle.c_types.specs.Types.{Opened, outermost, layers_of}
use Rattle.check_declarators.specs.declared.steps.Role.{Role}
use Rattle.check_declarators.specs.declared.steps.Role.TheVariants as role
use Rattle.check_types.specs.Shapes.{is_void, inner}
use Rattle.tick_tree.specs.Faults.{Checked}
use Rattle.typed_tree.specs.declared.expression.Library.{Library}
use Rattle.typed_tree.specs.declared.expression.Expr.{Expr}
use Rattle.typed_tree.specs.Sizes.{answers}
use Rattle.check_operands.specs.declared.operand.Operand.{Operand}
use Rattle.check_operands.specs.declared.operand.Place.{Place}
use Rattle.check_operands.specs.declared.operand.Place.TheVariants as place
use Rattle.check_operands.specs.declared.operand.Value.{Value}
use Rattle.check_operands.specs.declared.arguments.Argument.{Argument}
use Rattle.check_operands.specs.declared.arguments.Arguments.{Arguments}
use Rattle.check_operands.specs.Calls.{library_kind}
use Rattle.wellformed.specs.Values.{value_use, is_used, is_right}

-- ---- expressions

-- it leaves a value, and so does each part of it whose value is used
abbrev pub Leaves : Expr → Type 0
Leaves e = is_used e ≡ true

abbrev pub EachLeaves : List Expr → Type 0
EachLeaves [] = Unit {0}
EachLeaves (e ∷ es) = Leaves e × EachLeaves es

-- an expression of this type: it leaves a value where the type isn't void, and none where it is
pub record UsedAs (t : CType) (e : Expr) : Type 0 where
  pub right : is_right e ≡ true
  pub value : (value_use e).value ≡ not (is_void t)

-- ---- values and operands

abbrev pub IsUsedValue : Value → Type 0
IsUsedValue v = UsedAs v.ctype v.code

-- what stands in memory: its address is left, and it isn't void
pub record InMemory (e : Expr) (t : CType) : Type 0 where
  pub address : Leaves e
  pub type : is_void t ≡ false

-- a place of this type
abbrev pub UsedPlace : Place → CType → Type 0
UsedPlace (place.Value e) t = UsedAs t e
UsedPlace (place.Register i) t = is_void t ≡ false
UsedPlace (place.Generated i) t = is_void t ≡ false
UsedPlace (place.Memory e) t = InMemory e t
UsedPlace (place.Function f) t = is_void t ≡ false

abbrev pub IsUsed : Operand → Type 0
IsUsed o = UsedPlace o.place o.ctype

-- ---- arguments

-- each expression has the type of the argument in its place, and there are as many
abbrev pub EachUsedAs : List Argument → List Expr → Type 0
EachUsedAs [] [] = Unit {0}
EachUsedAs (a ∷ as_) (e ∷ es) = UsedAs a.ctype e × EachUsedAs as_ es
EachUsedAs _ _ = ⊥

abbrev pub AreUsed : Arguments → Type 0
AreUsed list = EachUsedAs list.types list.codes

-- ---- declarations

-- a declaration of a name; a type name declares none
abbrev pub declares : Role → Bool
declares role.Typename = false
declares role.FileScope = true
declares role.Local = true
declares role.Parameter = true

-- ---- the library

-- whether a library function leaves a value; the one without a node for its argument is getchar
abbrev pub library_answers : Option Library → Bool
library_answers None = true
library_answers (Some f) = answers f

abbrev pub has_one : List CType → Bool
has_one [] = false
has_one (t ∷ ts) = true

abbrev pub takes_one_at : Opened → Bool
takes_one_at (Layer-F.Function ts) = has_one ts
takes_one_at _ = false

abbrev pub takes_one_by : Option Layer → Bool
takes_one_by None = false
takes_one_by (Some l) = takes_one_at (out-Layer l)

-- a function type with a list of parameters that isn't empty
abbrev pub takes_one : CType → Bool
takes_one t = takes_one_by (outermost (layers_of t))

-- how many parameters the list of a function type has
abbrev pub listed_at : Opened → Option ℕ
listed_at (Layer-F.Function ts) = Some (length ts)
listed_at _ = None

abbrev pub listed_by : Option Layer → Option ℕ
listed_by None = None
listed_by (Some l) = listed_at (out-Layer l)

abbrev pub listed : CType → Option ℕ
listed t = listed_by (outermost (layers_of t))

-- how many arguments a library function takes
abbrev pub library_count : Option Library → ℕ
library_count None = 0
library_count (Some f) = 1

-- a type that the library function of this number may have
pub record IsLibrary (n : ℕ) (t : CType) : Type 0 where
  pub answer : library_answers (library_kind n) ≡ not (is_void (inner t))
  -- one that answers nothing takes an argument
  pub takes : is_void (inner t) ≡ true → takes_one t ≡ true
  pub count : listed t ≡ Some (library_count (library_kind n))

-- ---- rules that may be broken

-- what a rule answers is so, unless it is broken
abbrev pub Unless : {A : Type 0} → (A → Type 0) → Checked A → Type 0
Unless P (Ok x) = P x
Unless P (Err f) = Unit {0}
