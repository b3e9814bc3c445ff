-- What stands right: an expression, and an operand, whose place names what is there.
use Rattle.std.specs.Prelude.{◌≡◌, ℕ, ◌-◌, true, false, nat_le, List, [], ◌∷◌, length, slice_get, Option, Some, None}
use Rattle.std.specs.Prelude.{Ok, Err}
use Rattle.c_types.specs.declared.ctype.CType.{CType}
use Rattle.c_types.specs.declared.ctype.Layer.{Layer, out-Layer}
use Rattle.c_types.specs.declared.ctype.Layer.TheOpen.{Layer-F}
use Rattle.c_types.specs.Types.{Opened, outermost, is_unlisted, layers_of}
use Rattle.typed_tree.specs.declared.expression.Expr.{Expr}
use Rattle.check_operands.specs.declared.operand.Operand.{Operand}
use Rattle.check_operands.specs.declared.operand.Place.{Place}
use Rattle.check_operands.specs.declared.operand.Place.TheVariants as place
use Rattle.tick_tree.specs.Faults.{Checked}
use Rattle.wellformed.specs.Places.{Around, part, in_scope, captured, is_variable}

abbrev pub Stands : Around → Expr → Type 0
Stands a e = (part e).stands a ≡ true

abbrev pub EachStands : Around → List Expr → Type 0
EachStands a [] = Unit {0}
EachStands a (e ∷ es) = Stands a e × EachStands a es

-- how many parameters the list of a function type has
abbrev pub listed_at : Opened → Option ℕ
listed_at (Layer-F.Function ts) = Some (length ts)
listed_at _ = None

abbrev pub listed_by : Option Layer → Option ℕ
listed_by None = None
listed_by (Some l) = listed_at (out-Layer l)

abbrev pub listed : CType → Option ℕ
listed t = listed_by (outermost (layers_of t))

-- where the functions of the program have so many parameters, the one of this number has as many as the list of this
-- type; a type that takes any arguments is none of a function of the program
pub record HasType (counts : List ℕ) (f : ℕ) (t : CType) : Type 0 where
  pub first : nat_le 1 f ≡ true
  pub list : is_unlisted (outermost (layers_of t)) ≡ false
  pub at : (count : ℕ) → listed t ≡ Some count → slice_get counts (f - 1) ≡ Some count

-- a place of this type
abbrev pub RightPlace : Around → Place → CType → Type 0
RightPlace a (place.Value e) t = Stands a e
RightPlace a (place.Register i) t = in_scope i a ≡ true
RightPlace a (place.Generated i) t = captured is_variable i a ≡ true
RightPlace a (place.Memory e) t = Stands a e
RightPlace a (place.Function f) t = HasType a.functions f t

abbrev pub IsRight : Around → Operand → Type 0
IsRight a o = RightPlace a o.place o.ctype

-- what a rule answers is so, unless it is broken
abbrev pub Unless : {A : Type 0} → (A → Type 0) → Checked A → Type 0
Unless P (Ok x) = P x
Unless P (Err f) = Unit {0}
