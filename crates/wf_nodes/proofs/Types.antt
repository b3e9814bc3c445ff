-- Which types are void: the one without layers over no integer.
use Rattle.std.proofs.Common.{◌≡◌, ℕ, Bool, true, false, if◌then◌else◌, refl, sym, ◌∙◌, List, [], ◌∷◌, ◌++◌, Option}
use Rattle.std.proofs.Common.{Some, None}
use Rattle.c_types.specs.declared.ctype.Base.{Base}
use Rattle.c_types.specs.declared.ctype.Base.TheVariants as base
use Rattle.c_types.specs.declared.ctype.Integer.{Integer}
use Rattle.c_types.specs.declared.ctype.Layer.{Layer}
use Rattle.c_types.specs.declared.ctype.Layer.TheVariants as layer
use Rattle.c_types.specs.declared.ctype.CType.{CType}
use Rattle.c_types.specs.Types as types
use Rattle.c_types.specs.Types.{base_of, layers_of, outermost, under}
use Rattle.c_type_refs.specs.Sizes.{limited_parts, pointed_size}
use Rattle.check_declarators.specs.Making.{decayed, decayed_layers, is_array, is_function, ctype}
use Rattle.check_types.specs.Shapes.{integer_parts, integer_of, is_void, is_pointer, integer, void, over, inner}
use Rattle.check_types.specs.Shapes.{promoted_by, promoted}

-- ---- by the base and the layers

integer_value : (b : Base) (ls : List Layer) (k : Integer) → integer_parts b ls ≡ Some k → types.is_void b ls ≡ false
integer_value base.Void [] k h = cc
integer_value (base.Integer j) [] k h = refl
integer_value b (l ∷ ls) k h = refl

pointer_value : (b : Base) (ls : List Layer) → types.is_pointer (outermost ls) ≡ true → types.is_void b ls ≡ false
pointer_value b [] h = cc
pointer_value b (l ∷ ls) h = refl

limited_value : (b : Base) (ls : List Layer) (n : ℕ) → limited_parts b ls ≡ Some n → types.is_void b ls ≡ false
limited_value base.Void [] n h = cc
limited_value (base.Integer k) [] n h = refl
limited_value b (l ∷ ls) n h = refl

layered_value : (b : Base) (ls : List Layer) (l : Layer) → types.is_void b (ls ++ l ∷ []) ≡ false
layered_value b [] l = refl
layered_value b (x ∷ ls) l = refl

one_of : (b : Base) (l p : Layer) (ls ms : List Layer) (x y : Bool) →
    types.is_void b (if x then ms ++ p ∷ [] else (if y then (l ∷ ls) ++ p ∷ [] else (l ∷ ls))) ≡ false
one_of b l p ls ms true y = layered_value b ms p
one_of b l p ls ms false true = refl
one_of b l p ls ms false false = refl

pub decayed_value : (b : Base) (ls : List Layer) → types.is_void b (decayed_layers ls) ≡ types.is_void b ls
decayed_value b [] = refl
decayed_value b (l ∷ ls) = one_of b l layer.Pointer ls (under (l ∷ ls)) (is_array (l ∷ ls)) (is_function (l ∷ ls))

-- ---- types

pub made_void : (b : Base) (ls : List Layer) → is_void (ctype b ls) ≡ types.is_void b ls
made_void b ls = refl

pub integer_type : (k : Integer) → is_void (integer k) ≡ false
integer_type k = made_void (base.Integer k) []

pub void_type : is_void void ≡ true
void_type = made_void base.Void []

pub layer_type : (l : Layer) (t : CType) → is_void (over l t) ≡ false
layer_type l t = made_void (base_of t) (layers_of t ++ l ∷ []) ∙ layered_value (base_of t) (layers_of t) l

pub inner_type : (t : CType) → is_void (inner t) ≡ types.is_void (base_of t) (under (layers_of t))
inner_type t = made_void (base_of t) (under (layers_of t))

pub decayed_type : (t : CType) → is_void (decayed t) ≡ is_void t
unfolding decayed
decayed_type t = made_void (base_of t) (decayed_layers (layers_of t)) ∙ decayed_value (base_of t) (layers_of t)

pub integer_not_void : (t : CType) (k : Integer) → integer_of t ≡ Some k → is_void t ≡ false
integer_not_void t k h = integer_value (base_of t) (layers_of t) k h

pub pointer_not_void : (t : CType) → is_pointer t ≡ true → is_void t ≡ false
pointer_not_void t h = pointer_value (base_of t) (layers_of t) h

promoted_by_type : (t : CType) (k : Option Integer) → integer_of t ≡ k → is_void (promoted_by t k) ≡ is_void t
promoted_by_type t None h = refl
promoted_by_type t (Some k) h = integer_type (types.promoted k) ∙ sym (integer_not_void t k h)

pub promoted_type : (t : CType) → is_void (promoted t) ≡ is_void t
promoted_type t = promoted_by_type t (integer_of t) refl

sized_by : (b : Base) (ls : List Layer) (n : ℕ) (x : Bool) → (if x then limited_parts b ls else None) ≡ Some n →
    types.is_void b ls ≡ false
sized_by b ls n true h = limited_value b ls n h
sized_by b ls n false h = cc

pub pointed_type : (t : CType) (n : ℕ) → pointed_size t ≡ Some n → is_void (inner t) ≡ false
unfolding pointed_size
pointed_type t n h = inner_type t ∙
    sized_by (base_of t) (under (layers_of t)) n (types.is_pointer (outermost (layers_of t))) h
