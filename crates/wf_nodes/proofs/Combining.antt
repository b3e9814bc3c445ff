-- An operator that changes a place takes no void value.
use Rattle.std.proofs.Common.{◌≡◌, ℕ, Bool, true, false, ◌&&◌, if◌then◌else◌, refl, subst, Option, Some, None}
use Rattle.c_types.specs.declared.ctype.CType.{CType}
use Rattle.c_types.specs.declared.ctype.Integer.{Integer}
use Rattle.c_types.specs.Types.{same}
use Rattle.c_type_refs.specs.Sizes.{pointed_size}
use Rattle.check_types.specs.Shapes.{integer_of, is_void, is_pointer}
use Rattle.tick_tree.specs.declared.base.BinaryOp.{BinaryOp}
use Rattle.check_operands.specs.declared.combined.Combined.{Combined}
use Rattle.check_operands.specs.declared.combined.Combined.TheVariants as by_form
use Rattle.check_operands.specs.Operators.{combine, combine_by, comparing, comparable, is_comparison, is_sum}
use Rattle.check_operands.specs.Operators.{is_difference, scaled_left, divided}
use Rattle.check_operands.specs.Places.{comes_back}
use Rattle.wellformed.proofs.Bools.{first_true, second_true}
use Rattle.wf_nodes.proofs.Types.{integer_not_void, pointer_not_void}

-- the operator's value converts to no type of a place
goes : (c d : Combined) → comes_back d ≡ false → Some d ≡ Some c → comes_back c ≡ false
goes c d h e = let p : d ≡ c = cc in subst (λ (x : Combined). comes_back x ≡ false) p h

scaled_goes : (s : Option ℕ) (c : Combined) → scaled_left s ≡ Some c → comes_back c ≡ false
scaled_goes None c e = cc
scaled_goes (Some n) c e = goes c (by_form.ScaledLeft n) refl e

divided_goes : (s : Option ℕ) (c : Combined) → divided s ≡ Some c → comes_back c ≡ false
divided_goes None c e = cc
divided_goes (Some n) c e = goes c (by_form.Divided n) refl e

difference_goes : (b : Bool) (s : Option ℕ) (c : Combined) → (if b then divided s else None) ≡ Some c →
    comes_back c ≡ false
difference_goes true s c e = divided_goes s c e
difference_goes false s c e = cc

is_allowed : (b x : Bool) (d c : Combined) → (if b && x then Some d else None) ≡ Some c → x ≡ true
is_allowed true true d c e = refl
is_allowed true false d c e = cc
is_allowed false x d c e = cc

-- it takes an integer and a pointer, or a sum
to_pointer : (b : Bool) (s : Option ℕ) (k : Option Combined) (t : CType) (c : Combined) →
    (k ≡ Some c → is_void t ≡ false) → (if b then scaled_left s else k) ≡ Some c → comes_back c ≡ true →
    is_void t ≡ false
to_pointer true s k t c h e b = let g = scaled_goes s c e in cc
to_pointer false s k t c h e b = h e

-- it takes two pointers, or a difference
two_pointers : (b d : Bool) (s : Option ℕ) (k : Option Combined) (t : CType) (c : Combined) →
    (k ≡ Some c → is_void t ≡ false) → (if b then (if d then divided s else None) else k) ≡ Some c →
    comes_back c ≡ true →
    is_void t ≡ false
two_pointers true d s k t c h e b = let g = difference_goes d s c e in cc
two_pointers false d s k t c h e b = h e

compares : (o : BinaryOp) (x : Bool) (t : CType) (c : Combined) → (x ≡ true → is_pointer t ≡ true) →
    comparing o x ≡ Some c → is_void t ≡ false
compares o x t c h e = pointer_not_void t (h (is_allowed (is_comparison o) x _ c e))

by_types : (o : BinaryOp) (s : CType) (za : Bool) (t : CType) (zb : Bool) (x y : Option Integer) (c : Combined) →
    integer_of t ≡ y → combine_by o s za t zb x y ≡ Some c → comes_back c ≡ true → is_void t ≡ false
by_types o s za t zb x (Some y) c i e b = integer_not_void t y i
by_types o s za t zb (Some x) None c i e b =
    to_pointer (is_sum o) (pointed_size t) (comparing o (za && is_pointer t)) t c
    (compares o (za && is_pointer t) t c (second_true za (is_pointer t))) e b
by_types o s za t zb None None c i e b =
    two_pointers (is_difference o) (same s t) (pointed_size s) (comparing o (comparable s t)) t c
    (compares o (comparable s t) t c
    (λ h. second_true (is_pointer s) (is_pointer t) (first_true (is_pointer s && is_pointer t) _ h))) e b

pub value_of_operator : (o : BinaryOp) (s : CType) (za : Bool) (t : CType) (zb : Bool) (c : Combined) →
    combine o s za t zb ≡ Some c → comes_back c ≡ true → is_void t ≡ false
unfolding combine
value_of_operator o s za t zb c e b = by_types o s za t zb (integer_of s) (integer_of t) c refl e b
