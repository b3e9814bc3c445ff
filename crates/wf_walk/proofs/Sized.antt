-- What a variable of a block is declared as has bytes, and not too many: it is no function and not void, and each array
-- in it has a length. Of an array whose length an initializer counts nothing is said, since such a length is asked
-- about behind the initializer.
use Rattle.std.proofs.Common.{◌≡◌, ℕ, ◌*◌, ◌+◌, ◌/◌, ◌≤◌, Bool, true, false, ◌&&◌, ◌||◌, nat_lt, nat_le, List, [], ◌∷◌}
use Rattle.std.proofs.Common.{◌++◌, refl, ap, sym, ◌∙◌, subst, Some, None, Ok, arith, if◌then◌else◌, mul-le-mul}
use Rattle.std.specs.Prelude.{not}
use Rattle.std.proofs.lemmas.Bool.Decides.{nat_tests}
use Rattle.limits.specs.declared.program.TheConstants.{MAX_SIZE}
use Rattle.c_types.specs.declared.ctype.Base.{Base}
use Rattle.c_types.specs.declared.ctype.Base.TheVariants as base
use Rattle.c_types.specs.declared.ctype.CType.{CType}
use Rattle.c_types.specs.declared.ctype.Integer.{Integer}
use Rattle.c_types.specs.declared.ctype.Integer.TheVariants as kind
use Rattle.c_types.specs.declared.ctype.Layer.{Layer, out-Layer}
use Rattle.c_types.specs.declared.ctype.Layer.TheVariants as layer
use Rattle.c_types.specs.Types.{base_size, size_at, size_under, is_sized_at, is_sized_under, is_integer_base}
use Rattle.c_types.specs.Types.{is_void, layers_of}
use Rattle.c_type_refs.specs.Sizes.{limited_size}
use Rattle.tick_tree.specs.declared.base.Prefix.{Prefix}
use Rattle.tick_tree.specs.declared.base.Prefix.TheVariants as prefix
use Rattle.tick_tree.specs.declared.fault.FaultKind.TheVariants.{TypeMismatch, VoidValue, BadArray}
use Rattle.check_declarators.specs.declared.steps.Length.TheVariants as len
use Rattle.check_declarators.specs.declared.steps.Role.TheVariants as role
use Rattle.check_declarators.specs.declared.steps.Step.{Step}
use Rattle.check_declarators.specs.declared.steps.Step.TheVariants as step
use Rattle.check_declarators.specs.Steps.{prefix_layer, count_of}
use Rattle.check_declarators.specs.Making.{is_array, is_array_layer, is_array_at, is_function, is_function_layer}
use Rattle.check_declarators.specs.Making.{is_function_at, bytes, unless, is_count, made, worst, role_breaks, finished}
use Rattle.check_declarators.specs.Making.{ctype, lower, declared_type}
use Rattle.check_rules.specs.Frames as frames
use Rattle.wellformed.proofs.Bools.{first_true, second_true}
use Rattle.wf_nodes.proofs.Declared.{outermost_last, first_none, second_none, answered, unbroken}
use Rattle.wf_walk.specs.Good.{any_counted}
use Rattle.wf_walk.proofs.Lengths.{array_case}

-- ---- sizes under one layer more

pub size_last : (s : ℕ) (ls : List Layer) (l : Layer) →
    size_under s (ls ++ l ∷ []) ≡ size_at (size_under s ls) (out-Layer l)
size_last s [] l = refl
size_last s (x ∷ ls) l = size_last (size_at s (out-Layer x)) ls l

pub sized_last : (b : Bool) (ls : List Layer) (l : Layer) →
    is_sized_under b (ls ++ l ∷ []) ≡ is_sized_at (is_sized_under b ls) (out-Layer l)
sized_last b [] l = refl
sized_last b (x ∷ ls) l = sized_last (is_sized_at b (out-Layer x)) ls l

-- a pointer or a specification takes a word
pub prefix_size : (p : Prefix) (n : ℕ) → size_at n (out-Layer (prefix_layer p)) ≡ 4
prefix_size prefix.Star n = ap (size_at n) layer.outs-Pointer
prefix_size prefix.Cspec n = ap (size_at n) layer.outs-Cspec
prefix_size prefix.Vspec n = ap (size_at n) layer.outs-Vspec

pub prefix_sized : (p : Prefix) (b : Bool) → is_sized_at b (out-Layer (prefix_layer p)) ≡ true
prefix_sized prefix.Star b = ap (is_sized_at b) layer.outs-Pointer
prefix_sized prefix.Cspec b = ap (is_sized_at b) layer.outs-Cspec
prefix_sized prefix.Vspec b = ap (is_sized_at b) layer.outs-Vspec

-- ---- what has bytes

record HasBytes (b : Base) (ls : List Layer) : Type 0 where
  sized : is_sized_under (is_integer_base b) ls ≡ true
  some : 1 ≤ size_under (base_size b) ls
  few : size_under (base_size b) ls ≤ MAX_SIZE

integer_bytes : (k : Integer) → HasBytes (base.Integer k) []
integer_bytes kind.Char = record { sized = refl; some = omega arith; few = omega arith }
integer_bytes kind.UnsignedChar = record { sized = refl; some = omega arith; few = omega arith }
integer_bytes kind.Short = record { sized = refl; some = omega arith; few = omega arith }
integer_bytes kind.UnsignedShort = record { sized = refl; some = omega arith; few = omega arith }
integer_bytes kind.Int = record { sized = refl; some = omega arith; few = omega arith }
integer_bytes kind.Unsigned = record { sized = refl; some = omega arith; few = omega arith }

base_bytes : (b : Base) → is_void b [] ≡ false → HasBytes b []
base_bytes base.Void h = absurd (cc)
base_bytes (base.Integer k) h = integer_bytes k

prefix_bytes : (b : Base) (ls : List Layer) (p : Prefix) → HasBytes b (ls ++ prefix_layer p ∷ [])
prefix_bytes b ls p =
    let size : size_under (base_size b) (ls ++ prefix_layer p ∷ []) ≡ 4 =
    size_last (base_size b) ls (prefix_layer p) ∙ prefix_size p (size_under (base_size b) ls) in
    record {
      sized = sized_last (is_integer_base b) ls (prefix_layer p)
          ∙ prefix_sized p (is_sized_under (is_integer_base b) ls);
      some = omega (arith, size);
      few = omega (arith, size);
    }

some_times : (size n : ℕ) → 1 ≤ size → 1 ≤ n → 1 ≤ size * n
some_times size n h k = let z : 1 * 1 ≤ size * n = mul-le-mul {n₁ = 1} {m₁ = 1} {n₂ = size} {m₂ = n} h k in z

array_bytes : (b : Base) (ls : List Layer) (n : ℕ) → HasBytes b ls → is_count n (bytes b ls * n) ≡ true →
    HasBytes b (ls ++ layer.Array n ∷ [])
array_bytes b ls n h k =
    let size : size_under (base_size b) (ls ++ layer.Array n ∷ []) ≡ size_under (base_size b) ls * n =
    size_last (base_size b) ls (layer.Array n) ∙ ap (size_at (size_under (base_size b) ls)) (layer.outs-Array n) in
    let one : nat_lt 0 n ≡ true = first_true (nat_lt 0 n) (nat_le (bytes b ls * n) MAX_SIZE) k in
    let most : nat_le (bytes b ls * n) MAX_SIZE ≡ true =
    second_true (nat_lt 0 n) (nat_le (bytes b ls * n) MAX_SIZE) k in
    let some : 1 ≤ size_under (base_size b) ls * n =
    some_times (size_under (base_size b) ls) n h.some (grind (arith, nat_tests, one)) in
    let few : size_under (base_size b) ls * n ≤ MAX_SIZE = grind (arith, nat_tests, most) in
    record {
      sized = sized_last (is_integer_base b) ls (layer.Array n)
          ∙ ap (is_sized_at (is_sized_under (is_integer_base b) ls)) (layer.outs-Array n) ∙ h.sized;
      some = subst (λ k. 1 ≤ k) (sym size) some;
      few = subst (λ k. k ≤ MAX_SIZE) (sym size) few;
    }

-- ---- a type by its last step

clash : {A : Type 0} (b : Bool) → b ≡ false → b ≡ true → A
clash b h k = absurd (let z : false ≡ true = sym h ∙ k in cc)

function_last : (ls : List Layer) (l : Layer) → is_function_at (out-Layer l) ≡ true →
    is_function (ls ++ l ∷ []) ≡ true
function_last ls l h = ap is_function_layer (outermost_last ls l) ∙ h

array_last : (ls : List Layer) (n : ℕ) → is_array (ls ++ layer.Array n ∷ []) ≡ true
array_last ls n = ap is_array_layer (outermost_last ls (layer.Array n)) ∙ ap is_array_at (layer.outs-Array n)

-- what an array doesn't break
array_rule : (f v c : Bool) →
    (if f then Some TypeMismatch else (if v then Some VoidValue else unless c BadArray)) ≡ None →
    (f ≡ false) × (v ≡ false) × (c ≡ true)
array_rule true v c h = absurd (cc)
array_rule false true c h = absurd (cc)
array_rule false false true h = (refl, refl, refl)
array_rule false false false h = absurd (cc)

no_length : {A : Type 0} → true ≡ false → A
no_length h = absurd (cc)

steps_bytes : (b : Base) (ss : List Step) → worst ss b [] ≡ None → any_counted ss ≡ false →
    is_void b (made ss []) ≡ false → is_function (made ss []) ≡ false → HasBytes b (made ss [])
steps_bytes b [] w c v f = base_bytes b v
steps_bytes b (step.Prefix p ∷ ss) w c v f = prefix_bytes b (made ss []) p
steps_bytes b (step.Array (len.Constant n) ∷ ss) w c v f =
    let k = array_rule (is_function (made ss [])) (is_void b (made ss [])) (is_count n (bytes b (made ss []) * n))
    (second_none (worst ss b []) _ w) in
    array_bytes b (made ss []) n (steps_bytes b ss (first_none (worst ss b []) _ w) c k.1 k.0) k.2
steps_bytes b (step.Array len.Absent ∷ ss) w c v f =
    no_length
    (array_case (is_function (made ss [])) (is_void b (made ss [])) BadArray (second_none (worst ss b []) _ w))
steps_bytes b (step.Array len.Computed ∷ ss) w c v f =
    no_length
    (array_case (is_function (made ss [])) (is_void b (made ss [])) BadArray (second_none (worst ss b []) _ w))
steps_bytes b (step.Array len.Void ∷ ss) w c v f =
    no_length
    (array_case (is_function (made ss [])) (is_void b (made ss [])) VoidValue (second_none (worst ss b []) _ w))
steps_bytes b (step.Array (len.Counted n) ∷ ss) w c v f = no_length c
steps_bytes b (step.Function list ∷ ss) w c v f =
    clash (is_function (made (step.Function list ∷ ss) [])) f
    (function_last (made ss []) (layer.Function list) (ap is_function_at (layer.outs-Function list)))
steps_bytes b (step.Unlisted ∷ ss) w c v f =
    clash (is_function (made (step.Unlisted ∷ ss) [])) f
    (function_last (made ss []) layer.Unlisted (ap is_function_at layer.outs-Unlisted))

-- what is no array has its bytes whatever its steps
scalar_bytes : (b : Base) (ss : List Step) → is_array (made ss []) ≡ false → is_void b (made ss []) ≡ false →
    is_function (made ss []) ≡ false → HasBytes b (made ss [])
scalar_bytes b [] a v f = base_bytes b v
scalar_bytes b (step.Prefix p ∷ ss) a v f = prefix_bytes b (made ss []) p
scalar_bytes b (step.Array n ∷ ss) a v f =
    clash (is_array (made (step.Array n ∷ ss) [])) a (array_last (made ss []) (count_of n))
scalar_bytes b (step.Function list ∷ ss) a v f =
    clash (is_function (made (step.Function list ∷ ss) [])) f
    (function_last (made ss []) (layer.Function list) (ap is_function_at (layer.outs-Function list)))
scalar_bytes b (step.Unlisted ∷ ss) a v f =
    clash (is_function (made (step.Unlisted ∷ ss) [])) f
    (function_last (made ss []) layer.Unlisted (ap is_function_at layer.outs-Unlisted))

-- ---- the words of an object

words_case : (a c : Bool) (n : ℕ) → a ≡ true → c ≡ true → 1 ≤ n →
    1 ≤ frames.words_by (if a && c then Some n else None)
words_case true true n h k one = let z : 1 ≤ (n + 3) / 4 = omega (arith, one) in z
words_case true false n h k one = absurd (cc)
words_case false c n h k one = absurd (cc)

some_words : (b : Base) (ls : List Layer) → HasBytes b ls → 1 ≤ frames.words (ctype b ls)
unfolding limited_size
some_words b ls h =
    let few = h.few in
    words_case (is_sized_under (is_integer_base b) ls) (nat_le (size_under (base_size b) ls) MAX_SIZE)
    (size_under (base_size b) ls) h.sized (grind (arith, nat_tests, few)) h.some

local_rule : (f v : Bool) → (if f then Some TypeMismatch else (if v then Some VoidValue else None)) ≡ None →
    (f ≡ false) × (v ≡ false)
local_rule true v h = absurd (cc)
local_rule false true h = absurd (cc)
local_rule false false h = (refl, refl)

words_by : (b : Base) (ss : List Step) (bare array : Bool) → is_array (made ss []) ≡ array → worst ss b [] ≡ None →
    (bare ≡ true → any_counted ss ≡ false) → (bare || not array) ≡ true → is_void b (made ss []) ≡ false →
    is_function (made ss []) ≡ false → HasBytes b (made ss [])
words_by b ss true array is w c h v f = steps_bytes b ss w (c refl) v f
words_by b ss false false is w c h v f = scalar_bytes b ss is v f
words_by b ss false true is w c h v f = absurd (cc)

-- An object of a declared type has a word at least, where no initializer counts a length, or where it is no array.
pub declared_words : (line : ℕ) (b : Base) (ss : List Step) (t : CType) (bare : Bool) →
    declared_type role.Local line b ss ≡ Ok t → (bare ≡ true → any_counted ss ≡ false)
    → (bare || not (is_array (layers_of t))) ≡ true → 1 ≤ frames.words t
unfolding declared_type
declared_words line b ss t bare h c =
    let k = unbroken line (finished role.Local b (made ss [])) t
    (lower (worst ss b []) (role_breaks role.Local b (made ss []))) h in
    let e = answered line (finished role.Local b (made ss [])) t
    (lower (worst ss b []) (role_breaks role.Local b (made ss []))) h in
    let r = local_rule (is_function (made ss [])) (is_void b (made ss [])) (second_none (worst ss b []) _ k) in
    subst (λ (u : CType). (bare || not (is_array (layers_of u))) ≡ true → 1 ≤ frames.words u) e
    (λ z. some_words b (made ss [])
    (words_by b ss bare (is_array (made ss [])) refl (first_none (worst ss b []) _ k) c z r.1 r.0))
