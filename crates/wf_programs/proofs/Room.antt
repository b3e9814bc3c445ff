-- Each type at file scope has room for the values that a global of it begins with.
use Rattle.std.proofs.Common.{◌≡◌, ℕ, suc, ◌*◌, ◌-◌, ◌≤◌, Bool, true, false, ◌&&◌, ◌||◌, nat_le, if◌then◌else◌, refl}
use Rattle.std.proofs.Common.{ap, sym, ◌∙◌, subst, List, [], ◌∷◌, ◌++◌, length, slice_get, Option, Some, None, Ok}
use Rattle.std.proofs.Common.{arith, mul-le-mul, mul_comm}
use Rattle.std.proofs.lemmas.Bool.Decides.{nat_tests}
use Rattle.limits.specs.declared.program.TheConstants.{MAX_SIZE}
use Rattle.word32.specs.declared.width.Width.{Width}
use Rattle.word32.specs.declared.width.Width.TheVariants as width
use Rattle.c_types.specs.declared.ctype.Base.{Base}
use Rattle.c_types.specs.declared.ctype.Base.TheVariants as base
use Rattle.c_types.specs.declared.ctype.Integer.{Integer}
use Rattle.c_types.specs.declared.ctype.Integer.TheVariants as kind
use Rattle.c_types.specs.declared.ctype.CType.{CType}
use Rattle.c_types.specs.declared.ctype.Layer.{Layer, out-Layer}
use Rattle.c_types.specs.declared.ctype.Layer.TheVariants as layer
use Rattle.c_types.specs.declared.ctype.Layer.TheOpen.{Layer-F}
use Rattle.c_types.specs.Types.{Opened, base_of, layers_of, outermost, under, base_size, size_at, size_under}
use Rattle.c_types.specs.Types.{is_sized_at, is_sized_under, is_integer_base, converts, converts_parts}
use Rattle.c_type_refs.specs.Sizes.{limited_size}
use Rattle.c_types.specs.Types.{same_parts, same_base, same_layers, same_layer, is_integer, is_pointer, is_pointer_at}
use Rattle.c_types.specs.Types.{serves, is_void}
use Rattle.c_types.proofs.SameLaws.{by_layer, opened_same}
use Rattle.check_declarators.specs.declared.steps.Length.{Length}
use Rattle.check_declarators.specs.declared.steps.Step.{Step}
use Rattle.check_declarators.specs.declared.steps.Step.TheVariants as step
use Rattle.check_declarators.specs.Making.{declared_type, worst, made, breaks, length_breaks, ctype, decayed}
use Rattle.check_declarators.specs.Making.{decayed_layers, is_array_at, is_array_layer, is_function_at}
use Rattle.check_declarators.specs.Making.{is_function_layer, bytes}
use Rattle.check_declarators.specs.Making as making
use Rattle.check_declarators.specs.Steps.{prefix_layer, count_of}
use Rattle.check_types.specs.Shapes as shapes
use Rattle.check_types.specs.Shapes.{width_of, inner}
use Rattle.tick_tree.specs.declared.base.Prefix.{Prefix}
use Rattle.tick_tree.specs.declared.fault.FaultKind.{FaultKind}
use Rattle.tick_tree.specs.declared.fault.FaultKind.TheVariants as fault
use Rattle.check_operands.specs.declared.operand.Operand.{Operand}
use Rattle.check_operands.specs.declared.operand.Value.{Value}
use Rattle.check_operands.specs.Operands.{value_of}
use Rattle.check_globals.specs.Names.{size_by}
use Rattle.check_globals.specs.Statics as statics
use Rattle.check_rules.specs.Initializers.{value_breaks, is_size, has_size}
use Rattle.wellformed.proofs.Bools.{first_true, second_true, le_true}
use Rattle.wf_nodes.proofs.Declared.{outermost_last}
use Rattle.wf_walk.proofs.Sized.{size_last, sized_last, prefix_size, prefix_sized}
use Rattle.wf_programs.proofs.Bools.{true_le, never_both}
use Rattle.wf_programs.proofs.Fills.{size_of, bytes_in, HasValue}

limited_case : (a c : Bool) (n : ℕ) → a ≡ true → c ≡ true → size_by (if a && c then Some n else None) ≡ n
limited_case true true n h k = refl
limited_case true false n h k = absurd (cc)
limited_case false c n h k = absurd (cc)

-- the size of what has one that isn't too large
limited : (b : Base) (ls : List Layer) → is_sized_under (is_integer_base b) ls ≡ true →
    size_under (base_size b) ls ≤ MAX_SIZE → size_of (ctype b ls) ≡ size_under (base_size b) ls
unfolding limited_size
limited b ls sized few = limited_case (is_sized_under (is_integer_base b) ls)
    (nat_le (size_under (base_size b) ls) MAX_SIZE) (size_under (base_size b) ls) sized
    (le_true (size_under (base_size b) ls) MAX_SIZE few)

limited_back : (a c : Bool) (n k : ℕ) → 1 ≤ k → k ≤ size_by (if a && c then Some n else None) → (a ≡ true) × (k ≤ n)
limited_back true true n k one h = (refl, h)
limited_back true false n k one h = absurd (let z : k ≤ 0 = h in omega arith)
limited_back false c n k one h = absurd (let z : k ≤ 0 = h in omega arith)

sized_by_bytes : (b : Base) (ls : List Layer) (k : ℕ) → 1 ≤ k → k ≤ size_of (ctype b ls) →
    (is_sized_under (is_integer_base b) ls ≡ true) × (k ≤ size_under (base_size b) ls)
unfolding limited_size
sized_by_bytes b ls k one h =
    limited_back (is_sized_under (is_integer_base b) ls) (nat_le (size_under (base_size b) ls) MAX_SIZE)
    (size_under (base_size b) ls) k one h

-- ---- no value is an array

broken_none : (o : Option FaultKind) (a : Bool) (v : Value) (n : ℕ) → statics.word_by o a v ≡ Ok n → o ≡ None
broken_none None a v n is = refl
broken_none (Some k) a v n is = absurd (cc)

converts_case : (a c : Bool) →
    (if a then Some fault.VoidValue else (if c then None else Some fault.TypeMismatch)) ≡ None → c ≡ true
converts_case true c h = absurd (cc)
converts_case false true h = refl
converts_case false false h = absurd (cc)

value_type : (o : Operand) → (value_of o).ctype ≡ decayed o.ctype
unfolding value_of
value_type o = refl

same_kind : (o p : Opened) → opened_same o p ≡ true → is_array_at p ≡ true → is_array_at o ≡ true
same_kind (Layer-F.Array n) p h k = refl
same_kind Layer-F.Pointer (Layer-F.Array n) h k = absurd (cc)
same_kind Layer-F.Unlisted (Layer-F.Array n) h k = absurd (cc)
same_kind Layer-F.Cspec (Layer-F.Array n) h k = absurd (cc)
same_kind Layer-F.Vspec (Layer-F.Array n) h k = absurd (cc)
same_kind (Layer-F.Function xs) (Layer-F.Array n) h k = absurd (cc)
same_kind Layer-F.Pointer Layer-F.Pointer h k = absurd (cc)
same_kind Layer-F.Pointer (Layer-F.Function ys) h k = absurd (cc)
same_kind Layer-F.Pointer Layer-F.Unlisted h k = absurd (cc)
same_kind Layer-F.Pointer Layer-F.Cspec h k = absurd (cc)
same_kind Layer-F.Pointer Layer-F.Vspec h k = absurd (cc)
same_kind Layer-F.Unlisted Layer-F.Pointer h k = absurd (cc)
same_kind Layer-F.Unlisted (Layer-F.Function ys) h k = absurd (cc)
same_kind Layer-F.Unlisted Layer-F.Unlisted h k = absurd (cc)
same_kind Layer-F.Unlisted Layer-F.Cspec h k = absurd (cc)
same_kind Layer-F.Unlisted Layer-F.Vspec h k = absurd (cc)
same_kind Layer-F.Cspec Layer-F.Pointer h k = absurd (cc)
same_kind Layer-F.Cspec (Layer-F.Function ys) h k = absurd (cc)
same_kind Layer-F.Cspec Layer-F.Unlisted h k = absurd (cc)
same_kind Layer-F.Cspec Layer-F.Cspec h k = absurd (cc)
same_kind Layer-F.Cspec Layer-F.Vspec h k = absurd (cc)
same_kind Layer-F.Vspec Layer-F.Pointer h k = absurd (cc)
same_kind Layer-F.Vspec (Layer-F.Function ys) h k = absurd (cc)
same_kind Layer-F.Vspec Layer-F.Unlisted h k = absurd (cc)
same_kind Layer-F.Vspec Layer-F.Cspec h k = absurd (cc)
same_kind Layer-F.Vspec Layer-F.Vspec h k = absurd (cc)
same_kind (Layer-F.Function xs) Layer-F.Pointer h k = absurd (cc)
same_kind (Layer-F.Function xs) (Layer-F.Function ys) h k = absurd (cc)
same_kind (Layer-F.Function xs) Layer-F.Unlisted h k = absurd (cc)
same_kind (Layer-F.Function xs) Layer-F.Cspec h k = absurd (cc)
same_kind (Layer-F.Function xs) Layer-F.Vspec h k = absurd (cc)

last_of : {A : Type 0} (x y : A) (xs : List A) →
    slice_get (x ∷ y ∷ xs) (length (x ∷ y ∷ xs) - 1) ≡ slice_get (y ∷ xs) (length (y ∷ xs) - 1)
last_of x y xs =
    let n : length (x ∷ y ∷ xs) - 1 ≡ suc (length (y ∷ xs) - 1) = omega arith in
    ap (λ (i : ℕ). slice_get (x ∷ y ∷ xs) i) n

same_outermost : (xs ys : List Layer) → same_layers xs ys ≡ true → is_array_layer (outermost ys) ≡ true →
    is_array_layer (outermost xs) ≡ true
same_outermost [] [] h k = k
same_outermost [] (y ∷ ys) h k = absurd (cc)
same_outermost (x ∷ xs) [] h k = absurd (cc)
same_outermost (x ∷ []) (y ∷ []) h k =
    same_kind (out-Layer x) (out-Layer y)
    (by_layer (opened_same (out-Layer x) (out-Layer y)) x y refl ∙ first_true (same_layer x y) true h) k
same_outermost (x ∷ []) (y ∷ z ∷ ys) h k =
    absurd (let w : (same_layer x y && false) ≡ true = h in never_both (same_layer x y) w)
same_outermost (x ∷ z ∷ xs) (y ∷ []) h k =
    absurd (let w : (same_layer x y && false) ≡ true = h in never_both (same_layer x y) w)
same_outermost (x ∷ v ∷ xs) (y ∷ z ∷ ys) h k =
    ap is_array_layer (last_of x v xs) ∙
    same_outermost (v ∷ xs) (z ∷ ys) (second_true (same_layer x y) (same_layers (v ∷ xs) (z ∷ ys)) h)
    (sym (ap is_array_layer (last_of y z ys)) ∙ k)

-- a type that decayed is no array
pointer_last : (ls : List Layer) → is_array_layer (outermost (ls ++ layer.Pointer ∷ [])) ≡ false
pointer_last ls = ap is_array_layer (outermost_last ls layer.Pointer) ∙ ap is_array_at layer.outs-Pointer

decayed_case : (ls ms : List Layer) (a f : Bool) → making.is_array ls ≡ a →
    is_array_layer (outermost (if a then ms ++ layer.Pointer ∷ [] else (if f then ls ++ layer.Pointer ∷ [] else ls))) ≡
    false
decayed_case ls ms true f e = pointer_last ms
decayed_case ls ms false true e = pointer_last ls
decayed_case ls ms false false e = e

decayed_array : (t : CType) → is_array_layer (outermost (layers_of (decayed t))) ≡ false
unfolding decayed
decayed_array t = decayed_case (layers_of t) (under (layers_of t)) (making.is_array (layers_of t))
    (making.is_function (layers_of t)) refl

no_integer : (b : Base) (ls : List Layer) → is_array_layer (outermost ls) ≡ true → is_integer b ls ≡ false
no_integer b [] h = absurd (cc)
no_integer b (l ∷ ls) h = refl

no_pointer_at : (o : Opened) → is_array_at o ≡ true → is_pointer_at o ≡ false
no_pointer_at (Layer-F.Array n) h = refl
no_pointer_at Layer-F.Pointer h = absurd (cc)
no_pointer_at (Layer-F.Function ts) h = refl
no_pointer_at Layer-F.Unlisted h = refl
no_pointer_at Layer-F.Cspec h = refl
no_pointer_at Layer-F.Vspec h = refl

no_pointer : (o : Option Layer) → is_array_layer o ≡ true → is_pointer o ≡ false
no_pointer None h = refl
no_pointer (Some l) h = no_pointer_at (out-Layer l) h

only_same : (a b c d e f g : Bool) → b ≡ false → e ≡ false → (a && b || c || d && e || f && e && g) ≡ true → c ≡ true
only_same a b c d e f g p q h = grind (arith, nat_tests)

converts_same : (a : Base) (as_ : List Layer) (b : Base) (bs : List Layer) (z : Bool) →
    is_array_layer (outermost bs) ≡ true → converts_parts a as_ b bs z ≡ true → same_layers as_ bs ≡ true
converts_same a as_ b bs z array h =
    second_true (same_base a b) (same_layers as_ bs)
    (only_same (is_integer a as_) (is_integer b bs) (same_parts a as_ b bs) z (is_pointer (outermost bs))
    (is_pointer (outermost as_)) (serves a (under as_) b (under bs))
    (no_integer b bs array) (no_pointer (outermost bs) array) h)

array_converts : (v : CType) (t : CType) (z : Bool) → is_array_layer (outermost (layers_of v)) ≡ false →
    is_array_layer (outermost (layers_of t)) ≡ true → converts v t z ≡ true → ⊥
unfolding converts
array_converts v t z other array h =
    let s : same_layers (layers_of v) (layers_of t) ≡ true =
    converts_same (base_of v) (layers_of v) (base_of t) (layers_of t) z array h in
    let k : is_array_layer (outermost (layers_of v)) ≡ true = same_outermost (layers_of v) (layers_of t) s array in
    cc

no_array_value : (t : CType) → HasValue t → is_array_layer (outermost (layers_of t)) ≡ true → ⊥
no_array_value t v array =
    let n : value_breaks (value_of v.operand) t ≡ None =
    broken_none (value_breaks (value_of v.operand) t) _ (value_of v.operand) v.word v.is in
    let c : converts (value_of v.operand).ctype t (value_of v.operand).zero ≡ true
    = converts_case (shapes.is_void (value_of v.operand).ctype)
    (converts (value_of v.operand).ctype t (value_of v.operand).zero) n in
    let d : is_array_layer (outermost (layers_of (value_of v.operand).ctype)) ≡ false =
    ap (λ (u : CType). is_array_layer (outermost (layers_of u))) (value_type v.operand) ∙
    decayed_array v.operand.ctype in
    array_converts (value_of v.operand).ctype t (value_of v.operand).zero d array c

-- ---- a type by its last step

-- what is known of the layers that these steps make
pub record Layers (b : Base) (ss : List Step) : Type 0 where
  pub worst : worst ss b [] ≡ None
  pub value : is_void b (made ss []) ≡ false
  pub other : making.is_function (made ss []) ≡ false

word_bytes : (b : Base) (ms : List Layer) (l : Layer) → bytes_in (ctype b (ms ++ l ∷ [])) ≡ 4
word_bytes b [] l = refl
word_bytes b (m ∷ ms) l = refl

integer_fits : (k : Integer) → bytes_in (ctype (base.Integer k) []) ≤ size_of (ctype (base.Integer k) [])
unfolding limited_size
integer_fits kind.Char = omega arith
integer_fits kind.UnsignedChar = omega arith
integer_fits kind.Short = omega arith
integer_fits kind.UnsignedShort = omega arith
integer_fits kind.Int = omega arith
integer_fits kind.Unsigned = omega arith

prefix_fits : (b : Base) (ms : List Layer) (p : Prefix) →
    bytes_in (ctype b (ms ++ prefix_layer p ∷ [])) ≤ size_of (ctype b (ms ++ prefix_layer p ∷ []))
prefix_fits b ms p =
    let size : size_under (base_size b) (ms ++ prefix_layer p ∷ []) ≡ 4 =
    size_last (base_size b) ms (prefix_layer p) ∙ prefix_size p (size_under (base_size b) ms) in
    let sized : is_sized_under (is_integer_base b) (ms ++ prefix_layer p ∷ []) ≡ true =
    sized_last (is_integer_base b) ms (prefix_layer p) ∙ prefix_sized p (is_sized_under (is_integer_base b) ms) in
    let whole : size_of (ctype b (ms ++ prefix_layer p ∷ [])) ≡ size_under (base_size b) (ms ++ prefix_layer p ∷ []) =
    limited b (ms ++ prefix_layer p ∷ []) sized (omega arith) in
    let four : bytes_in (ctype b (ms ++ prefix_layer p ∷ [])) ≡ 4 = word_bytes b ms (prefix_layer p) in
    omega arith

array_last : (ms : List Layer) (n : ℕ) → is_array_layer (outermost (ms ++ layer.Array n ∷ [])) ≡ true
array_last ms n = ap is_array_layer (outermost_last ms (layer.Array n)) ∙ ap is_array_at (layer.outs-Array n)

function_last : (ms : List Layer) (l : Layer) → is_function_at (out-Layer l) ≡ true →
    making.is_function (ms ++ l ∷ []) ≡ true
function_last ms l h = ap is_function_layer (outermost_last ms l) ∙ h

no_base : (b : Base) → is_void b [] ≡ false → (k : Integer) × (b ≡ base.Integer k)
no_base base.Void h = absurd (cc)
no_base (base.Integer k) h = (k, refl)

-- one value fits
pub value_fits : (b : Base) (ss : List Step) → Layers b ss → HasValue (ctype b (made ss [])) →
    bytes_in (ctype b (made ss [])) ≤ size_of (ctype b (made ss []))
value_fits b [] h v =
    let k : (k : Integer) × (b ≡ base.Integer k) = no_base b h.value in
    subst (λ (x : Base). bytes_in (ctype x []) ≤ size_of (ctype x [])) (sym k.1) (integer_fits k.0)
value_fits b (step.Prefix p ∷ ss) h v = prefix_fits b (made ss []) p
value_fits b (step.Array n ∷ ss) h v =
    absurd (no_array_value (ctype b (made (step.Array n ∷ ss) [])) v (array_last (made ss []) (count_of n)))
value_fits b (step.Function list ∷ ss) h v =
    absurd (let f : making.is_function (made ss [] ++ layer.Function list ∷ []) ≡ true =
    function_last (made ss []) (layer.Function list) (ap is_function_at (layer.outs-Function list)) in
    let g : making.is_function (made (step.Function list ∷ ss) []) ≡ false = h.other in cc)
value_fits b (step.Unlisted ∷ ss) h v =
    absurd (let f : making.is_function (made ss [] ++ layer.Unlisted ∷ []) ≡ true =
    function_last (made ss []) layer.Unlisted (ap is_function_at layer.outs-Unlisted) in
    let g : making.is_function (made (step.Unlisted ∷ ss) []) ≡ false = h.other in cc)

-- ---- arrays

pub record Arrayed (b : Base) (ms : List Layer) (n : ℕ) : Type 0 where
  pub other : making.is_function ms ≡ false
  pub value : is_void b ms ≡ false
  pub small : bytes b ms * n ≤ MAX_SIZE

limit_case : (a c : Bool) (n : ℕ) → nat_le n MAX_SIZE ≡ c → is_size (if a && c then Some n else None) ≡ true →
    n ≤ MAX_SIZE
limit_case true true n e h = true_le n MAX_SIZE e
limit_case true false n e h = absurd (cc)
limit_case false c n e h = absurd (cc)

-- what has a size isn't too large
few_bytes : (b : Base) (ls : List Layer) → has_size (ctype b ls) ≡ true → size_under (base_size b) ls ≤ MAX_SIZE
unfolding limited_size
few_bytes b ls h = limit_case (is_sized_under (is_integer_base b) ls) (nat_le (size_under (base_size b) ls) MAX_SIZE)
    (size_under (base_size b) ls) refl h

bytes_last : (b : Base) (ms : List Layer) (n : ℕ) → size_under (base_size b) (ms ++ layer.Array n ∷ []) ≡ bytes b ms * n
bytes_last b ms n = size_last (base_size b) ms (layer.Array n) ∙
    ap (size_at (size_under (base_size b) ms)) (layer.outs-Array n)

array_case : (f v : Bool) (o : Option FaultKind) →
    (if f then Some fault.TypeMismatch else (if v then Some fault.VoidValue else o)) ≡ None →
    (f ≡ false) × (v ≡ false) × (o ≡ None)
array_case true v o h = absurd (cc)
array_case false true o h = absurd (cc)
array_case false false o h = (refl, refl, h)

pub arrayed : (b : Base) (ms : List Layer) (n : Length) → breaks (step.Array n) b ms ≡ None →
    has_size (ctype b (ms ++ layer.Array (count_of n) ∷ [])) ≡ true → Arrayed b ms (count_of n)
arrayed b ms n h sized =
    let r : (making.is_function ms ≡ false) × (is_void b ms ≡ false) × (length_breaks n (bytes b ms) ≡ None) =
    array_case (making.is_function ms) (is_void b ms) (length_breaks n (bytes b ms)) h in
    record {
      other = r.0;
      value = r.1;
      small =
          subst (λ (k : ℕ). k ≤ MAX_SIZE) (bytes_last b ms (count_of n))
          (few_bytes b (ms ++ layer.Array (count_of n) ∷ []) sized);
    }

pub elements : (b : Base) (ms : List Layer) (n : ℕ) → statics.elements_of (ctype b (ms ++ layer.Array n ∷ [])) ≡ n
elements b ms n = ap statics.elements_by (outermost_last ms (layer.Array n)) ∙
    ap statics.elements_at (layer.outs-Array n)

-- the size of an array whose elements have one
pub array_size : (b : Base) (ms : List Layer) (n : ℕ) → is_sized_under (is_integer_base b) ms ≡ true → Arrayed b ms n →
    size_of (ctype b (ms ++ layer.Array n ∷ [])) ≡ size_under (base_size b) ms * n
array_size b ms n sized a =
    let size : size_under (base_size b) (ms ++ layer.Array n ∷ []) ≡ size_under (base_size b) ms * n =
    size_last (base_size b) ms (layer.Array n) ∙ ap (size_at (size_under (base_size b) ms)) (layer.outs-Array n) in
    let whole : is_sized_under (is_integer_base b) (ms ++ layer.Array n ∷ []) ≡ true =
    sized_last (is_integer_base b) ms (layer.Array n) ∙
    ap (is_sized_at (is_sized_under (is_integer_base b) ms)) (layer.outs-Array n) ∙ sized in
    limited b (ms ++ layer.Array n ∷ []) whole (subst (λ (k : ℕ). k ≤ MAX_SIZE) (sym size) a.small) ∙ size

width_some : (w : Width) → 1 ≤ length (statics.bytes_of w 0)
width_some width.SignedByte = omega arith
width_some width.Byte = omega arith
width_some width.SignedHalf = omega arith
width_some width.Half = omega arith
width_some width.Word = omega arith

product : (m n x y : ℕ) → m ≤ n → x ≤ y → m * x ≤ y * n
product m n x y h k = subst (λ (z : ℕ). m * x ≤ z) (mul_comm n y) (mul-le-mul h k)

some_bytes : (t : CType) → 1 ≤ bytes_in t
some_bytes t = width_some (width_of t)

-- values of a list fit in an array
pub list_fits : (b : Base) (ss : List Step) (n : ℕ) → worst ss b [] ≡ None → Arrayed b (made ss []) n →
    HasValue (ctype b (made ss [])) → (m : ℕ) → m ≤ n
    → m * bytes_in (ctype b (made ss [])) ≤ size_of (ctype b (made ss [] ++ layer.Array n ∷ []))
list_fits b ss n w a v m few =
    let one : bytes_in (ctype b (made ss [])) ≤ size_of (ctype b (made ss [])) =
    value_fits b ss (record { worst = w; value = a.value; other = a.other }) v in
    let s : (is_sized_under (is_integer_base b) (made ss []) ≡ true) ×
    (bytes_in (ctype b (made ss [])) ≤ size_under (base_size b) (made ss []))
    = sized_by_bytes b (made ss []) (bytes_in (ctype b (made ss []))) (some_bytes (ctype b (made ss []))) one in
    subst (λ (k : ℕ). m * bytes_in (ctype b (made ss [])) ≤ k) (sym (array_size b (made ss []) n s.0 a))
    (product m n (bytes_in (ctype b (made ss []))) (size_under (base_size b) (made ss [])) few s.1)
