-- Each type at file scope has room for what a global of it begins with: a value, a string, or a list.
use Rattle.std.proofs.Common.{◌≡◌, ℕ, suc, ◌*◌, ◌≤◌, ◌==◌, Bool, true, false, ◌&&◌, refl, ap, sym, ◌∙◌, subst, List, []}
use Rattle.std.proofs.Common.{◌∷◌, ◌++◌, length, None, arith}
use Rattle.c_types.specs.declared.ctype.Base.{Base}
use Rattle.c_types.specs.declared.ctype.Base.TheVariants as base
use Rattle.c_types.specs.declared.ctype.Integer.TheVariants as kind
use Rattle.c_types.specs.declared.ctype.CType.{CType}
use Rattle.c_types.specs.declared.ctype.Layer.{Layer, out-Layer}
use Rattle.c_types.specs.declared.ctype.Layer.TheVariants as layer
use Rattle.c_types.specs.Types.{base_size, size_under, is_integer_base, is_sized_under, is_void}
use Rattle.check_declarators.specs.declared.steps.Step.{Step}
use Rattle.check_declarators.specs.declared.steps.Step.TheVariants as step
use Rattle.check_declarators.specs.Making.{declared_type, worst, made, breaks, ctype, is_array_at, is_array_layer}
use Rattle.check_declarators.specs.Making as making
use Rattle.check_declarators.specs.Steps.{prefix_layer, count_of}
use Rattle.check_declarators.specs.Words as words
use Rattle.check_types.specs.Shapes as shapes
use Rattle.check_types.specs.Shapes.{inner}
use Rattle.tick_tree.specs.declared.base.Prefix.{Prefix}
use Rattle.tick_tree.specs.declared.base.Prefix.TheVariants as prefix
use Rattle.check_globals.specs.Statics as statics
use Rattle.check_rules.specs.Initializers.{is_text, is_array, is_char, has_size}
use Rattle.check_rules.specs.Walk.{with_start}
use Rattle.wellformed.proofs.Bools.{first_true, second_true}
use Rattle.wf_nodes.proofs.Declared.{outermost_last, under_last}
use Rattle.wf_programs.proofs.Declared.{FileType, file_type, none_lower}
use Rattle.wf_programs.proofs.Ends.{AllFit}
use Rattle.wf_programs.proofs.Fills.{size_of, bytes_in, HasValue, BytesFit}
use Rattle.wf_programs.proofs.Room.{value_fits, Arrayed, arrayed, array_size, list_fits, elements}
use Rattle.wf_programs.proofs.Bools.{length_last, two_not_one}

-- ---- which types are arrays

array_kind : (b : Base) (ms : List Layer) (l : Layer) → is_array (ctype b (ms ++ l ∷ [])) ≡ is_array_at (out-Layer l)
array_kind b ms l = ap is_array_layer (outermost_last ms l)

prefix_kind : (p : Prefix) → is_array_at (out-Layer (prefix_layer p)) ≡ false
prefix_kind prefix.Star = ap is_array_at layer.outs-Pointer
prefix_kind prefix.Cspec = ap is_array_at layer.outs-Cspec
prefix_kind prefix.Vspec = ap is_array_at layer.outs-Vspec

-- an array is made by a step that is one
pub record LastArray (b : Base) (ss : List Step) : Type 0 where
  pub count : ℕ
  pub rest : List Step
  pub is : made ss [] ≡ made rest [] ++ layer.Array count ∷ []
  pub worst : worst rest b [] ≡ None
  pub array : Arrayed b (made rest []) count

clash : (b : Bool) → b ≡ false → b ≡ true → ⊥
clash b p q = let z : false ≡ true = sym p ∙ q in cc

last_array : (b : Base) (ss : List Step) → worst ss b [] ≡ None → has_size (ctype b (made ss [])) ≡ true →
    is_array (ctype b (made ss [])) ≡ true → LastArray b ss
last_array b [] w sized h = absurd (let z : false ≡ true = h in cc)
last_array b (step.Prefix p ∷ ss) w sized h =
    absurd (clash (is_array (ctype b (made (step.Prefix p ∷ ss) [])))
    (array_kind b (made ss []) (prefix_layer p) ∙ prefix_kind p) h)
last_array b (step.Array n ∷ ss) w sized h =
    let k : (worst ss b [] ≡ None) × (breaks (step.Array n) b (made ss []) ≡ None) =
    none_lower (worst ss b []) (breaks (step.Array n) b (made ss [])) w in
    record { count = count_of n; rest = ss; is = refl; worst = k.0; array = arrayed b (made ss []) n k.1 sized }
last_array b (step.Function list ∷ ss) w sized h =
    absurd (clash (is_array (ctype b (made (step.Function list ∷ ss) [])))
    (array_kind b (made ss []) (layer.Function list) ∙ ap is_array_at (layer.outs-Function list)) h)
last_array b (step.Unlisted ∷ ss) w sized h =
    absurd (clash (is_array (ctype b (made (step.Unlisted ∷ ss) [])))
    (array_kind b (made ss []) layer.Unlisted ∙ ap is_array_at layer.outs-Unlisted) h)

-- ---- a string

longer : (ms : List Layer) (l : Layer) → (suc (length (ms ++ l ∷ [])) == 1) ≡ true → ⊥
longer ms l h = two_not_one (length ms) (ap (λ (n : ℕ). suc n == 1) (sym (length_last ms l)) ∙ h)

one_layer : (ms : List Layer) (l : Layer) → (length (ms ++ l ∷ []) == 1) ≡ true → ms ≡ []
one_layer [] l h = refl
one_layer (m ∷ ms) l h = absurd (longer ms l h)

char_base : (b : Base) → is_char b ≡ true → b ≡ base.Integer kind.Char
char_base base.Void h = absurd (cc)
char_base (base.Integer kind.Char) h = refl
char_base (base.Integer kind.UnsignedChar) h = absurd (cc)
char_base (base.Integer kind.Short) h = absurd (cc)
char_base (base.Integer kind.UnsignedShort) h = absurd (cc)
char_base (base.Integer kind.Int) h = absurd (cc)
char_base (base.Integer kind.Unsigned) h = absurd (cc)

one_times : (m n : ℕ) → m ≤ n → m ≤ 1 * n
one_times m n h = omega arith

char_fits : (b : Base) (ms : List Layer) (n m : ℕ) → b ≡ base.Integer kind.Char → ms ≡ [] → Arrayed b ms n → m ≤ n →
    m ≤ size_of (ctype b (ms ++ layer.Array n ∷ []))
char_fits b ms n m c none a h =
    let sized : is_sized_under (is_integer_base b) ms ≡ true =
    ap (λ (ls : List Layer). is_sized_under (is_integer_base b) ls) none ∙ ap is_integer_base c in
    let size : size_under (base_size b) ms ≡ 1 =
    ap (λ (ls : List Layer). size_under (base_size b) ls) none ∙ ap base_size c in
    subst (λ (k : ℕ). m ≤ k) (sym (array_size b ms n sized a ∙ ap (λ (k : ℕ). k * n) size)) (one_times m n h)

text_fits : (b : Base) (ss : List Step) → worst ss b [] ≡ None → is_text (ctype b (made ss [])) ≡ true →
    has_size (ctype b (made ss [])) ≡ true → (m : ℕ) → m ≤ statics.elements_of (ctype b (made ss [])) →
    m ≤ size_of (ctype b (made ss []))
text_fits b ss w h sized m few =
    let both : (is_array (ctype b (made ss [])) && length (made ss []) == 1) ≡ true =
    first_true (is_array (ctype b (made ss [])) && length (made ss []) == 1) (is_char b) h in
    let l : LastArray b ss = last_array b ss w sized
    (first_true (is_array (ctype b (made ss []))) (length (made ss []) == 1) both) in
    let one : (length (made ss []) == 1) ≡ true =
    second_true (is_array (ctype b (made ss []))) (length (made ss []) == 1) both in
    let none : made l.rest [] ≡ [] =
    one_layer (made l.rest []) (layer.Array l.count) (ap (λ (ls : List Layer). length ls == 1) (sym l.is) ∙ one) in
    let char : b ≡ base.Integer kind.Char =
    char_base b (second_true (is_array (ctype b (made ss [])) && length (made ss []) == 1) (is_char b) h) in
    let count : statics.elements_of (ctype b (made ss [])) ≡ l.count =
    ap (λ (ls : List Layer). statics.elements_of (ctype b ls)) l.is ∙ elements b (made l.rest []) l.count in
    subst (λ (ls : List Layer). m ≤ size_of (ctype b ls)) (sym l.is)
    (char_fits b (made l.rest []) l.count m char none l.array (omega arith))

-- ---- a list

inner_last : (b : Base) (ms : List Layer) (l : Layer) → inner (ctype b (ms ++ l ∷ [])) ≡ ctype b ms
inner_last b ms l = ap (λ (ls : List Layer). ctype b ls) (under_last ms l)

rows_fit : (b : Base) (ss : List Step) → worst ss b [] ≡ None → is_array (ctype b (made ss [])) ≡ true →
    has_size (ctype b (made ss [])) ≡ true → HasValue (inner (ctype b (made ss []))) → (m : ℕ) →
    m ≤ statics.elements_of (ctype b (made ss []))
    → m * bytes_in (inner (ctype b (made ss []))) ≤ size_of (ctype b (made ss []))
rows_fit b ss w array sized v m few =
    let l : LastArray b ss = last_array b ss w sized array in
    let under_ : inner (ctype b (made ss [])) ≡ ctype b (made l.rest []) =
    ap (λ (ls : List Layer). inner (ctype b ls)) l.is ∙ inner_last b (made l.rest []) (layer.Array l.count) in
    let count : statics.elements_of (ctype b (made ss [])) ≡ l.count =
    ap (λ (ls : List Layer). statics.elements_of (ctype b ls)) l.is ∙ elements b (made l.rest []) l.count in
    let fits : m * bytes_in (ctype b (made l.rest [])) ≤ size_of (ctype b (made l.rest [] ++ layer.Array l.count ∷ []))
    = list_fits b l.rest l.count l.worst l.array (subst HasValue under_ v) m (omega arith) in
    subst (λ (t : CType). m * bytes_in t ≤ size_of (ctype b (made ss []))) (sym under_)
    (subst (λ (ls : List Layer). m * bytes_in (ctype b (made l.rest [])) ≤ size_of (ctype b ls)) (sym l.is) fits)

-- ---- all of them

made_fits : (b : Base) (ss : List Step) → worst ss b [] ≡ None → is_void b (made ss []) ≡ false →
    making.is_function (made ss []) ≡ false → BytesFit (ctype b (made ss []))
made_fits b ss w value other = record {
  value = λ v. value_fits b ss (record { worst = w; value = value; other = other }) v;
  text = text_fits b ss w;
  list = rows_fit b ss w;
}

pub all_fit : AllFit
all_fit line b start ss t is other =
    let f : FileType (words.base_of b) (with_start start ss) t =
    file_type line (words.base_of b) (with_start start ss) t is in
    let no_function : making.is_function (made (with_start start ss) []) ≡ false =
    sym (ap (λ (u : CType). shapes.is_function u) f.is) ∙ other in
    subst BytesFit (sym f.is) (made_fits (words.base_of b) (with_start start ss) f.worst f.value no_function)
