-- Which types a declaration gives, and what the library functions' types are.
use Rattle.std.proofs.Common.{◌≡◌, ℕ, ◌-◌, ◌<◌, Bool, true, false, not, if◌then◌else◌, refl, sym, ap, ◌∙◌, subst, arith}
use Rattle.std.proofs.Common.{List, [], ◌∷◌, ◌++◌, length, length-append, take, Option, Some, None, Ok}
use Rattle.std.specs.Prelude.{nat_lt, slice_get}
use Rattle.std.proofs.Math.Seq.{take-append_seam, get_or-append_seam}
use Rattle.std.proofs.lemmas.Option.{slice_get-get_or}
use Rattle.c_types.specs.declared.ctype.Base.{Base}
use Rattle.c_types.specs.declared.ctype.Base.TheVariants as base
use Rattle.c_types.specs.declared.ctype.Integer.TheVariants as kind
use Rattle.c_types.specs.declared.ctype.Layer.{Layer, out-Layer}
use Rattle.c_types.specs.declared.ctype.Layer.TheVariants as layer
use Rattle.c_types.specs.declared.ctype.CType.{CType}
use Rattle.c_types.specs.Types as types
use Rattle.c_types.specs.Types.{base_of, layers_of, outermost, under, is_vspec_at}
use Rattle.check_declarators.specs.declared.steps.Role.{Role}
use Rattle.check_declarators.specs.declared.steps.Role.TheVariants as role
use Rattle.check_declarators.specs.declared.steps.Step.{Step}
use Rattle.check_declarators.specs.declared.steps.Step.TheVariants as step
use Rattle.tick_tree.specs.declared.base.Prefix.TheVariants as prefix
use Rattle.check_declarators.specs.Steps.{layer_of, count_of}
use Rattle.check_declarators.specs.Making.{is_word, is_array, is_function, breaks, lower, made, worst, role_breaks}
use Rattle.check_declarators.specs.Making.{decayed_layers, ctype, finished, answer, declared_by, taken_as}
use Rattle.check_declarators.specs.Making.{declared_type}
use Rattle.tick_tree.specs.declared.fault.FaultKind.{FaultKind}
use Rattle.tick_tree.specs.declared.fault.FaultKind.TheVariants as fault
use Rattle.tick_tree.specs.Faults.{number}
use Rattle.check_types.specs.Shapes.{is_vspec_layer, is_vspec, is_void, integer, void, over, inner}
use Rattle.check_operands.specs.Calls.{library_kind}
use Rattle.wf_nodes.specs.Used.{declares, library_answers, takes_one_at, takes_one_by, takes_one, listed_at, listed_by}
use Rattle.wf_nodes.specs.Used.{listed, library_count, IsLibrary}
use Rattle.wf_nodes.specs.Values.{TypesUse, LibraryUses}
use Rattle.wf_nodes.proofs.Broken.{no_fault, no_other, is_so}
use Rattle.wf_nodes.proofs.Types.{made_void, integer_type, void_type, layer_type, inner_type, decayed_type}
use Rattle.wf_nodes.proofs.Types.{decayed_value}

-- ---- the outermost layer

end_at : (ls : List Layer) (l : Layer) → length (ls ++ l ∷ []) - 1 ≡ length ls
end_at ls l = omega (arith, length-append ls (l ∷ []))

pub outermost_last : (ls : List Layer) (l : Layer) → outermost (ls ++ l ∷ []) ≡ Some l
outermost_last ls l =
    let here : length ls < length (ls ++ l ∷ []) = omega (arith, length-append ls (l ∷ [])) in
    ap (slice_get (ls ++ l ∷ [])) (end_at ls l) ∙ slice_get-get_or (ls ++ l ∷ []) (length ls) l here ∙
    ap Some (get_or-append_seam ls l [] l)

pub under_last : (ls : List Layer) (l : Layer) → under (ls ++ l ∷ []) ≡ ls
under_last ls l = ap (λ (n : ℕ). take n (ls ++ l ∷ [])) (end_at ls l) ∙ take-append_seam ls (l ∷ [])

-- ---- rules that a declaration doesn't break

one_is_broken : (p : Bool) (a b : FaultKind) → (if p then Some b else Some a) ≡ None → Some a ≡ None
one_is_broken true a b h = cc
one_is_broken false a b h = h

pub first_none : (a b : Option FaultKind) → lower a b ≡ None → a ≡ None
first_none None b h = refl
first_none (Some a) None h = h
first_none (Some a) (Some b) h = one_is_broken (nat_lt (number b) (number a)) a b h

pub second_none : (a b : Option FaultKind) → lower a b ≡ None → b ≡ None
second_none None b h = h
second_none (Some a) None h = refl
second_none (Some a) (Some b) h = let e = one_is_broken (nat_lt (number b) (number a)) a b h in cc

pub answered : (line : ℕ) (t u : CType) (k : Option FaultKind) → answer line t k ≡ Ok u → t ≡ u
answered line t u None h = cc
answered line t u (Some k) h = cc

pub unbroken : (line : ℕ) (t u : CType) (k : Option FaultKind) → answer line t k ≡ Ok u → k ≡ None
unbroken line t u None h = refl
unbroken line t u (Some k) h = cc

-- ---- what is declared isn't void

role_value : (r : Role) (b : Base) (ls : List Layer) → declares r ≡ true → role_breaks r b ls ≡ None →
    is_void (finished r b ls) ≡ false
role_value role.Typename b ls d k = cc
role_value role.FileScope b ls d k = made_void b ls ∙ no_fault (types.is_void b ls) fault.VoidValue None k
role_value role.Local b ls d k =
    made_void b ls ∙ no_fault (types.is_void b ls) fault.VoidValue None
    (no_other (is_function ls) fault.TypeMismatch _ k)
role_value role.Parameter b ls d k =
    made_void b (decayed_layers ls) ∙ decayed_value b ls ∙ no_fault (types.is_void b ls) fault.VoidValue None k

declared_by_value : (r : Role) (line : ℕ) (b : Base) (ss : List Step) (t : CType) → declares r ≡ true →
    declared_by r line b ss ≡ Ok t → is_void t ≡ false
declared_by_value r line b ss t d h =
    let k = unbroken line (finished r b (made ss [])) t (lower (worst ss b []) (role_breaks r b (made ss []))) h in
    let e = answered line (finished r b (made ss [])) t (lower (worst ss b []) (role_breaks r b (made ss []))) h in
    subst (λ (u : CType). is_void u ≡ false) e (role_value r b (made ss []) d (second_none (worst ss b []) _ k))

declared_value : (r : Role) (line : ℕ) (b : Base) (ss : List Step) (t : CType) → declares r ≡ true →
    declared_type r line b ss ≡ Ok t → is_void t ≡ false
unfolding declared_type
declared_value r line b ss t d h = declared_by_value r line b (taken_as r ss) t d h

-- ---- what a vspec is of isn't void

word_value : (b : Base) (ls : List Layer) → is_word b ls ≡ true → types.is_void b ls ≡ false
word_value base.Void [] h = cc
word_value (base.Integer k) [] h = refl
word_value b (l ∷ ls) h = refl

of_word : (s : Step) (b : Base) (ls : List Layer) → is_vspec_at (out-Layer (layer_of s)) ≡ true → breaks s b ls ≡ None →
    types.is_void b ls ≡ false
of_word (step.Prefix prefix.Vspec) b ls v k = word_value b ls (is_so (is_word b ls) fault.TypeMismatch None k)
of_word (step.Prefix prefix.Cspec) b ls v k = let w : false ≡ true = sym (ap is_vspec_at layer.outs-Cspec) ∙ v in cc
of_word (step.Prefix prefix.Star) b ls v k = let w : false ≡ true = sym (ap is_vspec_at layer.outs-Pointer) ∙ v in cc
of_word step.Unlisted b ls v k = let w : false ≡ true = sym (ap is_vspec_at layer.outs-Unlisted) ∙ v in cc
of_word (step.Array n) b ls v k = let w : false ≡ true = sym (ap is_vspec_at (layer.outs-Array (count_of n))) ∙ v in cc
of_word (step.Function ts) b ls v k = let w : false ≡ true = sym (ap is_vspec_at (layer.outs-Function ts)) ∙ v in cc

made_of_word : (b : Base) (ss : List Step) → worst ss b [] ≡ None → is_vspec_layer (outermost (made ss [])) ≡ true →
    types.is_void b (under (made ss [])) ≡ false
made_of_word b [] k v = cc
made_of_word b (s ∷ ss) k v =
    let last = outermost_last (made ss []) (layer_of s) in
    ap (types.is_void b) (under_last (made ss []) (layer_of s))
    ∙ of_word s b (made ss []) (sym (ap is_vspec_layer last) ∙ v) (second_none (worst ss b []) _ k)

no_pointer : (ls : List Layer) → is_vspec_layer (outermost (ls ++ layer.Pointer ∷ [])) ≡ false
no_pointer ls = ap is_vspec_layer (outermost_last ls layer.Pointer) ∙ ap is_vspec_at layer.outs-Pointer

decayed_by : (b : Base) (ls ms : List Layer) (x y : Bool) →
    (is_vspec_layer (outermost ls) ≡ true → types.is_void b (under ls) ≡ false) →
    is_vspec_layer (outermost (if x then ms ++ layer.Pointer ∷ [] else (if y then ls ++ layer.Pointer ∷ [] else ls))) ≡
    true →
    types.is_void b (under (if x then ms ++ layer.Pointer ∷ [] else (if y then ls ++ layer.Pointer ∷ [] else ls))) ≡
    false
decayed_by b ls ms true y h v = let n = no_pointer ms in cc
decayed_by b ls ms false true h v = let n = no_pointer ls in cc
decayed_by b ls ms false false h v = h v

finished_vspec : (r : Role) (b : Base) (ls : List Layer) →
    (is_vspec_layer (outermost ls) ≡ true → types.is_void b (under ls) ≡ false) → is_vspec (finished r b ls) ≡ true →
    is_void (inner (finished r b ls)) ≡ false
finished_vspec role.Typename b ls h v = inner_type (ctype b ls) ∙ h v
finished_vspec role.FileScope b ls h v = inner_type (ctype b ls) ∙ h v
finished_vspec role.Local b ls h v = inner_type (ctype b ls) ∙ h v
finished_vspec role.Parameter b ls h v =
    inner_type (ctype b (decayed_layers ls)) ∙ decayed_by b ls (under ls) (is_array ls) (is_function ls) h v

vspec_by_value : (r : Role) (line : ℕ) (b : Base) (ss : List Step) (t : CType) → declared_by r line b ss ≡ Ok t →
    is_vspec t ≡ true → is_void (inner t) ≡ false
vspec_by_value r line b ss t h v =
    let k = unbroken line (finished r b (made ss [])) t (lower (worst ss b []) (role_breaks r b (made ss []))) h in
    let e = answered line (finished r b (made ss [])) t (lower (worst ss b []) (role_breaks r b (made ss []))) h in
    subst (λ (u : CType). is_vspec u ≡ true → is_void (inner u) ≡ false) e
    (finished_vspec r b (made ss []) (made_of_word b ss (first_none (worst ss b []) _ k))) v

vspec_value : (r : Role) (line : ℕ) (b : Base) (ss : List Step) (t : CType) → declared_type r line b ss ≡ Ok t →
    is_vspec t ≡ true → is_void (inner t) ≡ false
unfolding declared_type
vspec_value r line b ss t h v = vspec_by_value r line b (taken_as r ss) t h v

pub types_use : TypesUse
types_use = record { layer = layer_type; decayed = decayed_type; declared = declared_value; vspec = vspec_value }

-- ---- the library

takes : (u t : CType) (ts : List CType) → takes_one (over (layer.Function (u ∷ ts)) t) ≡ true
takes u t ts =
    ap takes_one_by (outermost_last (layers_of t) (layer.Function (u ∷ ts))) ∙
    ap takes_one_at (layer.outs-Function (u ∷ ts))

answer_type : (l : Layer) (t : CType) → is_void (inner (over l t)) ≡ is_void t
answer_type l t = inner_type (over l t) ∙ ap (types.is_void (base_of t)) (under_last (layers_of t) l)

listed_over : (ts : List CType) (t : CType) → listed (over (layer.Function ts) t) ≡ Some (length ts)
listed_over ts t =
    ap listed_by (outermost_last (layers_of t) (layer.Function ts)) ∙ ap listed_at (layer.outs-Function ts)

of_one : (n : ℕ) (u t : CType) → library_answers (library_kind n) ≡ not (is_void t) →
    library_count (library_kind n) ≡ 1 → IsLibrary n (over (layer.Function (u ∷ [])) t)
of_one n u t h one = record {
  count = listed_over (u ∷ []) t ∙ ap Some (sym one);
  answer = h ∙ sym (ap not (answer_type (layer.Function (u ∷ [])) t));
  takes =
      λ e. takes u t [];
}

getchar_type : IsLibrary 0 (over (layer.Function []) (integer kind.Int))
getchar_type =
    let n = answer_type (layer.Function []) (integer kind.Int) ∙ integer_type kind.Int in
    record { answer = sym (ap not n); takes = λ e. cc; count = listed_over [] (integer kind.Int) }

pub libraries_use : LibraryUses
libraries_use = record {
  getchar = getchar_type;
  putchar = of_one 1 (integer kind.Int) (integer kind.Int) (sym (ap not (integer_type kind.Int))) refl;
  putint = of_one 2 (integer kind.Int) void (sym (ap not void_type)) refl;
  malloc = of_one 3 (integer kind.Unsigned) (over layer.Pointer void) (sym (ap not (layer_type layer.Pointer void)))
      refl;
  exit = of_one 4 (integer kind.Int) void (sym (ap not void_type)) refl;
}
