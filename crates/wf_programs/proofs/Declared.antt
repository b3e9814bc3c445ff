-- The type of a name at file scope: no length of it is computed, it isn't void, and a function's list is short.
use Rattle.std.proofs.Common.{◌≡◌, ℕ, suc, ◌-◌, ◌≤◌, Bool, true, false, ◌||◌, nat_le, if◌then◌else◌, refl, ap, ◌∙◌}
use Rattle.std.proofs.Common.{List, [], ◌∷◌, ◌++◌, length, slice_get, Option, Some, None, Ok, arith}
use Rattle.c_types.specs.declared.ctype.Base.{Base}
use Rattle.c_types.specs.declared.ctype.CType.{CType, out-roll-CType}
use Rattle.c_types.specs.declared.ctype.Layer.{Layer, out-Layer}
use Rattle.c_types.specs.declared.ctype.Layer.TheOpen.{CType-F}
use Rattle.c_types.specs.declared.ctype.Layer.TheVariants as layer
use Rattle.c_types.specs.Types.{base_of, layers_of, outermost, is_unlisted_at, is_unlisted, is_void}
use Rattle.check_declarators.specs.declared.steps.Length.TheVariants as len
use Rattle.check_declarators.specs.declared.steps.Role.TheVariants as role
use Rattle.check_declarators.specs.declared.steps.Step.{Step}
use Rattle.check_declarators.specs.declared.steps.Step.TheVariants as step
use Rattle.check_declarators.specs.Making.{declared_type, answer, lower, worst, made, breaks, unless, void_breaks}
use Rattle.check_declarators.specs.Making.{ctype, is_function, is_array}
use Rattle.check_declarators.specs.Steps.{layer_of, prefix_layer, filled}
use Rattle.check_types.specs.Shapes as shapes
use Rattle.tick_tree.specs.declared.base.Prefix.{Prefix}
use Rattle.tick_tree.specs.declared.base.Prefix.TheVariants as prefix
use Rattle.tick_tree.specs.declared.fault.FaultKind.{FaultKind}
use Rattle.tick_tree.specs.declared.fault.FaultKind.TheVariants.{TypeMismatch, VoidValue, TooManyParameters}
use Rattle.check_globals.specs.Functions.{types_of, types_by, types_at}
use Rattle.check_globals.specs.Names.{named_steps, without_parameters}
use Rattle.wf_walk.proofs.Lists.{get_last}
use Rattle.wf_programs.proofs.Bools.{true_le, length_last}
use Rattle.wf_walk.specs.Good.{is_computed_step, any_computed}

-- ---- the parts of a made type

pub layers_made : (b : Base) (ls : List Layer) → layers_of (ctype b ls) ≡ ls
layers_made b ls = ap (λ (x : CType-F Layer CType). x.layers) (out-roll-CType (record { base = b; layers = ls }))

pub base_made : (b : Base) (ls : List Layer) → base_of (ctype b ls) ≡ b
base_made b ls = ap (λ (x : CType-F Layer CType). x.base) (out-roll-CType (record { base = b; layers = ls }))

-- ---- what is broken by nothing

lower_by : (a b : FaultKind) (c : Bool) → (if c then Some b else Some a) ≡ None → ⊥
lower_by a b true is = cc
lower_by a b false is = cc

pub none_lower : (a b : Option FaultKind) → lower a b ≡ None → (a ≡ None) × (b ≡ None)
none_lower None b is = (refl, is)
none_lower (Some a) None is = absurd (cc)
none_lower (Some a) (Some b) is = absurd (lower_by a b _ is)

answer_ok : (line : ℕ) (t u : CType) (o : Option FaultKind) → answer line t o ≡ Ok u → (o ≡ None) × (u ≡ t)
answer_ok line t u None is = (refl, cc)
answer_ok line t u (Some k) is = absurd (cc)

-- the type of a name at file scope
pub record FileType (b : Base) (ss : List Step) (t : CType) : Type 0 where
  pub is : t ≡ ctype b (made ss [])
  pub worst : worst ss b [] ≡ None
  pub value : is_void b (made ss []) ≡ false

void_case : (b : Bool) → (if b then Some VoidValue else None) ≡ None → b ≡ false
void_case true is = absurd (cc)
void_case false is = refl

pub file_type : (line : ℕ) (b : Base) (ss : List Step) (t : CType) → declared_type role.FileScope line b ss ≡ Ok t →
    FileType b ss t
unfolding declared_type
file_type line b ss t is =
    let a : (lower (worst ss b []) (void_breaks b (made ss [])) ≡ None) × (t ≡ ctype b (made ss []))
    = answer_ok line (ctype b (made ss [])) t (lower (worst ss b []) (void_breaks b (made ss []))) is in
    let n : (worst ss b [] ≡ None) × (void_breaks b (made ss []) ≡ None) =
    none_lower (worst ss b []) (void_breaks b (made ss [])) a.0 in
    record { is = a.1; worst = n.0; value = void_case (is_void b (made ss [])) n.1 }

pub file_value : (b : Base) (ss : List Step) (t : CType) → FileType b ss t → shapes.is_void t ≡ false
file_value b ss t f =
    ap shapes.is_void f.is ∙ ap (λ (x : Base). is_void x (layers_of (ctype b (made ss [])))) (base_made b (made ss []))
    ∙ ap (λ ls. is_void b ls) (layers_made b (made ss [])) ∙ f.value

-- ---- lengths

-- ---- steps at file scope

step_computed : (s : Step) → is_computed_step (without_parameters s) ≡ is_computed_step s
step_computed (step.Prefix p) = refl
step_computed (step.Array n) = refl
step_computed (step.Function list) = refl
step_computed step.Unlisted = refl

pub named_computed : (ss : List Step) → any_computed (named_steps ss) ≡ any_computed ss
named_computed [] = refl
named_computed (s ∷ ss) = ap (λ b. b || any_computed ss) (step_computed s)

filled_step : (count : ℕ) (s : Step) (ss : List Step) → any_computed (filled count (s ∷ ss)) ≡ any_computed (s ∷ ss)
filled_step count (step.Prefix p) ss = refl
filled_step count (step.Array len.Computed) ss = refl
filled_step count (step.Array len.Absent) ss = refl
filled_step count (step.Array len.Void) ss = refl
filled_step count (step.Array (len.Counted n)) ss = refl
filled_step count (step.Array (len.Constant n)) ss = refl
filled_step count (step.Function list) ss = refl
filled_step count step.Unlisted ss = refl

pub filled_computed : (count : ℕ) (ss : List Step) → any_computed (filled count ss) ≡ any_computed ss
filled_computed count [] = refl
filled_computed count (s ∷ ss) = filled_step count s ss

-- ---- the parameters of a function

-- the types of the list that a step has
abbrev pub list_of : Step → List CType
list_of (step.Function list) = list
list_of _ = []

abbrev pub first_list : List Step → List CType
first_list [] = []
first_list (s ∷ ss) = list_of s

prefix_types : (p : Prefix) → types_at (out-Layer (prefix_layer p)) ≡ []
prefix_types prefix.Star = ap types_at layer.outs-Pointer
prefix_types prefix.Cspec = ap types_at layer.outs-Cspec
prefix_types prefix.Vspec = ap types_at layer.outs-Vspec

step_types : (s : Step) → types_at (out-Layer (layer_of s)) ≡ list_of s
step_types (step.Prefix p) = prefix_types p
step_types (step.Array n) = ap types_at (layer.outs-Array _)
step_types (step.Function list) = ap types_at (layer.outs-Function list)
step_types step.Unlisted = ap types_at layer.outs-Unlisted

last_one : {A : Type 0} (xs : List A) (x : A) → slice_get (xs ++ x ∷ []) (length (xs ++ x ∷ []) - 1) ≡ Some x
last_one xs x =
    let e : length (xs ++ x ∷ []) - 1 ≡ length xs =
    (let l : length (xs ++ x ∷ []) ≡ suc (length xs) = length_last xs x in omega arith) in
    ap (λ n. slice_get (xs ++ x ∷ []) n) e ∙ get_last xs x

made_types : (ss : List Step) → types_by (outermost (made ss [])) ≡ first_list ss
made_types [] = refl
made_types (s ∷ ss) = ap types_by (last_one (made ss []) (layer_of s)) ∙ step_types s

pub first_types : (b : Base) (ss : List Step) (t : CType) → FileType b ss t → types_of t ≡ first_list ss
first_types b ss t f = ap types_of f.is ∙ ap (λ ls. types_by (outermost ls)) (layers_made b (made ss [])) ∙
    made_types ss

-- ---- a list that takes any arguments

abbrev pub is_open : Step → Bool
is_open step.Unlisted = true
is_open _ = false

abbrev pub first_open : List Step → Bool
first_open [] = false
first_open (s ∷ ss) = is_open s

prefix_open : (p : Prefix) → is_unlisted_at (out-Layer (prefix_layer p)) ≡ false
prefix_open prefix.Star = ap is_unlisted_at layer.outs-Pointer
prefix_open prefix.Cspec = ap is_unlisted_at layer.outs-Cspec
prefix_open prefix.Vspec = ap is_unlisted_at layer.outs-Vspec

step_open : (s : Step) → is_unlisted_at (out-Layer (layer_of s)) ≡ is_open s
step_open (step.Prefix p) = prefix_open p
step_open (step.Array n) = ap is_unlisted_at (layer.outs-Array _)
step_open (step.Function list) = ap is_unlisted_at (layer.outs-Function list)
step_open step.Unlisted = ap is_unlisted_at layer.outs-Unlisted

made_open : (ss : List Step) → is_unlisted (outermost (made ss [])) ≡ first_open ss
made_open [] = refl
made_open (s ∷ ss) = ap is_unlisted (last_one (made ss []) (layer_of s)) ∙ step_open s

pub open_type : (b : Base) (ss : List Step) (t : CType) → FileType b ss t →
    is_unlisted (outermost (layers_of t)) ≡ first_open ss
open_type b ss t f = ap (λ u. is_unlisted (outermost (layers_of u))) f.is ∙
    ap (λ ls. is_unlisted (outermost ls)) (layers_made b (made ss [])) ∙ made_open ss

-- at the name of a function an open list is an empty one
pub named_open : (ss : List Step) → first_open (named_steps ss) ≡ false
named_open [] = refl
named_open (step.Prefix p ∷ ss) = refl
named_open (step.Array n ∷ ss) = refl
named_open (step.Function list ∷ ss) = refl
named_open (step.Unlisted ∷ ss) = refl

filled_open_by : (count : ℕ) (s : Step) (ss : List Step) → first_open (filled count (s ∷ ss)) ≡ is_open s
filled_open_by count (step.Prefix p) ss = refl
filled_open_by count (step.Array len.Computed) ss = refl
filled_open_by count (step.Array len.Absent) ss = refl
filled_open_by count (step.Array len.Void) ss = refl
filled_open_by count (step.Array (len.Counted n)) ss = refl
filled_open_by count (step.Array (len.Constant n)) ss = refl
filled_open_by count (step.Function list) ss = refl
filled_open_by count step.Unlisted ss = refl

pub filled_open : (count : ℕ) (ss : List Step) → first_open (filled count ss) ≡ first_open ss
filled_open count [] = refl
filled_open count (s ∷ ss) = filled_open_by count s ss

few_by : (n : ℕ) (b : Bool) → nat_le n 8 ≡ b → (if b then None else Some TooManyParameters) ≡ None → n ≤ 8
few_by n true e is = true_le n 8 e
few_by n false e is = absurd (cc)

few_case : (c : Bool) (n : ℕ) → (if c then Some TypeMismatch else unless (nat_le n 8) TooManyParameters) ≡ None → n ≤ 8
few_case true n is = absurd (cc)
few_case false n is = few_by n (nat_le n 8) refl is

list_few : (s : Step) (b : Base) (ls : List Layer) → breaks s b ls ≡ None → length (list_of s) ≤ 8
list_few (step.Prefix p) b ls is = omega arith
list_few (step.Array n) b ls is = omega arith
list_few (step.Function list) b ls is = few_case (is_function ls || is_array ls) (length list) is
list_few step.Unlisted b ls is = omega arith

pub first_few : (b : Base) (ss : List Step) → worst ss b [] ≡ None → length (first_list ss) ≤ 8
first_few b [] is = omega arith
first_few b (s ∷ ss) is = list_few s b (made ss []) (none_lower (worst ss b []) (breaks s b (made ss [])) is).1
