-- No type is made of steps with a length that isn't constant, and what is done with steps hides none.
use Rattle.std.proofs.Common.{◌≡◌, ℕ, Bool, true, false, if◌then◌else◌, List, [], ◌∷◌, ◌++◌, refl, sym, Option, Some}
use Rattle.std.proofs.Common.{None, Ok, Err}
use Rattle.c_types.specs.declared.ctype.CType.{CType}
use Rattle.c_types.specs.declared.ctype.Base.{Base}
use Rattle.c_types.specs.declared.ctype.Layer.{Layer}
use Rattle.c_types.specs.Types.{is_void}
use Rattle.check_declarators.specs.declared.steps.Length.TheVariants as len
use Rattle.check_declarators.specs.declared.steps.Role.{Role}
use Rattle.check_declarators.specs.declared.steps.Role.TheVariants as role
use Rattle.check_declarators.specs.declared.steps.Step.{Step}
use Rattle.check_declarators.specs.declared.steps.Step.TheVariants as step
use Rattle.check_declarators.specs.Steps.{prefixed, lacks, with_length, filled}
use Rattle.check_declarators.specs.Making.{is_function, breaks, made, worst, role_breaks, finished, taken_as}
use Rattle.check_declarators.specs.Making.{declared_type}
use Rattle.tick_tree.specs.declared.base.Prefix.{Prefix}
use Rattle.tick_tree.specs.declared.fault.FaultKind.{FaultKind}
use Rattle.tick_tree.specs.declared.fault.FaultKind.TheVariants.{TypeMismatch, VoidValue, BadArray}
use Rattle.tick_tree.specs.Faults.{Checked}
use Rattle.check_types.specs.Shapes as shapes
use Rattle.check_operands.specs.declared.operand.Operand.{Operand}
use Rattle.check_rules.specs.declared.state.Stage.{Stage}
use Rattle.check_rules.specs.declared.state.Stage.TheVariants as stage
use Rattle.check_rules.specs.Declarations.{tick_breaks, lowered, declared_in, length_of}
use Rattle.wellformed.proofs.Bools.{both_false, first_false, second_false}
use Rattle.wf_nodes.proofs.Declared.{first_none, second_none, unbroken}
use Rattle.wf_walk.specs.Good.{is_computed, is_computed_step, any_computed}

-- ---- several steps

pub computed_front : (ss ts : List Step) → any_computed (ss ++ ts) ≡ false → any_computed ss ≡ false
computed_front [] ts h = refl
computed_front (s ∷ ss) ts h =
    both_false (is_computed_step s) (any_computed ss) (first_false (is_computed_step s) (any_computed (ss ++ ts)) h)
    (computed_front ss ts (second_false (is_computed_step s) (any_computed (ss ++ ts)) h))

pub computed_rest : (ss ts : List Step) → any_computed (ss ++ ts) ≡ false → any_computed ts ≡ false
computed_rest [] ts h = h
computed_rest (s ∷ ss) ts h = computed_rest ss ts (second_false (is_computed_step s) (any_computed (ss ++ ts)) h)

pub computed_prefixed : (ps : List Prefix) (ss : List Step) → any_computed (prefixed ps ss) ≡ false →
    any_computed ss ≡ false
computed_prefixed [] ss h = h
computed_prefixed (p ∷ ps) ss h = computed_prefixed ps ss (computed_front (prefixed ps ss) (step.Prefix p ∷ []) h)

-- what lacks a length isn't computed
lacking : (s : Step) → lacks s ≡ true → is_computed_step s ≡ false
lacking (step.Array len.Absent) h = refl
lacking (step.Array (len.Constant n)) h = refl
lacking (step.Array len.Computed) h = cc
lacking (step.Array len.Void) h = cc
lacking (step.Array (len.Counted n)) h = refl
lacking (step.Prefix p) h = refl
lacking (step.Function list) h = refl
lacking step.Unlisted h = refl

filled_by : (b : Bool) (count : ℕ) (s : Step) (ss : List Step) → (b ≡ true → is_computed_step s ≡ false) →
    any_computed (if b then with_length count (s ∷ ss) else (s ∷ ss)) ≡ false → any_computed (s ∷ ss) ≡ false
filled_by true count s ss k h = both_false (is_computed_step s) (any_computed ss) (k refl) h
filled_by false count s ss k h = h

pub computed_filled : (count : ℕ) (ss : List Step) → any_computed (filled count ss) ≡ false → any_computed ss ≡ false
computed_filled count [] h = refl
computed_filled count (s ∷ ss) h = filled_by (lacks s) count s ss (lacking s) h

-- ---- types

pub array_case : (a c : Bool) (k : FaultKind) →
    (if a then Some TypeMismatch else (if c then Some VoidValue else Some k)) ≡ None → true ≡ false
array_case true c k is = cc
array_case false true k is = cc
array_case false false k is = cc

-- an array has a length
pub not_computed : (s : Step) (b : Base) (ls : List Layer) → breaks s b ls ≡ None → is_computed_step s ≡ false
not_computed (step.Prefix p) b ls is = refl
not_computed (step.Array len.Computed) b ls is = array_case (is_function ls) (is_void b ls) BadArray is
not_computed (step.Array len.Void) b ls is = array_case (is_function ls) (is_void b ls) VoidValue is
not_computed (step.Array len.Absent) b ls is = refl
not_computed (step.Array (len.Constant n)) b ls is = refl
not_computed (step.Array (len.Counted n)) b ls is = refl
not_computed (step.Function list) b ls is = refl
not_computed step.Unlisted b ls is = refl

pub none_computed : (ss : List Step) (b : Base) (ls : List Layer) → worst ss b ls ≡ None → any_computed ss ≡ false
none_computed [] b ls is = refl
none_computed (s ∷ ss) b ls is =
    both_false (is_computed_step s) (any_computed ss)
    (not_computed s b (made ss ls) (second_none (worst ss b ls) (breaks s b (made ss ls)) is))
    (none_computed ss b ls (first_none (worst ss b ls) (breaks s b (made ss ls)) is))

computed_taken : (r : Role) (ss : List Step) → any_computed (taken_as r ss) ≡ false → any_computed ss ≡ false
computed_taken role.Typename ss h = h
computed_taken role.FileScope ss h = h
computed_taken role.Local ss h = h
computed_taken role.Parameter ss h = computed_filled 1 ss h

pub type_not_computed : (r : Role) (line : ℕ) (b : Base) (ss : List Step) (x : CType) →
    declared_type r line b ss ≡ Ok x → any_computed ss ≡ false
unfolding declared_type
type_not_computed r line b ss x h =
    let ts : List Step = taken_as r ss in
    computed_taken r ss (none_computed ts b []
    (first_none (worst ts b []) (role_breaks r b (made ts [])) (unbroken line (finished r b (made ts [])) x _ h)))

pub lowered_ok : (line : ℕ) (k : Option FaultKind) (t : Checked CType) (x : CType) → lowered line k t ≡ Ok x → t ≡ Ok x
lowered_ok line None t x h = h
lowered_ok line (Some k) (Ok t) x h = cc
lowered_ok line (Some k) (Err f) x h = cc

-- the type of a variable of a block
pub local_not_computed : (g : Stage) (line : ℕ) (b : Base) (ss : List Step) (x : CType) →
    declared_in g line b ss ≡ Ok x → any_computed ss ≡ false
unfolding declared_in
local_not_computed stage.Function line b ss x h = type_not_computed role.Local line b ss x h
local_not_computed stage.Tick line b ss x h =
    type_not_computed role.Local line b ss x (lowered_ok line (tick_breaks ss) (declared_type role.Local line b ss) x h)
local_not_computed stage.Dollar line b ss x h = type_not_computed role.Local line b ss x h

-- ---- lengths

-- what has no form of a constant is computed
unformed : (void : Bool) → is_computed (if void then len.Void else len.Computed) ≡ false → false ≡ true
unformed true h = sym h
unformed false h = sym h

pub has_form : (form : Bool) (o : Operand) → is_computed (length_of form o) ≡ false → form ≡ true
unfolding length_of
has_form true o h = refl
has_form false o h = unformed (shapes.is_void o.ctype) h
