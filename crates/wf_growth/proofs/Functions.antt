-- What the walk over a function makes grow. Its variables are counted anew.
use Rattle.std.proofs.Common.{◌≡◌, ℕ, ◌+◌, ◌≤◌, Bool, true, false, List, [], ◌∷◌, length, refl, Option, Some, None, Ok}
use Rattle.std.proofs.Common.{Err, arith, ap, subst}
use Rattle.c_types.specs.declared.ctype.CType.{CType}
use Rattle.check_scopes.specs.declared.names.MeaningKind.TheVariants as kind
use Rattle.check_scopes.specs.declared.names.Meaning.{Meaning}
use Rattle.check_scopes.specs.Scopes.{Name, find}
use Rattle.c_types.specs.Types.{same}
use Rattle.check_types.specs.Shapes.{inner}
use Rattle.tick_tree.specs.declared.base.Base.{Base}
use Rattle.tick_tree.specs.Faults.{Checked, ◌>>=◌ as ◌>>>=◌}
use Rattle.typed_tree.specs.declared.expression.Stmt.{Stmt}
use Rattle.typed_tree.specs.declared.expression.Stmt.TheVariants as st
use Rattle.check_rules.specs.declared.functions.Functions.{Functions}
use Rattle.check_rules.specs.Frames as frames
use Rattle.check_rules.specs.Functions as tables
use Rattle.check_rules.specs.Walks.{Rule, ◌>>=◌}
use Rattle.check_rules.specs.declared.state.State.{State}
use Rattle.check_rules.specs.Locals.{meaning, parameter, with_parameter}
use Rattle.check_rules.specs.Names.{declare}
use Rattle.check_rules.specs.ExpressionRules.{Shape, Item}
use Rattle.check_rules.specs.Declarations.{name_by}
use Rattle.check_globals.specs.Functions as functions
use Rattle.check_globals.specs.Functions.{Given}
use Rattle.check_globals.specs.Names as names
use Rattle.check_globals.specs.Program as program
use Rattle.wf_growth_rules.specs.Light.{Light, After, Bounded, LightShape, LightItem, Each}
use Rattle.wf_growth_rules.proofs.Walks.{weak, by_after, after, pure_light, lift_light, bind_light, ok_same}
use Rattle.wf_growth_rules.proofs.States.{same_light, declare_light, depth_light, enter_light, leave_light, one_more}
use Rattle.wf_growth_rules.proofs.States.{variable_homes, variable_inner}
use Rattle.wf_growth_rules.proofs.Expressions.{each_light}
use Rattle.wf_growth.specs.Fresh.{FreshTables, FreshAfter, Fresh, Variables, VariablesAfter}

-- ---- steps that count the variables anew

fresh_front : {A : Type 0} (v w : ℕ) (s t : State) (r : Checked (A × State)) → Light 0 s t → FreshAfter v w t r →
    FreshAfter v w s r
fresh_front v w s t (Ok x) l f =
    record { captures = omega arith; inner = omega arith; homes = f.homes; ticks = omega arith }
fresh_front v w s t (Err k) l f = tt

fresh_first_by : {A B : Type 0} (v w : ℕ) (f : A → Rule State B) (s : State) (r : Checked (A × State)) → After 0 s r →
    ((x : A) → Fresh v w (f x)) → FreshAfter v w s (r >>>= (λ x. f x.0 x.1))
fresh_first_by v w f s (Ok x) l k = fresh_front v w s x.1 (f x.0 x.1) l ((k x.0).after x.1)
fresh_first_by v w f s (Err e) l k = tt

-- behind a step that makes nothing grow
pub fresh_first : {A B : Type 0} {v w : ℕ} {p : Rule State A} {f : A → Rule State B} → Bounded 0 p →
    ((x : A) → Fresh v w (f x)) → Fresh v w (p >>= f)
fresh_first {v = v} {w = w} {p = p} {f = f} h k = record { after = λ s. fresh_first_by v w f s (p s) (after h s) k }

fresh_back : {A : Type 0} (u v w : ℕ) (s t : State) (r : Checked (A × State)) → FreshTables u v s t → After w t r →
    FreshAfter u (v + w) s r
fresh_back u v w s t (Ok x) f l =
    record { captures = omega arith; inner = omega arith; homes = omega arith; ticks = omega arith }
fresh_back u v w s t (Err k) f l = tt

fresh_next_by : {A B : Type 0} (u v w : ℕ) (f : A → Rule State B) (s : State) (r : Checked (A × State)) →
    FreshAfter u v s r → ((x : A) → Bounded w (f x)) → FreshAfter u (v + w) s (r >>>= (λ x. f x.0 x.1))
fresh_next_by u v w f s (Ok x) l k = fresh_back u v w s x.1 (f x.0 x.1) l (after (k x.0) x.1)
fresh_next_by u v w f s (Err e) l k = tt

-- before a step that makes grow
pub fresh_next : {A B : Type 0} {u v w : ℕ} {p : Rule State A} {f : A → Rule State B} → Fresh u v p →
    ((x : A) → Bounded w (f x)) → Fresh u (v + w) (p >>= f)
fresh_next {u = u} {v = v} {w = w} {p = p} {f = f} h k =
    record { after = λ s. fresh_next_by u v w f s (p s) (h.after s) k }

fresh_light : {A : Type 0} (v w : ℕ) (s t : State) (r : Checked (A × State)) → Light v s t → FreshAfter v w t r →
    After (v + w) s r
fresh_light v w s t (Ok x) l f =
    record { captures = omega arith; inner = omega arith; homes = omega arith; ticks = omega arith }
fresh_light v w s t (Err k) l f = tt

fresh_behind_by : {A B : Type 0} (v w : ℕ) (f : A → Rule State B) (s : State) (r : Checked (A × State)) → After v s r →
    ((x : A) → Fresh v w (f x)) → After (v + w) s (r >>>= (λ x. f x.0 x.1))
fresh_behind_by v w f s (Ok x) l k = fresh_light v w s x.1 (f x.0 x.1) l ((k x.0).after x.1)
fresh_behind_by v w f s (Err e) l k = tt

-- behind a step that makes grow by as many as the variables begin with
pub fresh_behind : {A B : Type 0} {v w : ℕ} {p : Rule State A} {f : A → Rule State B} → Bounded v p →
    ((x : A) → Fresh v w (f x)) → Bounded (v + w) (p >>= f)
fresh_behind {v = v} {w = w} {p = p} {f = f} h k = by_after (λ s. fresh_behind_by v w f s (p s) (after h s) k)

fresh_weak_by : {A : Type 0} (u v w : ℕ) (s : State) (r : Checked (A × State)) → FreshAfter u v s r → v ≤ w →
    FreshAfter u w s r
fresh_weak_by u v w s (Ok x) f h =
    record { captures = omega arith; inner = omega arith; homes = omega arith; ticks = omega arith }
fresh_weak_by u v w s (Err k) f h = tt

pub fresh_weak : {A : Type 0} {u v : ℕ} {r : Rule State A} (w : ℕ) → Fresh u v r → v ≤ w → Fresh u w r
fresh_weak {u = u} {v = v} {r = r} w f h = record { after = λ s. fresh_weak_by u v w s (r s) (f.after s) h }

ran_by : {A : Type 0} (v w : ℕ) (s new : State) (x : A) (r : Checked (A × State)) → FreshAfter v w s r →
    r ≡ Ok (x, new) → FreshTables v w s new
ran_by v w s new x (Ok y) f e = subst (λ z. FreshTables v w s z) (ap (λ r. r.1) (ok_same y (x, new) e)) f
ran_by v w s new x (Err k) f e = absurd (cc)

-- what such a step that gave an answer left
pub fresh_ran : {A : Type 0} {v w : ℕ} {r : Rule State A} → Fresh v w r → (s new : State) (x : A) → r s ≡ Ok (x, new) →
    FreshTables v w s new
fresh_ran {v = v} {w = w} {r = r} f s new x e = ran_by v w s new x (r s) (f.after s) e

-- ---- names

functions_light : (s : State) (r : Checked (Unit {0} × Functions)) → After 0 s (functions.with_functions s r)
functions_light s (Ok r) = same_light 0 s _ refl refl refl refl
functions_light s (Err f) = tt

define_light : (line : ℕ) (name : Name) → Bounded 0 (functions.define line name)
define_light line name = by_after (λ s. functions_light s (tables.define line name s.functions))

first_function_light : (line : ℕ) (name : Name) (t : CType) (s : State) →
    After 0 s (functions.first_function line name t s)
first_function_light line name t s =
    after (weak 0 (bind_light (declare_light line name (meaning kind.Function t (tables.next s.functions)))
    (λ u. define_light line name)) (omega arith)) s

known_light : (line : ℕ) (name : Name) (t : CType) (s : State) (m : Meaning) (d a b : Bool) →
    names.is_function m.kind ≡ a → same m.ctype t ≡ b →
    After 0 s (functions.function_by (names.before_by d t (Some m)) line name t s)
known_light line name t s m d false b e h = rw e tt
known_light line name t s m true true b e h = rw e tt
known_light line name t s m false true true e h = rw (e, h) (after (define_light line name) s)
known_light line name t s m false true false e h = rw (e, h) tt

function_by_light : (line : ℕ) (name : Name) (t : CType) (s : State) (d : Bool) (m : Option Meaning) →
    After 0 s (functions.function_by (names.before_by d t m) line name t s)
function_by_light line name t s d None = first_function_light line name t s
function_by_light line name t s d (Some m) =
    known_light line name t s m d (names.is_function m.kind) (same m.ctype t) refl refl

pub named_function_light : (line : ℕ) (name : Name) (t : CType) → Bounded 0 (functions.named line name t)
unfolding functions.named
named_function_light line name t =
    by_after (λ s. function_by_light line name t s (tables.is_defined name s.functions) (find s.scopes name))

-- ---- parameters

variables_front : {A : Type 0} (n : ℕ) (s t : State) (r : Checked (A × State)) → Light 0 s t → VariablesAfter n t r →
    VariablesAfter n s r
variables_front n s t (Ok x) l v =
    record { captures = omega arith; inner = omega arith; homes = omega arith; ticks = omega arith }
variables_front n s t (Err f) l v = tt

variables_more : {A : Type 0} (m n : ℕ) (s t : State) (r : Checked (A × State)) → Variables m s t →
    VariablesAfter n t r → VariablesAfter (m + n) s r
variables_more m n s t (Ok x) u v =
    record { captures = omega arith; inner = omega arith; homes = omega arith; ticks = omega arith }
variables_more m n s t (Err f) u v = tt

variables_weak : {A : Type 0} (m n : ℕ) (s : State) (r : Checked (A × State)) → VariablesAfter m s r → m ≤ n →
    VariablesAfter n s r
variables_weak m n s (Ok x) v h =
    record { captures = omega arith; inner = omega arith; homes = omega arith; ticks = omega arith }
variables_weak m n s (Err f) v h = tt

no_variables : (n : ℕ) (s : State) → Variables n s s
no_variables n s = record { captures = omega arith; inner = omega arith; homes = omega arith; ticks = omega arith }

with_variable : (t : CType) (s : State) → Variables 1 s (with_parameter t s)
unfolding frames.parameter
with_variable t s = record {
  captures = omega arith;
  inner = variable_inner (frames.needs_address s.frame) _ _ s.frame.inner (omega arith) (omega arith);
  homes = variable_homes (frames.needs_address s.frame) _ _ (length s.frame.homes + 1) (one_more _ _) (one_more _ _);
  ticks = omega arith;
}

named_variable : (t : CType) (s : State) (r : Checked (Unit {0} × State)) → After 0 s r →
    VariablesAfter {A = Unit {0}} 1 s (r >>>= (λ x. Ok (tt, with_parameter t x.1)))
named_variable t s (Ok x) l =
    variables_front {A = Unit {0}} 1 s x.1 (Ok (tt, with_parameter t x.1)) l (with_variable t x.1)
named_variable t s (Err f) l = tt

parameter_by : (line : ℕ) (n : Option (ℕ × Name)) (t : CType) (s : State) →
    VariablesAfter 1 s (functions.parameter_by line n t s)
unfolding parameter
parameter_by line None t s = with_variable t s
parameter_by line (Some p) t s =
    named_variable t s (declare line p.1 (meaning kind.Parameter t (frames.number s.frame)) s)
    (after (declare_light line p.1 (meaning kind.Parameter t (frames.number s.frame))) s)

parameters_by : (n : ℕ) (ts : List CType) (gs : List Given) (s : State) (r : Checked (Unit {0} × State)) →
    VariablesAfter 1 s r → ((t : State) → VariablesAfter n t (functions.parameters ts gs t)) →
    VariablesAfter (1 + n) s (r >>>= (λ x. functions.parameters ts gs x.1))
parameters_by n ts gs s (Ok x) v h = variables_more 1 n s x.1 (functions.parameters ts gs x.1) v (h x.1)
parameters_by n ts gs s (Err f) v h = tt

parameters_light : (ts : List CType) (gs : List Given) (s : State) →
    VariablesAfter (length gs) s (functions.parameters ts gs s)
parameters_light [] gs s = no_variables _ s
parameters_light (t ∷ ts) [] s = no_variables _ s
parameters_light (t ∷ ts) (g ∷ gs) s =
    variables_weak (1 + length gs) (length (g ∷ gs)) s (functions.parameters (t ∷ ts) (g ∷ gs) s)
    (parameters_by (length gs) ts gs s (functions.parameter_by g.0 g.1 t s) (parameter_by g.0 g.1 t s)
    (parameters_light ts gs)) (omega arith)

-- into a function: it has no variable, and nothing grew
began_by : {A : Type 0} (t : CType) (n : ℕ) (s : State) (r : Checked (A × State)) →
    VariablesAfter n (record s { frame = frames.began t s.frame }) r → FreshAfter n 0 s r
began_by t n s (Ok x) v =
    record {
      captures = omega (arith, v.captures);
      inner = omega (arith, v.inner);
      homes = omega (arith, v.homes);
      ticks =
          omega (arith, v.ticks);
    }
began_by t n s (Err f) v = tt

-- the parameters of a function are its first variables
pub parameters_fresh : (t : CType) (gs : List Given) → Fresh (length gs) 0 (functions.begun t gs)
unfolding functions.begun
parameters_fresh t gs = record
    { after = λ s. began_by (inner t) (length gs) s _ (parameters_light (functions.types_of t) gs _) }

-- ---- the whole function

-- its parameters and its items
pub begun_fresh : {w : ℕ} (t : CType) (gs : List Given) (items : List Item) → Each LightItem w items →
    Fresh (length gs) w (program.begun t gs items)
begun_fresh t gs items h =
    fresh_weak _ (fresh_next (parameters_fresh t gs) (λ u. each_light items program.around h)) (omega arith)

body_fresh : {w : ℕ} (t : CType) (gs : List Given) (items : List Item) → Each LightItem w items →
    Fresh (length gs) w (program.body t gs items)
body_fresh t gs items h =
    fresh_first depth_light (λ n. fresh_first enter_light (λ outer.
    fresh_weak _ (fresh_next (begun_fresh t gs items h)
    (λ xs. bind_light (leave_light n outer) (λ vs. pure_light (st.Block vs xs)))) (omega arith)))

ended_light : (line : ℕ) (n : Option (ℕ × Name)) (t : CType) (x : Stmt) → Bounded 0 (functions.ended line n t x)
unfolding functions.ended
ended_light line n t x = by_after (λ s. same_light 0 s _ refl refl refl refl)

rest_fresh : {w : ℕ} (line : ℕ) (t : CType) (d : Shape) (gs : List Given) (items : List Item) → Each LightItem w items →
    Fresh (length gs) w (program.function_rest line t d gs items)
rest_fresh line t d gs items h =
    fresh_weak _ (fresh_next (body_fresh t gs items h) (λ x. ended_light line d.declared.name t x)) (omega arith)

fresh_size_by : {A : Type 0} (u v w : ℕ) (s : State) (r : Checked (A × State)) → FreshAfter u w s r → u ≤ v →
    FreshAfter v w s r
fresh_size_by u v w s (Ok x) f h =
    record { captures = f.captures; inner = f.inner; homes = omega arith; ticks = f.ticks }
fresh_size_by u v w s (Err k) f h = tt

fresh_size : {A : Type 0} {u w : ℕ} {r : Rule State A} (v : ℕ) → Fresh u w r → u ≤ v → Fresh v w r
fresh_size {u = u} {w = w} {r = r} v f h = record { after = λ s. fresh_size_by u v w s (r s) (f.after s) h }

function_type_light : {v : ℕ} (line : ℕ) (b : Base) (d : Shape) → LightShape v d →
    Bounded v (program.function_type line b d)
function_type_light line b d h = weak _ (bind_light (h.at _) (λ ss. lift_light _)) (omega arith)

pub function_light : {v w : ℕ} (line : ℕ) (b : Base) (d : Shape) (gs : List Given) (items : List Item) →
    LightShape v d → length gs ≤ v → Each LightItem w items → Bounded (v + w) (program.function line b d gs items)
function_light {v = v} line b d gs items h le hs =
    fresh_behind (function_type_light line b d h)
    (λ t. fresh_first (named_function_light line (name_by d.declared.name) t)
    (λ u. fresh_size v (rest_fresh line t d gs items hs) le))
