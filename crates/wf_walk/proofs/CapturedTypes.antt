-- A type captures nothing: the lengths in it are constants, which name nothing.
use Rattle.std.proofs.Common.{◌≡◌, ℕ, false, List, [], ◌∷◌, ◌++◌, length, take, refl, sym, ap, subst, ◌∙◌, arith}
use Rattle.std.proofs.Common.{Option, Some, None, Ok, Bool, true, zero, suc, ◌-◌, if◌then◌else◌}
use Rattle.std.specs.Prelude.{slice_set, slice_index_or}
use Rattle.icode_ops.specs.declared.kind.BinKind.{BinKind}
use Rattle.icode_ops.specs.declared.kind.UnKind.{UnKind}
use Rattle.c_types.specs.declared.ctype.CType.{CType}
use Rattle.check_scopes.specs.declared.names.Meaning.{Meaning}
use Rattle.check_scopes.specs.Scopes.{Name, Scope, Scopes, in_scope, innermost, declared}
use Rattle.check_declarators.specs.declared.steps.Role.TheVariants as role
use Rattle.check_declarators.specs.declared.steps.Length.TheVariants as len
use Rattle.check_declarators.specs.declared.steps.Step.{Step}
use Rattle.check_declarators.specs.declared.steps.Step.TheVariants as step
use Rattle.check_declarators.specs.Making.{declared_type}
use Rattle.check_declarators.specs.Steps.{prefixed}
use Rattle.check_declarators.specs.Words as words
use Rattle.tick_tree.specs.Faults.{Checked}
use Rattle.tick_tree.specs.declared.syntax.Core.TheOpen.{Core-F, Suffix-F}
use Rattle.typed_tree.specs.declared.expression.Expr.{Expr, roll-Expr}
use Rattle.typed_tree.specs.declared.expression.Expr.TheOpen.{Expr-F}
use Rattle.typed_tree.specs.declared.expression.Expr.TheFolds.{fold-roll-Expr, ind-Expr, map-Expr}
use Rattle.meaning_operators.specs.Constants.{constant, constant_rule, on_both, on_one}
use Rattle.check_types.specs.Shapes as shapes
use Rattle.check_operands.specs.declared.operand.Operand.{Operand}
use Rattle.check_operands.specs.Operands.{effect}
use Rattle.check_rules.specs.Walks.{Rule, ◌>>=◌, pure, lift}
use Rattle.check_rules.specs.declared.state.Stage.{Stage}
use Rattle.check_rules.specs.declared.state.Stage.TheVariants as stage
use Rattle.check_rules.specs.declared.state.State.{State}
use Rattle.check_rules.specs.Blocks.{enter, leave}
use Rattle.check_rules.specs.Locals.{list_meaning, list_parameter}
use Rattle.check_rules.specs.Names.{declared_by, declare}
use Rattle.check_rules.specs.ExpressionRules.{Node, Shape}
use Rattle.check_rules.specs.Declarations.{length_by, length_of, declare_parameter}
use Rattle.check_rules.specs.StatementRules.{computed_step, each_type, list_step, each_step}
use Rattle.check_rules.specs.Walk.{Core-W, Suffix-W, Declarator-W, Typename-W, Parameter-W, core_rule, suffix_walk}
use Rattle.check_rules.specs.Walk.{SuffixWalk, TypeWalk}
use Rattle.check_rules.specs.Walk.{suffix_walks, declarator_rule, typename_rule, parameter_rule, type_walks}
use Rattle.wellformed.specs.Captured.{Naming, none, named, expr_rule}
use Rattle.wellformed.proofs.Bools.{first_false}
use Rattle.wf_walk.specs.Captured.{IsOfLibrary, HasLibrary, Names, NamesFrom}
use Rattle.wf_walk.specs.Known.{EachEntry, EachScope}
use Rattle.wf_walk.specs.Good.{is_computed, is_computed_step, any_computed}
use Rattle.wf_walk.specs.Parts.{EachPart}
use Rattle.wf_walk.proofs.Lengths.{computed_front, computed_rest, computed_prefixed, type_not_computed}
use Rattle.wf_walk.proofs.Walks.{ran, pure_same, pure_value, lifted, ok_same}
use Rattle.wf_walk.proofs.Blocks.{inside, back}
use Rattle.wf_walk.specs.Asked.{EveryCore, EverySuffix, EveryDeclarator, EveryTypename, EveryParameter}
use Rattle.wf_walk.specs.Named.{operand_named, IsInside, Quiet, nothing, NamesNode, names}
use Rattle.wf_walk.specs.Named.{NamesSuffix, NamesShape, NamesParameter, NamesNamed}
use Rattle.wf_walk.proofs.CapturedRules.{Same, value_names}
use Rattle.wf_walk.proofs.CapturedSteps.{names_more, names_as, quiet_refl, joined, answers}
use Rattle.wf_walk.proofs.CapturedSteps.{staged_none}

-- ---- constants

-- a constant names nothing
abbrev Constant : Expr → Type 0
Constant e = (v : ℕ) → constant e ≡ Some v → Same (named e) none

constant_open : (x : Expr-F Expr) → constant (roll-Expr x) ≡ constant_rule (map-Expr Expr (Option ℕ) constant x)
unfolding constant
constant_open x = fold-roll-Expr (Option ℕ) constant_rule x

named_open : (x : Expr-F Expr) → named (roll-Expr x) ≡ expr_rule (map-Expr Expr Naming named x)
unfolding named
named_open x = fold-roll-Expr Naming expr_rule x

both_there : (k : BinKind) (a b : Option ℕ) (v : ℕ) → on_both k a b ≡ Some v →
    ((x : ℕ) × (a ≡ Some x)) × ((y : ℕ) × (b ≡ Some y))
both_there k (Some a) (Some b) v h = ((a, refl), (b, refl))
both_there k None b v h = absurd (cc)
both_there k (Some a) None v h = absurd (cc)

one_there : (k : UnKind) (a : Option ℕ) (v : ℕ) → on_one k a ≡ Some v → (x : ℕ) × (a ≡ Some x)
one_there k None v h = absurd (cc)
one_there k (Some a) v h = (a, refl)

abbrev Known-F : Type 0
Known-F = Expr-F ((e : Expr) × Constant e)

abbrev first : Known-F → Expr-F Expr
first y = map-Expr ((e : Expr) × Constant e) Expr (λ k. k.0) y

layer : (y : Known-F) (v : ℕ) → constant_rule (map-Expr Expr (Option ℕ) constant (first y)) ≡ Some v →
    Same (expr_rule (map-Expr Expr Naming named (first y))) none
layer (Expr-F.Const w) v h n = refl
layer (Expr-F.Bin k a b) v h n =
    let t = both_there k (constant a.0) (constant b.0) v h in
    ap (named b.0) (a.1 t.0.0 t.0.1 n) ∙ b.1 t.1.0 t.1.1 n
layer (Expr-F.Un k a) v h n = let t = one_there k (constant a.0) v h in a.1 t.0 t.1 n
layer _ v h n = absurd (cc)

pub constants_name_nothing : (e : Expr) → Constant e
constants_name_nothing = ind-Expr Constant (λ x y is v h n.
    let open_ = subst (λ z. constant (roll-Expr z) ≡ Some v) (sym is) h in
    subst (λ z. named (roll-Expr z) n ≡ n) is
    (ap (λ (f : Naming). f n) (named_open (first y)) ∙ layer y v (sym (constant_open (first y)) ∙ open_) n))

-- ---- lengths

-- a length that is no constant is computed
valued : (form : Bool) (o : Operand) → is_computed (length_of form o) ≡ false → (v : ℕ) × (constant (effect o) ≡ Some v)
unfolding length_of
valued true o h = by (constant (effect o)) refl h
  where
    by : (c : Option ℕ) → constant (effect o) ≡ c → is_computed (length_by c) ≡ false →
        (v : ℕ) × (constant (effect o) ≡ Some v)
    by None is k = absurd (cc)
    by (Some v) is k = (v, is)
valued false o h = absurd (uncomputed (shapes.is_void o.ctype) h)
  where
    uncomputed : (void : Bool) → is_computed (if void then len.Void else len.Computed) ≡ false → ⊥
    uncomputed true k = cc
    uncomputed false k = cc

pub operand_quiet : (g : Stage) (o : Operand) (v : ℕ) → constant (effect o) ≡ Some v → Same (operand_named g o) none
operand_quiet g o v h =
    staged_none g _ (λ n. sym (value_names o n) ∙ constants_name_nothing (effect o) v h n)

length_names : (e : Node) → NamesNode e → NamesSuffix (λ g. computed_step e g)
length_names e h g w s new x is c lib =
    let r = ran (e.walk g) (λ o. pure (step.Array (length_of e.written.constant o))) s x new is in
    let v = pure_value (step.Array (length_of e.written.constant r.value)) x r.state new r.next in
    let k = valued e.written.constant r.value (ap is_computed_step v ∙ c) in
    let n = h g w s r.state r.value r.first lib in
    subst (λ z. Quiet s z) (pure_same (step.Array (length_of e.written.constant r.value)) x r.state new r.next)
    (names_as (λ m. refl) (λ m. sym (operand_quiet g r.value k.0 k.1 m)) n)

-- ---- lists of parameters

entry_more : (P : Name → Meaning → Type 0) (es : Scope) (name : Name) (m : Meaning) → EachEntry P es → P name m →
    EachEntry P (es ++ (name, m) ∷ [])
entry_more P [] name m h k = (k, tt)
entry_more P (e ∷ es) name m h k = (h.0, entry_more P es name m h.1 k)

scope_at : (P : Name → Meaning → Type 0) (ss : Scopes) (n : ℕ) → EachScope P ss → EachEntry P (slice_index_or ss n [])
scope_at P [] n h = tt
scope_at P (s ∷ ss) zero h = h.0
scope_at P (s ∷ ss) (suc n) h = scope_at P ss n h.1

scope_set : (P : Name → Meaning → Type 0) (ss : Scopes) (n : ℕ) (s : Scope) → EachScope P ss → EachEntry P s →
    EachScope P (slice_set ss n s)
scope_set P [] n s h k = tt
scope_set P (z ∷ ss) zero s h k = (k, h.1)
scope_set P (z ∷ ss) (suc n) s h k = (h.0, scope_set P ss n s h.1 k)

scopes_take : (P : Name → Meaning → Type 0) (ss : Scopes) (n : ℕ) → EachScope P ss → EachScope P (take n ss)
scopes_take P ss zero h = tt
scopes_take P [] (suc n) h = h
scopes_take P (s ∷ ss) (suc n) h = (h.0, scopes_take P ss n h.1)

scopes_more : (P : Name → Meaning → Type 0) (ss : Scopes) (s : Scope) → EachScope P ss → EachEntry P s →
    EachScope P (ss ++ s ∷ [])
scopes_more P [] s h k = (k, tt)
scopes_more P (z ∷ ss) s h k = (h.0, scopes_more P ss s h.1 k)

-- a name that isn't of the library
pub declared_library : (s : State) (name : Name) (m : Meaning) → IsOfLibrary m m.kind → HasLibrary s →
    EachScope (λ n x. IsOfLibrary x x.kind) (declared s.scopes name m)
declared_library s name m h lib =
    scope_set (λ n x. IsOfLibrary x x.kind) s.scopes (length s.scopes - 1) (innermost s.scopes ++ (name, m) ∷ []) lib
    (entry_more (λ n x. IsOfLibrary x x.kind) (innermost s.scopes) name m
    (scope_at (λ n x. IsOfLibrary x x.kind) s.scopes (length s.scopes - 1) lib) h)

declare_by : (line : ℕ) (name : Name) (m : Meaning) (s new : State) (x : Unit {0}) (o : Option Meaning) →
    IsOfLibrary m m.kind → declared_by line name m s o ≡ Ok (x, new) → HasLibrary s → Quiet s new
declare_by line name m s new x None h e lib =
    subst (λ z. Quiet s z)
    (ap (λ r. r.1) (ok_same (tt, record s { scopes = declared s.scopes name m }) (x, new) e))
    (record { library = declared_library s name m h lib; variables = λ k. k; grows = omega arith; is = λ small n k. k })
declare_by line name m s new x (Some o) h e lib = absurd (cc)

pub declare_names : (line : ℕ) (name : Name) (m : Meaning) → IsOfLibrary m m.kind →
    NamesFrom none nothing (declare line name m)
unfolding declare
declare_names line name m h s new x e lib =
    declare_by line name m s new x (in_scope (innermost s.scopes) name) h e lib

list_kind : (g : Stage) (t : CType) (s : State) → IsOfLibrary (list_meaning g t s.frame) (list_meaning g t s.frame).kind
list_kind stage.Function t s = tt
list_kind stage.Tick t s = tt
list_kind stage.Dollar t s = tt

list_parameter_names : (g : Stage) (line : ℕ) (name : Name) (t : CType) →
    NamesFrom none nothing (list_parameter g line name t)
unfolding list_parameter
list_parameter_names g line name t s new x e lib =
    declare_names line name (list_meaning g t s.frame) (list_kind g t s) s new x e lib

parameter_declared : (g : Stage) (line : ℕ) (name : Option (ℕ × Name)) (t : CType) →
    NamesFrom none nothing (declare_parameter g line name t)
parameter_declared g line None t = answers none nothing tt (λ n. refl)
parameter_declared g line (Some p) t = list_parameter_names g line p.1 t

each_type_names : (ps : List (Stage → Rule State CType)) (g : Stage) → IsInside g → EachPart NamesParameter ps →
    NamesFrom none nothing (each_type ps g)
each_type_names [] g w h = answers none nothing [] (λ n. refl)
each_type_names (p ∷ ps) g w h =
    joined none nothing nothing (p g) (λ t. each_type ps g >>= (λ ts. pure (t ∷ ts))) (h.0 g w)
    (λ t. joined none nothing nothing (each_type ps g) (λ ts. pure (t ∷ ts)) (each_type_names ps g w h.1)
    (λ ts. answers none nothing (t ∷ ts) (λ n. refl)))

-- into a block, and back
pub library_inside : (s : State) → HasLibrary s → HasLibrary (inside s)
library_inside s lib = scopes_more (λ n x. IsOfLibrary x x.kind) s.scopes [] lib tt

pub library_back : (s z : State) → HasLibrary z → HasLibrary (back s z)
library_back s z lib = scopes_take (λ n x. IsOfLibrary x x.kind) z.scopes (length s.scopes) lib

pub names_back : {f g : Naming} {s z : State} → Names f g (inside s) z → Names f g s (back s z)
names_back {s = s} {z} p =
    record { library = library_back s z p.library; variables = λ h. h; grows = p.grows; is = p.is }

list_names : (ps : List (Stage → Rule State CType)) → EachPart NamesParameter ps → (g : Stage) → IsInside g →
    (s new : State) (x : Step) → list_step ps g s ≡ Ok (x, new) → HasLibrary s → Quiet s new
unfolding enter leave
list_names ps h g w s new x is lib =
    let r = ran (each_type ps g) (λ ts. leave (length s.scopes) s.frame.nodes >>= (λ vs. pure (step.Function ts)))
    (inside s) x new is in
    subst (λ z. Quiet s z) (pure_same (step.Function r.value) x (back s r.state) new r.next)
    (names_back (each_type_names ps g w h (inside s) r.state r.value r.first (library_inside s lib)))

-- ---- suffixes

each_parameter : (P : (Stage → Rule State CType) → Type 0) (ps : List TypeWalk) → EachPart (λ w. P w.walk) ps →
    EachPart P (type_walks ps)
each_parameter P [] h = tt
each_parameter P (p ∷ ps) h = (h.0, each_parameter P ps h.1)

pub suffix_names : (x : Suffix-W) → EverySuffix names x → NamesSuffix (suffix_walk x).walk
suffix_names (Suffix-F.Array None) h g w s new x is c lib =
    subst (λ z. Quiet s z) (pure_same (step.Array len.Absent) x s new is) (quiet_refl lib)
suffix_names (Suffix-F.Array (Some e)) h g w s new x is c lib = length_names e h g w s new x is c lib
suffix_names Suffix-F.Unlisted h g w s new x is c lib =
    subst (λ z. Quiet s z) (pure_same step.Unlisted x s new is) (quiet_refl lib)
suffix_names Suffix-F.Nothing h g w s new x is c lib =
    subst (λ z. Quiet s z) (pure_same (step.Function []) x s new is) (quiet_refl lib)
suffix_names (Suffix-F.Listed ps) h g w s new x is c lib =
    list_names (type_walks ps) (each_parameter NamesParameter ps h) g w s new x is lib

-- what stands before isn't computed either
any_front : (rs : List SuffixWalk) (ss : List Step) (g : Stage) (s new : State) (xs : List Step) →
    each_step (suffix_walks rs) ss g s ≡ Ok (xs, new) → any_computed xs ≡ false → any_computed ss ≡ false
any_front [] ss g s new xs is c = ap any_computed (pure_value ss xs s new is) ∙ c
any_front (r ∷ rs) ss g s new xs is c =
    let q = ran (r.walk g) (λ x. each_step (suffix_walks rs) (ss ++ x ∷ []) g) s xs new is in
    computed_front ss (q.value ∷ []) (any_front rs (ss ++ q.value ∷ []) g q.state new xs q.next c)

each_suffix : (rs : List SuffixWalk) → EachPart (λ w. NamesSuffix w.walk) rs → (ss : List Step) (g : Stage) →
    IsInside g → (s new : State) (xs : List Step) → each_step (suffix_walks rs) ss g s ≡ Ok (xs, new) →
    any_computed xs ≡ false → HasLibrary s → Quiet s new
each_suffix [] h ss g w s new xs is c lib =
    subst (λ z. Quiet s z) (pure_same ss xs s new is) (quiet_refl lib)
each_suffix (r ∷ rs) h ss g w s new xs is c lib =
    let q = ran (r.walk g) (λ x. each_step (suffix_walks rs) (ss ++ x ∷ []) g) s xs new is in
    let front = any_front rs (ss ++ q.value ∷ []) g q.state new xs q.next c in
    let here = h.0 g w s q.state q.value q.first
    (first_false (is_computed_step q.value) false (computed_rest ss (q.value ∷ []) front)) lib in
    names_more here (each_suffix rs h.1 (ss ++ q.value ∷ []) g w q.state new xs q.next c here.library)

-- ---- declarators, and the types that they make

pub core_names : (x : Core-W) → EveryCore names x → NamesShape (core_rule x)
core_names Core-F.Core::Absent h g w s new xs is c lib =
    subst (λ z. Quiet s z) (pure_same [] xs s new is) (quiet_refl lib)
core_names (Core-F.Core::Name n text) h g w s new xs is c lib =
    subst (λ z. Quiet s z) (pure_same [] xs s new is) (quiet_refl lib)
core_names (Core-F.Core::Paren d) h g w s new xs is c lib = h g w s new xs is c lib

pub declarator_names : (x : Declarator-W) → EveryDeclarator names x → NamesShape (declarator_rule x)
declarator_names x h g w s new xs is c lib =
    let q = ran (x.core.walk g)
    (λ ss. each_step (suffix_walks x.suffixes) ss g >>= (λ all. pure (prefixed x.prefixes all))) s xs new is in
    let r = ran (each_step (suffix_walks x.suffixes) q.value g) (λ all. pure (prefixed x.prefixes all)) q.state xs new
    q.next in
    let whole = computed_prefixed x.prefixes r.value
    (ap any_computed (pure_value (prefixed x.prefixes r.value) xs r.state new r.next) ∙ c) in
    let front = any_front x.suffixes q.value g q.state r.state r.value r.first whole in
    let one = h.0 g w s q.state q.value q.first front lib in
    subst (λ z. Quiet s z) (pure_same (prefixed x.prefixes r.value) xs r.state new r.next)
    (names_more one (each_suffix x.suffixes h.1 q.value g w q.state r.state r.value r.first whole one.library))

-- a type that no computed length gives
pub typed_names : (d : Shape) (f : List Step → Checked CType) → NamesShape d →
    ((ss : List Step) (t : CType) → f ss ≡ Ok t → any_computed ss ≡ false) → (g : Stage) → IsInside g →
    NamesFrom none nothing (d.walk g >>= (λ ss. lift (f ss)))
typed_names d f h k g w s new x is lib =
    let q = ran (d.walk g) (λ ss. lift (f ss)) s x new is in
    let l = lifted (f q.value) q.state x new q.next in
    subst (λ z. Quiet s z) l.state (h g w s q.state q.value q.first (k q.value x l.value) lib)

pub typename_names : (x : Typename-W) → EveryTypename names x → NamesNamed (typename_rule x)
typename_names x h line g w =
    typed_names x.declarator (declared_type role.Typename line (words.base_of x.base)) h
    (λ ss t e. type_not_computed role.Typename line (words.base_of x.base) ss t e) g w

pub parameter_names : (x : Parameter-W) → EveryParameter names x → NamesParameter (parameter_rule x).walk
parameter_names x h g w s new y is lib =
    let f = declared_type role.Parameter x.line (words.base_of x.base) in
    let name = x.declarator.declared.name in
    let q = ran (x.declarator.walk g)
    (λ ss. lift (f ss) >>= (λ t. declare_parameter g x.line name t >>= (λ u. pure t))) s y new is in
    let r = ran (lift (f q.value)) (λ t. declare_parameter g x.line name t >>= (λ u. pure t)) q.state y new q.next in
    let l = lifted (f q.value) q.state r.value r.state r.first in
    let one = h g w s q.state q.value q.first
    (type_not_computed role.Parameter x.line (words.base_of x.base) q.value r.value l.value) lib in
    let two = subst (λ z. Quiet s z) l.state one in
    names_more two
    (joined none nothing nothing (declare_parameter g x.line name r.value) (λ u. pure r.value)
    (parameter_declared g x.line name r.value) (λ u. answers none nothing r.value (λ n. refl)) r.state new y r.next
    two.library)
