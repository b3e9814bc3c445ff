-- Types name nothing and capture only what stands anywhere, as their arrays' lengths have the form of a constant.
use Rattle.std.proofs.Common.{◌≡◌, ℕ, ◌-◌, false, List, [], ◌∷◌, ◌++◌, length, take, refl, sym, ap, subst, ◌∙◌}
use Rattle.std.proofs.Common.{length-append, arith, Option, Some, None, Ok}
use Rattle.std.proofs.lemmas.List.{length-set, take-set}
use Rattle.std.proofs.Math.Seq.{take-append_seam}
use Rattle.c_types.specs.declared.ctype.Base.{Base}
use Rattle.c_types.specs.declared.ctype.CType.{CType}
use Rattle.check_scopes.specs.declared.names.Meaning.{Meaning}
use Rattle.check_scopes.specs.Scopes.{Name, Scope, Scopes, in_scope, innermost, declared}
use Rattle.check_declarators.specs.declared.steps.Role.TheVariants as role
use Rattle.check_declarators.specs.declared.steps.Length.TheVariants as len
use Rattle.check_declarators.specs.declared.steps.Step.{Step}
use Rattle.check_declarators.specs.declared.steps.Step.TheVariants as step
use Rattle.check_declarators.specs.Making.{declared_type}
use Rattle.check_declarators.specs.Steps.{prefixed}
use Rattle.tick_tree.specs.declared.base.Prefix.{Prefix}
use Rattle.tick_tree.specs.Faults.{Checked}
use Rattle.tick_tree.specs.declared.syntax.Core.TheOpen.{Suffix-F}
use Rattle.check_rules.specs.Walks.{Rule, ◌>>=◌, pure, lift}
use Rattle.check_rules.specs.declared.state.Stage.{Stage}
use Rattle.check_rules.specs.declared.state.Stage.TheVariants as stage
use Rattle.check_rules.specs.declared.state.State.{State}
use Rattle.check_rules.specs.Blocks.{enter, leave}
use Rattle.check_rules.specs.Locals.{list_meaning, list_parameter}
use Rattle.check_rules.specs.Names.{declared_by, declare}
use Rattle.check_rules.specs.ExpressionRules.{Node, Named, Shape, Item}
use Rattle.check_rules.specs.Declarations.{length_of, declare_parameter}
use Rattle.check_rules.specs.StatementRules.{computed_step, length_step, each_type, list_step, suffix_rule, each_step}
use Rattle.wellformed.proofs.Bools.{first_false, both_false}
use Rattle.wf_walk.specs.Kept.{outer}
use Rattle.wf_walk.specs.Good.{PlainStage, Plain, PlainList, is_computed_step, any_computed, is_counted_step}
use Rattle.wf_walk.specs.Good.{any_counted, GoodSuffix, GoodShape, GoodParameter, GoodNode}
use Rattle.wf_walk.specs.Parts.{EachPart, GoodOptional, GoodSuffixParts}
use Rattle.wf_walk.proofs.Fronts.{starts_refl}
use Rattle.wf_walk.proofs.Walks.{ok_same, ran, pure_same, pure_value, lifted}
use Rattle.wf_walk.proofs.Plain.{plain_same, plain_more, plain_stage_refl, plain_list_more, plain_is_list}
use Rattle.wf_walk.proofs.Plainly.{IsPlainList, pure_plain_list, bind_plain_list}
use Rattle.wf_walk.proofs.Lengths.{computed_front, computed_rest, computed_prefixed, type_not_computed, has_form}
use Rattle.wf_walk.proofs.Counted.{counted_append, counted_prefixed, not_counted}
use Rattle.wf_walk.proofs.Blocks.{inside, back}

-- ---- lengths

computed_good : (many : List ℕ) (e : Node) → GoodNode many e → GoodSuffix (λ g. computed_step e g)
computed_good many e h g s new x is c =
    let r = ran (e.walk g) (λ o. pure (step.Array (length_of e.written.constant o))) s x new is in
    let v = pure_value (step.Array (length_of e.written.constant r.value)) x r.state new r.next in
    let f = has_form e.written.constant r.value (ap is_computed_step v ∙ c) in (
      plain_more (h.constant f g s r.state r.value r.first).0
          (plain_same g (pure_same (step.Array (length_of e.written.constant r.value)) x r.state new r.next)),
      ap is_counted_step (sym v) ∙ not_counted e.written.constant r.value,
    )

pub length_good : (many : List ℕ) (e : Option Node) → GoodOptional many e → GoodSuffix (λ g. length_step e g)
length_good many None h g s new x is c = (
  plain_same g (pure_same _ x s new is),
  ap is_counted_step (sym (pure_value (step.Array len.Absent) x s new is)),
)
length_good many (Some e) h g s new x is c = computed_good many e h g s new x is c

-- ---- lists of parameters

-- a name in the innermost scope
pub declared_outer : (ss : Scopes) (name : Name) (what : Meaning) → outer (declared ss name what) ≡ outer ss
declared_outer ss name what =
    ap (λ k. take (k - 1) (declared ss name what)) (length-set ss (length ss - 1) (innermost ss ++ (name, what) ∷ []))
    ∙ take-set ss (length ss - 1) (innermost ss ++ (name, what) ∷ [])

declared_stage : (g : Stage) (name : Name) (what : Meaning) (s : State) →
    PlainStage g s (record s { scopes = declared s.scopes name what })
declared_stage stage.Function name what s = refl
declared_stage stage.Tick name what s = (record { inner = refl; ticks = refl }, (plain_stage_refl stage.Tick s).1)
declared_stage stage.Dollar name what s = (record { inner = refl; ticks = refl }, refl)

declared_list : (g : Stage) (name : Name) (what : Meaning) (s : State) →
    PlainList g s (record s { scopes = declared s.scopes name what })
declared_list g name what s = record {
  tables = record {
    depth = length-set s.scopes (length s.scopes - 1) (innermost s.scopes ++ (name, what) ∷ []);
    scopes = declared_outer s.scopes name what;
    result = refl;
    homes = refl;
    nodes = refl;
    object = refl;
    labels = refl;
    functions = refl;
    image = record { end = refl; globals = refl; at = refl };
  };
  captures = starts_refl s.ticks.captures;
  at = declared_stage g name what s;
}

declare_by_list : (g : Stage) (line : ℕ) (name : Name) (what : Meaning) (s new : State) (x : Unit {0})
    (m : Option Meaning) → declared_by line name what s m ≡ Ok (x, new) → PlainList g s new
declare_by_list g line name what s new x None e =
    subst (λ z. PlainList g s z)
    (ap (λ r. r.1) (ok_same (tt, record s { scopes = declared s.scopes name what }) (x, new) e))
    (declared_list g name what s)
declare_by_list g line name what s new x (Some m) e = cc

declare_list : (g : Stage) (line : ℕ) (name : Name) (what : Meaning) → IsPlainList g (declare line name what)
unfolding declare
declare_list g line name what s new x e =
    declare_by_list g line name what s new x (in_scope (innermost s.scopes) name) e

list_parameter_list : (g : Stage) (line : ℕ) (name : Name) (t : CType) → IsPlainList g (list_parameter g line name t)
unfolding list_parameter
list_parameter_list g line name t s new x e = declare_list g line name (list_meaning g t s.frame) s new x e

pub parameter_declared : (g : Stage) (line : ℕ) (name : Option (ℕ × Name)) (t : CType) →
    IsPlainList g (declare_parameter g line name t)
parameter_declared g line None t = pure_plain_list g tt
parameter_declared g line (Some p) t = list_parameter_list g line p.1 t

each_type_list : (ps : List (Stage → Rule State CType)) (g : Stage) → EachPart GoodParameter ps →
    IsPlainList g (each_type ps g)
each_type_list [] g h = pure_plain_list g []
each_type_list (p ∷ ps) g h =
    bind_plain_list g (p g) (λ t. each_type ps g >>= (λ ts. pure (t ∷ ts))) (h.0 g)
    (λ t. bind_plain_list g (each_type ps g) (λ ts. pure (t ∷ ts)) (each_type_list ps g h.1)
    (λ ts. pure_plain_list g (t ∷ ts)))

-- the scopes that were open
scopes_back : (ss zs : Scopes) (x : Scope) → length zs ≡ length (ss ++ x ∷ []) → outer zs ≡ outer (ss ++ x ∷ []) →
    take (length ss) zs ≡ ss
scopes_back ss zs x d o =
    let e : length (ss ++ x ∷ []) - 1 ≡ length ss = omega (arith, length-append ss (x ∷ [])) in
    let f : length zs - 1 ≡ length ss = ap (λ n. n - 1) d ∙ e in
    ap (λ n. take n zs) (sym f) ∙ o ∙ ap (λ n. take n (ss ++ x ∷ [])) e ∙ take-append_seam ss (x ∷ [])

list_stage : (g : Stage) (s z : State) → PlainStage g (inside s) z → PlainStage g s (back s z)
list_stage stage.Function s z p = p
list_stage stage.Tick s z p = (record { inner = p.0.inner; ticks = p.0.ticks }, p.1)
list_stage stage.Dollar s z p = (record { inner = p.0.inner; ticks = p.0.ticks }, p.1)

-- into the scope of a list and out of it
list_left : (g : Stage) (s z : State) → PlainList g (inside s) z → Plain g s (back s z)
list_left g s z p = record {
  tables = record {
    scopes = scopes_back s.scopes z.scopes [] p.tables.depth p.tables.scopes;
    result = p.tables.result;
    homes = p.tables.homes;
    nodes = refl;
    object = p.tables.object;
    labels = p.tables.labels;
    functions = p.tables.functions;
    image = record { end = p.tables.image.end; globals = p.tables.image.globals; at = p.tables.image.at };
  };
  captures = record { rest = p.captures.rest; is = p.captures.is };
  at = list_stage g s z p.at;
}

list_good : (ps : List (Stage → Rule State CType)) → EachPart GoodParameter ps →
    (g : Stage) (s new : State) (x : Step) → list_step ps g s ≡ Ok (x, new) →
    Plain g s new × (is_counted_step x ≡ false)
unfolding enter leave
list_good ps h g s new x is =
    let r = ran (each_type ps g) (λ ts. leave (length s.scopes) s.frame.nodes >>= (λ vs. pure (step.Function ts)))
    (inside s) x new is in (
      subst (λ z. Plain g s z) (pure_same (step.Function r.value) x (back s r.state) new r.next)
          (list_left g s r.state (each_type_list ps g h (inside s) r.state r.value r.first)),
      ap is_counted_step (sym (pure_value (step.Function r.value) x (back s r.state) new r.next)),
    )

-- ---- suffixes

pub suffix_good : {I D N : Type 0} (many : List ℕ)
    (e : Suffix-F Shape Node I (Option Node) Item (Stage → Rule State Step) D Shape N (Stage → Rule State CType) Named)
    → GoodSuffixParts many e → GoodSuffix (suffix_rule e)
suffix_good many (Suffix-F.Array e) h g s new x is c = length_good many e h g s new x is c
suffix_good many Suffix-F.Unlisted h g s new x is c = (
  plain_same g (pure_same _ x s new is),
  ap is_counted_step (sym (pure_value step.Unlisted x s new is)),
)
suffix_good many Suffix-F.Nothing h g s new x is c = (
  plain_same g (pure_same _ x s new is),
  ap is_counted_step (sym (pure_value (step.Function []) x s new is)),
)
suffix_good many (Suffix-F.Listed ps) h g s new x is c = list_good ps h g s new x is

pub record Taken (g : Stage) (s new : State) (ss xs : List Step) : Type 0 where
  pub plain : Plain g s new
  pub before : any_computed ss ≡ false
  pub counted : any_counted ss ≡ false → any_counted xs ≡ false

-- all of them, behind the steps so far
pub each_good : (rs : List (Stage → Rule State Step)) → EachPart GoodSuffix rs →
    (ss : List Step) (g : Stage) (s new : State) (xs : List Step) → each_step rs ss g s ≡ Ok (xs, new) →
    any_computed xs ≡ false → Taken g s new ss xs
each_good [] h ss g s new xs is c = record {
  plain = plain_same g (pure_same ss xs s new is);
  before = ap any_computed (pure_value ss xs s new is) ∙ c;
  counted = λ k. ap any_counted (sym (pure_value ss xs s new is)) ∙ k;
}
each_good (r ∷ rs) h ss g s new xs is c =
    let q = ran (r g) (λ x. each_step rs (ss ++ x ∷ []) g) s xs new is in
    let t = each_good rs h.1 (ss ++ q.value ∷ []) g q.state new xs q.next c in
    let own = first_false (is_computed_step q.value) false (computed_rest ss (q.value ∷ []) t.before) in
    let good = h.0 g s q.state q.value q.first own in
    record {
      plain = plain_more good.0 t.plain;
      before = computed_front ss (q.value ∷ []) t.before;
      counted = λ k.
          t.counted (counted_append ss (q.value ∷ []) k (both_false (is_counted_step q.value) false good.1 refl));
    }

-- ---- declarators and what they declare

-- a declarator by its parts, as the walk over declarators has it
pub declarator_good : (core : Shape) (suffixes : List (Stage → Rule State Step)) (prefixes : List Prefix) →
    GoodShape core → EachPart GoodSuffix suffixes
    → (g : Stage) (s new : State) (xs : List Step) →
    (core.walk g >>= (λ ss. each_step suffixes ss g >>= (λ all. pure (prefixed prefixes all)))) s ≡ Ok (xs, new) →
    any_computed xs ≡ false → Plain g s new × (any_counted xs ≡ false)
declarator_good core suffixes prefixes h k g s new xs is c =
    let q = ran (core.walk g) (λ ss. each_step suffixes ss g >>= (λ all. pure (prefixed prefixes all))) s xs new is in
    let r = ran (each_step suffixes q.value g) (λ all. pure (prefixed prefixes all)) q.state xs new q.next in
    let v = pure_value (prefixed prefixes r.value) xs r.state new r.next in
    let t = each_good suffixes k q.value g q.state r.state r.value r.first
    (computed_prefixed prefixes r.value (ap any_computed v ∙ c)) in
    let good = h g s q.state q.value q.first t.before in (
      plain_more good.0
          (plain_more t.plain (plain_same g (pure_same (prefixed prefixes r.value) xs r.state new r.next))),
      ap any_counted (sym v) ∙ counted_prefixed prefixes r.value (t.counted good.1),
    )

-- a type that no computed length gives
pub typed_good : (d : Shape) (f : List Step → Checked CType) → GoodShape d →
    ((ss : List Step) (t : CType) → f ss ≡ Ok t → any_computed ss ≡ false)
    → (g : Stage) (s new : State) (x : CType) → (d.walk g >>= (λ ss. lift (f ss))) s ≡ Ok (x, new) → Plain g s new
typed_good d f h k g s new x is =
    let q = ran (d.walk g) (λ ss. lift (f ss)) s x new is in
    let l = lifted (f q.value) q.state x new q.next in
    plain_more (h g s q.state q.value q.first (k q.value x l.value)).0 (plain_same g l.state)

-- a parameter of a list, which gets its name
pub parameter_good : (line : ℕ) (b : Base) (d : Shape) → GoodShape d
    → (g : Stage) → IsPlainList g
    (d.walk g >>= (λ ss. lift (declared_type role.Parameter line b ss) >>=
    (λ t. declare_parameter g line d.declared.name t >>= (λ u. pure t))))
parameter_good line b d h g s new x is =
    let q = ran (d.walk g) (λ ss. lift (declared_type role.Parameter line b ss) >>=
    (λ t. declare_parameter g line d.declared.name t >>= (λ u. pure t))) s x new is in
    let r = ran (lift (declared_type role.Parameter line b q.value))
    (λ t. declare_parameter g line d.declared.name t >>= (λ u. pure t)) q.state x new q.next in
    let l = lifted (declared_type role.Parameter line b q.value) q.state r.value r.state r.first in
    let good = h g s q.state q.value q.first (type_not_computed role.Parameter line b q.value r.value l.value) in
    let p = plain_more good.0 (plain_same g l.state) in
    let n = bind_plain_list g (declare_parameter g line d.declared.name r.value) (λ u. pure r.value)
    (parameter_declared g line d.declared.name r.value) (λ u. pure_plain_list g r.value) r.state new x r.next in
    plain_list_more (plain_is_list p) n
