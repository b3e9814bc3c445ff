-- A declaration in a block whose parts are good is good: its type, its name, and what its variable begins with.
use Rattle.std.proofs.Common.{◌≡◌, ℕ, ◌≤◌, Bool, true, false, List, [], ◌∷◌, ◌++◌, refl, sym, ap, subst, ◌∙◌, Option}
use Rattle.std.proofs.Common.{Ok}
use Rattle.std.specs.Prelude.{not, if◌then◌else◌}
use Rattle.c_types.specs.declared.ctype.CType.{CType}
use Rattle.check_forms.specs.Forms.{Name}
use Rattle.tick_tree.specs.declared.fault.FaultKind.{FaultKind}
use Rattle.tick_tree.specs.Faults.{refuse, ◌>>=◌ as ◌>>>=◌}
use Rattle.typed_tree.specs.declared.expression.Stmt.{Stmt}
use Rattle.typed_tree.specs.declared.expression.Stmt.TheVariants as st
use Rattle.check_operands.specs.declared.operand.Operand.{Operand}
use Rattle.check_operands.specs.Operands.{value_of, effect}
use Rattle.check_operands.specs.Places as places
use Rattle.check_rules.specs.declared.state.Around.{Around as Standing}
use Rattle.check_rules.specs.declared.state.Stage.{Stage}
use Rattle.check_rules.specs.declared.state.State.{State}
use Rattle.check_rules.specs.Locals.{local}
use Rattle.check_rules.specs.Frames.{words}
use Rattle.check_rules.specs.Walks.{Rule, ◌>>=◌, pure, lift}
use Rattle.check_rules.specs.ExpressionRules.{Node}
use Rattle.check_rules.specs.Declarations as declarations
use Rattle.check_rules.specs.Declarations.{declared_in}
use Rattle.check_rules.specs.Initializers as initializers
use Rattle.check_rules.specs.Initializers.{from_value, initialized}
use Rattle.wellformed.specs.Places.{Around}
use Rattle.wf_nodes.specs.Right.{IsRight}
use Rattle.wf_nodes.proofs.PlaceScopes.{places_stand}
use Rattle.wf_nodes.specs.Used.{IsUsed}
use Rattle.wf_nodes.proofs.PlaceValues.{places_use}
use Rattle.wf_nodes.proofs.NodeScopes.{unless_ok}
use Rattle.wf_walk.specs.Steps.{at, Did}
use Rattle.wf_walk.specs.Good.{Good, GoodNode}
use Rattle.wf_walk.specs.Items.{MayStand, Labelled, ItemStands, ItemsStand, GoodStatement}
use Rattle.wf_walk.proofs.Walks.{ran, pure_same, pure_value}
use Rattle.wf_walk.proofs.Keeps.{pure_keeps, lift_keeps, bind_keeps}
use Rattle.wf_walk.proofs.Plain.{plain_keeps, plain_same, plain_did_by}
use Rattle.wf_walk.proofs.NodeRules.{good_value}
use Rattle.wf_walk.specs.StatementLaws.{declares_one}
use Rattle.wf_walk.specs.StatementParts.{TypeGiven, GoodType, may_be, Begun, Nothing, Effect, GoodBegin}
use Rattle.wf_walk.proofs.Growing.{keeps_grows, grows_more}
use Rattle.wf_walk.proofs.StatementNodes.{expr_counts, expr_unlabelled}
use Rattle.wf_walk.proofs.Making.{Made, made_kept, made_behind, made_before, made_more, made_as, labelled_more}
use Rattle.wf_walk.proofs.Making.{labelled_none, labelled_one, each_append}
use Rattle.wf_walk.proofs.Locals.{local_made, local_labels, local_type}
use Rattle.wf_walk.proofs.Runs.{gave, followed, judged}
use Rattle.wf_walk.proofs.Makes.{Makes, makes_of}
use Rattle.wf_walk.proofs.Joining.{did_both, did_so, did_placed}
use Rattle.wf_walk.proofs.Standing.{stood_one, expr_stood}
use Rattle.wf_walk.proofs.Doing.{place_of, node_did, good_effect, unless_used}
use Rattle.wf_walk.proofs.Declaring.{local_did}
use Rattle.wf_walk.proofs.Assembly.{statement_good}

-- ---- what a variable begins with

-- nothing
pub nothing_good : (many : List ℕ) (a : Standing) (p : Operand) → GoodBegin many a true p (pure [])
nothing_good many a p = record {
  may = λ s new xs e. refl;
  keeps = pure_keeps a.stage [];
  begun = λ s new xs e. Nothing (sym (pure_value [] xs s new e));
  does = λ b ks s new xs known e.
      plain_did_by (λ r. Good (place_of a r) p → ItemsStand a (place_of a r) xs)
      (plain_same a.stage (pure_same [] xs s new e)) known
      (λ r ag h. subst (λ ys. ItemsStand a (place_of a r) ys) (pure_value [] xs s new e) tt);
}

-- a value, by assignment
record Assigned (line : ℕ) (p o : Operand) (xs : List Stmt) : Type 0 where
  value : Operand
  scalar : initializers.is_array p.ctype ≡ false
  gives : places.assign line p (value_of o) ≡ Ok value
  is : st.Eval (effect value) ∷ [] ≡ xs

assigned_by : (b : Bool) (k : FaultKind) (line : ℕ) (p o : Operand) (xs : List Stmt) →
    initializers.is_array p.ctype ≡ b →
    (if b then refuse k line else (places.assign line p (value_of o) >>>= (λ r. Ok (st.Eval (effect r) ∷ [])))) ≡ Ok xs
    → Assigned line p o xs
assigned_by true k line p o xs b e = absurd (cc)
assigned_by false k line p o xs b e =
    let g = gave (places.assign line p (value_of o)) (λ r. st.Eval (effect r) ∷ []) xs e in
    record { value = g.value; scalar = b; gives = g.gives; is = g.is }

assigned : (line : ℕ) (p : Operand) (string : Bool) (o : Operand) (xs : List Stmt) →
    from_value line p string o ≡ Ok xs → Assigned line p o xs
unfolding from_value initialized
assigned line p string o xs e =
    assigned_by (initializers.is_array p.ctype) (initializers.array_breaks string (value_of o) p.ctype) line p o xs refl
    e

assigned_good : (r : Around) (line : ℕ) (p o x : Operand) → Good r p → Good r o →
    places.assign line p (value_of o) ≡ Ok x → Good r x
assigned_good r line p o x h k g =
    let v = good_value r o k in (
      unless_ok (IsRight r) (places.assign line p (value_of o)) x g
          (places_stand.assign r line p (value_of o) h.0 v.stands),
      unless_used IsUsed (places.assign line p (value_of o)) x g (places_use.assign line p (value_of o) h.1 v.used),
    )

pub value_good : (many : List ℕ) (a : Standing) (line : ℕ) (p : Operand) (n : Node) (string : Bool) → GoodNode many n →
    GoodBegin many a false p (n.walk a.stage >>= (λ o. lift (from_value line p string o)))
value_good many a line p n string h = record {
  may = λ s new xs e.
      let j = judged (n.walk a.stage) (λ o. from_value line p string o) s xs new e in
      ap not (assigned line p string j.value xs j.gives).scalar;
  keeps = bind_keeps a.stage (n.walk a.stage) (λ o. lift (from_value line p string o)) (h.keeps a.stage)
      (λ o. lift_keeps a.stage (from_value line p string o));
  begun = λ s new xs e.
      let j = judged (n.walk a.stage) (λ o. from_value line p string o) s xs new e in
      let w = assigned line p string j.value xs j.gives in
      Effect (effect w.value) (sym w.is);
  does = λ b ks s new xs known e.
      let j = judged (n.walk a.stage) (λ o. from_value line p string o) s xs new e in
      let w = assigned line p string j.value xs j.gives in
      did_so (λ r. Good (place_of a r) j.value) (λ r. Good (place_of a r) p → ItemsStand a (place_of a r) xs)
      (node_did h a known j.walk)
      (λ ms r ag k q. subst (λ ys. ItemsStand a (place_of a r) ys) w.is
      (stood_one a (place_of a r) (st.Eval (effect w.value))
      (expr_stood (place_of a r) (effect w.value)
      (good_effect (place_of a r) w.value (assigned_good (place_of a r) line p j.value w.value q k w.gives)))));
}

-- a list, which no variable takes
pub list_refused : {A : Type 0} (line : ℕ) (row sized : Bool) (step : Rule State (Option FaultKind)) (s new : State)
    (xs : List Stmt) → (step >>= (λ broken. lift (initializers.from_list line row sized broken))) s ≡ Ok (xs, new) → A
list_refused line row sized step s new xs e =
    let j = judged step (λ broken. initializers.from_list line row sized broken) s xs new e in
    never (initializers.list_breaks row sized j.value) line xs j.gives
  where
    never : {A : Type 0} (k : FaultKind) (line : ℕ) (xs : List Stmt) → refuse k line ≡ Ok xs → A
    never k line xs e = cc

pub list_good : (many : List ℕ) (a : Standing) (line : ℕ) (p : Operand) (row sized : Bool)
    (step : Rule State (Option FaultKind)) →
    GoodBegin many a false p (step >>= (λ broken. lift (initializers.from_list line row sized broken)))
list_good many a line p row sized step = record {
  may = λ s new xs e. list_refused line row sized step s new xs e;
  keeps = λ s new xs e. list_refused line row sized step s new xs e;
  begun = λ s new xs e. list_refused line row sized step s new xs e;
  does = λ b ks s new xs known e. list_refused line row sized step s new xs e;
}

-- ---- a declarator

begun_made : (g : Stage) (direct : Bool) (s new : State) (xs : List Stmt) → Made g s new [] → new.labels ≡ s.labels →
    Begun xs → Makes g direct s new xs
begun_made g direct s new xs m l (Nothing is) = record {
  made = subst (λ ys. Made g s new ys) (sym is) m;
  labelled = subst (λ ys. Labelled direct s new ys) (sym is) (labelled_none direct l);
}
begun_made g direct s new xs m l (Effect e is) = record {
  made = subst (λ ys. Made g s new ys) (sym is) (made_as (st.Eval e) (expr_counts e) m);
  labelled = subst (λ ys. Labelled direct s new ys) (sym is) (labelled_one direct (st.Eval e) l (expr_unlabelled e));
}

-- the words of an object that is declared, where what it begins with is taken
begun_words : {many : List ℕ} (a : Standing) (line : ℕ) (name : Name) (bare : Bool) (t : CType) (s m z new : State)
    (p : Operand) (xs : List Stmt) (step : Rule State (List Stmt)) → MayStand a.stage → TypeGiven a.stage bare s m t
    → local a.stage line name t m ≡ Ok (p, z) → GoodBegin many a bare p step → step z ≡ Ok (xs, new) → 1 ≤ words t
begun_words a line name bare t s m z new p xs step may given e begins k =
    given.words (subst (λ u. may_be bare u ≡ true) (local_type a.stage may line name t m z p e) (begins.may z new xs k))

pub declared_good : (many : List ℕ) (a : Standing) (line : ℕ) (name : Option (ℕ × Name)) (bare : Bool)
    (w : Rule State CType) (begin : Operand → Rule State (List Stmt)) → MayStand a.stage → GoodType a.stage bare w →
    ((p : Operand) → GoodBegin many a bare p (begin p))
    → GoodStatement many a (declares_one a.stage line name w begin)
declared_good many a line name bare w begin may hw hb = statement_good a (declares_one a.stage line name w begin)
    (λ s new xs e.
    let r = ran w (λ t. declarations.declare a.stage line name t >>= (λ p. begin p)) s xs new e in
    let q = ran (declarations.declare a.stage line name r.value) (λ p. begin p) r.state xs new r.next in
    let t = hw s r.state r.value r.first in
    let k = plain_keeps t.plain in
    let l = (hb q.value).keeps q.state new xs q.next in
    let n = begun_words a line (declarations.name_by name) bare r.value s r.state q.state new q.value xs (begin q.value)
    may t q.first (hb q.value) q.next in
    let m = local_made a.stage may line (declarations.name_by name) r.value n r.state q.state q.value q.first in
    begun_made a.stage a.is_direct s new xs (made_behind k (made_before m l))
    (l.tables.labels ∙ local_labels a.stage may line (declarations.name_by name) r.value r.state q.state q.value
    q.first ∙ k.tables.labels)
    ((hb q.value).begun q.state new xs q.next))
    (λ b ks s new xs here known e.
    let r = ran w (λ t. declarations.declare a.stage line name t >>= (λ p. begin p)) s xs new e in
    let q = ran (declarations.declare a.stage line name r.value) (λ p. begin p) r.state xs new r.next in
    let t = hw s r.state r.value r.first in
    let k = keeps_grows (plain_keeps t.plain) in
    let l = keeps_grows ((hb q.value).keeps q.state new xs q.next) in
    let n = begun_words a line (declarations.name_by name) bare r.value s r.state q.state new q.value xs (begin q.value)
    may t q.first (hb q.value) q.next in
    let m = local_made a.stage may line (declarations.name_by name) r.value n r.state q.state q.value q.first in
    let d : Did many a.stage b ks s r.state (λ z. Unit {0}) = plain_did_by (λ z. Unit {0}) t.plain known (λ z ag. tt) in
    let f : Did many a.stage b (ks ++ d.more) r.state q.state (λ z. Good (place_of a z) q.value) =
    did_placed a (λ z. Good (at a.stage z) q.value)
    (local_did a.stage b line (declarations.name_by name) r.value r.state q.state q.value here t.object d.known
    q.first) in
    let two = did_both (λ z. Unit {0}) (λ z. Good (place_of a z) q.value) k m.grows d f in
    let g = (hb q.value).does b (ks ++ two.more) q.state new xs two.known q.next in
    did_so (λ z. (Unit {0} × Good (place_of a z) q.value) ×
    (Good (place_of a z) q.value → ItemsStand a (place_of a z) xs)) (λ z. ItemsStand a (place_of a z) xs)
    (did_both (λ z. Unit {0} × Good (place_of a z) q.value)
    (λ z. Good (place_of a z) q.value → ItemsStand a (place_of a z) xs) (grows_more k m.grows) l two g)
    (λ ms z ag p. p.1 p.0.1))

-- ---- several declarators

pub none_good : (many : List ℕ) (a : Standing) → GoodStatement many a (pure [])
none_good many a = statement_good a (pure [])
    (λ s new xs e.
    let same = pure_same [] xs s new e in
    let none = pure_value [] xs s new e in
    record {
      made = subst (λ zs. Made a.stage s new zs) none (made_kept (plain_keeps (plain_same a.stage same)));
      labelled = subst (λ zs. Labelled a.is_direct s new zs) none
          (labelled_none a.is_direct (ap (λ z. z.labels) (sym same)));
    })
    (λ b ks s new xs here known e.
    plain_did_by (λ r. ItemsStand a (place_of a r) xs) (plain_same a.stage (pure_same [] xs s new e)) known
    (λ r ag. subst (λ ys. ItemsStand a (place_of a r) ys) (pure_value [] xs s new e) tt))

pub more_good : (many : List ℕ) (a : Standing) (p q : Rule State (List Stmt)) → MayStand a.stage →
    GoodStatement many a p → GoodStatement many a q → GoodStatement many a (p >>= (λ xs. q >>= (λ ys. pure (xs ++ ys))))
more_good many a p q may h k = statement_good a (p >>= (λ xs. q >>= (λ ys. pure (xs ++ ys))))
    (λ s new xs e.
    let r = ran p (λ ys. q >>= (λ zs. pure (ys ++ zs))) s xs new e in
    let f = followed q (λ zs. r.value ++ zs) r.state xs new r.next in
    let one = makes_of h s r.state r.value r.first in
    let rest = makes_of k r.state new f.value f.walk in
    record {
      made = subst (λ zs. Made a.stage s new zs) f.is (made_more one.made rest.made);
      labelled = subst (λ zs. Labelled a.is_direct s new zs) f.is (labelled_more one.labelled rest.labelled);
    })
    (λ b ks s new xs here known e.
    let r = ran p (λ ys. q >>= (λ zs. pure (ys ++ zs))) s xs new e in
    let f = followed q (λ zs. r.value ++ zs) r.state xs new r.next in
    let d = h.does b ks s r.state r.value here known r.first in
    let rest = k.does b (ks ++ d.more) r.state new f.value here d.known f.walk in
    did_so (λ z. ItemsStand a (place_of a z) r.value × ItemsStand a (place_of a z) f.value)
    (λ z. ItemsStand a (place_of a z) xs)
    (did_both (λ z. ItemsStand a (place_of a z) r.value) (λ z. ItemsStand a (place_of a z) f.value)
    (h.grows s r.state r.value r.first) (k.grows r.state new f.value f.walk) d rest)
    (λ ms z ag w. subst (λ ys. ItemsStand a (place_of a z) ys) f.is
    (each_append (ItemStands a (place_of a z)) r.value f.value w.0 w.1)))
