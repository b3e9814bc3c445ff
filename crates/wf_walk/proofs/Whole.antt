-- What blocks, switches, labels and the other statements make.
use Rattle.std.proofs.Common.{◌≡◌, ℕ, ◌+◌, ◌≤◌, Bool, true, false, not, ◌||◌, List, [], ◌∷◌, ◌++◌, refl, sym, ap, subst}
use Rattle.std.proofs.Common.{◌∙◌, append-nil, Option, Ok, arith}
use Rattle.std.specs.Prelude.{◌==◌}
use Rattle.std.specs.List.{list_any}
use Rattle.std.proofs.lemmas.Bool.Decides.{nat_tests}
use Rattle.typed_tree.specs.declared.expression.Stmt.{Stmt}
use Rattle.typed_tree.specs.declared.expression.Stmt.TheVariants as st
use Rattle.check_operands.specs.Operands.{effect}
use Rattle.check_rules.specs.declared.labels.Labels.{Labels}
use Rattle.check_rules.specs.Labels as labels
use Rattle.check_rules.specs.Members.{is_member}
use Rattle.check_rules.specs.declared.state.Around.{Around as Standing}
use Rattle.check_rules.specs.declared.state.Stage.{Stage}
use Rattle.check_rules.specs.declared.state.Stage.TheVariants as stage
use Rattle.check_rules.specs.declared.state.State.{State}
use Rattle.check_rules.specs.Walks.{◌>>=◌, pure}
use Rattle.check_rules.specs.ExpressionRules.{Node, Item, each, block}
use Rattle.check_rules.specs.StatementRules as rules
use Rattle.check_rules.specs.Statements as statements
use Rattle.check_rules.specs.Statements.{with_labels}
use Rattle.wellformed.specs.Counts.{one_if}
use Rattle.wellformed.specs.Places.{all_different}
use Rattle.wellformed.proofs.Equations.{act_case, act_default}
use Rattle.wellformed.proofs.Bools.{first_true, second_true, first_false, second_false, and_true}
use Rattle.wf_walk.specs.Kept.{GrowsStage}
use Rattle.wf_walk.specs.Known.{Small, SmallTick}
use Rattle.wf_walk.specs.Counts.{declarations_in, between, variables, Counts}
use Rattle.wf_walk.specs.Good.{GoodNode}
use Rattle.wf_walk.specs.Items.{MayStand, Labelled, GoodItem}
use Rattle.wf_walk.specs.Parts.{EachPart, GoodOptional}
use Rattle.wf_walk.proofs.Walks.{ran}
use Rattle.wf_walk.proofs.Keeps.{keeps_same}
use Rattle.wf_walk.proofs.Blocks.{inside}
use Rattle.wf_walk.proofs.Counting.{CountsAs}
use Rattle.wf_walk.proofs.StatementNodes.{Unlabelled, expr_counts, answer_counts, case_counts, default_counts}
use Rattle.wf_walk.proofs.StatementNodes.{block_counts, switch_counts, expr_unlabelled, block_unlabelled}
use Rattle.wf_walk.proofs.StatementNodes.{switch_unlabelled, answer_unlabelled}
use Rattle.wf_walk.proofs.Making.{Made, made_kept, made_more, made_behind, made_as, labelled_more, labelled_none}
use Rattle.wf_walk.proofs.Making.{labelled_one}
use Rattle.wf_walk.proofs.Runs.{followed, for_ran}
use Rattle.wf_walk.proofs.Blocking.{enclosed, SwitchRan}
use Rattle.wf_walk.proofs.Labelling.{AnswerRan, with_value, with_default, CaseRan, DefaultRan}
use Rattle.wf_walk.proofs.Makes.{Makes, makes_of, one_node, for_makes, for_labels, each_makes, enclosed_made}
use Rattle.wf_walk.proofs.Makes.{enclosed_labels}

-- ---- blocks

abbrev pub blocked : List Stmt → List Stmt → Stmt
blocked xs vs = st.Block vs xs

pub record BlockMakes (g : Stage) (s new : State) (x : Stmt) : Type 0 where
  pub made : Made g s new (x ∷ [])
  pub labels : new.labels ≡ s.labels

pub block_makes : (many : List ℕ) (items : List Item) (a : Standing) → MayStand a.stage → a.is_direct ≡ false →
    EachPart (GoodItem many) items → (s new : State) (x : Stmt) → block items a s ≡ Ok (x, new) →
    BlockMakes a.stage s new x
block_makes many items a may d h s new x e =
    let w = enclosed (each items a) blocked s x new e in
    let m = each_makes many items a may h (inside s) w.state w.value w.walk in
    record {
      made = subst (λ y. Made a.stage s new (y ∷ [])) w.is
          (enclosed_made (st.Block w.state.frame.nodes w.value) w (block_counts w.state.frame.nodes w.value) m.made);
      labels = enclosed_labels w (m.labelled.kept d);
    }

-- ---- switches

-- labels are no part of what is made
stage_relabelled : (g : Stage) (l m : Labels) (s t : State) → GrowsStage g (with_labels l s) t →
    GrowsStage g s (with_labels m t)
stage_relabelled stage.Function l m s t p = record { homes = p.homes; object = p.object; ticks = p.ticks }
stage_relabelled stage.Tick l m s t p =
    record { homes = p.homes; object = p.object; inner = p.inner; ticks = p.ticks; captures = p.captures }
stage_relabelled stage.Dollar l m s t p =
    record { homes = p.homes; object = p.object; inner = p.inner; ticks = p.ticks; captures = p.captures }

small_relabelled : (g : Stage) (m : Labels) (t : State) → SmallTick g (with_labels m t) → SmallTick g t
small_relabelled stage.Function m t x = tt
small_relabelled stage.Tick m t x = record { inner = x.inner; captures = x.captures }
small_relabelled stage.Dollar m t x = record { inner = x.inner; captures = x.captures }

variables_relabelled : (g : Stage) (m : Labels) (t : State) → variables g (with_labels m t) ≡ variables g t
variables_relabelled stage.Function m t = refl
variables_relabelled stage.Tick m t = refl
variables_relabelled stage.Dollar m t = refl

counts_relabelled : (g : Stage) (l m : Labels) (s t : State) (xs : List Stmt) → Counts g (with_labels l s) t xs →
    Counts g s (with_labels m t) xs
counts_relabelled g l m s t xs c = record {
  objects = c.objects;
  declarations = λ i.
      subst (λ n. declarations_in i t.frame.nodes + declarations_in i xs ≤ declarations_in i s.frame.nodes + between n
      (variables g (with_labels m t)) i) (variables_relabelled g l s)
      (subst (λ n. declarations_in i t.frame.nodes + declarations_in i xs ≤ declarations_in i s.frame.nodes + between
      (variables g (with_labels l s)) n i) (sym (variables_relabelled g m t)) (c.declarations i));
  sizes = omega (arith, c.sizes, variables_relabelled g l s, variables_relabelled g m t);
}

pub small_without : (g : Stage) (m : Labels) (t : State) → Small g (with_labels m t) → Small g t
small_without g m t x = record
    { homes = x.homes; object = x.object; ticks = x.ticks; tick = small_relabelled g m t x.tick }

relabelled : (g : Stage) (l m : Labels) (s t : State) (xs : List Stmt) → Made g (with_labels l s) t xs →
    Made g s (with_labels m t) xs
relabelled g l m s t xs p = record {
  grows = record {
    tables = record {
      depth = p.grows.tables.depth;
      scopes = p.grows.tables.scopes;
      result = p.grows.tables.result;
      nodes = p.grows.tables.nodes;
      functions = p.grows.tables.functions;
      image = record {
        end = p.grows.tables.image.end;
        globals = p.grows.tables.image.globals;
        at =
            p.grows.tables.image.at;
      };
    };
    at = stage_relabelled g l m s t p.grows.at;
  };
  counts = λ small. counts_relabelled g l m s t xs (p.counts (small_without g m t small));
  declares = λ small h. let d = p.declares (small_without g m t small) h in
      record { aligned = d.aligned; nodes = d.nodes };
}

-- behind the value of the switch
pub switch_made : (many : List ℕ) (line : ℕ) (c : Node) (items : List Item) (a : Standing) → MayStand a.stage →
    EachPart (GoodItem many) items → (s new : State) (xs : List Stmt) → (w : SwitchRan line c items a s xs new) →
    Made a.stage w.first new (st.Switch w.test w.body.state.frame.nodes w.body.value ∷ [])
switch_made many line c items a may h s new xs w =
    let m = each_makes many items (statements.switched a) may h (inside (with_labels labels.new w.first)) w.body.state
    w.body.value w.body.walk in
    let x : Stmt = st.Switch w.test w.body.state.frame.nodes w.body.value in
    let in_switch : Made a.stage (with_labels labels.new w.first) w.last (x ∷ []) =
    enclosed_made x w.body (switch_counts w.test w.body.state.frame.nodes w.body.value) m.made in
    subst (λ z. Made a.stage w.first z (x ∷ [])) w.state
    (relabelled a.stage labels.new w.first.labels w.first w.last (x ∷ []) in_switch)

pub switch_makes : {many : List ℕ} (line : ℕ) (c : Node) (items : List Item) (a : Standing) → MayStand a.stage →
    GoodNode many c → EachPart (GoodItem many) items → (s new : State) (xs : List Stmt) →
    SwitchRan line c items a s xs new → Makes a.stage a.is_direct s new xs
switch_makes {many} line c items a may hc h s new xs w =
    let k = hc.keeps a.stage s w.first w.operand w.walk in
    let x : Stmt = st.Switch w.test w.body.state.frame.nodes w.body.value in
    let is : x ∷ [] ≡ xs = ap (λ p. st.Switch w.test p.0 p.1 ∷ []) w.body.is ∙ w.is in
    let same : new.labels ≡ s.labels = ap (λ z. z.labels) (sym w.state) ∙ k.tables.labels in
    record {
      made = subst (λ zs. Made a.stage s new zs) is (made_behind k (switch_made many line c items a may h s new xs w));
      labelled = subst (λ zs. Labelled a.is_direct s new zs) is
          (labelled_one a.is_direct x same (switch_unlabelled w.test w.body.state.frame.nodes w.body.value));
    }

-- ---- statements without bodies

pub expr_makes : {many : List ℕ} (n : Node) (a : Standing) → GoodNode many n → (s new : State) (xs : List Stmt) →
    rules.alone n a s ≡ Ok (xs, new) → Makes a.stage a.is_direct s new xs
expr_makes n a h s new xs e =
    let w = followed (n.walk a.stage) statements.alone s xs new e in
    let k = h.keeps a.stage s new w.value w.walk in
    one_node a.is_direct xs (st.Eval (effect w.value)) w.is (expr_counts (effect w.value))
    (expr_unlabelled (effect w.value)) (made_kept k) k.tables.labels

pub answer_makes : {many : List ℕ} (line : ℕ) (n : Node) (a : Standing) → GoodNode many n →
    (s new : State) (xs : List Stmt) → AnswerRan line n a s xs new → Makes a.stage a.is_direct s new xs
answer_makes line n a h s new xs w =
    let k = h.keeps a.stage s new w.operand w.walk in
    one_node a.is_direct xs (st.ReturnValue w.code) w.is (answer_counts w.code) (answer_unlabelled w.code) (made_kept k)
    k.tables.labels

-- where nothing else changes
pub same_makes : (g : Stage) (direct : Bool) (s new : State) (xs : List Stmt) (x : Stmt) → s ≡ new → x ∷ [] ≡ xs →
    CountsAs x [] → Unlabelled x → Makes g direct s new xs
same_makes g direct s new xs x e is c u =
    one_node direct xs x is c u (made_kept (keeps_same g e)) (ap (λ z. z.labels) (sym e))

-- ---- labels

differ : (n : ℕ) (xs : List ℕ) (m : ℕ) → (n == m) ≡ false →
    list_any (λ x. n == x) (xs ++ m ∷ []) ≡ list_any (λ x. n == x) xs
differ n [] m k = ap (λ b. b || false) k
differ n (x ∷ xs) m k = ap (λ b. (n == x) || b) (differ n xs m k)

other_way : (m n : ℕ) → (m == n) ≡ false → (n == m) ≡ false
other_way m n h = grind (arith, nat_tests)

pub one_more : (xs : List ℕ) (n : ℕ) → is_member n xs ≡ false → all_different xs ≡ true →
    all_different (xs ++ n ∷ []) ≡ true
one_more [] n h d = refl
one_more (x ∷ xs) n h d =
    and_true (not (list_any (λ y. x == y) (xs ++ n ∷ []))) (all_different (xs ++ n ∷ []))
    (ap not (differ x xs n (other_way n x (first_false (n == x) (is_member n xs) h))) ∙
    first_true (not (list_any (λ y. x == y) xs)) (all_different xs) d)
    (one_more xs n (second_false (n == x) (is_member n xs) h)
    (second_true (not (list_any (λ y. x == y) xs)) (all_different xs) d))

-- labels are no part of what is made
relabelled_same : (g : Stage) (l : Labels) (s t : State) (xs : List Stmt) → Made g s t xs →
    Made g s (with_labels l t) xs
relabelled_same g l s t xs m = relabelled g s.labels l s t xs (record {
  grows = record {
    tables = record {
      depth = m.grows.tables.depth;
      scopes = m.grows.tables.scopes;
      result = m.grows.tables.result;
      nodes = m.grows.tables.nodes;
      functions = m.grows.tables.functions;
      image = record {
        end = m.grows.tables.image.end;
        globals = m.grows.tables.image.globals;
        at =
            m.grows.tables.image.at;
      };
    };
    at = m.grows.at;
  };
  counts = m.counts;
  declares = m.declares;
})

value_labels : (s : State) (n : ℕ) → is_member n s.labels.values ≡ false →
    Labelled true s (with_value n s) (st.Case n ∷ [])
value_labels s n h = record {
  values = ap (λ a. s.labels.values ++ (a.values ++ [])) (sym (act_case n));
  defaults = omega (arith, ap (λ a. a.defaults) (act_case n));
  different = λ d. one_more s.labels.values n h d;
  kept = λ d. cc;
}

default_labels : (s : State) → s.labels.has_default ≡ false → Labelled true s (with_default s) (st.Default ∷ [])
default_labels s h = record {
  values = sym (append-nil s.labels.values) ∙ ap (λ a. s.labels.values ++ (a.values ++ [])) (sym act_default);
  defaults = omega (arith, ap one_if h, ap (λ a. a.defaults) act_default);
  different = λ d. d;
  kept = λ d. cc;
}

pub case_makes : {many : List ℕ} (n : Node) (a : Standing) → GoodNode many n → (s new : State) (xs : List Stmt) →
    CaseRan n a s xs new → Makes a.stage a.is_direct s new xs
case_makes n a h s new xs w =
    let k = h.keeps a.stage s w.between w.operand w.walk in
    let l = w.label in
    let x : Stmt = st.Case l.value in
    let m : Made a.stage s w.between (x ∷ []) = made_as x (case_counts l.value) (made_kept k) in
    let labelled : Labelled true s new (x ∷ []) =
    labelled_more (labelled_none true k.tables.labels)
    (subst (λ z. Labelled true w.between z (x ∷ [])) l.state (value_labels w.between l.value l.fresh)) in
    record {
      made = subst (λ zs. Made a.stage s new zs) l.is
          (subst (λ z. Made a.stage s z (x ∷ [])) l.state
          (relabelled_same a.stage (with_value l.value w.between).labels s w.between (x ∷ []) m));
      labelled = subst (λ zs. Labelled a.is_direct s new zs) l.is
          (subst (λ d. Labelled d s new (x ∷ [])) (sym w.direct) labelled);
    }

pub default_makes : (a : Standing) (s new : State) (xs : List Stmt) → DefaultRan a s xs new →
    Makes a.stage a.is_direct s new xs
default_makes a s new xs w =
    let m : Made a.stage s s (st.Default ∷ []) =
    made_as st.Default default_counts (made_kept (keeps_same a.stage refl)) in
    record {
      made = subst (λ zs. Made a.stage s new zs) w.is
          (subst (λ z. Made a.stage s z (st.Default ∷ [])) w.state
          (relabelled_same a.stage (with_default s).labels s s (st.Default ∷ []) m));
      labelled = subst (λ zs. Labelled a.is_direct s new zs) w.is
          (subst (λ d. Labelled d s new (st.Default ∷ [])) (sym w.direct)
          (subst (λ z. Labelled true s z (st.Default ∷ [])) w.state (default_labels s w.fresh)));
    }

-- ---- a `for` with a first part

pub for_block_makes : (many : List ℕ) (line : ℕ) (first : Item) (c step : Option Node) (i : Item) (a : Standing) →
    MayStand a.stage → GoodItem many first → GoodOptional many c → GoodOptional many step → GoodItem many i
    → (s new : State) (xs : List Stmt) → rules.for_block line first c step i a s ≡ Ok (xs, new) →
    Makes a.stage a.is_direct s new xs
for_block_makes many line first c step i a may hf hc hs hi s new xs e =
    let w = enclosed (rules.for_items line first c step i a) (λ ys vs. statements.one (st.Block vs ys)) s xs new e in
    let r = ran (first.walk (statements.inside a)) (λ ys. rules.for_rest line c step i a >>= (λ x. pure (ys ++ x ∷ [])))
    (inside s) w.value w.state w.walk in
    let f = followed (rules.for_rest line c step i a) (λ x. r.value ++ x ∷ []) r.state w.value w.state r.next in
    let one = makes_of (hf.walk (statements.inside a) may) (inside s) r.state r.value r.first in
    let rest = for_makes line c step i a may hc hs hi r.state w.state f.value
    (for_ran line c step i a r.state f.value w.state f.walk) in
    let m : Made a.stage (inside s) w.state w.value =
    subst (λ zs. Made a.stage (inside s) w.state zs) f.is (made_more one.made rest.made) in
    let x : Stmt = st.Block w.state.frame.nodes w.value in
    let same : new.labels ≡ s.labels =
    enclosed_labels w (for_labels line c step i a may hc hs hi r.state w.state f.value
    (for_ran line c step i a r.state f.value w.state f.walk) ∙ one.labelled.kept refl) in
    record {
      made = subst (λ zs. Made a.stage s new zs) w.is (enclosed_made x w (block_counts w.state.frame.nodes w.value) m);
      labelled = subst (λ zs. Labelled a.is_direct s new zs) w.is
          (labelled_one a.is_direct x same (block_unlabelled w.state.frame.nodes w.value));
    }
