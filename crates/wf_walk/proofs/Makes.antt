-- What each statement makes, of what its parts make.
use Rattle.std.proofs.Common.{◌≡◌, ℕ, Bool, false, List, [], ◌∷◌, ◌++◌, refl, sym, ap, subst, ◌∙◌, Option, Some, None}
use Rattle.std.proofs.Common.{Ok}
use Rattle.typed_tree.specs.declared.expression.Stmt.{Stmt}
use Rattle.typed_tree.specs.declared.expression.Stmt.TheVariants as st
use Rattle.check_operands.specs.declared.operand.Operand.{Operand}
use Rattle.check_rules.specs.declared.state.Around.{Around as Standing}
use Rattle.check_rules.specs.declared.state.Stage.{Stage}
use Rattle.check_rules.specs.declared.state.State.{State}
use Rattle.check_rules.specs.Walks.{Rule, ◌>>=◌, pure}
use Rattle.check_rules.specs.ExpressionRules.{Node, Item, each}
use Rattle.check_rules.specs.Statements as statements
use Rattle.check_rules.specs.Statements.{with_labels}
use Rattle.wf_walk.specs.Kept.{Keeps}
use Rattle.wf_walk.specs.Good.{GoodNode}
use Rattle.wf_walk.specs.Items.{MayStand, Labelled, GoodStatement, GoodItem}
use Rattle.wf_walk.specs.Parts.{EachPart, GoodOptional}
use Rattle.wf_walk.proofs.Walks.{ran, pure_same, pure_value}
use Rattle.wf_walk.proofs.Keeps.{keeps_same, keeps_more}
use Rattle.wf_walk.proofs.Blocks.{inside}
use Rattle.wf_walk.proofs.Counting.{CountsAs}
use Rattle.wf_walk.proofs.StatementNodes.{Unlabelled, if_counts, while_counts, do_counts, for_counts, if_else_counts}
use Rattle.wf_walk.proofs.StatementNodes.{body_counts, if_unlabelled, if_else_unlabelled, while_unlabelled}
use Rattle.wf_walk.proofs.StatementNodes.{do_unlabelled}
use Rattle.wf_walk.proofs.StatementNodes.{for_unlabelled}
use Rattle.wf_walk.proofs.Making.{Made, made_kept, made_more, made_behind, made_before, made_as, labelled_more}
use Rattle.wf_walk.proofs.Making.{labelled_none, labelled_one}
use Rattle.wf_walk.proofs.StatementBlocks.{made_back}
use Rattle.wf_walk.proofs.Runs.{followed, BodyRan, IfRan, WhileRan, DoRan, ElseRan, OptionalRan, ForRan}
use Rattle.wf_walk.proofs.Blocking.{Enclosed}

-- what a statement makes, and the labels that it is
pub record Makes (g : Stage) (direct : Bool) (s new : State) (xs : List Stmt) : Type 0 where
  pub made : Made g s new xs
  pub labelled : Labelled direct s new xs

pub makes_of : {many : List ℕ} {a : Standing} {step : Rule State (List Stmt)} → GoodStatement many a step →
    (s new : State) (xs : List Stmt) → step s ≡ Ok (xs, new) → Makes a.stage a.is_direct s new xs
makes_of h s new xs e = record {
  made = record { grows = h.grows s new xs e; counts = h.counts s new xs e; declares = h.declares s new xs e };
  labelled = h.labels s new xs e;
}

-- one node that is no label
pub one_node : {g : Stage} {s new : State} {ys : List Stmt} (direct : Bool) (xs : List Stmt) (x : Stmt) → x ∷ [] ≡ xs →
    CountsAs x ys → Unlabelled x → Made g s new ys → new.labels ≡ s.labels → Makes g direct s new xs
one_node {g} {s} {new} direct xs x is c u m l = record {
  made = subst (λ zs. Made g s new zs) is (made_as x c m);
  labelled = subst (λ zs. Labelled direct s new zs) is (labelled_one direct x l u);
}

-- ---- bodies

pub body_made : {many : List ℕ} {i : Item} {a : Standing} {s new : State} {x : Stmt} → GoodItem many i →
    MayStand a.stage → BodyRan i a s x new → Made a.stage s new (x ∷ [])
body_made {a = a} {s = s} {new = new} h may w =
    subst (λ y. Made a.stage s new (y ∷ [])) w.is
    (made_as (statements.body w.value) (body_counts w.value) (makes_of (h.walk a may) s new w.value w.walk).made)

pub body_labels : {many : List ℕ} {i : Item} {a : Standing} {s new : State} {x : Stmt} → GoodItem many i →
    MayStand a.stage → a.is_direct ≡ false → BodyRan i a s x new → new.labels ≡ s.labels
body_labels {a = a} {s = s} {new = new} h may d w = ((h.walk a may).labels s new w.value w.walk).kept d

-- ---- statements with parts

pub if_makes : {many : List ℕ} (line : ℕ) (c : Node) (i : Item) (a : Standing) → MayStand a.stage → GoodNode many c →
    GoodItem many i → (s new : State) (xs : List Stmt) → IfRan line c i a s xs new → Makes a.stage a.is_direct s new xs
if_makes line c i a may hc hi s new xs w =
    let k = hc.keeps a.stage s w.between w.operand w.walk in
    one_node a.is_direct xs (st.If w.test w.node) w.is (if_counts w.test w.node) (if_unlabelled w.test w.node)
    (made_behind k (body_made hi may w.body)) (body_labels hi may refl w.body ∙ k.tables.labels)

pub while_makes : {many : List ℕ} (line : ℕ) (c : Node) (i : Item) (a : Standing) → MayStand a.stage → GoodNode many c →
    GoodItem many i → (s new : State) (xs : List Stmt) → WhileRan line c i a s xs new →
    Makes a.stage a.is_direct s new xs
while_makes line c i a may hc hi s new xs w =
    let k = hc.keeps a.stage s w.between w.operand w.walk in
    one_node a.is_direct xs (st.While w.test w.node) w.is (while_counts w.test w.node) (while_unlabelled w.test w.node)
    (made_behind k (body_made hi may w.body)) (body_labels hi may refl w.body ∙ k.tables.labels)

pub do_makes : {many : List ℕ} (line : ℕ) (i : Item) (c : Node) (a : Standing) → MayStand a.stage → GoodNode many c →
    GoodItem many i → (s new : State) (xs : List Stmt) → DoRan line i c a s xs new → Makes a.stage a.is_direct s new xs
do_makes line i c a may hc hi s new xs w =
    let k = hc.keeps a.stage w.between new w.operand w.walk in
    one_node a.is_direct xs (st.Do w.node w.test) w.is (do_counts w.node w.test) (do_unlabelled w.node w.test)
    (made_before (body_made hi may w.body) k) (k.tables.labels ∙ body_labels hi may refl w.body)

pub else_makes : {many : List ℕ} (line : ℕ) (c : Node) (i j : Item) (a : Standing) → MayStand a.stage →
    GoodNode many c → GoodItem many i → GoodItem many j → (s new : State) (xs : List Stmt) →
    ElseRan line c i j a s xs new → Makes a.stage a.is_direct s new xs
else_makes line c i j a may hc hi hj s new xs w =
    let k = hc.keeps a.stage s w.first w.operand w.walk in
    one_node a.is_direct xs (st.IfElse w.test w.one w.two) w.is (if_else_counts w.test w.one w.two)
    (if_else_unlabelled w.test w.one w.two)
    (made_behind k (made_more (body_made hi may w.body) (body_made hj may w.other)))
    (body_labels hj may refl w.other ∙ body_labels hi may refl w.body ∙ k.tables.labels)

pub optional_keeps : (many : List ℕ) (c : Option Node) (g : Stage) (s new : State) (o : Option Operand) →
    GoodOptional many c → OptionalRan c g s o new → Keeps g s new
optional_keeps many None g s new o h w = keeps_same g w.1
optional_keeps many (Some n) g s new o h w = h.keeps g s new w.value w.walk

-- the rest of a `for`
pub for_labels : {many : List ℕ} (line : ℕ) (c step : Option Node) (i : Item) (a : Standing) → MayStand a.stage →
    GoodOptional many c → GoodOptional many step → GoodItem many i → (s new : State) (x : Stmt) →
    ForRan line c step i a s x new → new.labels ≡ s.labels
for_labels {many} line c step i a may hc hs hi s new x w =
    let k = keeps_more (optional_keeps many c a.stage s w.first w.test hc w.tested)
    (optional_keeps many step a.stage w.first w.between w.next hs w.stepped) in
    body_labels hi may refl w.body ∙ k.tables.labels

pub for_makes : {many : List ℕ} (line : ℕ) (c step : Option Node) (i : Item) (a : Standing) → MayStand a.stage →
    GoodOptional many c → GoodOptional many step → GoodItem many i → (s new : State) (x : Stmt) →
    ForRan line c step i a s x new → Makes a.stage a.is_direct s new (x ∷ [])
for_makes {many} line c step i a may hc hs hi s new x w =
    let k = keeps_more (optional_keeps many c a.stage s w.first w.test hc w.tested)
    (optional_keeps many step a.stage w.first w.between w.next hs w.stepped) in
    one_node a.is_direct (x ∷ []) (statements.for_by w.condition w.next w.node) (ap (λ y. y ∷ []) w.is)
    (for_counts w.condition w.next w.node) (for_unlabelled w.condition w.next w.node)
    (made_behind k (body_made hi may w.body)) (for_labels line c step i a may hc hs hi s new x w)

-- ---- lists and blocks

pub each_makes : (many : List ℕ) (items : List Item) (a : Standing) → MayStand a.stage →
    EachPart (GoodItem many) items → (s new : State) (xs : List Stmt) → each items a s ≡ Ok (xs, new) →
    Makes a.stage a.is_direct s new xs
each_makes many [] a may h s new xs e =
    let same = pure_same [] xs s new e in
    let none = pure_value [] xs s new e in
    record {
      made = subst (λ zs. Made a.stage s new zs) none (made_kept (keeps_same a.stage same));
      labelled = subst (λ zs. Labelled a.is_direct s new zs) none
          (labelled_none a.is_direct (ap (λ z. z.labels) (sym same)));
    }
each_makes many (i ∷ items) a may h s new xs e =
    let r = ran (i.walk a) (λ x. each items a >>= (λ ys. pure (x ++ ys))) s xs new e in
    let f = followed (each items a) (λ ys. r.value ++ ys) r.state xs new r.next in
    let one = makes_of (h.0.walk a may) s r.state r.value r.first in
    let rest = each_makes many items a may h.1 r.state new f.value f.walk in
    record {
      made = subst (λ zs. Made a.stage s new zs) f.is (made_more one.made rest.made);
      labelled = subst (λ zs. Labelled a.is_direct s new zs) f.is (labelled_more one.labelled rest.labelled);
    }

-- a node of what stands in a block of its own
pub enclosed_made : {A B : Type 0} {g : Stage} {p : Rule State A} {f : A → List Stmt → B} {s new : State} {y : B}
    {xs : List Stmt} (x : Stmt) → (w : Enclosed p f s y new) → CountsAs x (w.state.frame.nodes ++ xs) →
    Made g (inside s) w.state xs → Made g s new (x ∷ [])
enclosed_made {g = g} {s = s} {xs = xs} x w c m =
    subst (λ z. Made g s z (x ∷ [])) w.back (made_back g s w.state xs x c m)

pub enclosed_labels : {A B : Type 0} {p : Rule State A} {f : A → List Stmt → B} {s new : State} {y : B} →
    (w : Enclosed p f s y new) → w.state.labels ≡ s.labels → new.labels ≡ s.labels
enclosed_labels w e = ap (λ z. z.labels) (sym w.back) ∙ e
