-- What the walk over a statement, and over the suffixes of a declarator, makes grow, by its parts.
use Rattle.std.proofs.Common.{◌≡◌, ℕ, Bool, true, false, if◌then◌else◌, List, [], ◌∷◌, ◌++◌, refl, Option, Some, None}
use Rattle.std.proofs.Common.{Ok, Err}
use Rattle.c_types.specs.declared.ctype.CType.{CType}
use Rattle.check_declarators.specs.declared.steps.Step.{Step}
use Rattle.check_declarators.specs.declared.steps.Step.TheVariants as step
use Rattle.check_operands.specs.declared.operand.Operand.{Operand}
use Rattle.check_operands.specs.Operands.{effect}
use Rattle.meaning_operators.specs.Constants.{constant}
use Rattle.tick_tree.specs.Faults.{Checked}
use Rattle.typed_tree.specs.declared.expression.Stmt.{Stmt}
use Rattle.typed_tree.specs.declared.expression.Stmt.TheVariants as st
use Rattle.check_rules.specs.declared.labels.Labels.{Labels}
use Rattle.check_rules.specs.Labels as labels
use Rattle.check_rules.specs.declared.state.Around.{Around}
use Rattle.check_rules.specs.declared.state.Stage.{Stage}
use Rattle.check_rules.specs.declared.state.Stage.TheVariants as stage
use Rattle.check_rules.specs.declared.state.State.{State}
use Rattle.check_rules.specs.Walks.{Rule, lift}
use Rattle.check_rules.specs.ExpressionRules.{Node, Item}
use Rattle.check_rules.specs.StatementRules as rules
use Rattle.check_rules.specs.Statements as statements
use Rattle.walk_again.proofs.Expressions.{each_again, block_again, scope_again}
use Rattle.wf_walk.specs.Parts.{EachPart}
use Rattle.walk_again.specs.Again.{Found, Again, AgainNode, AgainItem, AgainSuffix}
use Rattle.walk_again.specs.Again.{AgainType, AgainOptional}
use Rattle.walk_again.specs.Again.{After, told}
use Rattle.walk_again.proofs.Steps.{by_after, pure_again, lift_again, read_again, bind_again}
use Rattle.walk_again.proofs.Steps.{same_kept}

-- ---- labels

labelled_again : (k : Found) (node : Stmt) (s : State) (r : Checked (Unit {0} × Labels)) →
    After k s (statements.labelled node s r) (statements.labelled node (told k s) r)
labelled_again k node s (Ok r) = (same_kept s _ refl refl refl, λ z. refl)
labelled_again k node s (Err f) = tt

case_by_again : (k : Found) (line : ℕ) (n : Option ℕ) (s : State) →
    After k s (statements.case_by line n s) (statements.case_by line n (told k s))
case_by_again k line None s = tt
case_by_again k line (Some n) s = labelled_again k (st.Case n) s (labels.case line n s.labels)

case_node_again : {k : Found} (line : ℕ) (o : Operand) → Again k (statements.case_node line o)
unfolding statements.case_node
case_node_again {k = k} line o = by_after (λ s e. case_by_again k line (constant (effect o)) s)

refused_by : {A : Type 0} (k : Found) (b : Bool) (s : State) (r q x y : Checked (A × State)) → After k s r x →
    After k s q y → After k s (if b then r else q) (if b then x else y)
refused_by k true s r q x y h i = h
refused_by k false s r q x y h i = i

pub default_again : {k : Found} (line : ℕ) (a : Around) → Again k (statements.default_node line a)
unfolding statements.default_node
default_again {k = k} line a = by_after
    (λ s e. refused_by k a.is_direct s _ _ _ _ (labelled_again k st.Default s (labels.default line s.labels)) tt)

switch_entered_again : {k : Found} → Again k statements.switch_entered
unfolding statements.switch_entered
switch_entered_again = by_after (λ s e. (same_kept s _ refl refl refl, λ z. refl))

-- ---- parts

body_again : {k : Found} (i : Item) (a : Around) → AgainItem k i → Again k (rules.body i a)
body_again i a h = bind_again (h.at a) (λ xs. pure_again _)

bodies_again : {k : Found} (i j : Item) (a : Around) → AgainItem k i → AgainItem k j →
    Again k (rules.bodies i j a)
bodies_again i j a h k = bind_again (body_again i a h) (λ x. bind_again (body_again j a k) (λ y. pure_again (x, y)))

optional_again : {k : Found} (e : Option Node) (g : Stage) → AgainOptional k e → Again k (rules.optional e g)
optional_again None g u = pure_again None
optional_again (Some n) g h = bind_again (h.at g) (λ o. pure_again (Some o))

test_and_step_again : {k : Found} (c s : Option Node) (a : Around) → AgainOptional k c → AgainOptional k s →
    Again k (rules.test_and_step c s a)
test_and_step_again c s a h k =
    bind_again (optional_again c a.stage h)
    (λ o. bind_again (optional_again s a.stage k) (λ p. pure_again (o, p)))

-- ---- statements

pub alone_again : {k : Found} (e : Node) (a : Around) → AgainNode k e → Again k (rules.alone e a)
alone_again e a h = bind_again (h.at a.stage) (λ o. pure_again (statements.alone o))

pub block_alone_again : {k : Found} (items : List Item) (a : Around) → EachPart (AgainItem k) items →
    Again k (rules.block_alone items a)
block_alone_again items a h =
    bind_again (block_again items (statements.inside a) h) (λ x. pure_again (statements.one x))

pub if_then_again : {k : Found} (line : ℕ) (c : Node) (i : Item) (a : Around) → AgainNode k c → AgainItem k i →
    Again k (rules.if_then line c i a)
if_then_again line c i a h k =
    bind_again (h.at a.stage) (λ o. bind_again (body_again i (statements.inside a) k) (λ x. lift_again _))

pub if_else_again : {k : Found} (line : ℕ) (c : Node) (i j : Item) (a : Around) → AgainNode k c → AgainItem k i →
    AgainItem k j → Again k (rules.if_else line c i j a)
if_else_again line c i j a h k l =
    bind_again (h.at a.stage) (λ o. bind_again (bodies_again i j (statements.inside a) k l) (λ p. lift_again _))

pub while_again : {k : Found} (line : ℕ) (c : Node) (i : Item) (a : Around) → AgainNode k c → AgainItem k i →
    Again k (rules.while_loop line c i a)
while_again line c i a h k =
    bind_again (h.at a.stage) (λ o. bind_again (body_again i (statements.looped a) k) (λ x. lift_again _))

pub do_again : {k : Found} (line : ℕ) (i : Item) (c : Node) (a : Around) → AgainItem k i → AgainNode k c →
    Again k (rules.do_loop line i c a)
do_again line i c a k h =
    bind_again (body_again i (statements.looped a) k) (λ x. bind_again (h.at a.stage) (λ o. lift_again _))

for_rest_again : {k : Found} (line : ℕ) (c s : Option Node) (i : Item) (a : Around) → AgainOptional k c →
    AgainOptional k s → AgainItem k i → Again k (rules.for_rest line c s i a)
for_rest_again line c s i a h k l =
    bind_again (test_and_step_again c s a h k)
    (λ p. bind_again (body_again i (statements.looped a) l) (λ x. lift_again _))

for_items_again : {k : Found} (line : ℕ) (first : Item) (c s : Option Node) (i : Item) (a : Around) →
    AgainItem k first → AgainOptional k c → AgainOptional k s → AgainItem k i →
    Again k (rules.for_items line first c s i a)
for_items_again line first c s i a f h k l =
    bind_again (f.at (statements.inside a))
    (λ xs. bind_again (for_rest_again line c s i a h k l) (λ x. pure_again (xs ++ x ∷ [])))

for_by : {k : Found} {A : Type 0} (b : Bool) (r q : Around → Rule State A) (a : Around) → Again k (r a) →
    Again k (q a) → Again k (if b then r a else q a)
for_by true r q a h k = h
for_by false r q a h k = k

pub for_again : {k : Found} (line : ℕ) (first : Item) (c s : Option Node) (i : Item) (a : Around) →
    AgainItem k first → AgainOptional k c → AgainOptional k s → AgainItem k i →
    Again k (rules.for_loop line first c s i a)
for_again line first c s i a f h k l =
    for_by first.is_empty (rules.for_alone line c s i) (rules.for_block line first c s i) a
    (bind_again (for_rest_again line c s i a h k l) (λ x. pure_again (statements.one x)))
    (scope_again (λ xs vs. statements.one (st.Block vs xs)) (for_items_again line first c s i a f h k l))

switch_block_again : {k : Found} (items : List Item) (a : Around) → EachPart (AgainItem k) items →
    Again k (rules.switch_block items a)
switch_block_again items a h = scope_again (λ xs vs. (vs, xs)) (each_again items (statements.switched a) h)

labels_back_again : {A : Type 0} {k : Found} (x : A) (l : Labels) →
    Again {A = A} k (λ s. Ok (x, statements.with_labels l s))
labels_back_again x l = by_after (λ s e. (same_kept s _ refl refl refl, λ z. refl))

labelled_block_again : {k : Found} (items : List Item) (a : Around) → EachPart (AgainItem k) items →
    Again k (rules.labelled_block items a)
labelled_block_again items a h =
    bind_again switch_entered_again
    (λ outer. bind_again (switch_block_again items a h) (λ p. labels_back_again p outer))

pub switch_again : {k : Found} (line : ℕ) (e : Node) (items : List Item) (a : Around) → AgainNode k e →
    EachPart (AgainItem k) items → Again k (rules.switch line e items a)
switch_again line e items a h k =
    bind_again (h.at a.stage) (λ o. bind_again (labelled_block_again items a k) (λ p. lift_again _))

pub case_again : {k : Found} (line : ℕ) (e : Node) (a : Around) → AgainNode k e → Again k (rules.case line e a)
case_again line e a h = bind_again (lift_again _) (λ u. bind_again (h.at a.stage) (λ o. case_node_again line o))

return_same : (k : Found) (line : ℕ) (g : Stage) (o : Operand) (s : State) →
    statements.return_node line g o (told k s) ≡ statements.return_node line g o s
unfolding statements.return_node
return_same k line stage.Function o s = refl
return_same k line stage.Tick o s = refl
return_same k line stage.Dollar o s = refl

return_again : {k : Found} (line : ℕ) (g : Stage) (o : Operand) →
    Again k (λ s. lift {S = State} (statements.return_node line g o s) s)
return_again {k = k} line g o = read_again (λ s. statements.return_node line g o s) (return_same k line g o)

pub returning_again : {k : Found} (line : ℕ) (e : Option Node) (a : Around) → AgainOptional k e →
    Again k (rules.returning line e a)
returning_again line None a u = pure_again (statements.one st.Return)
returning_again line (Some e) a h =
    bind_again (h.at a.stage) (λ o. return_again line a.stage o)

-- ---- the suffixes of a declarator

pub length_again : {k : Found} (e : Option Node) (g : Stage) → AgainOptional k e → Again k (rules.length_step e g)
length_again None g u = pure_again _
length_again (Some e) g h = bind_again (h.at g) (λ o. pure_again _)

each_type_again : {k : Found} (ps : List (Stage → Rule State CType)) (g : Stage) → EachPart (AgainType k) ps →
    Again k (rules.each_type ps g)
each_type_again [] g u = pure_again []
each_type_again (p ∷ ps) g h =
    bind_again (h.0.at g) (λ t. bind_again (each_type_again ps g h.1) (λ ts. pure_again _))

pub list_again : {k : Found} (ps : List (Stage → Rule State CType)) (g : Stage) → EachPart (AgainType k) ps →
    Again k (rules.list_step ps g)
list_again ps g h = scope_again (λ ts vs. step.Function ts) (each_type_again ps g h)

pub each_step_again : {k : Found} (rs : List (Stage → Rule State Step)) (ss : List Step) (g : Stage) →
    EachPart (AgainSuffix k) rs → Again k (rules.each_step rs ss g)
each_step_again [] ss g u = pure_again ss
each_step_again (r ∷ rs) ss g h = bind_again (h.0.at g) (λ s. each_step_again rs (ss ++ s ∷ []) g h.1)
