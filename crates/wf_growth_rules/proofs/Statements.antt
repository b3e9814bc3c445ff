-- What the walk over a statement, and over the suffixes of a declarator, makes grow, by its parts.
use Rattle.std.proofs.Common.{ℕ, ◌+◌, Bool, true, false, if◌then◌else◌, List, [], ◌∷◌, ◌++◌, refl, Option, Some, None}
use Rattle.std.proofs.Common.{Ok, Err, arith}
use Rattle.c_types.specs.declared.ctype.CType.{CType}
use Rattle.check_declarators.specs.declared.steps.Step.{Step}
use Rattle.check_declarators.specs.declared.steps.Step.TheVariants as step
use Rattle.check_operands.specs.declared.operand.Operand.{Operand}
use Rattle.check_operands.specs.Operands.{effect}
use Rattle.meaning_operators.specs.Constants.{constant}
use Rattle.tick_tree.specs.Faults.{Checked}
use Rattle.typed_tree.specs.declared.expression.Stmt.{Stmt}
use Rattle.typed_tree.specs.declared.expression.Stmt.TheVariants as st
use Rattle.check_rules.specs.declared.labels.Labels.{Labels}
use Rattle.check_rules.specs.Labels as labels
use Rattle.check_rules.specs.declared.state.Around.{Around}
use Rattle.check_rules.specs.declared.state.Stage.{Stage}
use Rattle.check_rules.specs.declared.state.State.{State}
use Rattle.check_rules.specs.Walks.{Rule}
use Rattle.check_rules.specs.ExpressionRules.{Node, Item}
use Rattle.check_rules.specs.StatementRules as rules
use Rattle.check_rules.specs.Statements as statements
use Rattle.wf_growth_rules.specs.Light.{Light, After, Bounded, LightNode, LightItem, LightOptional, LightSuffix}
use Rattle.wf_growth_rules.specs.Light.{LightType, Each, none, more, absent, present}
use Rattle.wf_growth_rules.proofs.Walks.{weak, by_after, pure_light, lift_light, read_light, bind_light}
use Rattle.wf_growth_rules.proofs.States.{same_light}
use Rattle.wf_growth_rules.proofs.Expressions.{each_light, block_light, scope_light}

-- ---- labels

with_labels_light : (l : Labels) (s : State) → Light 0 s (statements.with_labels l s)
with_labels_light l s = same_light 0 s _ refl refl refl refl

labelled_light : (node : Stmt) (s : State) (r : Checked (Unit {0} × Labels)) → After 0 s (statements.labelled node s r)
labelled_light node s (Ok r) = with_labels_light r.1 s
labelled_light node s (Err f) = tt

case_by_light : (line : ℕ) (n : Option ℕ) (s : State) → After 0 s (statements.case_by line n s)
case_by_light line None s = tt
case_by_light line (Some n) s = labelled_light (st.Case n) s (labels.case line n s.labels)

case_node_light : (line : ℕ) (o : Operand) → Bounded 0 (statements.case_node line o)
unfolding statements.case_node
case_node_light line o = by_after (λ s. case_by_light line (constant (effect o)) s)

refused_by : {A : Type 0} (b : Bool) (s : State) (r q : Checked (A × State)) → After 0 s r → After 0 s q →
    After 0 s (if b then r else q)
refused_by true s r q h k = h
refused_by false s r q h k = k

pub default_light : (line : ℕ) (a : Around) → Bounded 0 (statements.default_node line a)
unfolding statements.default_node
default_light line a = by_after
    (λ s. refused_by a.is_direct s _ _ (labelled_light st.Default s (labels.default line s.labels)) tt)

switch_entered_light : Bounded 0 statements.switch_entered
unfolding statements.switch_entered
switch_entered_light = by_after (λ s. with_labels_light labels.new s)

-- ---- parts

body_light : {w : ℕ} (i : Item) (a : Around) → LightItem w i → Bounded w (rules.body i a)
body_light i a h = weak _ (bind_light (h.at a) (λ xs. pure_light _)) (omega arith)

bodies_light : {v w : ℕ} (i j : Item) (a : Around) → LightItem v i → LightItem w j →
    Bounded (v + w) (rules.bodies i j a)
bodies_light i j a h k = weak _
    (bind_light (body_light i a h) (λ x. bind_light (body_light j a k) (λ y. pure_light (x, y)))) (omega arith)

optional_light : {w : ℕ} (e : Option Node) (g : Stage) → LightOptional w e → Bounded w (rules.optional e g)
optional_light None g absent = weak _ (pure_light None) (omega arith)
optional_light (Some n) g (present h) = weak _ (bind_light (h.at g) (λ o. pure_light (Some o))) (omega arith)

test_and_step_light : {v w : ℕ} (c s : Option Node) (a : Around) → LightOptional v c → LightOptional w s →
    Bounded (v + w) (rules.test_and_step c s a)
test_and_step_light c s a h k =
    weak _ (bind_light (optional_light c a.stage h)
    (λ o. bind_light (optional_light s a.stage k) (λ p. pure_light (o, p)))) (omega arith)

-- ---- statements

pub alone_light : {w : ℕ} (e : Node) (a : Around) → LightNode w e → Bounded (1 + w) (rules.alone e a)
alone_light e a h = weak _ (bind_light (h.at a.stage) (λ o. pure_light (statements.alone o))) (omega arith)

pub block_alone_light : {w : ℕ} (items : List Item) (a : Around) → Each LightItem w items →
    Bounded (1 + w) (rules.block_alone items a)
block_alone_light items a h =
    weak _ (bind_light (block_light items (statements.inside a) h) (λ x. pure_light (statements.one x))) (omega arith)

pub if_then_light : {v w : ℕ} (line : ℕ) (c : Node) (i : Item) (a : Around) → LightNode v c → LightItem w i →
    Bounded (1 + (v + w)) (rules.if_then line c i a)
if_then_light line c i a h k =
    weak _ (bind_light (h.at a.stage) (λ o. bind_light (body_light i (statements.inside a) k) (λ x. lift_light _)))
    (omega arith)

pub if_else_light : {u v w : ℕ} (line : ℕ) (c : Node) (i j : Item) (a : Around) → LightNode u c → LightItem v i →
    LightItem w j → Bounded (1 + (u + (v + w))) (rules.if_else line c i j a)
if_else_light line c i j a h k l =
    weak _ (bind_light (h.at a.stage)
    (λ o. bind_light (bodies_light i j (statements.inside a) k l) (λ p. lift_light _)))
    (omega arith)

pub while_light : {v w : ℕ} (line : ℕ) (c : Node) (i : Item) (a : Around) → LightNode v c → LightItem w i →
    Bounded (1 + (v + w)) (rules.while_loop line c i a)
while_light line c i a h k =
    weak _ (bind_light (h.at a.stage) (λ o. bind_light (body_light i (statements.looped a) k) (λ x. lift_light _)))
    (omega arith)

pub do_light : {v w : ℕ} (line : ℕ) (i : Item) (c : Node) (a : Around) → LightItem v i → LightNode w c →
    Bounded (1 + (v + w)) (rules.do_loop line i c a)
do_light line i c a k h =
    weak _ (bind_light (body_light i (statements.looped a) k) (λ x. bind_light (h.at a.stage) (λ o. lift_light _)))
    (omega arith)

for_rest_light : {u v w : ℕ} (line : ℕ) (c s : Option Node) (i : Item) (a : Around) → LightOptional u c →
    LightOptional v s → LightItem w i → Bounded (u + v + w) (rules.for_rest line c s i a)
for_rest_light line c s i a h k l =
    weak _ (bind_light (test_and_step_light c s a h k)
    (λ p. bind_light (body_light i (statements.looped a) l) (λ x. lift_light _))) (omega arith)

for_items_light : {t u v w : ℕ} (line : ℕ) (first : Item) (c s : Option Node) (i : Item) (a : Around) →
    LightItem t first → LightOptional u c → LightOptional v s → LightItem w i →
    Bounded (t + (u + v + w)) (rules.for_items line first c s i a)
for_items_light line first c s i a f h k l =
    weak _ (bind_light (f.at (statements.inside a))
    (λ xs. bind_light (for_rest_light line c s i a h k l) (λ x. pure_light (xs ++ x ∷ [])))) (omega arith)

for_by : {A : Type 0} {w : ℕ} (b : Bool) (r q : Around → Rule State A) (a : Around) → Bounded w (r a) →
    Bounded w (q a) → Bounded w (if b then r a else q a)
for_by true r q a h k = h
for_by false r q a h k = k

pub for_light : {t u v w : ℕ} (line : ℕ) (first : Item) (c s : Option Node) (i : Item) (a : Around) →
    LightItem t first → LightOptional u c → LightOptional v s → LightItem w i →
    Bounded (1 + (t + (u + (v + w)))) (rules.for_loop line first c s i a)
for_light line first c s i a f h k l =
    for_by first.is_empty (rules.for_alone line c s i) (rules.for_block line first c s i) a
    (weak _ (bind_light (for_rest_light line c s i a h k l) (λ x. pure_light (statements.one x))) (omega arith))
    (weak _ (scope_light (λ xs vs. statements.one (st.Block vs xs)) (for_items_light line first c s i a f h k l))
    (omega arith))

switch_block_light : {w : ℕ} (items : List Item) (a : Around) → Each LightItem w items →
    Bounded w (rules.switch_block items a)
switch_block_light items a h = scope_light (λ xs vs. (vs, xs)) (each_light items (statements.switched a) h)

labels_back_light : {A : Type 0} (x : A) (l : Labels) → Bounded {A = A} 0 (λ s. Ok (x, statements.with_labels l s))
labels_back_light x l = by_after (λ s. with_labels_light l s)

labelled_block_light : {w : ℕ} (items : List Item) (a : Around) → Each LightItem w items →
    Bounded w (rules.labelled_block items a)
labelled_block_light items a h =
    weak _ (bind_light switch_entered_light
    (λ outer. bind_light (switch_block_light items a h) (λ p. labels_back_light p outer))) (omega arith)

pub switch_light : {v w : ℕ} (line : ℕ) (e : Node) (items : List Item) (a : Around) → LightNode v e →
    Each LightItem w items → Bounded (1 + (v + w)) (rules.switch line e items a)
switch_light line e items a h k =
    weak _ (bind_light (h.at a.stage) (λ o. bind_light (labelled_block_light items a k) (λ p. lift_light _)))
    (omega arith)

pub case_light : {w : ℕ} (line : ℕ) (e : Node) (a : Around) → LightNode w e → Bounded (1 + w) (rules.case line e a)
case_light line e a h = weak _
    (bind_light (lift_light _) (λ u. bind_light (h.at a.stage) (λ o. case_node_light line o))) (omega arith)

pub returning_light : {w : ℕ} (line : ℕ) (e : Option Node) (a : Around) → LightOptional w e →
    Bounded (1 + w) (rules.returning line e a)
returning_light line None a absent = weak _ (pure_light (statements.one st.Return)) (omega arith)
returning_light line (Some e) a (present h) =
    weak _ (bind_light (h.at a.stage) (λ o. read_light (λ s. statements.return_node line a.stage o s))) (omega arith)

-- ---- the suffixes of a declarator

pub length_light : {w : ℕ} (e : Option Node) (g : Stage) → LightOptional w e → Bounded (1 + w) (rules.length_step e g)
length_light None g absent = weak _ (pure_light _) (omega arith)
length_light (Some e) g (present h) = weak _ (bind_light (h.at g) (λ o. pure_light _)) (omega arith)

each_type_light : (ps : List (Stage → Rule State CType)) {w : ℕ} (g : Stage) → Each LightType w ps →
    Bounded w (rules.each_type ps g)
each_type_light [] g none = pure_light []
each_type_light (p ∷ ps) g (more h hs) =
    weak _ (bind_light (h.at g) (λ t. bind_light (each_type_light ps g hs) (λ ts. pure_light _))) (omega arith)

pub list_light : {w : ℕ} (ps : List (Stage → Rule State CType)) (g : Stage) → Each LightType w ps →
    Bounded (1 + w) (rules.list_step ps g)
list_light ps g h = weak _ (scope_light (λ ts vs. step.Function ts) (each_type_light ps g h)) (omega arith)

pub each_step_light : (rs : List (Stage → Rule State Step)) {w : ℕ} (ss : List Step) (g : Stage) →
    Each LightSuffix w rs → Bounded w (rules.each_step rs ss g)
each_step_light [] ss g none = pure_light ss
each_step_light (r ∷ rs) ss g (more h hs) = bind_light (h.at g) (λ s. each_step_light rs (ss ++ s ∷ []) g hs)
