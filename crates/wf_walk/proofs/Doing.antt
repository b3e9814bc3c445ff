-- What statements with tests and bodies did.
use Rattle.std.proofs.Common.{◌≡◌, ℕ, false, List, [], ◌∷◌, ◌++◌, refl, sym, subst, Option, Some, None, Ok}
use Rattle.tick_tree.specs.Faults.{Checked}
use Rattle.typed_tree.specs.declared.expression.CaptureKind.{CaptureKind}
use Rattle.typed_tree.specs.declared.expression.Expr.{Expr}
use Rattle.typed_tree.specs.declared.expression.Expr.TheVariants as ex
use Rattle.typed_tree.specs.declared.expression.Stmt.{Stmt}
use Rattle.typed_tree.specs.declared.expression.Stmt.TheVariants as st
use Rattle.check_operands.specs.declared.operand.Operand.{Operand}
use Rattle.check_operands.specs.Operands as nodes
use Rattle.check_operands.specs.Operands.{value_of, effect}
use Rattle.check_operands.specs.Calls as calls
use Rattle.check_rules.specs.declared.state.Around.{Around as Standing}
use Rattle.check_rules.specs.declared.state.Stage.{Stage}
use Rattle.check_rules.specs.declared.state.Stage.TheVariants as stage
use Rattle.check_rules.specs.declared.state.State.{State}
use Rattle.check_rules.specs.Walks.{◌>>=◌, pure}
use Rattle.check_rules.specs.ExpressionRules.{Node, Item, each}
use Rattle.check_rules.specs.StatementRules as rules
use Rattle.check_rules.specs.Statements as statements
use Rattle.wellformed.specs.Places.{Around, looped}
use Rattle.wf_nodes.specs.Right.{Stands}
use Rattle.wf_nodes.proofs.OperandScopes.{prefixes_stand}
use Rattle.wf_nodes.proofs.CallScopes.{calls_stand}
use Rattle.wf_nodes.proofs.NodeScopes.{const_stands, unless_ok}
use Rattle.wf_nodes.specs.Used.{Leaves, Unless as UnlessUsed}
use Rattle.wf_nodes.proofs.NodeValues.{nodes_use}
use Rattle.wf_nodes.proofs.OperandValues.{prefixes_use}
use Rattle.wf_nodes.proofs.CallValues.{calls_use}
use Rattle.wf_walk.specs.Kept.{Grows}
use Rattle.wf_walk.specs.Known.{Blocks, Known}
use Rattle.wf_walk.specs.Steps.{Round, at, Did}
use Rattle.wf_walk.specs.Good.{Good, GoodNode}
use Rattle.wf_walk.specs.Items.{MayStand, InBlock, placed_round, ItemStands, ItemsStand, GoodItem}
use Rattle.wf_walk.specs.Parts.{EachPart, GoodOptional}
use Rattle.wf_walk.proofs.Walks.{ran, pure_same, pure_value}
use Rattle.wf_walk.proofs.Plain.{plain_same, plain_did_by}
use Rattle.wf_walk.proofs.NodeRules.{good_value}
use Rattle.wf_walk.proofs.Growing.{keeps_grows, grows_more}
use Rattle.wf_walk.proofs.Making.{each_append}
use Rattle.wf_walk.proofs.Runs.{followed, BodyRan, IfRan, WhileRan, DoRan, ElseRan, OptionalRan, ForRan}
use Rattle.wf_walk.proofs.Labelling.{AnswerRan}
use Rattle.wf_walk.proofs.Makes.{optional_keeps, each_makes}
use Rattle.wf_walk.proofs.Joining.{did_both, did_so, did_placed}
use Rattle.wf_walk.proofs.Standing.{Stood, Test, Effect, EffectOf, stood_one, body_stood, if_stood, if_else_stood}
use Rattle.wf_walk.proofs.Standing.{while_stood, do_stood, for_stood, expr_stood, answer_stood}

-- ---- tests

pub unless_used : {A : Type 0} (P : A → Type 0) (c : Checked A) (x : A) → c ≡ Ok x → UnlessUsed P c → P x
unless_used P c x e u = subst (λ z. UnlessUsed P z) e u

pub condition_test : (r : Around) (line : ℕ) (o : Operand) (e : Expr) → Good r o →
    statements.condition_node line o ≡ Ok e → Test r e
condition_test r line o e h g =
    let v = good_value r o h in
    record {
      stands = unless_ok (Stands r) (nodes.condition line (value_of o)) e g
          (prefixes_stand.condition r line (value_of o) v.stands);
      leaves = unless_used Leaves (nodes.condition line (value_of o)) e g
          (prefixes_use.condition line (value_of o) v.used);
    }

pub switched_test : (r : Around) (line : ℕ) (o : Operand) (e : Expr) → Good r o →
    statements.switched_node line o ≡ Ok e → Test r e
switched_test r line o e h g =
    let v = good_value r o h in
    record {
      stands = unless_ok (Stands r) (nodes.switched line (value_of o)) e g
          (prefixes_stand.switched r line (value_of o) v.stands);
      leaves = unless_used Leaves (nodes.switched line (value_of o)) e g
          (prefixes_use.switched line (value_of o) v.used);
    }

pub good_effect : (r : Around) (o : Operand) → Good r o → Effect r (effect o)
good_effect r o h = let v = good_value r o h in record { stands = v.stands; right = v.used.right }

abbrev GoodOption : Around → Option Operand → Type 0
GoodOption r None = Unit {0}
GoodOption r (Some o) = Good r o

one_test : (r : Around) → Test r (ex.Const 1)
one_test r = record { stands = const_stands r 1; leaves = nodes_use.constant 1 }

for_test : (r : Around) (line : ℕ) (o : Option Operand) (e : Expr) → GoodOption r o →
    statements.for_condition line o ≡ Ok e → Test r e
for_test r line None e h g = subst (λ x. Test r x) (same (ex.Const 1) e g) (one_test r)
  where
    same : (x y : Expr) → ◌≡◌ {A = Checked Expr} (Ok x) (Ok y) → x ≡ y
    same x y p = cc
for_test r line (Some o) e h g = condition_test r line o e h g

option_effect : (r : Around) (o : Option Operand) → GoodOption r o → EffectOf r o
option_effect r None h = tt
option_effect r (Some o) h = good_effect r o h

returned_test : (r : Around) (line : ℕ) (g : Stage) (o : Operand) (s : State) (e : Expr) → Good r o →
    statements.returned_by line g o s ≡ Ok e → Test r e
returned_test r line stage.Function o s e h g =
    let v = good_value r o h in
    record {
      stands = unless_ok (Stands r) (calls.returned line s.frame.result (value_of o)) e g
          (calls_stand.returned r line s.frame.result (value_of o) v.stands);
      leaves = unless_used Leaves (calls.returned line s.frame.result (value_of o)) e g
          (calls_use.returned line s.frame.result (value_of o) v.used);
    }
returned_test r line stage.Tick o s e h g =
    let v = good_value r o h in
    record {
      stands = unless_ok (Stands r) (calls.tick_returned line (value_of o)) e g
          (calls_stand.tick_returned r line (value_of o) v.stands);
      leaves = unless_used Leaves (calls.tick_returned line (value_of o)) e g
          (calls_use.tick_returned line (value_of o) v.used);
    }
returned_test r line stage.Dollar o s e h g =
    let v = good_value r o h in
    record {
      stands = unless_ok (Stands r) (calls.tick_returned line (value_of o)) e g
          (calls_stand.tick_returned r line (value_of o) v.stands);
      leaves = unless_used Leaves (calls.tick_returned line (value_of o)) e g
          (calls_use.tick_returned line (value_of o) v.used);
    }

-- ---- parts

-- what stands round the nodes that a part with this round it answers
abbrev pub place_of : Standing → Round → Around
place_of a r = at a.stage (placed_round a r)

pub may_of : (g : Stage) (b : Blocks) → InBlock g b → MayStand g
may_of stage.Function b h = tt
may_of stage.Tick b h = tt
may_of stage.Dollar b h = h

pub node_did : {many : List ℕ} {n : Node} {b : Blocks} {ks : List (List CaptureKind)} {s t : State} {o : Operand} →
    GoodNode many n → (a : Standing) → Known many a.stage b ks s → n.walk a.stage s ≡ Ok (o, t) →
    Did many a.stage b ks s t (λ r. Good (place_of a r) o)
node_did {b = b} {ks = ks} {s = s} {t = t} {o = o} h a known e =
    did_placed a (λ r. Good (at a.stage r) o) (h.does a.stage b ks s t o known e)

pub body_did : {many : List ℕ} {i : Item} {b : Blocks} {ks : List (List CaptureKind)} {s new : State} {x : Stmt} →
    GoodItem many i → (a : Standing) → InBlock a.stage b → a.is_direct ≡ false → Known many a.stage b ks s →
    BodyRan i a s x new
    → Did many a.stage b ks s new (λ r. Stood (place_of a r) x)
body_did {b = b} {ks = ks} {s = s} {new = new} {x = x} h a here d known w =
    did_so (λ r. ItemsStand a (place_of a r) w.value) (λ r. Stood (place_of a r) x)
    ((h.walk a (may_of a.stage b here)).does b ks s new w.value here known w.walk)
    (λ ms r ag p. subst (λ y. Stood (place_of a r) y) w.is (body_stood a (place_of a r) w.value d p))

pub body_grows : {many : List ℕ} {i : Item} {s new : State} {x : Stmt} → GoodItem many i → (a : Standing) →
    MayStand a.stage → BodyRan i a s x new → Grows a.stage s new
body_grows {s = s} {new = new} h a may w = (h.walk a may).grows s new w.value w.walk

in_loop : (g : Stage) (a : Standing) (r : Round) →
    at g (placed_round (statements.looped a) r) ≡ looped (at g (placed_round a r))
in_loop stage.Function a r = refl
in_loop stage.Tick a r = refl
in_loop stage.Dollar a r = refl

loop_stood : (a : Standing) (r : Round) (x : Stmt) → Stood (place_of (statements.looped a) r) x →
    Stood (looped (place_of a r)) x
loop_stood a r x h = subst (λ z. Stood z x) (in_loop a.stage a r) h

-- what stands at the end
abbrev pub DidStand : List ℕ → Standing → Blocks → List (List CaptureKind) → State → State → List Stmt → Type 0
DidStand many a b ks s new xs = Did many a.stage b ks s new (λ r. ItemsStand a (place_of a r) xs)

-- ---- statements

pub if_did : {many : List ℕ} (line : ℕ) (c : Node) (i : Item) (a : Standing) (b : Blocks) (ks : List (List CaptureKind))
    (s new : State) (xs : List Stmt) → GoodNode many c → GoodItem many i → InBlock a.stage b →
    Known many a.stage b ks s →
    IfRan line c i a s xs new → DidStand many a b ks s new xs
if_did line c i a b ks s new xs hc hi here known w =
    let k = hc.keeps a.stage s w.between w.operand w.walk in
    let d = node_did hc a known w.walk in
    let e = body_did hi (statements.inside a) here refl d.known w.body in
    did_so (λ r. Good (place_of a r) w.operand × Stood (place_of a r) w.node) (λ r. ItemsStand a (place_of a r) xs)
    (did_both (λ r. Good (place_of a r) w.operand) (λ r. Stood (place_of a r) w.node) (keeps_grows k)
    (body_grows hi (statements.inside a) (may_of a.stage b here) w.body) d e)
    (λ ms r ag p. subst (λ ys. ItemsStand a (place_of a r) ys) w.is
    (stood_one a (place_of a r) (st.If w.test w.node)
    (if_stood (place_of a r) w.test w.node (condition_test (place_of a r) line w.operand w.test p.0 w.gives) p.1)))

pub while_did : {many : List ℕ} (line : ℕ) (c : Node) (i : Item) (a : Standing) (b : Blocks)
    (ks : List (List CaptureKind)) (s new : State) (xs : List Stmt) → GoodNode many c → GoodItem many i →
    InBlock a.stage b → Known many a.stage b ks s → WhileRan line c i a s xs new → DidStand many a b ks s new xs
while_did line c i a b ks s new xs hc hi here known w =
    let k = hc.keeps a.stage s w.between w.operand w.walk in
    let d = node_did hc a known w.walk in
    let e = body_did hi (statements.looped a) here refl d.known w.body in
    did_so (λ r. Good (place_of a r) w.operand × Stood (place_of (statements.looped a) r) w.node)
    (λ r. ItemsStand a (place_of a r) xs)
    (did_both (λ r. Good (place_of a r) w.operand) (λ r. Stood (place_of (statements.looped a) r) w.node)
    (keeps_grows k) (body_grows hi (statements.looped a) (may_of a.stage b here) w.body) d e)
    (λ ms r ag p. subst (λ ys. ItemsStand a (place_of a r) ys) w.is
    (stood_one a (place_of a r) (st.While w.test w.node)
    (while_stood (place_of a r) w.test w.node (condition_test (place_of a r) line w.operand w.test p.0 w.gives)
    (loop_stood a r w.node p.1))))

pub do_did : {many : List ℕ} (line : ℕ) (i : Item) (c : Node) (a : Standing) (b : Blocks) (ks : List (List CaptureKind))
    (s new : State) (xs : List Stmt) → GoodNode many c → GoodItem many i → InBlock a.stage b →
    Known many a.stage b ks s →
    DoRan line i c a s xs new → DidStand many a b ks s new xs
do_did line i c a b ks s new xs hc hi here known w =
    let k = hc.keeps a.stage w.between new w.operand w.walk in
    let d = body_did hi (statements.looped a) here refl known w.body in
    let e = node_did hc a d.known w.walk in
    did_so (λ r. Stood (place_of (statements.looped a) r) w.node × Good (place_of a r) w.operand)
    (λ r. ItemsStand a (place_of a r) xs)
    (did_both (λ r. Stood (place_of (statements.looped a) r) w.node) (λ r. Good (place_of a r) w.operand)
    (body_grows hi (statements.looped a) (may_of a.stage b here) w.body) (keeps_grows k) d e)
    (λ ms r ag p. subst (λ ys. ItemsStand a (place_of a r) ys) w.is
    (stood_one a (place_of a r) (st.Do w.node w.test)
    (do_stood (place_of a r) w.node w.test (loop_stood a r w.node p.0)
    (condition_test (place_of a r) line w.operand w.test p.1 w.gives))))

pub else_did : {many : List ℕ} (line : ℕ) (c : Node) (i j : Item) (a : Standing) (b : Blocks)
    (ks : List (List CaptureKind)) (s new : State) (xs : List Stmt) → GoodNode many c → GoodItem many i →
    GoodItem many j → InBlock a.stage b → Known many a.stage b ks s → ElseRan line c i j a s xs new →
    DidStand many a b ks s new xs
else_did line c i j a b ks s new xs hc hi hj here known w =
    let may = may_of a.stage b here in
    let k = keeps_grows (hc.keeps a.stage s w.first w.operand w.walk) in
    let m = body_grows hi (statements.inside a) may w.body in
    let n = body_grows hj (statements.inside a) may w.other in
    let d = node_did hc a known w.walk in
    let e = body_did hi (statements.inside a) here refl d.known w.body in
    let two = did_both (λ r. Good (place_of a r) w.operand) (λ r. Stood (place_of a r) w.one) k m d e in
    let f = body_did hj (statements.inside a) here refl two.known w.other in
    did_so (λ r. (Good (place_of a r) w.operand × Stood (place_of a r) w.one) × Stood (place_of a r) w.two)
    (λ r. ItemsStand a (place_of a r) xs)
    (did_both (λ r. Good (place_of a r) w.operand × Stood (place_of a r) w.one) (λ r. Stood (place_of a r) w.two)
    (grows_more k m) n two f)
    (λ ms r ag p. subst (λ ys. ItemsStand a (place_of a r) ys) w.is
    (stood_one a (place_of a r) (st.IfElse w.test w.one w.two)
    (if_else_stood (place_of a r) w.test w.one w.two
    (condition_test (place_of a r) line w.operand w.test p.0.0 w.gives) p.0.1 p.1)))

optional_did : (many : List ℕ) (c : Option Node) (a : Standing) (b : Blocks) (ks : List (List CaptureKind))
    (s t : State) (o : Option Operand) → GoodOptional many c → Known many a.stage b ks s → OptionalRan c a.stage s o t →
    Did many a.stage b ks s t (λ r. GoodOption (place_of a r) o)
optional_did many None a b ks s t o h known w =
    plain_did_by (λ r. GoodOption (place_of a r) o) (plain_same a.stage w.1) known
    (λ r ag. subst (λ z. GoodOption (place_of a r) z) (sym w.0) tt)
optional_did many (Some n) a b ks s t o h known w =
    did_so (λ r. Good (place_of a r) w.value) (λ r. GoodOption (place_of a r) o) (node_did h a known w.walk)
    (λ ms r ag p. subst (λ z. GoodOption (place_of a r) z) w.is p)

pub for_did : {many : List ℕ} (line : ℕ) (c step : Option Node) (i : Item) (a : Standing) (b : Blocks)
    (ks : List (List CaptureKind)) (s new : State) (x : Stmt) → GoodOptional many c → GoodOptional many step →
    GoodItem many i → InBlock a.stage b → Known many a.stage b ks s → ForRan line c step i a s x new
    → Did many a.stage b ks s new (λ r. Stood (place_of a r) x)
for_did {many} line c step i a b ks s new x hc hs hi here known w =
    let k = keeps_grows (optional_keeps many c a.stage s w.first w.test hc w.tested) in
    let l = keeps_grows (optional_keeps many step a.stage w.first w.between w.next hs w.stepped) in
    let m = body_grows hi (statements.looped a) (may_of a.stage b here) w.body in
    let d = optional_did many c a b ks s w.first w.test hc known w.tested in
    let e = optional_did many step a b (ks ++ d.more) w.first w.between w.next hs d.known w.stepped in
    let two = did_both (λ r. GoodOption (place_of a r) w.test) (λ r. GoodOption (place_of a r) w.next) k l d e in
    let f = body_did hi (statements.looped a) here refl two.known w.body in
    did_so (λ r. (GoodOption (place_of a r) w.test × GoodOption (place_of a r) w.next) ×
    Stood (place_of (statements.looped a) r) w.node) (λ r. Stood (place_of a r) x)
    (did_both (λ r. GoodOption (place_of a r) w.test × GoodOption (place_of a r) w.next)
    (λ r. Stood (place_of (statements.looped a) r) w.node) (grows_more k l) m two f)
    (λ ms r ag p. subst (λ y. Stood (place_of a r) y) w.is
    (for_stood (place_of a r) w.condition w.next w.node (for_test (place_of a r) line w.test w.condition p.0.0 w.gives)
    (option_effect (place_of a r) w.next p.0.1) (loop_stood a r w.node p.1)))

pub expr_did : {many : List ℕ} (n : Node) (a : Standing) (b : Blocks) (ks : List (List CaptureKind)) (s new : State)
    (xs : List Stmt) → GoodNode many n → Known many a.stage b ks s → rules.alone n a s ≡ Ok (xs, new) →
    DidStand many a b ks s new xs
expr_did n a b ks s new xs h known e =
    let w = followed (n.walk a.stage) statements.alone s xs new e in
    did_so (λ r. Good (place_of a r) w.value) (λ r. ItemsStand a (place_of a r) xs) (node_did h a known w.walk)
    (λ ms r ag p. subst (λ ys. ItemsStand a (place_of a r) ys) w.is
    (stood_one a (place_of a r) (st.Eval (effect w.value))
    (expr_stood (place_of a r) (effect w.value) (good_effect (place_of a r) w.value p))))

pub answer_did : {many : List ℕ} (line : ℕ) (n : Node) (a : Standing) (b : Blocks) (ks : List (List CaptureKind))
    (s new : State) (xs : List Stmt) → GoodNode many n → Known many a.stage b ks s → AnswerRan line n a s xs new →
    DidStand many a b ks s new xs
answer_did line n a b ks s new xs h known w =
    did_so (λ r. Good (place_of a r) w.operand) (λ r. ItemsStand a (place_of a r) xs) (node_did h a known w.walk)
    (λ ms r ag p. subst (λ ys. ItemsStand a (place_of a r) ys) w.is
    (stood_one a (place_of a r) (st.ReturnValue w.code)
    (answer_stood (place_of a r) w.code (returned_test (place_of a r) line a.stage w.operand new w.code p w.gives))))

-- where nothing is changed
pub same_did : {many : List ℕ} (a : Standing) (b : Blocks) (ks : List (List CaptureKind)) (s new : State)
    (xs : List Stmt) (x : Stmt) → Known many a.stage b ks s → s ≡ new → x ∷ [] ≡ xs →
    ((r : Round) → Stood (place_of a r) x) → DidStand many a b ks s new xs
same_did a b ks s new xs x known e is h =
    plain_did_by (λ r. ItemsStand a (place_of a r) xs) (plain_same a.stage e) known
    (λ r ag. subst (λ ys. ItemsStand a (place_of a r) ys) is (stood_one a (place_of a r) x (h r)))

-- ---- lists

pub each_did : (many : List ℕ) (items : List Item) (a : Standing) (b : Blocks) (ks : List (List CaptureKind))
    (s new : State) (xs : List Stmt) → EachPart (GoodItem many) items → InBlock a.stage b → Known many a.stage b ks s →
    each items a s ≡ Ok (xs, new) → DidStand many a b ks s new xs
each_did many [] a b ks s new xs h here known e =
    plain_did_by (λ r. ItemsStand a (place_of a r) xs) (plain_same a.stage (pure_same [] xs s new e)) known
    (λ r ag. subst (λ ys. ItemsStand a (place_of a r) ys) (pure_value [] xs s new e) tt)
each_did many (i ∷ items) a b ks s new xs h here known e =
    let r = ran (i.walk a) (λ x. each items a >>= (λ ys. pure (x ++ ys))) s xs new e in
    let f = followed (each items a) (λ ys. r.value ++ ys) r.state xs new r.next in
    let one = h.0.walk a (may_of a.stage b here) in
    let d = one.does b ks s r.state r.value here known r.first in
    let rest = each_did many items a b (ks ++ d.more) r.state new f.value h.1 here d.known f.walk in
    did_so (λ q. ItemsStand a (place_of a q) r.value × ItemsStand a (place_of a q) f.value)
    (λ q. ItemsStand a (place_of a q) xs)
    (did_both (λ q. ItemsStand a (place_of a q) r.value) (λ q. ItemsStand a (place_of a q) f.value)
    (one.grows s r.state r.value r.first)
    ((each_makes many items a (may_of a.stage b here) h.1 r.state new f.value f.walk).made.grows) d rest)
    (λ ms q ag p. subst (λ ys. ItemsStand a (place_of a q) ys) f.is
    (each_append (ItemStands a (place_of a q)) r.value f.value p.0 p.1))
