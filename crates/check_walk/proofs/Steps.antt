-- What a call read, by what the calls in it did: steps that are done, and then one that decides.
use Rattle.std.proofs.Common.{◌≡◌, List, ap, sym, subst, ◌∙◌, Ok, Err}
use Rattle.std.specs.Prelude.{Result, IsErrAnd}
use Rattle.tick_tree.specs.Faults.{Checked, Checks, ◌>>=◌ as ◌>>>=◌}
use Rattle.tick_tree.specs.declared.fault.Deny.{Deny}
use Rattle.tick_tree.specs.declared.fault.Deny.TheVariants.{Refused, NoMemory}
use Rattle.tick_tree.specs.declared.syntax.Expr.{Expr}
use Rattle.tick_tree.specs.declared.syntax.Stmt.{Stmt}
use Rattle.typed_tree.specs.declared.expression.Stmt.{Stmt as Act}
use Rattle.check_operands.specs.declared.operand.Operand.{Operand}
use Rattle.check_rules.specs.declared.state.Around.{Around}
use Rattle.check_rules.specs.declared.state.Stage.{Stage}
use Rattle.check_rules.specs.declared.state.State.{State}
use Rattle.check_rules.specs.Walk as walks
use Rattle.check_rules.specs.Walks.{Reads}

-- a step is done, and so is what follows
pub onward : {A B : Type 0} → (m : Checked A) (k : A → Checked B) (a : A) (y : Checked B) → m ≡ Ok a → k a ≡ y
    → (m >>>= k) ≡ y
onward m k a y done next = ap (λ q. q >>>= k) done ∙ next

-- a step is done, and what follows it gives this answer
pub ends : {A B S : Type 0} → (m : Checked A) (k : A → Checked (B × S)) (a : A) (x y : B) (z : S) → m ≡ Ok a
    → k a ≡ Ok (y, z) → x ≡ y → (m >>>= k) ≡ Ok (x, z)
ends m k a x y z done next is = ap (λ q. q >>>= k) done ∙ next ∙ ap (λ w. Ok (w, z)) (sym is)

-- a step is done, and what follows it decides
pub goes : {A B : Type 0} → (m : Checked A) (k : A → Checked (B × State)) (a : A) (r : Result B Deny) (z : State)
    → m ≡ Ok a → Reads (k a) r z → Reads (m >>>= k) r z
goes m k a r z done next = subst (λ q. Reads (q >>>= k) r z) (sym done) next

-- a step is done, and what follows it failed
pub past : {A B : Type 0} → (m : Checked A) (k : A → Checked (B × State)) (a : A) (why : Deny) (z : State) → m ≡ Ok a
    → Reads (k a) (Err why) z → Reads (m >>>= k) (Err why) z
past m k a why z done next = goes m k a (Err why) z done next

-- a step failed, and all of it does
pub stops : {A B : Type 0} → (m : Checked (A × State)) (k : A × State → Checked (B × State)) (why : Deny) (z : State)
    → Reads m (Err why) z → Reads (m >>>= k) (Err why) z
stops m k (Refused f) z h = ap (λ q. q >>>= k) h
stops m k NoMemory z h = tt

-- what failed as one rule failed as another that is the same
pub fails_as : {A : Type 0} → (x y : Checked (A × State)) (why : Deny) (z : State) → x ≡ y → Reads y (Err why) z
    → Reads x (Err why) z
fails_as x y why z same h = subst (λ q. Reads q (Err why) z) (sym same) h

-- a fault that a `?` passes on
pub broken : {A : Type 0} → (x : Checked (A × State)) (r : Result A Deny) (why : Deny) (z : State)
    → IsErrAnd r (λ w. w ≡ why) → Reads x (Err why) z → Reads x r z
broken x (Ok a) why z h was = absurd h
broken x (Err w) why z h was = subst (λ q. Reads x (Err q) z) (sym h) was

-- the step that only its own rule decides
pub lifted : {A : Type 0} → (c : Checked A) (r : Result A Deny) (s : State) → Checks r c
    → Reads (c >>>= (λ x. Ok (x, s))) r s
lifted c (Ok a) s h = ap (λ q. q >>>= (λ x. Ok (x, s))) h
lifted c (Err (Refused f)) s h = ap (λ q. q >>>= (λ x. Ok (x, s))) h
lifted c (Err NoMemory) s h = tt

pub lift_done : {A : Type 0} → (c : Checked A) (a : A) (s : State) → c ≡ Ok a
    → ◌>>>=◌ {B = A × State} c (λ x. Ok (x, s)) ≡ Ok (a, s)
lift_done {A} c a s h = ap (λ q. ◌>>>=◌ {B = A × State} q (λ x. Ok (x, s))) h

-- the step of a rule that failed
pub lift_fails : {A : Type 0} → (c : Checked A) (why : Deny) (s : State) → Checks (Err why) c
    → Reads (c >>>= (λ x. Ok (x, s))) (Err why) s
lift_fails c (Refused f) s h = ap (λ q. q >>>= (λ x. Ok (x, s))) h
lift_fails c NoMemory s h = tt

-- the walk over a node, by what the node is
pub node_as : (w v : Expr) (g : Stage) (s : State) (y : Checked (Operand × State)) (r : Result Operand Deny) (z : State)
    → w ≡ v → (walks.node v).walk g s ≡ y → Reads y r z → Reads ((walks.node w).walk g s) r z
node_as w v g s y r z is same h =
    subst (λ q. Reads q r z) (sym (ap (λ q. (walks.node q).walk g s) is ∙ same)) h

pub item_as : (w v : Stmt) (a : Around) (s : State) (y : Checked (List Act × State)) (r : Result (List Act) Deny)
    (z : State) → w ≡ v → (walks.item v).walk a s ≡ y → Reads y r z → Reads ((walks.item w).walk a s) r z
item_as w v a s y r z is same h =
    subst (λ q. Reads q r z) (sym (ap (λ q. (walks.item q).walk a s) is ∙ same)) h
