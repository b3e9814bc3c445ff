-- The walk over a statement that gives an answer, taken apart into the walks over its parts.
use Rattle.std.proofs.Common.{◌≡◌, ℕ, List, [], ◌∷◌, refl, sym, ap, subst, ◌∙◌, Option, Some, None, Ok, Err}
use Rattle.tick_tree.specs.Faults.{Checked, ◌>>=◌ as ◌>>>=◌}
use Rattle.typed_tree.specs.declared.expression.Expr.{Expr}
use Rattle.typed_tree.specs.declared.expression.Stmt.{Stmt}
use Rattle.typed_tree.specs.declared.expression.Stmt.TheVariants as st
use Rattle.check_operands.specs.declared.operand.Operand.{Operand}
use Rattle.check_rules.specs.declared.state.Around.{Around as Standing}
use Rattle.check_rules.specs.declared.state.Stage.{Stage}
use Rattle.check_rules.specs.declared.state.State.{State}
use Rattle.check_rules.specs.Walks.{Rule, ◌>>=◌, pure, lift}
use Rattle.check_rules.specs.ExpressionRules.{Node, Item}
use Rattle.check_rules.specs.StatementRules as rules
use Rattle.check_rules.specs.Statements as statements
use Rattle.check_rules.specs.Statements.{if_node, if_else_node, while_node, do_node, for_node, switch_node}
use Rattle.check_rules.specs.Statements.{return_node, switch_entered, with_labels}
use Rattle.wf_walk.proofs.Walks.{ran, ok_same, pure_same, pure_value, lifted}

-- ---- single steps

-- an answer of a rule, and what is made of it
pub record Gave {A B : Type 0} (r : Checked A) (f : A → B) (y : B) : Type 0 where
  pub value : A
  pub gives : r ≡ Ok value
  pub is : f value ≡ y

pub gave : {A B : Type 0} (r : Checked A) (f : A → B) (y : B) → (r >>>= (λ x. Ok (f x))) ≡ Ok y → Gave r f y
gave (Ok x) f y e = record { value = x; gives = refl; is = ok_same (f x) y e }
gave (Err k) f y e = cc

-- a step, and what is made of its answer
pub record Follows {A B : Type 0} (p : Rule State A) (f : A → B) (s : State) (y : B) (new : State) : Type 0 where
  pub value : A
  pub walk : p s ≡ Ok (value, new)
  pub is : f value ≡ y

pub followed : {A B : Type 0} (p : Rule State A) (f : A → B) (s : State) (y : B) (new : State) →
    (p >>= (λ x. pure (f x))) s ≡ Ok (y, new) → Follows p f s y new
followed p f s y new e =
    let r = ran p (λ x. pure (f x)) s y new e in
    record {
      value = r.value;
      walk = subst (λ z. p s ≡ Ok (r.value, z)) (pure_same (f r.value) y r.state new r.next) r.first;
      is = pure_value (f r.value) y r.state new r.next;
    }

-- a step, and what a rule makes of its answer
pub record Judged {A B : Type 0} (p : Rule State A) (f : A → Checked B) (s : State) (y : B) (new : State) : Type 0 where
  pub value : A
  pub walk : p s ≡ Ok (value, new)
  pub gives : f value ≡ Ok y

pub judged : {A B : Type 0} (p : Rule State A) (f : A → Checked B) (s : State) (y : B) (new : State) →
    (p >>= (λ x. lift (f x))) s ≡ Ok (y, new) → Judged p f s y new
judged p f s y new e =
    let r = ran p (λ x. lift (f x)) s y new e in
    let l = lifted (f r.value) r.state y new r.next in
    record { value = r.value; walk = subst (λ z. p s ≡ Ok (r.value, z)) l.state r.first; gives = l.value }

-- ---- bodies

abbrev pub BodyRan : Item → Standing → State → Stmt → State → Type 0
BodyRan i a s x new = Follows (i.walk a) statements.body s x new

pub body_ran : (i : Item) (a : Standing) (s : State) (x : Stmt) (new : State) → rules.body i a s ≡ Ok (x, new) →
    BodyRan i a s x new
body_ran i a s x new e = followed (i.walk a) statements.body s x new e

-- ---- one test and one body

pub record IfRan (line : ℕ) (c : Node) (i : Item) (a : Standing) (s : State) (xs : List Stmt) (new : State) : Type 0
  where
    pub operand : Operand
    pub between : State
    pub walk : c.walk a.stage s ≡ Ok (operand, between)
    pub node : Stmt
    pub body : BodyRan i (statements.inside a) between node new
    pub test : Expr
    pub gives : statements.condition_node line operand ≡ Ok test
    pub is : st.If test node ∷ [] ≡ xs

pub if_ran : (line : ℕ) (c : Node) (i : Item) (a : Standing) (s : State) (xs : List Stmt) (new : State) →
    rules.if_then line c i a s ≡ Ok (xs, new) → IfRan line c i a s xs new
unfolding if_node
if_ran line c i a s xs new e =
    let r = ran (c.walk a.stage) (λ o. rules.body i (statements.inside a) >>= (λ x. lift (if_node line o x))) s xs new e
    in
    let j = judged (rules.body i (statements.inside a)) (λ x. if_node line r.value x) r.state xs new r.next in
    let g = gave (statements.condition_node line r.value) (λ t. statements.one (st.If t j.value)) xs j.gives in
    record {
      operand = r.value;
      between = r.state;
      walk = r.first;
      node = j.value;
      body = body_ran i (statements.inside a) r.state j.value new j.walk;
      test = g.value;
      gives = g.gives;
      is = g.is;
    }

pub record WhileRan (line : ℕ) (c : Node) (i : Item) (a : Standing) (s : State) (xs : List Stmt) (new : State) : Type 0
  where
    pub operand : Operand
    pub between : State
    pub walk : c.walk a.stage s ≡ Ok (operand, between)
    pub node : Stmt
    pub body : BodyRan i (statements.looped a) between node new
    pub test : Expr
    pub gives : statements.condition_node line operand ≡ Ok test
    pub is : st.While test node ∷ [] ≡ xs

pub while_ran : (line : ℕ) (c : Node) (i : Item) (a : Standing) (s : State) (xs : List Stmt) (new : State) →
    rules.while_loop line c i a s ≡ Ok (xs, new) → WhileRan line c i a s xs new
unfolding while_node
while_ran line c i a s xs new e =
    let r = ran (c.walk a.stage) (λ o. rules.body i (statements.looped a) >>= (λ x. lift (while_node line o x))) s xs
    new e in
    let j = judged (rules.body i (statements.looped a)) (λ x. while_node line r.value x) r.state xs new r.next in
    let g = gave (statements.condition_node line r.value) (λ t. statements.one (st.While t j.value)) xs j.gives in
    record {
      operand = r.value;
      between = r.state;
      walk = r.first;
      node = j.value;
      body = body_ran i (statements.looped a) r.state j.value new j.walk;
      test = g.value;
      gives = g.gives;
      is = g.is;
    }

pub record DoRan (line : ℕ) (i : Item) (c : Node) (a : Standing) (s : State) (xs : List Stmt) (new : State) : Type 0
  where
    pub node : Stmt
    pub between : State
    pub body : BodyRan i (statements.looped a) s node between
    pub operand : Operand
    pub walk : c.walk a.stage between ≡ Ok (operand, new)
    pub test : Expr
    pub gives : statements.condition_node line operand ≡ Ok test
    pub is : st.Do node test ∷ [] ≡ xs

pub do_ran : (line : ℕ) (i : Item) (c : Node) (a : Standing) (s : State) (xs : List Stmt) (new : State) →
    rules.do_loop line i c a s ≡ Ok (xs, new) → DoRan line i c a s xs new
unfolding do_node
do_ran line i c a s xs new e =
    let r = ran (rules.body i (statements.looped a)) (λ x. c.walk a.stage >>= (λ o. lift (do_node line x o))) s xs new e
    in
    let j = judged (c.walk a.stage) (λ o. do_node line r.value o) r.state xs new r.next in
    let g = gave (statements.condition_node line j.value) (λ t. statements.one (st.Do r.value t)) xs j.gives in
    record {
      node = r.value;
      between = r.state;
      body = body_ran i (statements.looped a) s r.value r.state r.first;
      operand = j.value;
      walk = j.walk;
      test = g.value;
      gives = g.gives;
      is = g.is;
    }

-- ---- two bodies

pub record ElseRan (line : ℕ) (c : Node) (i j : Item) (a : Standing) (s : State) (xs : List Stmt) (new : State) : Type 0
  where
    pub operand : Operand
    pub first : State
    pub walk : c.walk a.stage s ≡ Ok (operand, first)
    pub one : Stmt
    pub between : State
    pub body : BodyRan i (statements.inside a) first one between
    pub two : Stmt
    pub other : BodyRan j (statements.inside a) between two new
    pub test : Expr
    pub gives : statements.condition_node line operand ≡ Ok test
    pub is : st.IfElse test one two ∷ [] ≡ xs

else_is : (e : Expr) (x y : Stmt) (p : Stmt × Stmt) (xs : List Stmt) → ◌≡◌ {A = Stmt × Stmt} (x, y) p →
    st.IfElse e p.0 p.1 ∷ [] ≡ xs → st.IfElse e x y ∷ [] ≡ xs
else_is e x y p xs h k = ap (λ q. st.IfElse e q.0 q.1 ∷ []) h ∙ k

pub else_ran : (line : ℕ) (c : Node) (i j : Item) (a : Standing) (s : State) (xs : List Stmt) (new : State) →
    rules.if_else line c i j a s ≡ Ok (xs, new) → ElseRan line c i j a s xs new
unfolding if_else_node
else_ran line c i j a s xs new e =
    let r = ran (c.walk a.stage)
    (λ o. rules.bodies i j (statements.inside a) >>= (λ p. lift (if_else_node line o p.0 p.1))) s xs new e in
    let k = judged (rules.bodies i j (statements.inside a)) (λ p. if_else_node line r.value p.0 p.1) r.state xs new
    r.next in
    let f = ran (rules.body i (statements.inside a)) (λ x. rules.body j (statements.inside a) >>= (λ y. pure (x, y)))
    r.state k.value new k.walk in
    let h = followed (rules.body j (statements.inside a)) (λ y. (f.value, y)) f.state k.value new f.next in
    let g = gave (statements.condition_node line r.value) (λ t. statements.one (st.IfElse t k.value.0 k.value.1)) xs
    k.gives in
    record {
      operand = r.value;
      first = r.state;
      walk = r.first;
      one = f.value;
      between = f.state;
      body = body_ran i (statements.inside a) r.state f.value f.state f.first;
      two = h.value;
      other = body_ran j (statements.inside a) f.state h.value new h.walk;
      test = g.value;
      gives = g.gives;
      is = else_is g.value f.value h.value k.value xs h.is g.is;
    }

-- ---- loops with three parts

abbrev pub OptionalRan : Option Node → Stage → State → Option Operand → State → Type 0
OptionalRan None g s o new = (o ≡ None) × (s ≡ new)
OptionalRan (Some e) g s o new = Follows (e.walk g) (λ x. Some x) s o new

pub optional_ran : (c : Option Node) (g : Stage) (s : State) (o : Option Operand) (new : State) →
    rules.optional c g s ≡ Ok (o, new) → OptionalRan c g s o new
optional_ran None g s o new e = (sym (pure_value None o s new e), pure_same None o s new e)
optional_ran (Some n) g s o new e = followed (n.walk g) (λ x. Some x) s o new e

pub record ForRan (line : ℕ) (c step : Option Node) (i : Item) (a : Standing) (s : State) (x : Stmt) (new : State) :
    Type 0 where
  pub test : Option Operand
  pub first : State
  pub tested : OptionalRan c a.stage s test first
  pub next : Option Operand
  pub between : State
  pub stepped : OptionalRan step a.stage first next between
  pub node : Stmt
  pub body : BodyRan i (statements.looped a) between node new
  pub condition : Expr
  pub gives : statements.for_condition line test ≡ Ok condition
  pub is : statements.for_by condition next node ≡ x

for_gives : (line : ℕ) (o : Option Operand) (n : Option Operand) (p : Option Operand × Option Operand) (e : Expr) →
    ◌≡◌ {A = Option Operand × Option Operand} (o, n) p → statements.for_condition line p.0 ≡ Ok e →
    statements.for_condition line o ≡ Ok e
for_gives line o n p e h k = ap (λ q. statements.for_condition line q.0) h ∙ k

for_is : (e : Expr) (o n : Option Operand) (p : Option Operand × Option Operand) (y x : Stmt) →
    ◌≡◌ {A = Option Operand × Option Operand} (o, n) p → statements.for_by e p.1 y ≡ x → statements.for_by e n y ≡ x
for_is e o n p y x h k = ap (λ q. statements.for_by e q.1 y) h ∙ k

pub for_ran : (line : ℕ) (c step : Option Node) (i : Item) (a : Standing) (s : State) (x : Stmt) (new : State) →
    rules.for_rest line c step i a s ≡ Ok (x, new) → ForRan line c step i a s x new
unfolding for_node
for_ran line c step i a s x new e =
    let r = ran (rules.test_and_step c step a)
    (λ p. rules.body i (statements.looped a) >>= (λ y. lift (for_node line p.0 p.1 y))) s x new e in
    let f = ran (rules.optional c a.stage) (λ o. rules.optional step a.stage >>= (λ p. pure (o, p))) s r.value r.state
    r.first in
    let h = followed (rules.optional step a.stage) (λ p. (f.value, p)) f.state r.value r.state f.next in
    let j = judged (rules.body i (statements.looped a)) (λ y. for_node line r.value.0 r.value.1 y) r.state x new r.next
    in
    let g = gave (statements.for_condition line r.value.0) (λ t. statements.for_by t r.value.1 j.value) x j.gives in
    record {
      test = f.value;
      first = f.state;
      tested = optional_ran c a.stage s f.value f.state f.first;
      next = h.value;
      between = r.state;
      stepped = optional_ran step a.stage f.state h.value r.state h.walk;
      node = j.value;
      body = body_ran i (statements.looped a) r.state j.value new j.walk;
      condition = g.value;
      gives = for_gives line f.value h.value r.value g.value h.is g.gives;
      is = for_is g.value f.value h.value r.value j.value x h.is g.is;
    }
