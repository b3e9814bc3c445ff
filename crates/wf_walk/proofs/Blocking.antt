-- The walk over a block that gives an answer, and that over a switch, a label and a return, taken apart.
use Rattle.std.proofs.Common.{◌≡◌, ℕ, List, [], ◌∷◌, sym, ap, subst, ◌∙◌, Ok}
use Rattle.std.specs.Prelude.{length}
use Rattle.typed_tree.specs.declared.expression.Expr.{Expr}
use Rattle.typed_tree.specs.declared.expression.Stmt.{Stmt}
use Rattle.typed_tree.specs.declared.expression.Stmt.TheVariants as st
use Rattle.check_operands.specs.declared.operand.Operand.{Operand}
use Rattle.check_rules.specs.declared.labels.Labels.{Labels}
use Rattle.check_rules.specs.Labels as labels
use Rattle.check_rules.specs.declared.state.Around.{Around as Standing}
use Rattle.check_rules.specs.declared.state.State.{State}
use Rattle.check_rules.specs.Blocks.{depth, enter, leave}
use Rattle.check_rules.specs.Walks.{Rule, ◌>>=◌, pure, lift}
use Rattle.check_rules.specs.ExpressionRules.{Node, Item, each}
use Rattle.check_rules.specs.StatementRules as rules
use Rattle.check_rules.specs.Statements as statements
use Rattle.check_rules.specs.Statements.{switch_node, return_node, switch_entered, with_labels, case_node}
use Rattle.check_rules.specs.Statements.{default_node}
use Rattle.wf_walk.proofs.Walks.{ran, ok_same, pure_same, pure_value}
use Rattle.wf_walk.proofs.Blocks.{inside, behind, back}
use Rattle.wf_walk.proofs.Runs.{gave, followed, judged}

-- ---- blocks

enter_gives : (s t : State) (vs : List Stmt) → enter s ≡ Ok (vs, t) →
    ◌≡◌ {A = List Stmt × State} (s.frame.nodes, inside s) (vs, t)
unfolding enter
enter_gives s t vs e = ok_same (s.frame.nodes, inside s) (vs, t) e

leave_gives : (n : ℕ) (vs : List Stmt) (t new : State) (ws : List Stmt) → leave n vs t ≡ Ok (ws, new) →
    ◌≡◌ {A = List Stmt × State} (t.frame.nodes, behind n vs t) (ws, new)
unfolding leave
leave_gives n vs t new ws e = ok_same (t.frame.nodes, behind n vs t) (ws, new) e

-- a step in a block of its own, and what is made of its variables and its answer
pub record Enclosed {A B : Type 0} (p : Rule State A) (f : A → List Stmt → B) (s : State) (y : B) (new : State) : Type 0
  where
    pub value : A
    pub state : State
    pub walk : p (inside s) ≡ Ok (value, state)
    pub is : f value state.frame.nodes ≡ y
    pub back : back s state ≡ new

abbrev pub enclose : {A B : Type 0} → Rule State A → (A → List Stmt → B) → Rule State B
enclose p f = depth >>= (λ n. enter >>= (λ outer. p >>= (λ x. leave n outer >>= (λ vs. pure (f x vs)))))

enclosed_by : {A B : Type 0} (p : Rule State A) (f : A → List Stmt → B) (s d i t new : State) (n : ℕ)
    (outer vs : List Stmt) (x : A) (y : B) → s ≡ d → length s.scopes ≡ n
    → ◌≡◌ {A = List Stmt × State} (d.frame.nodes, inside d) (outer, i) → p i ≡ Ok (x, t) →
    ◌≡◌ {A = List Stmt × State} (t.frame.nodes, behind n outer t) (vs, new) → f x vs ≡ y → Enclosed p f s y new
enclosed_by p f s d i t new n outer vs x y same count entry walk exit is =
    let state : inside s ≡ i = ap inside same ∙ ap (λ r. r.1) entry in
    let nodes : s.frame.nodes ≡ outer = ap (λ z. z.frame.nodes) same ∙ ap (λ r. r.0) entry in
    record {
      value = x;
      state = t;
      walk = subst (λ z. p z ≡ Ok (x, t)) (sym state) walk;
      is = ap (f x) (ap (λ r. r.0) exit) ∙ is;
      back = ap (λ m. behind m s.frame.nodes t) count ∙ ap (λ ws. behind n ws t) nodes ∙ ap (λ r. r.1) exit;
    }

pub enclosed : {A B : Type 0} (p : Rule State A) (f : A → List Stmt → B) (s : State) (y : B) (new : State) →
    enclose p f s ≡ Ok (y, new) → Enclosed p f s y new
enclosed p f s y new e =
    let d = ran depth (λ n. enter >>= (λ outer. p >>= (λ x. leave n outer >>= (λ vs. pure (f x vs))))) s y new e in
    let i = ran enter (λ outer. p >>= (λ x. leave d.value outer >>= (λ vs. pure (f x vs)))) d.state y new d.next in
    let w = ran p (λ x. leave d.value i.value >>= (λ vs. pure (f x vs))) i.state y new i.next in
    let l = followed (leave d.value i.value) (λ vs. f w.value vs) w.state y new w.next in
    enclosed_by p f s d.state i.state w.state new d.value i.value l.value w.value y
    (pure_same (length s.scopes) d.value s d.state d.first) (pure_value (length s.scopes) d.value s d.state d.first)
    (enter_gives d.state i.state i.value i.first) w.first (leave_gives d.value i.value w.state new l.value l.walk) l.is

-- ---- switches

abbrev pub paired : List Stmt → List Stmt → List Stmt × List Stmt
paired xs vs = (vs, xs)

pub record SwitchRan (line : ℕ) (c : Node) (items : List Item) (a : Standing) (s : State) (xs : List Stmt) (new : State)
    : Type 0 where
  pub operand : Operand
  pub first : State
  pub walk : c.walk a.stage s ≡ Ok (operand, first)
  pub last : State
  pub vs : List Stmt
  pub nodes : List Stmt
  pub body : Enclosed (each items (statements.switched a)) paired (with_labels labels.new first) (vs, nodes) last
  pub state : with_labels first.labels last ≡ new
  pub test : Expr
  pub gives : statements.switched_node line operand ≡ Ok test
  pub is : st.Switch test vs nodes ∷ [] ≡ xs

switch_entry : (s t : State) (l : Labels) → switch_entered s ≡ Ok (l, t) →
    ◌≡◌ {A = Labels × State} (s.labels, with_labels labels.new s) (l, t)
unfolding switch_entered
switch_entry s t l e = ok_same (s.labels, with_labels labels.new s) (l, t) e

switch_entered_by : (items : List Item) (a : Standing) (s t : State) (l : Labels) (p : List Stmt × List Stmt)
    (q : List Stmt × List Stmt) (last new : State) →
    ◌≡◌ {A = Labels × State} (s.labels, with_labels labels.new s) (l, t)
    → rules.switch_block items a t ≡ Ok (p, last) →
    ◌≡◌ {A = (List Stmt × List Stmt) × State} (p, with_labels l last) (q, new) →
    rules.switch_block items a (with_labels labels.new s) ≡ Ok (q, last)
switch_entered_by items a s t l p q last new entry walk exit =
    ap (rules.switch_block items a) (ap (λ r. r.1) entry) ∙ walk ∙ ap (λ r. Ok (r.0, last)) exit

switch_left : (s t last new : State) (l : Labels) (p q : List Stmt × List Stmt) →
    ◌≡◌ {A = Labels × State} (s.labels, with_labels labels.new s) (l, t) →
    ◌≡◌ {A = (List Stmt × List Stmt) × State} (p, with_labels l last) (q, new) → with_labels s.labels last ≡ new
switch_left s t last new l p q entry exit = ap (λ r. with_labels r.0 last) entry ∙ ap (λ r. r.1) exit

pub switch_ran : (line : ℕ) (c : Node) (items : List Item) (a : Standing) (s : State) (xs : List Stmt) (new : State) →
    rules.switch line c items a s ≡ Ok (xs, new) → SwitchRan line c items a s xs new
unfolding switch_node
switch_ran line c items a s xs new e =
    let r = ran (c.walk a.stage) (λ o. rules.labelled_block items a >>= (λ p. lift (switch_node line o p.0 p.1))) s xs
    new e in
    let j = judged (rules.labelled_block items a) (λ p. switch_node line r.value p.0 p.1) r.state xs new r.next in
    let i = ran switch_entered (λ outer. rules.switch_block items a >>= (λ p z. Ok (p, with_labels outer z))) r.state
    j.value new j.walk in
    let b = ran (rules.switch_block items a) (λ p z. Ok (p, with_labels i.value z)) i.state j.value new i.next in
    let entry = switch_entry r.state i.state i.value i.first in
    let exit : ◌≡◌ {A = (List Stmt × List Stmt) × State} (b.value, with_labels i.value b.state) (j.value, new) =
    ok_same (b.value, with_labels i.value b.state) (j.value, new) b.next in
    let w = switch_entered_by items a r.state i.state i.value b.value j.value b.state new entry b.first exit in
    let g = gave (statements.switched_node line r.value) (λ t. statements.one (st.Switch t j.value.0 j.value.1)) xs
    j.gives in
    record {
      operand = r.value;
      first = r.state;
      walk = r.first;
      last = b.state;
      vs = j.value.0;
      nodes = j.value.1;
      body = enclosed (each items (statements.switched a)) paired (with_labels labels.new r.state) j.value b.state w;
      state = switch_left r.state i.state b.state new i.value b.value j.value entry exit;
      test = g.value;
      gives = g.gives;
      is = g.is;
    }
