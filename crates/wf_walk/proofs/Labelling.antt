-- The walk over a label, a return, a break and a continue that gives an answer, taken apart.
use Rattle.std.proofs.Common.{◌≡◌, ℕ, Bool, true, false, ◌&&◌, ◌||◌, List, [], ◌∷◌, ◌++◌, refl, sym, subst, Option}
use Rattle.std.proofs.Common.{Some, None, Ok}
use Rattle.std.specs.Prelude.{if◌then◌else◌}
use Rattle.tick_tree.specs.declared.fault.FaultKind.{FaultKind}
use Rattle.tick_tree.specs.Faults.{refuse}
use Rattle.typed_tree.specs.declared.expression.Expr.{Expr}
use Rattle.typed_tree.specs.declared.expression.Stmt.{Stmt}
use Rattle.typed_tree.specs.declared.expression.Stmt.TheVariants as st
use Rattle.check_operands.specs.declared.operand.Operand.{Operand}
use Rattle.check_operands.specs.Operands.{effect}
use Rattle.meaning_operators.specs.Constants.{constant}
use Rattle.check_rules.specs.Labels as labels
use Rattle.check_rules.specs.Members.{is_member}
use Rattle.check_rules.specs.declared.state.Around.{Around as Standing}
use Rattle.check_rules.specs.declared.state.State.{State}
use Rattle.check_rules.specs.Walks.{◌>>=◌, lift}
use Rattle.check_rules.specs.ExpressionRules.{Node}
use Rattle.check_rules.specs.StatementRules as rules
use Rattle.check_rules.specs.Statements as statements
use Rattle.check_rules.specs.Statements.{return_node, with_labels, case_node, default_node}
use Rattle.wellformed.proofs.Bools.{first_true, second_true}
use Rattle.wf_walk.proofs.Walks.{ran, ok_same, pure_same, pure_value, lifted}
use Rattle.wf_walk.proofs.Runs.{gave}

-- ---- what a test decided

if_ok : {A : Type 0} (b : Bool) (x y : A) (k : FaultKind) (line : ℕ) → (if b then Ok x else refuse k line) ≡ Ok y →
    (b ≡ true) × (x ≡ y)
if_ok true x y k line e = (refl, ok_same x y e)
if_ok false x y k line e = cc

if_not : {A : Type 0} (b : Bool) (x y : A) (k : FaultKind) (line : ℕ) → (if b then refuse k line else Ok x) ≡ Ok y →
    (b ≡ false) × (x ≡ y)
if_not true x y k line e = cc
if_not false x y k line e = (refl, ok_same x y e)

-- ---- jumps

pub record BreakRan (a : Standing) (s : State) (xs : List Stmt) (new : State) : Type 0 where
  pub right : (a.in_loop || a.in_switch) ≡ true
  pub state : s ≡ new
  pub is : st.Break ∷ [] ≡ xs

pub break_ran : (line : ℕ) (a : Standing) (s : State) (xs : List Stmt) (new : State) →
    lift (statements.break_entry line a) s ≡ Ok (xs, new) → BreakRan a s xs new
break_ran line a s xs new e =
    let l = lifted (statements.break_entry line a) s xs new e in
    let i = if_ok (a.in_loop || a.in_switch) (statements.one st.Break) xs _ line l.value in
    record { right = i.0; state = l.state; is = i.1 }

pub record ContinueRan (a : Standing) (s : State) (xs : List Stmt) (new : State) : Type 0 where
  pub right : a.in_loop ≡ true
  pub state : s ≡ new
  pub is : st.Continue ∷ [] ≡ xs

pub continue_ran : (line : ℕ) (a : Standing) (s : State) (xs : List Stmt) (new : State) →
    lift (statements.continue_entry line a) s ≡ Ok (xs, new) → ContinueRan a s xs new
continue_ran line a s xs new e =
    let l = lifted (statements.continue_entry line a) s xs new e in
    let i = if_ok a.in_loop (statements.one st.Continue) xs _ line l.value in
    record { right = i.0; state = l.state; is = i.1 }

-- ---- returns

pub record AnswerRan (line : ℕ) (n : Node) (a : Standing) (s : State) (xs : List Stmt) (new : State) : Type 0 where
  pub operand : Operand
  pub walk : n.walk a.stage s ≡ Ok (operand, new)
  pub code : Expr
  pub gives : statements.returned_by line a.stage operand new ≡ Ok code
  pub is : st.ReturnValue code ∷ [] ≡ xs

pub answer_ran : (line : ℕ) (n : Node) (a : Standing) (s : State) (xs : List Stmt) (new : State) →
    rules.answered line n a s ≡ Ok (xs, new) → AnswerRan line n a s xs new
unfolding return_node
answer_ran line n a s xs new e =
    let r = ran (n.walk a.stage) (λ o z. lift (return_node line a.stage o z) z) s xs new e in
    let l = lifted (return_node line a.stage r.value r.state) r.state xs new r.next in
    let g = gave (statements.returned_by line a.stage r.value r.state) (λ c. statements.one (st.ReturnValue c)) xs
    l.value in
    record {
      operand = r.value;
      walk = subst (λ z. n.walk a.stage s ≡ Ok (r.value, z)) l.state r.first;
      code = g.value;
      gives = subst (λ z. statements.returned_by line a.stage r.value z ≡ Ok g.value) l.state g.gives;
      is = g.is;
    }

-- ---- labels

-- with one value more
abbrev pub with_value : ℕ → State → State
with_value n s = with_labels (record { values = s.labels.values ++ n ∷ []; has_default = s.labels.has_default }) s

abbrev pub with_default : State → State
with_default s = with_labels (record { values = s.labels.values; has_default = true }) s

-- a label that is none of those so far
pub record ValueRan (s : State) (xs : List Stmt) (new : State) : Type 0 where
  pub value : ℕ
  pub fresh : is_member value s.labels.values ≡ false
  pub state : with_value value s ≡ new
  pub is : st.Case value ∷ [] ≡ xs

value_by : (n : ℕ) (s new : State) (xs : List Stmt) (b : Bool) (line : ℕ) (k : FaultKind)
    → is_member n s.labels.values ≡ b
    → statements.labelled (st.Case n) s
    (if b then refuse k line else
    Ok (tt, record { values = s.labels.values ++ n ∷ []; has_default = s.labels.has_default })) ≡ Ok (xs, new)
    → ValueRan s xs new
value_by n s new xs true line k m e = cc
value_by n s new xs false line k m e = record {
  value = n;
  fresh = m;
  state = pure_same (statements.one (st.Case n)) xs (with_value n s) new e;
  is = pure_value (statements.one (st.Case n)) xs (with_value n s) new e;
}

value_ran : (line : ℕ) (n : Option ℕ) (s : State) (xs : List Stmt) (new : State) →
    statements.case_by line n s ≡ Ok (xs, new) → ValueRan s xs new
unfolding labels.case
value_ran line None s xs new e = cc
value_ran line (Some n) s xs new e = value_by n s new xs (is_member n s.labels.values) line _ refl e

pub record CaseRan (n : Node) (a : Standing) (s : State) (xs : List Stmt) (new : State) : Type 0 where
  pub direct : a.is_direct ≡ true
  pub constant : n.written.constant ≡ true
  pub operand : Operand
  pub between : State
  pub walk : n.walk a.stage s ≡ Ok (operand, between)
  pub label : ValueRan between xs new

pub case_ran : (line : ℕ) (n : Node) (a : Standing) (s : State) (xs : List Stmt) (new : State) →
    rules.case line n a s ≡ Ok (xs, new) → CaseRan n a s xs new
unfolding case_node
case_ran line n a s xs new e =
    let f = ran (lift (statements.case_entry line n.written.constant a))
    (λ u. n.walk a.stage >>= (λ o. case_node line o)) s xs new e in
    let l = lifted (statements.case_entry line n.written.constant a) s f.value f.state f.first in
    let i = if_ok (a.is_direct && n.written.constant) tt f.value _ line l.value in
    let r = ran (n.walk a.stage) (λ o. case_node line o) f.state xs new f.next in
    record {
      direct = first_true a.is_direct n.written.constant i.0;
      constant = second_true a.is_direct n.written.constant i.0;
      operand = r.value;
      between = r.state;
      walk = subst (λ z. n.walk a.stage z ≡ Ok (r.value, r.state)) (sym l.state) r.first;
      label = value_ran line (constant (effect r.value)) r.state xs new r.next;
    }

pub record DefaultRan (a : Standing) (s : State) (xs : List Stmt) (new : State) : Type 0 where
  pub direct : a.is_direct ≡ true
  pub fresh : s.labels.has_default ≡ false
  pub state : with_default s ≡ new
  pub is : st.Default ∷ [] ≡ xs

default_by : (a : Standing) (s new : State) (xs : List Stmt) (b : Bool) (line : ℕ) (k : FaultKind)
    → a.is_direct ≡ true → s.labels.has_default ≡ b
    → statements.labelled st.Default s
    (if b then refuse k line else Ok (tt, record { values = s.labels.values; has_default = true })) ≡ Ok (xs, new)
    → DefaultRan a s xs new
default_by a s new xs true line k d m e = cc
default_by a s new xs false line k d m e = record {
  direct = d;
  fresh = m;
  state = pure_same (statements.one st.Default) xs (with_default s) new e;
  is = pure_value (statements.one st.Default) xs (with_default s) new e;
}

default_at : (line : ℕ) (a : Standing) (s new : State) (xs : List Stmt) (b : Bool) (k : FaultKind) → a.is_direct ≡ b
    → (if b then statements.labelled st.Default s (labels.default line s.labels) else refuse k line) ≡ Ok (xs, new) →
    DefaultRan a s xs new
unfolding labels.default
default_at line a s new xs true k d e = default_by a s new xs s.labels.has_default line _ d refl e
default_at line a s new xs false k d e = cc

pub default_ran : (line : ℕ) (a : Standing) (s : State) (xs : List Stmt) (new : State) →
    default_node line a s ≡ Ok (xs, new) → DefaultRan a s xs new
unfolding default_node
default_ran line a s xs new e = default_at line a s new xs a.is_direct _ refl e
