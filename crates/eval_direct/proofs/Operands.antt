-- What comes of an expression: of one that is evaluated at once, of an operator by its parts, and of a variable that is
-- set.
use Rattle.std.proofs.Common.{◌≡◌, ◌≢◌, ℕ, suc, ◌+◌, ◌-◌, [], Option, Some, None}
use Rattle.std.proofs.Common.{refl, ap, sym, subst, ◌∙◌, arith}
use Rattle.host_edge.specs.declared.ending.TrapKind.{TrapKind}
use Rattle.icode_ops.specs.declared.kind.BinKind.{BinKind}
use Rattle.meaning_operators.specs.Values.{binary, unless_trap}
use Rattle.meaning_state.specs.Operators.{bin_trap, bin_value}
use Rattle.typed_tree.specs.declared.expression.Expr as code
use Rattle.typed_tree.specs.Nodes as node
use Rattle.typed_tree.specs.Nodes.{Expr}
use Rattle.typed_tree.specs.View.{expr_view}
use Rattle.staged_meaning.specs.Meaning.{eval, exec}
use Rattle.staged_meaning.specs.World.{World, Result, Gives, spend, unless, with_variable}
use Rattle.eval_state.specs.Less.{loaded}
use Rattle.eval_state.specs.Pending as pending
use Rattle.eval_state.specs.Rest.{Signal, Value, after, left, operated, valued}
use Rattle.eval_state.specs.Run.{Run, here, run_of, world, in_world, with_units}
use Rattle.eval_state.specs.declared.parts.ExpressionFrame.TheVariants as expression
use Rattle.eval_state.specs.declared.parts.Frame.TheVariants as frame
use Rattle.eval_state.specs.declared.parts.Now.TheVariants as now
use Rattle.eval_state.specs.declared.parts.StatementFrame.TheVariants as statement_frame
use Rattle.eval_state.specs.declared.state.Entry.TheVariants as entry
use Rattle.eval_state.specs.declared.state.Parts.{Parts}
use Rattle.eval_state.proofs.Laws as law
use Rattle.eval_state.proofs.Statements as statement
use Rattle.eval_simple.specs.Simple.{IsDone}
use Rattle.eval_direct.specs.Came.{HasMore, HasMoreItems, IsCame, IsWent, Waits}
use Rattle.eval_direct.specs.declared.came.Came.{Came}
use Rattle.eval_direct.specs.declared.came.Came.TheVariants as came
use Rattle.eval_direct.specs.declared.came.Late.{Late}
use Rattle.eval_direct.specs.declared.came.Went.{Went}
use Rattle.eval_direct.specs.declared.came.Went.TheVariants as went
use Rattle.eval_direct.proofs.Waiting.{came_behind, came_waits, waits_now, went_waits}
use denote.Ref.{Bor}

-- ---- what is known of each kind of it

pub waits_of : (late : Late) (r t : Run) (x : Result Signal) (k : ℕ) → IsCame came.Later late r t x k
    → Waits late r t x k
unfolding IsCame
waits_of late r t x k h = h

pub none_waits : (v : ℕ) (late : Late) (r t : Run) (x : Result Signal) (k : ℕ) → IsCame (came.Value v) late r t x k
    → late.entries ≡ []
unfolding IsCame
none_waits v late r t x k h = h.0.0

pub no_memory : (late : Late) (r t : Run) (x : Result Signal) (k : ℕ) → IsCame came.NoMemory late r t x k
unfolding IsCame
no_memory late r t x k = tt

pub no_memory_is : (c : Came) (late : Late) (r t : Run) (x : Result Signal) (k : ℕ) → c ≡ came.NoMemory
    → IsCame c late r t x k
no_memory_is c late r t x k is = subst (λ c. IsCame c late r t x k) (sym is) (no_memory late r t x k)

pub no_memory_of_statement : (late : Late) (r t : Run) (x : Result Signal) (k : ℕ) → IsWent went.NoMemory late r t x k
unfolding IsWent
no_memory_of_statement late r t x k = tt

-- what was answered is that it can't go on
pub came_is : (c : Came) (late : Late) (r t : Run) (x : Result Signal) (k : ℕ) → c ≡ came.Later
    → IsCame came.Later late r t x k → IsCame c late r t x k
came_is c late r t x k is h = subst (λ c. IsCame c late r t x k) (sym is) h

pub went_is : (c : Went) (late : Late) (r t : Run) (x : Result Signal) (k : ℕ) → c ≡ went.Later
    → IsWent went.Later late r t x k → IsWent c late r t x k
went_is c late r t x k is h = subst (λ c. IsWent c late r t x k) (sym is) h

-- evaluated at once
pub came_done : (late : Late) (e : Expr) (v : ℕ) (r t : Run) (k : ℕ) → late.entries ≡ [] → IsDone e v r t
    → IsCame (came.Value v) late r t (valued (eval (here r) e (world r))) k
unfolding IsCame IsDone
came_done late e v r t k none h = ((none, h.0), ap valued h.1, h.2)

-- or left as it is
pub came_later : (late : Late) (e : Bor code.Expr) (r : Run) → late.next ≡ now.Eval e → late.entries ≡ []
    → IsCame came.Later late r r (valued (eval (here r) (expr_view e.now) (world r)))
    (loaded (pending.Eval (expr_view e.now)) r)
unfolding IsCame
came_later late e r next none =
    waits_now late (now.Eval e) r (valued (eval (here r) (expr_view e.now) (world r)))
    (loaded (pending.Eval (expr_view e.now)) r) next none refl (omega arith)

-- ---- behind a value, which spent a unit

pub came_then : (c : Came) (first late : Late) (v : ℕ) (r s t : Run) (x z y : Result Signal) (k m n : ℕ)
    → IsCame (came.Value v) first r s x k → IsCame c late s t z m → z ≡ y → IsCame c late r t y n
unfolding IsCame
came_then c first late v r s t x z y k m n h g same =
    came_behind c late r s t z y m n g h.0.1 same (omega (arith, h.2)) (λ e. absurd (omega (arith, h.2, e)))

-- ---- an operator on two operands

abbrev sum : BinKind → Expr → Expr → Run → Result Signal
sum kind a b r = valued (eval (here r) (node.Bin kind a b) (world r))

abbrev second_of : BinKind → Expr → ℕ → Run → Result Signal
second_of kind b x r = after (here r) (pending.First kind b) (Gives (Value x) (world r))

pub first_waits : (c : Came) (late more : Late) (kind : BinKind) (a : Expr) (b : Bor code.Expr) (r t : Run)
    → HasMore c (entry.Inside (frame.Expression (expression.First kind b))) late more
    → IsCame came.Later late r t (valued (eval (here r) a (world r))) (loaded (pending.Eval a) r)
    → IsCame c more r t (sum kind a (expr_view b.now) r) (loaded (pending.Eval (node.Bin kind a (expr_view b.now))) r)
first_waits c late more kind a b r t h w =
    came_waits c late more (frame.Expression (expression.First kind b)) r t (valued (eval (here r) a (world r)))
    (sum kind a (expr_view b.now) r) (loaded (pending.Eval a) r)
    (loaded (pending.Eval (node.Bin kind a (expr_view b.now))) r) h
    (waits_of late r t (valued (eval (here r) a (world r))) (loaded (pending.Eval a) r) w)
    (law.first (here r) kind a (expr_view b.now) (world r)) (omega arith)

pub first_came : (c : Came) (first late : Late) (kind : BinKind) (a b : Expr) (x : ℕ) (r s t : Run)
    → IsCame (came.Value x) first r s (valued (eval (here r) a (world r))) (loaded (pending.Eval a) r)
    → IsCame c late s t (second_of kind b x s) (loaded (pending.Eval b) s + 2)
    → IsCame c late r t (sum kind a b r) (loaded (pending.Eval (node.Bin kind a b)) r)
unfolding IsCame
first_came c first late kind a b x r s t h g =
    came_then c first late x r s t (valued (eval (here r) a (world r))) (second_of kind b x s) (sum kind a b r)
    (loaded (pending.Eval a) r) (loaded (pending.Eval b) s + 2) (loaded (pending.Eval (node.Bin kind a b)) r) h g
    (ap (λ (s : Run). after (here s) (pending.First kind b) (Gives (Value x) (world s))) h.0.1
    ∙ ap (after (here r) (pending.First kind b)) (sym h.1)
    ∙ law.first (here r) kind a b (world r))

pub second_waits : (c : Came) (late more : Late) (kind : BinKind) (b : Expr) (x : ℕ) (r t : Run)
    → HasMore c (entry.Inside (frame.Expression (expression.Second kind x))) late more
    → IsCame came.Later late r t (valued (eval (here r) b (world r))) (loaded (pending.Eval b) r)
    → IsCame c more r t (second_of kind b x r) (loaded (pending.Eval b) r + 2)
second_waits c late more kind b x r t h w =
    came_waits c late more (frame.Expression (expression.Second kind x)) r t (valued (eval (here r) b (world r)))
    (second_of kind b x r) (loaded (pending.Eval b) r) (loaded (pending.Eval b) r + 2) h
    (waits_of late r t (valued (eval (here r) b (world r))) (loaded (pending.Eval b) r) w)
    (law.second (here r) kind b x (world r)) (omega arith)

pub second_came : (c : Came) (first late : Late) (kind : BinKind) (b : Expr) (x y : ℕ) (r s t : Run)
    → IsCame (came.Value y) first r s (valued (eval (here r) b (world r))) (loaded (pending.Eval b) r)
    → IsCame c late s t (valued (operated kind x y (world s))) 3
    → IsCame c late r t (second_of kind b x r) (loaded (pending.Eval b) r + 2)
unfolding IsCame
second_came c first late kind b x y r s t h g =
    came_then c first late y r s t (valued (eval (here r) b (world r))) (valued (operated kind x y (world s)))
    (second_of kind b x r) (loaded (pending.Eval b) r) 3 (loaded (pending.Eval b) r + 2) h g
    (ap (after (here r) (pending.Second kind x)) (sym h.1) ∙ law.second (here r) kind b x (world r))

-- both are there: an operator that has no value goes step by step
pub operator_waits : (c : Came) (late more : Late) (kind : BinKind) (x y : ℕ) (r : Run)
    → late.next ≡ now.Value y → late.entries ≡ []
    → HasMore c (entry.Inside (frame.Expression (expression.Second kind x))) late more
    → IsCame c more r r (valued (operated kind x y (world r))) 3
operator_waits c late more kind x y r next none h =
    came_waits c late more (frame.Expression (expression.Second kind x)) r r (Gives (Value y) (world r))
    (valued (operated kind x y (world r))) 1 3 h
    (waits_now late (now.Value y) r (Gives (Value y) (world r)) 1 next none refl (omega arith)) refl (omega arith)

value_is : (t : Option TrapKind) (u v : ℕ) (w : World) → Some v ≡ unless_trap t u
    → valued (spend v w) ≡ valued (unless t w (spend u w))
value_is None u v w h = ap (λ n. valued (spend n w)) (same h)
  where
    same : Some v ≡ Some u → v ≡ u
    same e = cc
value_is (Some kind) u v w h = absurd (cc)

pub operator_came : (c : Came) (late : Late) (kind : BinKind) (x y v : ℕ) (r t : Run) → Some v ≡ binary kind x y
    → IsCame c late r t (valued (spend v (world r))) 1 → IsCame c late r t (valued (operated kind x y (world r))) 3
operator_came c late kind x y v r t is h =
    came_behind c late r r t (valued (spend v (world r))) (valued (operated kind x y (world r))) 1 3 h refl
    (value_is (bin_trap kind x y) (bin_value kind x y) v (world r) is) (omega arith) (λ e. omega arith)

-- ---- a value whose unit is spent

pub unit_spent : (late : Late) (v : ℕ) (r t : Run) → late.entries ≡ [] → (world r).units ≢ 0
    → t ≡ with_units ((world r).units - 1) r → IsCame (came.Value v) late r t (valued (spend v (world r))) 1
unfolding IsCame
unit_spent late v r t none some is =
    let n = (world r).units - 1 in
    let left : (world r).units ≡ suc n = omega (arith, some) in (
      (none, is ∙ ap (λ (t : Run). in_world (world t) r) (sym is)),
      ap (λ u. valued (spend v (record (world r) { units = u }))) left
          ∙ ap (λ (t : Run). Gives (Value v) (world t)) (sym is),
      omega (arith, some, ap (λ (t : Run). t.state.units) is),
    )

pub no_unit : (late : Late) (v : ℕ) (r : Run) → late.next ≡ now.Stopped → late.entries ≡ [] → (world r).units ≡ 0
    → IsCame came.Later late r r (valued (spend v (world r))) 1
unfolding IsCame
no_unit late v r next none units =
    waits_now late now.Stopped r (valued (spend v (world r))) 1 next none
    (ap (λ u. valued (spend v (record (world r) { units = u }))) (sym units)) (omega arith)

-- the same, of the state that is left as it was
pub no_unit_left : (late : Late) (v : ℕ) (p q : Parts) → late.next ≡ now.Stopped → late.entries ≡ []
    → ((world (run_of p)).units ≡ 0) × (q ≡ p)
    → IsCame came.Later late (run_of p) (run_of q) (valued (spend v (world (run_of p)))) 1
no_unit_left late v p q next none h =
    subst (λ q. IsCame came.Later late (run_of p) (run_of q) (valued (spend v (world (run_of p)))) 1) (sym h.1)
    (no_unit late v (run_of p) next none h.0)

-- ---- a variable that is set

abbrev set_to : ℕ → Expr → Run → Result Signal
set_to i a r = valued (eval (here r) (node.SetVar i a) (world r))

pub setting_waits : (c : Came) (late more : Late) (i : ℕ) (a : Expr) (r t : Run)
    → HasMore c (entry.Inside (frame.Expression (expression.SetVar i))) late more
    → IsCame came.Later late r t (valued (eval (here r) a (world r))) (loaded (pending.Eval a) r)
    → IsCame c more r t (set_to i a r) (loaded (pending.Eval (node.SetVar i a)) r)
setting_waits c late more i a r t h w =
    came_waits c late more (frame.Expression (expression.SetVar i)) r t (valued (eval (here r) a (world r)))
    (set_to i a r) (loaded (pending.Eval a) r) (loaded (pending.Eval (node.SetVar i a)) r) h
    (waits_of late r t (valued (eval (here r) a (world r))) (loaded (pending.Eval a) r) w)
    (law.set_var (here r) i a (world r)) (omega arith)

pub setting_came : (c : Came) (first late : Late) (i : ℕ) (a : Expr) (v : ℕ) (r s u t : Run)
    → IsCame (came.Value v) first r s (valued (eval (here r) a (world r))) (loaded (pending.Eval a) r)
    → u ≡ in_world (with_variable i v (world s)) s
    → IsCame c late u t (valued (spend v (world u))) 1
    → IsCame c late r t (set_to i a r) (loaded (pending.Eval (node.SetVar i a)) r)
unfolding IsCame
setting_came c first late i a v r s u t h set g =
    came_then c first late v r s t (valued (eval (here r) a (world r)))
    (valued (spend v (with_variable i v (world s)))) (set_to i a r) (loaded (pending.Eval a) r) 1
    (loaded (pending.Eval (node.SetVar i a)) r) h
    (came_behind c late s u t (valued (spend v (world u))) (valued (spend v (with_variable i v (world s)))) 1 1 g
    (set ∙ ap (λ (u : Run). in_world (world u) s) (sym set)) (ap (λ (u : Run). valued (spend v (world u))) set)
    (omega (arith, ap (λ (u : Run). u.state.units) set)) (λ e. omega arith))
    (ap (after (here r) (pending.SetVar i)) (sym h.1) ∙ law.set_var (here r) i a (world r))

-- ---- a value that is returned

abbrev returning : Expr → Run → Result Signal
returning e r = left (exec (here r) (node.ReturnValue e) (world r))

pub return_waits : (c : Went) (late more : Late) (e : Expr) (r t : Run)
    → HasMoreItems c (entry.Inside (frame.Statement statement_frame.Return)) late more
    → IsCame came.Later late r t (valued (eval (here r) e (world r))) (loaded (pending.Eval e) r)
    → IsWent c more r t (returning e r) (loaded (pending.Exec (node.ReturnValue e)) r)
return_waits c late more e r t h w =
    went_waits c late more (frame.Statement statement_frame.Return) r t (valued (eval (here r) e (world r)))
    (returning e r) (loaded (pending.Eval e) r) (loaded (pending.Exec (node.ReturnValue e)) r) h
    (waits_of late r t (valued (eval (here r) e (world r))) (loaded (pending.Eval e) r) w)
    (statement.returns (here r) e (world r)) (omega arith)

pub return_came : (late : Late) (e : Expr) (v : ℕ) (r t : Run)
    → IsCame (came.Value v) late r t (valued (eval (here r) e (world r))) (loaded (pending.Eval e) r)
    → IsWent (went.Returned v) late r t (returning e r) (loaded (pending.Exec (node.ReturnValue e)) r)
unfolding IsCame IsWent
return_came late e v r t h = (
  h.0,
  sym (statement.returns (here r) e (world r)) ∙ ap (after (here r) pending.Return) h.1,
  omega (arith, h.2),
)

-- ---- where nothing was done before

pub came_same : (c : Came) (late : Late) (p q : Parts) (t : Run) (x : Run → Result Signal) (k : Run → ℕ) → q ≡ p
    → IsCame c late (run_of q) t (x (run_of q)) (k (run_of q))
    → IsCame c late (run_of p) t (x (run_of p)) (k (run_of p))
came_same c late p q t x k same h = subst (λ p. IsCame c late (run_of p) t (x (run_of p)) (k (run_of p))) same h
