-- The steps of expressions: a value that is there at a unit, and a frame that waits for a part.
use Rattle.std.proofs.Common.{◌≡◌, ◌≤◌, ◌<◌, ◌+◌, ℕ, IfOk, ap, sym, subst, ◌∙◌, arith}
use Rattle.std.proofs.Common as std
use Rattle.staged_meaning.specs.Meaning.{eval}
use Rattle.staged_meaning.specs.World.{World, Result, spend}
use Rattle.eval_state.specs.Pending as pending
use Rattle.eval_state.specs.Pending.{Frame, Now}
use Rattle.eval_state.specs.Rest.{Signal, after, spent, valued}
use Rattle.eval_state.proofs.Laws as law
use Rattle.eval_state.specs.declared.parts.Now as code
use Rattle.eval_state.specs.Less.{heft, waiting}
use Rattle.eval_state.specs.Steps.{begun}
use Rattle.eval_state.specs.Run.{Run, here, in_world, leads, outcome, world}
use Rattle.eval_state.specs.Views.{now_view}
use Rattle.typed_tree.specs.Nodes.{Expr}
use Rattle.eval_simple.specs.Stepped.{IsBegun, IsPushed, IsStep}
use Rattle.eval_simple.proofs.Stepped.{step_as, waits}

-- ---- a value, at a unit

-- what a value leads to that spends a unit first
abbrev pub giving : ℕ → World → Run → Result Signal
giving v w r = leads r (valued (spend v w))

pub gives : (n : Now) (v : ℕ) (r t : Run)
    → outcome n t ≡ leads r (spent (here r) (world r).units (pending.Value v) (world r))
    → t.state.units ≤ r.state.units → (t.state.units ≡ r.state.units → heft n t ≡ 0)
    → IsStep (giving v (world r) r) 1 n r t
gives n v r t is most less = record {
  same = is ∙ ap (leads r) (law.spent_value (here r) (world r).units v (world r));
  units = most;
  less = λ still. omega (arith, less still);
}

-- it is that of a node
pub leaf : (e v : Expr) (x y : ℕ) (n : Now) (r t : Run) → e ≡ v → x ≡ y → giving y (world r) r ≡ begun v r
    → 1 ≤ heft (pending.Eval v) r → IsStep (giving x (world r) r) 1 n r t → IsBegun e n r t
leaf e v x y n r t is value it some h =
    subst (λ q. IsBegun q n r t) (sym is)
    (step_as n (giving x (world r) r) (begun v r) 1 (heft (pending.Eval v) r) r t
    (ap (λ x. giving x (world r) r) value ∙ it) some h)

-- behind a change of the world
pub behind : (n : Now) (v : ℕ) (w : World) (c : Result Signal) (m : ℕ) (r s t : Run) → s ≡ in_world w r
    → w.units ≤ r.state.units → giving v w r ≡ c → 1 ≤ m → IsStep (giving v (world s) s) 1 n s t → IsStep c m n r t
behind n v w c m r s t new most is some h =
    let units : s.state.units ≡ w.units = ap (λ (s : Run). s.state.units) new in
    record {
      same = h.same ∙ ap (λ s. giving v (world s) s) new ∙ is;
      units = omega (arith, h.units, units, most);
      less = λ still. omega (arith, h.less (omega (arith, h.units, units, most, still)), some);
    }

-- ---- a part, for whose value a frame waits

pub record Opens (e a : Expr) (f : Frame) : Type 0 where
  pub same : (r : Run) → leads r (after (here r) f (valued (eval (here r) a (world r)))) ≡ begun e r
  pub less : (r : Run) → heft (pending.Eval a) r + waiting f r < heft (pending.Eval e) r

pub opens : {E : Type 0} (result : std.Result code.Now E) (e v a : Expr) (f : Frame) (r t : Run) → e ≡ v → Opens v a f
    → IfOk result (λ n. IsPushed f (pending.Eval a) (now_view n) r t) → IfOk result (λ n. IsBegun e (now_view n) r t)
opens result e v a f r t is o h =
    subst (λ q. IfOk result (λ n. IsBegun q (now_view n) r t)) (sym is)
    (waits result f (pending.Eval a) (begun v r) (heft (pending.Eval v) r) r t (o.same r) (o.less r) h)

-- ---- what is known of a node

pub begins : {E : Type 0} (result : std.Result code.Now E) (e v : Expr) (r t : Run) → e ≡ v
    → IfOk result (λ n. IsBegun v (now_view n) r t) → IfOk result (λ n. IsBegun e (now_view n) r t)
begins result e v r t is h = subst (λ q. IfOk result (λ n. IsBegun q (now_view n) r t)) (sym is) h
