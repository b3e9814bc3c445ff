-- Steps of an evaluation, one behind another.
use Rattle.std.proofs.Common.{◌≡◌, ◌≤◌, ◌<◌, ◌+◌, ℕ, IfOk, ap, sym, subst, ◌∙◌, arith}
use Rattle.std.proofs.Common as std
use Rattle.typed_tree.specs.Nodes.{Expr}
use Rattle.staged_meaning.specs.World.{World, Result, spend}
use Rattle.eval_state.specs.Pending.{Frame, Now}
use Rattle.eval_state.specs.Rest.{Signal, after, doing, spent, valued}
use Rattle.eval_state.specs.declared.parts.Now as code
use Rattle.eval_state.specs.declared.state.Parts.{Parts}
use Rattle.eval_state.specs.Less.{heft, waiting}
use Rattle.eval_state.specs.Run.{Run, here, in_world, leads, outcome, run_of, world}
use Rattle.eval_state.specs.Views.{now_view}
use Rattle.eval_simple.specs.Simple.{IsDone}
use Rattle.eval_simple.specs.Stepped.{IsPushed, IsStep}
use Rattle.eval_simple.proofs.Going as going

-- ---- what a step says, where memory sufficed

pub same_of : {E : Type 0} (result : std.Result code.Now E) (b : Result Signal) (m : ℕ) (r t : Run)
    → IfOk result (λ n. IsStep b m (now_view n) r t) → IfOk result (λ n. outcome (now_view n) t ≡ b)
same_of (std.Ok n) b m r t h = h.same
same_of (std.Err x) b m r t h = h

pub units_of : {E : Type 0} (result : std.Result code.Now E) (b : Result Signal) (m : ℕ) (r t : Run)
    → IfOk result (λ n. IsStep b m (now_view n) r t) → IfOk result (λ n. t.state.units ≤ r.state.units)
units_of (std.Ok n) b m r t h = h.units
units_of (std.Err x) b m r t h = h

pub less_of : {E : Type 0} (result : std.Result code.Now E) (b : Result Signal) (m : ℕ) (r t : Run)
    → IfOk result (λ n. IsStep b m (now_view n) r t)
    → IfOk result (λ n. t.state.units ≡ r.state.units → heft (now_view n) t < m)
less_of (std.Ok n) b m r t h = h.less
less_of (std.Err x) b m r t h = h

-- ---- a step that is another

pub step_as : (n : Now) (b c : Result Signal) (m k : ℕ) (r t : Run) → b ≡ c → m ≤ k → IsStep b m n r t →
    IsStep c k n r t
step_as n b c m k r t is most h = record {
  same = h.same ∙ is;
  units = h.units;
  less = λ still. omega (arith, h.less still, most);
}

pub steps_as : {E : Type 0} (result : std.Result code.Now E) (b c : Result Signal) (m k : ℕ) (r t : Run) → b ≡ c → m ≤ k
    → IfOk result (λ n. IsStep b m (now_view n) r t) → IfOk result (λ n. IsStep c k (now_view n) r t)
steps_as (std.Ok n) b c m k r t is most h = step_as (now_view n) b c m k r t is most h
steps_as (std.Err x) b c m k r t is most h = h

-- nothing was done but what is told
pub step_now : (n : Now) (b : Result Signal) (m : ℕ) (r : Run) → outcome n r ≡ b → heft n r < m → IsStep b m n r r
step_now n b m r is less = record { same = is; units = omega arith; less = λ still. less }

-- ---- steps behind what was done at once, which spent units

pub step_behind : (n : Now) (e : Expr) (v : ℕ) (b c : Result Signal) (m k : ℕ) (r t u : Run) → IsDone e v r t → b ≡ c
    → IsStep b m n t u → IsStep c k n r u
step_behind n e v b c m k r t u it is h = record {
  same = h.same ∙ is;
  units = omega (arith, going.spends r t e v it, h.units);
  less = λ still. omega (arith, going.spends r t e v it, h.units, still);
}

pub steps_behind : {E : Type 0} (result : std.Result code.Now E) (e : Expr) (v : ℕ) (b c : Result Signal) (m k : ℕ)
    (r t u : Run) → IsDone e v r t → b ≡ c → IfOk result (λ n. IsStep b m (now_view n) t u)
    → IfOk result (λ n. IsStep c k (now_view n) r u)
steps_behind (std.Ok n) e v b c m k r t u it is h = step_behind (now_view n) e v b c m k r t u it is h
steps_behind (std.Err x) e v b c m k r t u it is h = h

-- and where nothing was done
pub unmoved : {E : Type 0} (result : std.Result code.Now E) (p q : Parts) (P : code.Now → Run → Type 0) → q ≡ p
    → IfOk result (λ n. P n (run_of q)) → IfOk result (λ n. P n (run_of p))
unmoved result p q P h k = subst (λ p. IfOk result (λ n. P n (run_of p))) h k

-- ---- a frame that waits

pub pushes : {E : Type 0} (result : std.Result code.Now E) (f : Frame) (next : Now) (r t : Run)
    → IfOk result (λ n. outcome (now_view n) t ≡ leads r (after (here r) f (doing (here r) next (world r))))
    → IfOk result (λ n. t.state.units ≡ r.state.units)
    → IfOk result (λ n. heft (now_view n) t ≤ heft next r + waiting f r)
    → IfOk result (λ n. IsPushed f next (now_view n) r t)
pushes (std.Ok n) f next r t same units less = record { same = same; units = units; less = less }
pushes (std.Err x) f next r t same units less = same

pub waits : {E : Type 0} (result : std.Result code.Now E) (f : Frame) (next : Now) (c : Result Signal) (k : ℕ)
    (r t : Run) → leads r (after (here r) f (doing (here r) next (world r))) ≡ c → heft next r + waiting f r < k
    → IfOk result (λ n. IsPushed f next (now_view n) r t) → IfOk result (λ n. IsStep c k (now_view n) r t)
waits (std.Ok n) f next c k r t is most h = record {
  same = h.same ∙ is;
  units = omega (arith, h.units);
  less = λ still. omega (arith, h.less, most);
}
waits (std.Err x) f next c k r t is most h = h

pub pushed_same : {E : Type 0} (result : std.Result code.Now E) (f : Frame) (next : Now) (c : Result Signal) (r t : Run)
    → leads r (after (here r) f (doing (here r) next (world r))) ≡ c
    → IfOk result (λ n. IsPushed f next (now_view n) r t) → IfOk result (λ n. outcome (now_view n) t ≡ c)
pushed_same (std.Ok n) f next c r t is h = h.same ∙ is
pushed_same (std.Err x) f next c r t is h = h

pub pushed_units : {E : Type 0} (result : std.Result code.Now E) (f : Frame) (next : Now) (r t : Run)
    → IfOk result (λ n. IsPushed f next (now_view n) r t) → IfOk result (λ n. t.state.units ≤ r.state.units)
pushed_units (std.Ok n) f next r t h = omega (arith, h.units)
pushed_units (std.Err x) f next r t h = h

pub pushed_less : {E : Type 0} (result : std.Result code.Now E) (f : Frame) (next : Now) (r t : Run)
    → IfOk result (λ n. IsPushed f next (now_view n) r t)
    → IfOk result (λ n. t.state.units ≡ r.state.units → heft (now_view n) t ≤ heft next r + waiting f r)
pushed_less (std.Ok n) f next r t h = λ still. h.less
pushed_less (std.Err x) f next r t h = h

-- ---- a step, by what three clauses say

pub parts_below : {E : Type 0} (result : std.Result code.Now E) (b c : Result Signal) (m k : ℕ) (r t : Run) → b ≡ c
    → m ≤ k → IfOk result (λ n. outcome (now_view n) t ≡ b) → IfOk result (λ n. t.state.units ≤ r.state.units)
    → IfOk result (λ n. t.state.units ≡ r.state.units → heft (now_view n) t < m)
    → IfOk result (λ n. IsStep c k (now_view n) r t)
parts_below (std.Ok n) b c m k r t is most same units less =
    record { same = same ∙ is; units = units; less = λ still. omega (arith, less still, most) }
parts_below (std.Err x) b c m k r t is most same units less = same

pub parts_held : {E : Type 0} (result : std.Result code.Now E) (b c : Result Signal) (m k : ℕ) (r t : Run) → b ≡ c
    → m < k → IfOk result (λ n. outcome (now_view n) t ≡ b) → IfOk result (λ n. t.state.units ≤ r.state.units)
    → IfOk result (λ n. t.state.units ≡ r.state.units → heft (now_view n) t ≤ m)
    → IfOk result (λ n. IsStep c k (now_view n) r t)
parts_held (std.Ok n) b c m k r t is most same units less =
    record { same = same ∙ is; units = units; less = λ still. omega (arith, less still, most) }
parts_held (std.Err x) b c m k r t is most same units less = same
