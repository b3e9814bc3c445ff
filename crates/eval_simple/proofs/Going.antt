-- What is still to come where an expression was evaluated at once.
use Rattle.std.proofs.Common.{◌≡◌, ◌<◌, ◌≤◌, ℕ, Option, Some, None, IfOk, MatchOption, ap, sym, subst, ◌∙◌, arith}
use Rattle.std.proofs.Common as std
use Rattle.staged_meaning.specs.Meaning.{eval}
use Rattle.staged_meaning.specs.World.{Result}
use Rattle.typed_tree.specs.Nodes.{Expr}
use Rattle.eval_state.specs.Pending.{Frame}
use Rattle.eval_state.specs.Pending as pending
use Rattle.eval_state.specs.Rest.{Signal, valued, after}
use Rattle.eval_state.specs.declared.parts.Now as code
use Rattle.eval_state.specs.declared.state.Parts.{Parts}
use Rattle.eval_state.specs.Less.{heft}
use Rattle.eval_state.specs.Views.{now_view}
use Rattle.eval_state.specs.Run.{Run, run_of, here, world, leads, outcome}
use Rattle.eval_state.specs.Steps.{taken}
use Rattle.eval_simple.specs.Simple.{IsDone}

-- ---- what was found at once

pub done : (o : Option ℕ) (e : Expr) (p q : Parts) (v : ℕ)
    → MatchOption o (q ≡ p) (λ v. IsDone e v (run_of p) (run_of q))
    → o ≡ Some v → IsDone e v (run_of p) (run_of q)
done o e p q v h is = subst (λ o. MatchOption o (q ≡ p) (λ v. IsDone e v (run_of p) (run_of q))) is h

pub undone : (o : Option ℕ) (e : Expr) (p q : Parts) → MatchOption o (q ≡ p) (λ v. IsDone e v (run_of p) (run_of q))
    → o ≡ None → q ≡ p
undone o e p q h is = subst (λ o. MatchOption o (q ≡ p) (λ v. IsDone e v (run_of p) (run_of q))) is h

-- its value is there
pub value_is_there : (r s : Run) (e : Expr) (v : ℕ) → IsDone e v r s
    → outcome (pending.Value v) s ≡ outcome (pending.Eval e) r
unfolding IsDone
value_is_there r s e v h = ap (outcome (pending.Value v)) h.0 ∙ ap (λ x. leads r (valued x)) (sym h.1)

-- what would wait for it takes it
pub takes : (r s : Run) (e : Expr) (v : ℕ) (f : Frame) → IsDone e v r s
    → taken f v s ≡ leads r (after (here r) f (valued (eval (here r) e (world r))))
unfolding IsDone taken
takes r s e v f h = ap (taken f v) h.0 ∙ ap (λ x. leads r (after (here r) f (valued x))) (sym h.1)

-- units were spent
pub spends : (r s : Run) (e : Expr) (v : ℕ) → IsDone e v r s → s.state.units < r.state.units
unfolding IsDone
spends r s e v h = h.2

pub spends_most : (r s : Run) (e : Expr) (v : ℕ) → IsDone e v r s → s.state.units ≤ r.state.units
spends_most r s e v h = omega (arith, spends r s e v h)

-- so nothing need be lighter
pub never : (r s : Run) (e : Expr) (v u x y : ℕ) → IsDone e v r s → u ≤ s.state.units → u ≡ r.state.units → x < y
never r s e v u x y h most same = omega (arith, spends r s e v h, most, same)

-- ---- where nothing was done, something else leads on

pub still : {E : Type 0} (result : std.Result code.Now E) (p q : Parts) (t : Run) (x : Run → Result Signal) → q ≡ p
    → IfOk result (λ n. outcome (now_view n) t ≡ x (run_of q))
    → IfOk result (λ n. outcome (now_view n) t ≡ x (run_of p))
still result p q t x h k = subst (λ p. IfOk result (λ n. outcome (now_view n) t ≡ x (run_of p))) h k

pub still_units : {E : Type 0} (result : std.Result code.Now E) (p q : Parts) (t : Run) → q ≡ p
    → IfOk result (λ n. t.state.units ≤ (run_of q).state.units)
    → IfOk result (λ n. t.state.units ≤ (run_of p).state.units)
still_units result p q t h k = subst (λ p. IfOk result (λ n. t.state.units ≤ (run_of p).state.units)) h k

pub still_less : {E : Type 0} (result : std.Result code.Now E) (p q : Parts) (t : Run) (y : Run → ℕ) → q ≡ p
    → IfOk result (λ n. t.state.units ≡ (run_of q).state.units → heft (now_view n) t < y (run_of q))
    → IfOk result (λ n. t.state.units ≡ (run_of p).state.units → heft (now_view n) t < y (run_of p))
still_less result p q t y h k =
    subst (λ p. IfOk result (λ n. t.state.units ≡ (run_of p).state.units → heft (now_view n) t < y (run_of p))) h k

-- ---- what a call leads to

-- where that is the same as something else
pub same_as : {E : Type 0} (result : std.Result code.Now E) (t : Run) (x y : Result Signal)
    → IfOk result (λ n. outcome (now_view n) t ≡ x) → x ≡ y → IfOk result (λ n. outcome (now_view n) t ≡ y)
same_as result t x y h k = subst (λ z. IfOk result (λ n. outcome (now_view n) t ≡ z)) k h

-- and where something was done before
pub lighter_yet : {E : Type 0} (result : std.Result code.Now E) (r t u : Run) (x y : ℕ)
    → t.state.units ≤ r.state.units → (t.state.units ≡ r.state.units → x ≤ y)
    → IfOk result (λ n. u.state.units ≤ t.state.units)
    → IfOk result (λ n. u.state.units ≡ t.state.units → heft (now_view n) u < x)
    → IfOk result (λ n. u.state.units ≡ r.state.units → heft (now_view n) u < y)
lighter_yet (std.Ok n) r t u x y most less units h = λ same.
    let still : t.state.units ≡ r.state.units = omega (arith, most, units, same) in
    let last : u.state.units ≡ t.state.units = omega (arith, most, units, same) in
    omega (arith, less still, h last)
lighter_yet (std.Err e) r t u x y most less units h = h
