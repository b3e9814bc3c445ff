-- What comes of a call: its arguments one after another, and the body of a function of the text, behind which the
-- caller's is active again.
use Rattle.std.proofs.Common.{◌≡◌, ◌≢◌, ℕ, suc, ◌+◌, ◌-◌, ◌^◌, ◌<◌, ◌≤◌, List, [], ◌∷◌, ◌++◌, refl, ap}
use Rattle.std.proofs.Common.{sym, subst, ◌∙◌, arith, append_assoc}
use Rattle.typed_tree.specs.declared.expression.Answer.{Answer}
use Rattle.typed_tree.specs.declared.expression.Expr as code
use Rattle.typed_tree.specs.declared.program.Function.{Function}
use Rattle.typed_tree.specs.Nodes as node
use Rattle.typed_tree.specs.Nodes.{Expr, Args, Arg, Stmt}
use Rattle.typed_tree.specs.View.{expr_view, function_view}
use Rattle.staged_meaning.specs.Expressions.{left_by}
use Rattle.staged_meaning.specs.Meaning.{eval, eval_args, exec}
use Rattle.staged_meaning.specs.Size.{charge_of}
use Rattle.staged_meaning.specs.World.{World, Result, Gives, Returns, Normal, Stops, spend, then_do}
use Rattle.eval_state.specs.Burden.{capture_weight, weight_of_args}
use Rattle.eval_state.specs.Grown.{with_caller}
use Rattle.eval_state.specs.Kept.{body_view}
use Rattle.eval_state.specs.Late.{IsCallee, function_body, out_of, with_body}
use Rattle.eval_state.specs.Less.{loaded}
use Rattle.eval_state.specs.Pending as pending
use Rattle.eval_state.specs.Rest.{Signal, Value, Left, after, left, on_value, resumed, spent, targeted, valued}
use Rattle.eval_state.specs.Run.{Run, here, run_of, world, in_world, with_units}
use Rattle.eval_state.specs.Views.{args_view}
use Rattle.eval_state.specs.declared.parts.ExpressionFrame.TheVariants as expression
use Rattle.eval_state.specs.declared.parts.Frame.TheVariants as frame
use Rattle.eval_state.specs.declared.parts.Now.TheVariants as now
use Rattle.eval_state.specs.declared.parts.Target.TheVariants as target
use Rattle.eval_state.specs.declared.state.Body.{Body}
use Rattle.eval_state.specs.declared.state.Entry.TheVariants as entry
use Rattle.eval_state.specs.declared.state.Parts.{Parts}
use Rattle.eval_state.proofs.Bodies.{comes_back, enters_call, enters_out, enters_units}
use Rattle.eval_state.proofs.Laws as law
use Rattle.eval_state.proofs.Waits.{stays_within}
use Rattle.eval_state.specs.Sound.{calls}
use Rattle.eval_direct.specs.Came.{HasMore, IsCame, IsWent, Waits}
use Rattle.eval_direct.specs.declared.came.Came.{Came}
use Rattle.eval_direct.specs.declared.came.Came.TheVariants as came
use Rattle.eval_direct.specs.declared.came.Late.{Late}
use Rattle.eval_direct.specs.declared.came.Went.TheVariants as went
use Rattle.eval_direct.proofs.Waiting.{came_behind, came_waits, waits_call, waits_now}
use denote.Ref.{Bor}

-- ---- a call by the run within its body

-- what the call comes to
abbrev pub ends_as : Answer → (charge : ℕ) → Body → Stmt → Run → Result Signal
ends_as a charge caller s u =
    after (here u) (pending.Called a charge (body_view [] caller))
    (spent (here u) (world u).units (pending.Exec s) (world u))

call_waits : (c : Came) (late more : Late) (a : Answer) (charge : ℕ) (caller : Body) (r t : Run)
    (x whole : Result Signal) (k n : ℕ)
    → HasMore c (entry.Called a charge caller) late more → Waits late r t x k → caller.row ≡ 0
    → after (here r) (pending.Called a charge (body_view [] caller)) x ≡ whole → k + 2 ≤ n
    → IsCame c more (out_of (body_view [] caller) r) t whole n
unfolding IsCame
call_waits (came.Value v) late more a charge caller r t x whole k n h w row same light = absurd h
call_waits came.Later late more a charge caller r t x whole k n h w row same light =
    waits_call late more a charge caller r t x whole k n w h.0 h.1 row same light
call_waits came.NoMemory late more a charge caller r t x whole k n h w row same light = tt

-- no unit is left for it
pub body_stops : (c : Came) (late more : Late) (a : Answer) (charge : ℕ) (caller : Body) (s : Stmt) (u : Run)
    → late.next ≡ now.Stopped → late.entries ≡ [] → HasMore c (entry.Called a charge caller) late more
    → caller.row ≡ 0 → (world u).units ≡ 0
    → IsCame c more (out_of (body_view [] caller) u) u (ends_as a charge caller s u) 4
body_stops c late more a charge caller s u next none h row units =
    call_waits c late more a charge caller u u (Stops (world u).shared) (ends_as a charge caller s u) 1 4 h
    (waits_now late now.Stopped u (Stops (world u).shared) 1 next none refl (omega arith)) row
    (ap (λ n. after (here u) (pending.Called a charge (body_view [] caller))
    (spent (here u) n (pending.Exec s) (world u))) (sym units)) (omega arith)

module _ (a : Answer) (charge : ℕ) (caller : Body) (s : Stmt) (u v : Run) (some : (world u).units ≢ 0)
    (is : v ≡ with_units ((world u).units - 1) u) where
  -- its unit is spent
  abbrev begins : Result Signal
  begins = left (exec (here v) s (world v))

  starts : after (here v) (pending.Called a charge (body_view [] caller)) begins ≡ ends_as a charge caller s u
  starts =
      let n = (world u).units - 1 in
      let one : (world u).units ≡ suc n = omega (arith, some) in
      ap (λ (v : Run). after (here v) (pending.Called a charge (body_view [] caller))
      (left (exec (here v) s (world v)))) is
      ∙ ap (λ k. after (here u) (pending.Called a charge (body_view [] caller))
      (spent (here u) k (pending.Exec s) (world u))) (sym one)

  within : out_of (body_view [] caller) v
      ≡ in_world (world (out_of (body_view [] caller) v)) (out_of (body_view [] caller) u)
  within =
      ap (out_of (body_view [] caller)) is
      ∙ ap (λ (v : Run). in_world (world (out_of (body_view [] caller) v)) (out_of (body_view [] caller) u)) (sym is)

  fewer : v.state.units < u.state.units
  fewer = omega (arith, some, ap (λ (v : Run). v.state.units) is)

  -- its body waits
  pub body_waits : (c : Came) (late more : Late) (t : Run) (k : ℕ)
      → HasMore c (entry.Called a charge caller) late more → caller.row ≡ 0
      → IsWent went.Later late v t begins k
      → IsCame c more (out_of (body_view [] caller) u) t (ends_as a charge caller s u) 4
  unfolding IsWent
  body_waits c late more t k h row w =
      came_behind c more (out_of (body_view [] caller) u) (out_of (body_view [] caller) v) t
      (after (here v) (pending.Called a charge (body_view [] caller)) begins) (ends_as a charge caller s u) (k + 2) 4
      (call_waits c late more a charge caller v t begins
      (after (here v) (pending.Called a charge (body_view [] caller)) begins) k (k + 2) h w row refl (omega arith))
      within starts (omega (arith, fewer)) (λ e. absurd (omega (arith, fewer, e)))

  -- its body was left with a value
  module _ (c : Came) (first late : Late) (w t : Run) (value : ℕ) where
    abbrev resumes : Result Signal
    resumes = valued (spend (left_by a value) (resumed (body_view [] caller) charge w.state.body.object (world w)))

    ended : (x : Result Signal) → w ≡ in_world (world w) v → w.state.units ≤ v.state.units → begins ≡ x
        → after (here u) (pending.Called a charge (body_view [] caller)) x ≡ valued (spend (left_by a value)
        (resumed (body_view [] caller) charge (here u).object (world w)))
        → IsCame c late (out_of (body_view [] caller) w) t resumes 1
        → IsCame c late (out_of (body_view [] caller) u) t (ends_as a charge caller s u) 4
    ended x through most same ends g =
        came_behind c late (out_of (body_view [] caller) u) (out_of (body_view [] caller) w) t resumes
        (ends_as a charge caller s u) 1 4 g
        (ap (out_of (body_view [] caller)) through
        ∙ ap (λ (v : Run). out_of (body_view [] caller) (in_world (world w) v)) is)
        (ap (λ (r : Run). valued (spend (left_by a value)
        (resumed (body_view [] caller) charge r.state.body.object (world w))))
        (through ∙ ap (in_world (world w)) is)
        ∙ sym ends
        ∙ ap (after (here u) (pending.Called a charge (body_view [] caller))) (sym same)
        ∙ ap (λ (r : Run). after (here r) (pending.Called a charge (body_view [] caller)) begins) (sym is)
        ∙ starts)
        (omega (arith, most, fewer)) (λ e. absurd (omega (arith, most, fewer, e)))

    pub body_returns : (k : ℕ) → IsWent (went.Returned value) first v w begins k
        → IsCame c late (out_of (body_view [] caller) w) t resumes 1
        → IsCame c late (out_of (body_view [] caller) u) t (ends_as a charge caller s u) 4
    unfolding IsWent
    body_returns k h g = ended (Returns value (world w)) h.0.1 h.2 h.1 refl g

    pub body_ends : (k : ℕ) → value ≡ 0 → IsWent went.Through first v w begins k
        → IsCame c late (out_of (body_view [] caller) w) t resumes 1
        → IsCame c late (out_of (body_view [] caller) u) t (ends_as a charge caller s u) 4
    unfolding IsWent
    body_ends k nothing h g =
        ended (Gives (Left Normal) (world w)) h.0.1 h.2 h.1
        (ap (λ n. valued (spend (left_by a n) (resumed (body_view [] caller) charge (here u).object (world w))))
        (sym nothing)) g

-- ---- the same of the state, with the charge as it was computed

pub body_stopped : (c : Came) (late more : Late) (a : Answer) (charge given : ℕ) (caller : Body) (s : Stmt)
    (p q : Parts) → given ≡ charge → late.next ≡ now.Stopped → late.entries ≡ []
    → HasMore c (entry.Called a given caller) late more → caller.row ≡ 0
    → ((world (run_of p)).units ≡ 0) × (q ≡ p)
    → IsCame c more (out_of (body_view [] caller) (run_of p)) (run_of q) (ends_as a charge caller s (run_of p)) 4
body_stopped c late more a charge given caller s p q same next none h row units =
    subst (λ q. IsCame c more (out_of (body_view [] caller) (run_of p)) (run_of q)
    (ends_as a charge caller s (run_of p)) 4) (sym units.1)
    (subst (λ n. IsCame c more (out_of (body_view [] caller) (run_of p)) (run_of p)
    (ends_as a n caller s (run_of p)) 4) same
    (body_stops c late more a given caller s (run_of p) next none h row units.0))

module _ (a : Answer) (charge given : ℕ) (caller : Body) (s body : Stmt) (p q : Parts) (same : given ≡ charge)
    (is : body ≡ s)
    (spends : ((world (run_of p)).units ≢ 0) × (run_of q ≡ with_units ((world (run_of p)).units - 1) (run_of p))) where
  abbrev started : Result Signal
  started = left (exec (here (run_of q)) body (world (run_of q)))

  comes_to : (c : Came) (late : Late) (t : Run)
      → IsCame c late (out_of (body_view [] caller) (run_of p)) t (ends_as a given caller body (run_of p)) 4
      → IsCame c late (out_of (body_view [] caller) (run_of p)) t (ends_as a charge caller s (run_of p)) 4
  comes_to c late t h =
      subst (λ s. IsCame c late (out_of (body_view [] caller) (run_of p)) t (ends_as a charge caller s (run_of p)) 4) is
      (subst (λ n. IsCame c late (out_of (body_view [] caller) (run_of p)) t (ends_as a n caller body (run_of p)) 4)
      same h)

  pub body_rests : (c : Came) (late more : Late) (t : Run) (k : ℕ)
      → HasMore c (entry.Called a given caller) late more → caller.row ≡ 0
      → IsWent went.Later late (run_of q) t started k
      → IsCame c more (out_of (body_view [] caller) (run_of p)) t (ends_as a charge caller s (run_of p)) 4
  body_rests c late more t k h row w =
      comes_to c more t
      (body_waits a given caller body (run_of p) (run_of q) spends.0 spends.1 c late more t k h row w)

  pub body_gave : (c : Came) (first late : Late) (w t : Run) (value over k : ℕ) → over ≡ left_by a value
      → IsWent (went.Returned value) first (run_of q) w started k
      → IsCame c late (out_of (body_view [] caller) w) t
      (valued (spend over (resumed (body_view [] caller) given w.state.body.object (world w)))) 1
      → IsCame c late (out_of (body_view [] caller) (run_of p)) t (ends_as a charge caller s (run_of p)) 4
  body_gave c first late w t value over k by h g =
      comes_to c late t
      (body_returns a given caller body (run_of p) (run_of q) spends.0 spends.1 c first late w t value k h
      (subst (λ v. IsCame c late (out_of (body_view [] caller) w) t
      (valued (spend v (resumed (body_view [] caller) given w.state.body.object (world w)))) 1) by g))

  pub body_ran : (c : Came) (first late : Late) (w t : Run) (over k : ℕ) → over ≡ left_by a 0
      → IsWent went.Through first (run_of q) w started k
      → IsCame c late (out_of (body_view [] caller) w) t
      (valued (spend over (resumed (body_view [] caller) given w.state.body.object (world w)))) 1
      → IsCame c late (out_of (body_view [] caller) (run_of p)) t (ends_as a charge caller s (run_of p)) 4
  body_ran c first late w t over k by h g =
      comes_to c late t
      (body_ends a given caller body (run_of p) (run_of q) spends.0 spends.1 c first late w t 0 k refl h
      (subst (λ v. IsCame c late (out_of (body_view [] caller) w) t
      (valued (spend v (resumed (body_view [] caller) given w.state.body.object (world w)))) 1) by g))

pub through_none : (late : Late) (r t : Run) (x : Result Signal) (k : ℕ) → IsWent went.Through late r t x k
    → late.entries ≡ []
unfolding IsWent
through_none late r t x k h = h.0.0

pub returned_none : (v : ℕ) (late : Late) (r t : Run) (x : Result Signal) (k : ℕ)
    → IsWent (went.Returned v) late r t x k → late.entries ≡ []
unfolding IsWent
returned_none v late r t x k h = h.0.0

-- the caller's body is back
pub call_left : (c : Came) (late : Late) (p q : Parts) (charge v : ℕ) (caller : Body) (t : Run) → caller.row ≡ 0
    → q ≡ with_caller charge caller p
    → IsCame c late (run_of q) t (valued (spend v (world (run_of q)))) 1
    → IsCame c late (out_of (body_view [] caller) (run_of p)) t
    (valued (spend v (resumed (body_view [] caller) charge (run_of p).state.body.object (world (run_of p))))) 1
call_left c late p q charge v caller t row is h =
    let back = comes_back p q charge caller row is in
    let out = out_of (body_view [] caller) (run_of p) in
    came_behind c late out (run_of q) t (valued (spend v (world (run_of q))))
    (valued (spend v (resumed (body_view [] caller) charge (run_of p).state.body.object (world (run_of p))))) 1 1 h
    (back ∙ ap (λ (r : Run). in_world (world r) out) (sym back))
    (ap (λ (r : Run). valued (spend v (world r))) back)
    (omega (arith, ap (λ (r : Run). r.state.units) back)) (λ e. omega arith)

-- behind its body as many calls more may be active as before
still_within : (p v q : Parts) (n : ℕ) → run_of v ≡ with_units n (run_of p)
    → run_of q ≡ in_world (world (run_of q)) (run_of v) → p.depth + calls p.entries + 1 < 2 ^ 64
    → q.depth + calls q.entries + 1 < 2 ^ 64
still_within p v q n is through h =
    stays_within p q
    (ap (λ (r : Run). r.state.frames) through ∙ ap (λ (r : Run). r.state.frames) is)
    (ap (λ (r : Run). r.state.depth) through ∙ ap (λ (r : Run). r.state.depth) is) h

pub through_within : (late : Late) (p v q : Parts) (n : ℕ) (x : Result Signal) (k : ℕ)
    → IsWent went.Through late (run_of v) (run_of q) x k → run_of v ≡ with_units n (run_of p)
    → p.depth + calls p.entries + 1 < 2 ^ 64 → q.depth + calls q.entries + 1 < 2 ^ 64
unfolding IsWent
through_within late p v q n x k h is room = still_within p v q n is h.0.1 room

pub returned_within : (late : Late) (p v q : Parts) (n value : ℕ) (x : Result Signal) (k : ℕ)
    → IsWent (went.Returned value) late (run_of v) (run_of q) x k → run_of v ≡ with_units n (run_of p)
    → p.depth + calls p.entries + 1 < 2 ^ 64 → q.depth + calls q.entries + 1 < 2 ^ 64
unfolding IsWent
returned_within late p v q n value x k h is room = still_within p v q n is h.0.1 room

-- a function of the text is entered
pub call_entered : (c : Came) (late : Late) (p q : Parts) (a : Answer) (f : ℕ) (vs : List ℕ) (function : Function)
    (caller : Body) (t : Run) → IsCallee f function p → caller ≡ p.body
    → q ≡ with_body (charge_of function.size) (function_body function vs p) p
    → IsCame c late (out_of (body_view [] caller) (run_of q)) t
    (ends_as a (charge_of function.size) caller (function_view function).body (run_of q)) 4
    → IsCame c late (run_of p) t (valued (targeted (here (run_of p)) (pending.Direct a f) vs (world (run_of p)))) 4
call_entered c late p q a f vs function caller t is same begun h =
    let b = with_body (charge_of function.size) (function_body function vs p) p in
    let s = out_of (body_view [] p.body) (run_of b) in
    let g : IsCame c late s t (ends_as a (charge_of function.size) p.body (function_view function).body (run_of b)) 4 =
    subst (λ (q : Parts). IsCame c late (out_of (body_view [] p.body) (run_of q)) t
    (ends_as a (charge_of function.size) p.body (function_view function).body (run_of q)) 4) begun
    (subst (λ (caller : Body). IsCame c late (out_of (body_view [] caller) (run_of q)) t
    (ends_as a (charge_of function.size) caller (function_view function).body (run_of q)) 4) same h) in
    came_behind c late (run_of p) s t
    (ends_as a (charge_of function.size) p.body (function_view function).body (run_of b))
    (valued (targeted (here (run_of p)) (pending.Direct a f) vs (world (run_of p)))) 4 4 g
    (enters_out p a f vs function is) (enters_call p a f vs function is)
    (omega (arith, enters_units p a f vs function is)) (λ e. omega arith)

-- ---- arguments

abbrev pub calling : Answer → (f : ℕ) → Args → List ℕ → Run → (s : Run) → Result Signal
calling a f args vs r s =
    valued (then_do (eval_args (here r) args (world s)) (λ ws w. targeted (here r) (pending.Direct a f) (vs ++ ws) w))

-- an argument waits, in front of those behind it
pub argument_waits : (c : Came) (late more : Late) (a : Answer) (f : ℕ) (e : Expr) (list : Bor (List code.Expr))
    (vs : List ℕ) (r t : Run) (k : ℕ)
    → HasMore c (entry.Inside (frame.Expression (expression.Argument (target.Direct a f) list vs))) late more
    → IsCame came.Later late r t (valued (eval (here r) e (world r))) (loaded (pending.Eval e) r)
    → loaded (pending.Eval e) r
    + (weight_of_args (capture_weight r.program.ticks r.state.body.captures) (args_view list.now) + 2) ≤ k
    → IsCame c more r t (calling a f (Arg e (args_view list.now)) vs r r) k
unfolding IsCame
argument_waits c late more a f e list vs r t k h w light =
    came_waits c late more (frame.Expression (expression.Argument (target.Direct a f) list vs)) r t
    (valued (eval (here r) e (world r))) (calling a f (Arg e (args_view list.now)) vs r r) (loaded (pending.Eval e) r)
    k h w
    (law.args_start (here r) e (args_view list.now) (world r)
    (λ ws w. targeted (here r) (pending.Direct a f) (vs ++ ws) w)) (omega (arith, light))

-- an argument was evaluated
pub argument_came : (late : Late) (a : Answer) (f : ℕ) (e : Expr) (more : Args) (vs : List ℕ) (v : ℕ) (r s : Run)
    (k : ℕ) → IsCame (came.Value v) late r s (valued (eval (here r) e (world r))) k
    → calling a f (Arg e more) vs r r ≡ calling a f more (vs ++ v ∷ []) r s
unfolding IsCame
argument_came late a f e more vs v r s k h =
    sym (law.args_start (here r) e more (world r) (λ ws w. targeted (here r) (pending.Direct a f) (vs ++ ws) w))
    ∙ ap (on_value (λ v w. valued (then_do (eval_args (here r) more w)
    (λ ws w. targeted (here r) (pending.Direct a f) (vs ++ v ∷ ws) w)))) h.1
    ∙ ap (λ (k : List ℕ → World → Result ℕ). valued (then_do (eval_args (here r) more (world s)) k))
    (λ i ws w. ap (λ l. targeted (here r) (pending.Direct a f) l w) (sym (append_assoc vs (v ∷ []) ws)) i)

-- another call: its last argument arrives
pub last_waits : (c : Came) (late more : Late) (a : Answer) (f : ℕ) (list : Bor (List code.Expr)) (vs all : List ℕ)
    (v : ℕ) (r : Run) (n : ℕ)
    → all ≡ vs ++ v ∷ [] → list.now ≡ [] → late.next ≡ now.Value v → late.entries ≡ []
    → HasMore c (entry.Inside (frame.Expression (expression.Argument (target.Direct a f) list vs))) late more
    → 4 ≤ n
    → IsCame c more r r (valued (targeted (here r) (pending.Direct a f) all (world r))) n
last_waits c late more a f list vs all v r n is none next waiting h light =
    let weight = ap (λ es. weight_of_args (capture_weight r.program.ticks r.state.body.captures) (args_view es)) none in
    subst (λ vs. IsCame c more r r (valued (targeted (here r) (pending.Direct a f) vs (world r))) n) (sym is)
    (came_waits c late more (frame.Expression (expression.Argument (target.Direct a f) list vs)) r r
    (Gives (Value v) (world r)) (valued (targeted (here r) (pending.Direct a f) (vs ++ v ∷ []) (world r))) 1 n h
    (waits_now late (now.Value v) r (Gives (Value v) (world r)) 1 next waiting refl (omega arith))
    (ap (λ es. after (here r) (pending.Argument (pending.Direct a f) (args_view es) vs) (Gives (Value v) (world r)))
    none)
    (omega (arith, weight, light)))

-- or the call itself goes step by step, where it has no argument
pub call_later : (late : Late) (e : Bor code.Expr) (r : Run) (x : Result Signal) → late.next ≡ now.Eval e
    → late.entries ≡ [] → x ≡ valued (eval (here r) (expr_view e.now) (world r))
    → IsCame came.Later late r r x (loaded (pending.Eval (expr_view e.now)) r)
unfolding IsCame
call_later late e r x next none same =
    waits_now late (now.Eval e) r x (loaded (pending.Eval (expr_view e.now)) r) next none (sym same) (omega arith)

-- ---- the arguments of a call, up to those that are left

abbrev pub call_of : Expr → Run → Result Signal
call_of e r = valued (eval (here r) e (world r))

-- these are left, and those before came to these values
pub record Going (a : Answer) (f : ℕ) (e : Expr) (list rest : List code.Expr) (vs : List ℕ) (late : Late) (r q : Run)
    : Type 0 where
  pub none : late.entries ≡ []
  pub through : q ≡ in_world (world q) r
  pub units : q.state.units ≤ r.state.units
  pub same : calling a f (args_view rest) vs r q ≡ call_of e r
  pub first : vs ≡ [] → rest ≡ list
  pub light : q.state.units ≡ r.state.units → vs ≡ []

never_empty : (vs : List ℕ) (v : ℕ) → vs ++ v ∷ [] ≡ [] → ⊥
never_empty [] v h = absurd (cc)
never_empty (w ∷ vs) v h = absurd (cc)

append_nothing : (vs : List ℕ) → vs ++ [] ≡ vs
append_nothing [] = refl
append_nothing (v ∷ vs) = ap (λ ws. v ∷ ws) (append_nothing vs)

call_given : (a : Answer) (f : ℕ) (e : Expr) (args : Args) (r : Run) → e ≡ node.Call a f args
    → valued (then_do (eval_args (here r) args (world r)) (λ ws w. targeted (here r) (pending.Direct a f) ws w))
    ≡ call_of e r
call_given a f e args r is = ap (λ e. call_of e r) (sym is)

pub going_first : (a : Answer) (f : ℕ) (e : Expr) (list : List code.Expr) (late : Late) (r : Run) → late.entries ≡ []
    → e ≡ node.Call a f (args_view list) → Going a f e list list [] late r r
going_first a f e list late r none is = record {
  none = none;
  through = refl;
  units = omega arith;
  same = call_given a f e (args_view list) r is;
  first = λ h. refl;
  light = λ h. refl;
}

pub going_begun : (a : Answer) (f : ℕ) (e : Expr) (list : List code.Expr) (vs : List ℕ) (late : Late) (p q : Parts)
    → late.entries ≡ [] → e ≡ node.Call a f (args_view list) → vs ≡ [] → q ≡ p
    → Going a f e list list vs late (run_of p) (run_of q)
going_begun a f e list vs late p q none is empty still =
    subst (λ vs. Going a f e list list vs late (run_of p) (run_of q)) (sym empty)
    (subst (λ q. Going a f e list list [] late (run_of p) (run_of q)) (sym still)
    (going_first a f e list late (run_of p) none is))

module _ (a : Answer) (f : ℕ) (e : Expr) (list rest more : List code.Expr) (x : code.Expr) (vs : List ℕ)
    (late : Late) (r q : Run) (g : Going a f e list rest vs late r q) (is : rest ≡ x ∷ more) where
  abbrev there : calling a f (Arg (expr_view x) (args_view more)) vs q q ≡ call_of e r
  there =
      ap (λ (p : Run). calling a f (Arg (expr_view x) (args_view more)) vs p q) g.through
      ∙ ap (λ es. calling a f (args_view es) vs r q) (sym is)
      ∙ g.same

  -- the next argument came to a value
  pub going_on : (after : Late) (s : Run) (v k : ℕ) → IsCame (came.Value v) after q s (call_of (expr_view x) q) k
      → Going a f e list more (vs ++ v ∷ []) after r s
  unfolding IsCame
  going_on after s v k h = record {
    none = h.0.0;
    through = h.0.1 ∙ ap (in_world (world s)) g.through;
    units = omega (arith, h.2, g.units);
    same =
        ap (λ (p : Run). calling a f (args_view more) (vs ++ v ∷ []) p s) (sym g.through)
        ∙ sym (argument_came after a f (expr_view x) (args_view more) vs v q s k h)
        ∙ there;
    first = λ e. absurd (never_empty vs v e);
    light = λ e. absurd (omega (arith, h.2, g.units, e));
  }

  pub going_pushed : (after : Late) (s : Run) (v k : ℕ) (all : List ℕ) → all ≡ vs ++ v ∷ []
      → IsCame (came.Value v) after q s (call_of (expr_view x) q) k → Going a f e list more all after r s
  going_pushed after s v k all pushed h =
      subst (λ ws. Going a f e list more ws after r s) (sym pushed) (going_on after s v k h)

  -- or waits
  pub going_waits : (c : Came) (first behind : Late) (left : Bor (List code.Expr)) (t : Run) → left.now ≡ more
      → e ≡ node.Call a f (args_view list)
      → HasMore c (entry.Inside (frame.Expression (expression.Argument (target.Direct a f) left vs))) first behind
      → IsCame came.Later first q t (call_of (expr_view x) q) (loaded (pending.Eval (expr_view x)) q)
      → IsCame c behind r t (call_of e r) (loaded (pending.Eval e) r)
  going_waits c first behind left t these call h w =
      let k = loaded (pending.Eval (expr_view x)) q
      + (weight_of_args (capture_weight q.program.ticks q.state.body.captures) (args_view left.now) + 2) in
      came_behind c behind r q t (calling a f (Arg (expr_view x) (args_view left.now)) vs q q) (call_of e r) k
      (loaded (pending.Eval e) r)
      (argument_waits c first behind a f (expr_view x) left vs q t k h w (omega arith))
      g.through (ap (λ es. calling a f (Arg (expr_view x) (args_view es)) vs q q) these ∙ there) g.units
      (λ same.
      let all : x ∷ more ≡ list = sym is ∙ g.first (g.light same) in
      let weight = ap (λ (p : Run). loaded (pending.Eval (expr_view x)) p
      + (weight_of_args (capture_weight p.program.ticks p.state.body.captures) (args_view left.now) + 2)) g.through in
      let those = ap (λ es. weight_of_args (capture_weight r.program.ticks r.state.body.captures) (args_view es))
      these in
      let whole = ap (λ e. loaded (pending.Eval e) r) (call ∙ ap (λ es. node.Call a f (args_view es)) (sym all)) in
      omega (arith, weight, those, whole))

-- no argument is left
module _ (a : Answer) (f : ℕ) (e : Expr) (list rest : List code.Expr) (vs : List ℕ) (late : Late) (r q : Run)
    (g : Going a f e list rest vs late r q) (is : rest ≡ []) (call : e ≡ node.Call a f (args_view list)) where
  pub gone_heavy : 4 ≤ loaded (pending.Eval e) q
  gone_heavy = omega (arith, ap (λ e. loaded (pending.Eval e) q) call)

  pub gone_empty : vs ≡ [] → valued (targeted (here q) (pending.Direct a f) vs (world q)) ≡ call_of e q
  gone_empty none =
      ap (λ vs. valued (targeted (here q) (pending.Direct a f) vs (world q))) none
      ∙ ap (λ es. call_of (node.Call a f (args_view es)) q) (sym is ∙ g.first none)
      ∙ ap (λ e. call_of e q) (sym call)

  pub gone : (c : Came) (after : Late) (t : Run)
      → IsCame c after q t (valued (targeted (here q) (pending.Direct a f) vs (world q))) (loaded (pending.Eval e) q)
      → IsCame c after r t (call_of e r) (loaded (pending.Eval e) r)
  gone c after t h =
      came_behind c after r q t (valued (targeted (here q) (pending.Direct a f) vs (world q))) (call_of e r)
      (loaded (pending.Eval e) q) (loaded (pending.Eval e) r) h g.through
      (ap (λ (p : Run). valued (targeted (here p) (pending.Direct a f) vs (world q))) g.through
      ∙ ap (λ ws. valued (targeted (here r) (pending.Direct a f) ws (world q))) (sym (append_nothing vs))
      ∙ ap (λ es. calling a f (args_view es) vs r q) (sym is)
      ∙ g.same) g.units
      (λ same.
      let there = ap (λ (p : Run). loaded (pending.Eval e) p) g.through in
      omega (arith, there))
