-- What waits is pending behind what was: what is done next leads where the whole does, and is lighter.
use Rattle.std.proofs.Common.{◌≡◌, ℕ, ◌+◌, ◌^◌, ◌<◌, ◌≤◌, List, [], ◌∷◌, ◌++◌, IfOk, ap, sym, ◌∙◌, arith}
use Rattle.std.proofs.Common as std
use Rattle.typed_tree.specs.Nodes.{Expr}
use Rattle.staged_meaning.specs.Meaning.{eval}
use Rattle.staged_meaning.specs.Program.{Tick}
use Rattle.staged_meaning.specs.World.{Result}
use Rattle.eval_state.specs.Burden.{burden, capture_weight, weight, weights}
use Rattle.eval_state.specs.Late.{AreLocal, frames_of, with_frames}
use Rattle.eval_state.specs.Less.{heft, held, loaded}
use Rattle.eval_state.specs.Pending as pending
use Rattle.eval_state.specs.Pending.{Frame}
use Rattle.eval_state.specs.Rest.{Place, Signal, below, context_at, doing, place_of, through, valued}
use Rattle.eval_state.specs.Run.{Run, here, leads, outcome, run_of, world}
use Rattle.eval_state.specs.Sound.{IsSound, calls}
use Rattle.eval_state.specs.Views.{now_view}
use Rattle.eval_state.specs.declared.parts.Now as code
use Rattle.eval_state.specs.declared.parts.Now.TheVariants as now
use Rattle.eval_state.specs.declared.state.Parts.{Parts}
use Rattle.eval_state.proofs.Late.{below_more, late_leads}
use Rattle.eval_state.proofs.Waits.{settles_within}
use Rattle.eval_direct.specs.Came.{IsCame, Waits, ready}
use Rattle.eval_direct.specs.declared.came.Came.TheVariants as came
use Rattle.eval_direct.specs.declared.came.Late.{Late}

weights_more : (ticks : List Tick) (p : Place) (fs gs : List Frame)
    → weights ticks p (fs ++ gs) ≡ weights ticks (below gs p) fs + weights ticks p gs
weights_more ticks p [] gs = omega arith
weights_more ticks p (f ∷ fs) gs =
    let one : weight (capture_weight ticks (below (fs ++ gs) p).captures) f
    ≡ weight (capture_weight ticks (below fs (below gs p)).captures) f =
    ap (λ (q : Place). weight (capture_weight ticks q.captures) f) (below_more fs gs p) in
    omega (arith, one, weights_more ticks p fs gs)

most : (n : pending.Now) (r : Run) → heft n r ≤ loaded n r + held r
most (pending.Ended e) r = omega arith
most pending.Stopped r = omega arith
most _ r = omega arith

pub waits_lead : (late : Late) (r t s : Run) (x : Result Signal) (k : ℕ) → Waits late r t x k
    → s ≡ with_frames (frames_of late.entries) t → outcome (now_view late.next) s ≡ leads r x
waits_lead late r t s x k w is =
    let fs = frames_of late.entries in
    let p = place_of t.state in
    let n = now_view late.next in
    let at = context_at r.program r.turns in
    ap (outcome n) is
    ∙ ap (λ program. through (context_at program t.turns) p (t.state.frames ++ fs)
    (doing (context_at program t.turns p) n (world t))) w.program
    ∙ ap (λ turns. through (context_at r.program turns) p (t.state.frames ++ fs)
    (doing (context_at r.program turns p) n (world t))) w.turns
    ∙ ap (λ frames. through at p (frames ++ fs) (doing (at p) n (world t))) w.frames
    ∙ late_leads at p (place_of r.state) r.state.frames fs (doing (at p) n (world t)) x w.leads

pub waits_lighten : (late : Late) (r t s : Run) (x : Result Signal) (k : ℕ) → Waits late r t x k
    → s ≡ with_frames (frames_of late.entries) t → s.state.units ≡ r.state.units
    → heft (now_view late.next) s + ready (now_view late.next) ≤ k + held r
waits_lighten late r t s x k w is same =
    let fs = frames_of late.entries in
    let p = place_of t.state in
    let n = now_view late.next in
    let units : s.state.units ≡ t.state.units = ap (λ (s : Run). s.state.units) is in
    let less = w.less (sym units ∙ same) in
    let at : heft n s ≡ heft n (with_frames fs t) = ap (heft n) is in
    let all : held (with_frames fs t) ≡ weights t.program.ticks (below fs p) t.state.frames
    + weights t.program.ticks p fs = weights_more t.program.ticks p t.state.frames fs in
    let under : weights t.program.ticks (below fs p) t.state.frames ≡ held r =
    ap (λ q. weights t.program.ticks q t.state.frames) w.leads.place
    ∙ ap (λ gs. weights t.program.ticks (place_of r.state) gs) w.frames
    ∙ ap (λ program. weights program.ticks (place_of r.state) r.state.frames) w.program in
    let ticks : burden t.program.ticks p n fs ≡ burden r.program.ticks p n fs =
    ap (λ program. burden program.ticks p n fs) w.program in
    omega (arith, at, most n (with_frames fs t), all, under, ticks, less)

pub waits_units : (late : Late) (r t s : Run) (x : Result Signal) (k : ℕ) → Waits late r t x k
    → s ≡ with_frames (frames_of late.entries) t → s.state.units ≤ r.state.units
waits_units late r t s x k w is = omega (arith, w.units, ap (λ (s : Run). s.state.units) is)

-- it may be pending
pub settles : (late : Late) (p q : Parts) (x : Result Signal) (k : ℕ) → IsSound p
    → IsCame came.Later late (run_of p) (run_of q) x k
    → AreLocal late.entries × (q.depth + calls q.entries + calls late.entries < 2 ^ 64)
unfolding IsCame
settles late p q x k sound w =
    (w.local, settles_within p q late.entries sound w.frames w.leads.place)

-- a value is there
pub value_leads : (n : code.Now) (late : Late) (e : Expr) (v : ℕ) (r t : Run) (k : ℕ) → n ≡ now.Value v
    → IsCame (came.Value v) late r t (valued (eval (here r) e (world r))) k
    → outcome (now_view n) t ≡ outcome (pending.Eval e) r
unfolding IsCame
value_leads n late e v r t k is h =
    ap (λ n. outcome (now_view n) t) is ∙ ap (outcome (pending.Value v)) h.0.1 ∙ ap (leads r) (sym h.1)

pub value_spends : (late : Late) (v : ℕ) (r t : Run) (x : Result Signal) (k : ℕ) → IsCame (came.Value v) late r t x k
    → t.state.units < r.state.units
unfolding IsCame
value_spends late v r t x k h = h.2

-- ---- what is done next, where memory sufficed

-- it is what was kept, and what waits is pending
abbrev pub IsSettled : Late → (t s : Run) → code.Now → Type 0
IsSettled late t s n = (n ≡ late.next) × (s ≡ with_frames (frames_of late.entries) t)

pub settled_leads : {E : Type 0} (c : std.Result code.Now E) (late : Late) (r t s : Run) (x : Result Signal) (k : ℕ)
    → IsCame came.Later late r t x k → IfOk c (λ n. IsSettled late t s n)
    → IfOk c (λ n. outcome (now_view n) s ≡ leads r x)
unfolding IsCame
settled_leads (std.Ok n) late r t s x k w h = ap (λ n. outcome (now_view n) s) h.0 ∙ waits_lead late r t s x k w h.1
settled_leads (std.Err e) late r t s x k w h = tt

pub settled_units : {E : Type 0} (c : std.Result code.Now E) (late : Late) (r t s : Run) (x : Result Signal) (k : ℕ)
    → IsCame came.Later late r t x k → IfOk c (λ n. IsSettled late t s n)
    → IfOk c (λ n. s.state.units ≤ r.state.units)
unfolding IsCame
settled_units (std.Ok n) late r t s x k w h = waits_units late r t s x k w h.1
settled_units (std.Err e) late r t s x k w h = tt

pub settled_lighten : {E : Type 0} (c : std.Result code.Now E) (late : Late) (e : Expr) (r t s : Run)
    (x : Result Signal)
    → IsCame came.Later late r t x (loaded (pending.Eval e) r) → IfOk c (λ n. IsSettled late t s n)
    → IfOk c (λ n. s.state.units ≡ r.state.units
    → heft (now_view n) s + ready (now_view n) ≤ heft (pending.Eval e) r)
unfolding IsCame
settled_lighten (std.Ok n) late e r t s x w h = λ same.
    let there : heft (now_view n) s + ready (now_view n) ≡ heft (now_view late.next) s + ready (now_view late.next) =
    ap (λ n. heft (now_view n) s + ready (now_view n)) h.0 in
    let less = waits_lighten late r t s x (loaded (pending.Eval e) r) w h.1 same in
    omega (arith, there, less)
settled_lighten (std.Err e) late f r t s x w h = tt
