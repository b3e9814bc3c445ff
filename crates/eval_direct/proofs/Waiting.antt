-- What waits where an evaluation on the host's stack can't go on: nothing yet, a frame in front, and what was evaluated
-- before it.
use Rattle.std.proofs.Common.{◌≡◌, ℕ, suc, ◌+◌, ◌≤◌, length, [], ◌∷◌, ◌++◌, refl, ap, sym, subst, ◌∙◌, arith}
use Rattle.staged_meaning.specs.Meaning.{Context}
use Rattle.staged_meaning.specs.World.{Result}
use Rattle.eval_state.specs.Burden.{burden, capture_weight, load, weight, weights}
use Rattle.eval_state.specs.Late.{AreLocal, IsLate, frames_of, out_of}
use Rattle.eval_state.specs.Less.{loaded, waiting}
use Rattle.eval_state.specs.Pending as pending
use Rattle.eval_state.specs.Rest.{Signal, Place, after, below, context_at, doing, place_of, under}
use Rattle.eval_state.specs.Run.{Run, here, world, in_world}
use Rattle.eval_state.specs.Views.{frame_view, now_view}
use Rattle.eval_state.specs.declared.parts.Frame.{Frame}
use Rattle.eval_state.specs.declared.parts.Now.{Now}
use Rattle.eval_state.specs.declared.state.Entry.TheVariants as entry
use Rattle.eval_state.proofs.Late.{late_now, late_waits}
use Rattle.eval_state.proofs.Runs.{inside_stays}
use Rattle.eval_state.proofs.Waits.{frames_push, local_push}
use Rattle.typed_tree.specs.declared.expression.Answer.{Answer}
use Rattle.eval_state.specs.Kept.{body_view}
use Rattle.eval_state.specs.declared.state.Body.{Body}
use Rattle.eval_direct.specs.Came.{HasMore, HasMoreItems, IsCame, IsWent, Waits, ready}
use Rattle.eval_direct.specs.declared.came.Came.{Came}
use Rattle.eval_direct.specs.declared.came.Came.TheVariants as came
use Rattle.eval_direct.specs.declared.came.Went.{Went}
use Rattle.eval_direct.specs.declared.came.Went.TheVariants as went
use Rattle.eval_direct.specs.declared.came.Late.{Late}

-- nothing waits: this is done next
pub waits_now : (late : Late) (n : Now) (r : Run) (x : Result Signal) (k : ℕ)
    → late.next ≡ n → late.entries ≡ [] → doing (here r) (now_view n) (world r) ≡ x
    → loaded (now_view n) r + ready (now_view n) ≤ k
    → Waits late r r x k
waits_now late n r x k is none same light =
    let at = context_at r.program r.turns in
    let p = place_of r.state in
    let fs = ap frames_of none in
    let next = ap now_view is in
    record {
      local = subst AreLocal (sym none) tt;
      program = refl;
      turns = refl;
      frames = refl;
      leads =
          subst (λ gs. IsLate at p gs (doing (at p) (now_view late.next) (world r)) x p) (sym fs)
          (subst (λ y. IsLate at p [] y x p)
          (sym (ap (λ n. doing (at p) n (world r)) next ∙ same)) (late_now at p x));
      units = omega arith;
      less = λ e.
          let total : burden r.program.ticks p (now_view late.next) (frames_of late.entries)
          + (ready (now_view late.next) + length (frames_of late.entries))
          ≡ loaded (now_view n) r + 0 + (ready (now_view n) + 0) =
          ap (λ gs. burden r.program.ticks p (now_view late.next) gs + (ready (now_view late.next) + length gs)) fs
          ∙ ap (λ n. loaded n r + 0 + (ready n + 0)) next in
          omega (arith, total, light);
    }

-- a frame within a body is in front of what waits
pub waits_frame : (late more : Late) (f : Frame) (r t : Run) (x whole : Result Signal) (k n : ℕ)
    → Waits late r t x k → more.next ≡ late.next → more.entries ≡ late.entries ++ entry.Inside f ∷ []
    → after (here r) (frame_view f) x ≡ whole → k + waiting (frame_view f) r + 1 ≤ n
    → Waits more r t whole n
waits_frame late more f r t x whole k n w next entries same light =
    let at = context_at r.program r.turns in
    let p = place_of t.state in
    let fs = ap frames_of entries ∙ frames_push late.entries (entry.Inside f) in
    let now = ap now_view next in
    let g = frame_view f in
    record {
      local = subst AreLocal (sym entries) (local_push late.entries (entry.Inside f) w.local tt);
      program = w.program;
      turns = w.turns;
      frames = w.frames;
      leads =
          subst (λ gs. IsLate at p gs (doing (at p) (now_view more.next) (world t)) whole (place_of r.state)) (sym fs)
          (subst (λ m. IsLate at p (g ∷ frames_of late.entries) (doing (at p) m (world t)) whole (place_of r.state))
          (sym now)
          (subst (λ q. IsLate at p (g ∷ frames_of late.entries) (doing (at p) (now_view late.next) (world t)) whole q)
          (inside_stays f (place_of r.state))
          (subst (λ y. IsLate at p (g ∷ frames_of late.entries) (doing (at p) (now_view late.next) (world t)) y
          (under g (place_of r.state))) same
          (late_waits at p (place_of r.state) (frames_of late.entries) g
          (doing (at p) (now_view late.next) (world t)) x w.leads))));
      units = w.units;
      less = λ e.
          let total : burden r.program.ticks p (now_view more.next) (frames_of more.entries)
          + (ready (now_view more.next) + length (frames_of more.entries))
          ≡ load (capture_weight r.program.ticks p.captures) (now_view late.next)
          + (weight (capture_weight r.program.ticks (below (frames_of late.entries) p).captures) g
          + weights r.program.ticks p (frames_of late.entries))
          + (ready (now_view late.next) + suc (length (frames_of late.entries))) =
          ap (λ gs. burden r.program.ticks p (now_view more.next) gs + (ready (now_view more.next) + length gs)) fs
          ∙ ap (λ m. burden r.program.ticks p m (g ∷ frames_of late.entries)
          + (ready m + suc (length (frames_of late.entries)))) now in
          let there : weight (capture_weight r.program.ticks (below (frames_of late.entries) p).captures) g
          ≡ waiting g r =
          ap (λ (q : Place). weight (capture_weight r.program.ticks q.captures) g) w.leads.place in
          omega (arith, total, there, w.less e, light);
    }

-- what was evaluated before spent a unit, or weighs nothing
pub waits_behind : (late : Late) (r s t : Run) (x y : Result Signal) (k n : ℕ)
    → Waits late s t x k → s ≡ in_world (world s) r → x ≡ y → s.state.units ≤ r.state.units
    → (s.state.units ≡ r.state.units → k ≤ n)
    → Waits late r t y n
waits_behind late r s t x y k n w through same fewer light =
    let at = context_at r.program r.turns in
    let p = place_of t.state in
    let program : s.program ≡ r.program = ap (λ (s : Run). s.program) through in
    let turns : s.turns ≡ r.turns = ap (λ (s : Run). s.turns) through in
    let place : place_of s.state ≡ place_of r.state = ap (λ (s : Run). place_of s.state) through in
    let contexts = ap (λ (s : Run). context_at s.program s.turns) through in
    record {
      local = w.local;
      program = w.program ∙ program;
      turns = w.turns ∙ turns;
      frames = w.frames ∙ ap (λ (s : Run). s.state.frames) through;
      leads =
          subst (λ (at : Place → Context). IsLate at p (frames_of late.entries)
          (doing (at p) (now_view late.next) (world t)) y (place_of r.state)) contexts
          (subst (λ q. IsLate (context_at s.program s.turns) p (frames_of late.entries)
          (doing (context_at s.program s.turns p) (now_view late.next) (world t)) y q) place
          (subst (λ z. IsLate (context_at s.program s.turns) p (frames_of late.entries)
          (doing (context_at s.program s.turns p) (now_view late.next) (world t)) z (place_of s.state)) same w.leads));
      units = omega (arith, w.units, fewer);
      less = λ e.
          let still : t.state.units ≡ s.state.units = omega (arith, e, w.units, fewer) in
          let kept : s.state.units ≡ r.state.units = omega (arith, e, w.units, fewer) in
          let ticks : burden s.program.ticks p (now_view late.next) (frames_of late.entries)
          ≡ burden r.program.ticks p (now_view late.next) (frames_of late.entries) =
          ap (λ program. burden program.ticks p (now_view late.next) (frames_of late.entries)) program in
          omega (arith, ticks, w.less still, light kept);
    }

-- a call is in front of what waits: its function's end is the end of the call
pub waits_call : (late more : Late) (a : Answer) (charge : ℕ) (caller : Body) (r t : Run) (x whole : Result Signal)
    (k n : ℕ)
    → Waits late r t x k → more.next ≡ late.next → more.entries ≡ late.entries ++ entry.Called a charge caller ∷ []
    → caller.row ≡ 0 → after (here r) (pending.Called a charge (body_view [] caller)) x ≡ whole → k + 2 ≤ n
    → Waits more (out_of (body_view [] caller) r) t whole n
waits_call late more a charge caller r t x whole k n w next entries row same light =
    let at = context_at r.program r.turns in
    let p = place_of t.state in
    let e = entry.Called a charge caller in
    let fs = ap frames_of entries ∙ frames_push late.entries e in
    let now = ap now_view next in
    let g = pending.Called a charge (body_view [] caller) in
    let outer = place_of (out_of (body_view [] caller) r).state in
    record {
      local = subst AreLocal (sym entries) (local_push late.entries e w.local row);
      program = w.program;
      turns = w.turns;
      frames = w.frames;
      leads =
          subst (λ gs. IsLate at p gs (doing (at p) (now_view more.next) (world t)) whole outer) (sym fs)
          (subst (λ m. IsLate at p (g ∷ frames_of late.entries) (doing (at p) m (world t)) whole outer) (sym now)
          (subst (λ y. IsLate at p (g ∷ frames_of late.entries) (doing (at p) (now_view late.next) (world t)) y outer)
          same
          (late_waits at p (place_of r.state) (frames_of late.entries) g
          (doing (at p) (now_view late.next) (world t)) x w.leads)));
      units = w.units;
      less = λ e.
          let total : burden r.program.ticks p (now_view more.next) (frames_of more.entries)
          + (ready (now_view more.next) + length (frames_of more.entries))
          ≡ load (capture_weight r.program.ticks p.captures) (now_view late.next)
          + (1 + weights r.program.ticks p (frames_of late.entries))
          + (ready (now_view late.next) + suc (length (frames_of late.entries))) =
          ap (λ gs. burden r.program.ticks p (now_view more.next) gs + (ready (now_view more.next) + length gs)) fs
          ∙ ap (λ m. burden r.program.ticks p m (g ∷ frames_of late.entries)
          + (ready m + suc (length (frames_of late.entries)))) now in
          omega (arith, total, w.less e, light);
    }

-- ---- what comes of it, where something was evaluated before

pub came_behind : (c : Came) (late : Late) (r s t : Run) (x y : Result Signal) (k n : ℕ)
    → IsCame c late s t x k → s ≡ in_world (world s) r → x ≡ y → s.state.units ≤ r.state.units
    → (s.state.units ≡ r.state.units → k ≤ n)
    → IsCame c late r t y n
unfolding IsCame
came_behind (came.Value v) late r s t x y k n h through same fewer light = (
  (h.0.0, h.0.1 ∙ ap (in_world (world t)) through),
  sym same ∙ h.1,
  omega (arith, h.2, fewer),
)
came_behind came.Later late r s t x y k n h through same fewer light =
    waits_behind late r s t x y k n h through same fewer light
came_behind came.NoMemory late r s t x y k n h through same fewer light = tt

pub went_behind : (c : Went) (late : Late) (r s t : Run) (x y : Result Signal) (k n : ℕ)
    → IsWent c late s t x k → s ≡ in_world (world s) r → x ≡ y → s.state.units ≤ r.state.units
    → (s.state.units ≡ r.state.units → k ≤ n)
    → IsWent c late r t y n
unfolding IsWent
went_behind went.Through late r s t x y k n h through same fewer light = (
  (h.0.0, h.0.1 ∙ ap (in_world (world t)) through),
  sym same ∙ h.1,
  omega (arith, h.2, fewer),
)
went_behind (went.Returned v) late r s t x y k n h through same fewer light = (
  (h.0.0, h.0.1 ∙ ap (in_world (world t)) through),
  sym same ∙ h.1,
  omega (arith, h.2, fewer),
)
went_behind went.Later late r s t x y k n h through same fewer light =
    waits_behind late r s t x y k n h through same fewer light
went_behind went.NoMemory late r s t x y k n h through same fewer light = tt

-- a frame in front, where a part can't go on; or memory is wanting
pub came_waits : (c : Came) (late more : Late) (f : Frame) (r t : Run) (x whole : Result Signal) (k n : ℕ)
    → HasMore c (entry.Inside f) late more → Waits late r t x k
    → after (here r) (frame_view f) x ≡ whole → k + waiting (frame_view f) r + 1 ≤ n
    → IsCame c more r t whole n
unfolding IsCame
came_waits (came.Value v) late more f r t x whole k n h w same light = absurd h
came_waits came.Later late more f r t x whole k n h w same light =
    waits_frame late more f r t x whole k n w h.0 h.1 same light
came_waits came.NoMemory late more f r t x whole k n h w same light = tt

pub went_waits : (c : Went) (late more : Late) (f : Frame) (r t : Run) (x whole : Result Signal) (k n : ℕ)
    → HasMoreItems c (entry.Inside f) late more → Waits late r t x k
    → after (here r) (frame_view f) x ≡ whole → k + waiting (frame_view f) r + 1 ≤ n
    → IsWent c more r t whole n
unfolding IsWent
went_waits went.Through late more f r t x whole k n h w same light = absurd h
went_waits (went.Returned v) late more f r t x whole k n h w same light = absurd h
went_waits went.Later late more f r t x whole k n h w same light =
    waits_frame late more f r t x whole k n w h.0 h.1 same light
went_waits went.NoMemory late more f r t x whole k n h w same light = tt
