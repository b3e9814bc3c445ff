-- What is still to come, where a function is called and where code is spliced in: the state of the code by the laws of
-- `Enters`.
use Rattle.std.proofs.Common.{◌≡◌, ℕ, ◌+◌, ◌<◌, ◌≤◌, List, [], ◌∷◌, ◌++◌, refl, ap}
use Rattle.std.proofs.Common.{sym}
use Rattle.std.proofs.Common.{◌∙◌, subst, arith, Bool, true, false, nat_le, if◌then◌else◌, Some, None}
use Rattle.std.proofs.Common.{Result, Ok, Err, OnOk, OnErr}
use Rattle.host_edge.specs.declared.ending.TrapKind.TheVariants.{FrameLimit, StackLimit}
use Rattle.limits.specs.declared.program.TheConstants.{FRAME_OBJECT_BYTES}
use Rattle.word32.specs.declared.map.TheConstants.{STACK_BYTES}
use Rattle.meaning_state.specs.Shared.{limit_trap}
use Rattle.eval_state.specs.declared.state.Entry.{Entry}
use Rattle.eval_state.specs.declared.state.Event.{Event}
use Rattle.eval_state.specs.declared.state.Event.TheVariants as event
use Rattle.eval_state.specs.declared.state.Parts.{Parts}
use Rattle.eval_state.specs.Run.{run_of, world}
use Rattle.eval_state.specs.Sound.{AreKnown, IsKnown, called, calls}
use Rattle.eval_state.proofs.Growth.{calls_push, known_push}
use Rattle.eval_state.proofs.Makes.{is_over, is_within}

-- ---- limits

limit_by : (s f : Bool) → s ≡ true → (if s then (if f then None else Some FrameLimit) else Some StackLimit)
    ≡ (if f then None else Some FrameLimit)
limit_by true f h = refl
limit_by false f h = absurd (cc)

pub stack_over : (p : Parts) (charge object : ℕ) → STACK_BYTES < p.used + charge
    → Some StackLimit ≡ limit_trap charge object (world (run_of p)).shared
unfolding run_of
stack_over p charge object h =
    ap (λ b. if b then (if nat_le (p.frames + object) FRAME_OBJECT_BYTES then None else Some FrameLimit)
    else Some StackLimit) (sym (is_over (p.used + charge) STACK_BYTES h))

pub frame_over : (p : Parts) (charge object : ℕ) → p.used + charge ≤ STACK_BYTES
    → FRAME_OBJECT_BYTES < p.frames + object → Some FrameLimit ≡ limit_trap charge object (world (run_of p)).shared
unfolding run_of
frame_over p charge object h k =
    ap (λ b. if b then None else Some FrameLimit) (sym (is_over (p.frames + object) FRAME_OBJECT_BYTES k))
    ∙ sym (limit_by (nat_le (p.used + charge) STACK_BYTES) (nat_le (p.frames + object) FRAME_OBJECT_BYTES)
    (is_within (p.used + charge) STACK_BYTES h))

pub no_limit : (p : Parts) (charge object : ℕ) → p.used + charge ≤ STACK_BYTES
    → p.frames + object ≤ FRAME_OBJECT_BYTES → None ≡ limit_trap charge object (world (run_of p)).shared
unfolding run_of
no_limit p charge object h k =
    ap (λ b. if b then None else Some FrameLimit) (sym (is_within (p.frames + object) FRAME_OBJECT_BYTES k))
    ∙ sym (limit_by (nat_le (p.used + charge) STACK_BYTES) (nat_le (p.frames + object) FRAME_OBJECT_BYTES)
    (is_within (p.used + charge) STACK_BYTES h))

-- ---- what is pushed, or not, where memory is wanting

pub calls_most : {T E : Type 0} (r : Result T E) (es new : List Entry) (e : Entry)
    → OnOk r (new ≡ es ++ e ∷ []) → OnErr r (new ≡ es) → calls new ≤ calls es + called e
calls_most (Ok t) es new e ok err =
    let more : calls new ≡ calls es + called e = ap calls ok ∙ calls_push es e in
    omega (arith, more)
calls_most (Err x) es new e ok err =
    let same : calls new ≡ calls es = ap calls err in
    omega (arith, same)

known_zero : (n : ℕ) (e : Event) → IsKnown 0 e → IsKnown n e
known_zero n (event.Out b) h = tt
known_zero n (event.In w) h = tt
known_zero n (event.Made f row) h = omega (arith, h)
known_zero n (event.Entered f) h = tt

pub known_after : {T E : Type 0} (r : Result T E) (n : ℕ) (es new : List Event) (e : Event)
    → OnOk r (new ≡ es ++ e ∷ []) → OnErr r (new ≡ es) → AreKnown n es → IsKnown 0 e → AreKnown n new
known_after (Ok t) n es new e ok err h k = subst (AreKnown n) (sym ok) (known_push n es e h (known_zero n e k))
known_after (Err x) n es new e ok err h k = subst (AreKnown n) (sym err) h
