-- What waits where an evaluation on the host's stack can't go on is pending behind what is.
use Rattle.std.proofs.Common.{◌≡◌, ℕ, suc, ◌+◌, ◌^◌, ◌<◌, length, List, [], ◌∷◌, ◌++◌, map}
use Rattle.std.proofs.Common.{refl, ap, sym, subst, ◌∙◌, arith, length-append}
use Rattle.std.proofs.lemmas.List.{map-append}
use Rattle.meaning_state.specs.Shared.{Specification}
use Rattle.eval_state.specs.Pending as pending
use Rattle.eval_state.specs.Rest.{Place, below, place_of, under}
use Rattle.eval_state.specs.declared.parts.EndFrame.TheVariants as end
use Rattle.eval_state.specs.declared.parts.ExpressionFrame.TheVariants as expression
use Rattle.eval_state.specs.declared.parts.Frame.{Frame}
use Rattle.eval_state.specs.declared.parts.Frame.TheVariants as frame
use Rattle.eval_state.specs.declared.parts.StatementFrame.TheVariants as statement
use Rattle.eval_state.specs.Views.{frame_view}
use Rattle.eval_state.specs.declared.state.Entry.{Entry}
use Rattle.eval_state.specs.declared.state.Entry.TheVariants as entry
use Rattle.eval_state.specs.declared.state.Parts.{Parts}
use Rattle.eval_state.specs.Kept.{body_view, captures_at, entry_view, rows_view}
use Rattle.eval_state.specs.Late.{AreLocal, IsLocal, IsSettled, MayWait, frames_of, with_frames}
use Rattle.eval_state.specs.Run.{Run, program_of, pushed, run_of, state_of}
use Rattle.eval_state.specs.Sound.{IsNamed, IsSound, called, calls}
use Rattle.history.specs.Syntax.{NoCapture}
use Rattle.eval_state.proofs.Growth.{calls_push}

-- ---- an entry that names no specification is the same frame whatever is there

captures_of_zero : (rows : List Specification) (n : ℕ) → n ≡ 0 → captures_at rows n ≡ NoCapture
captures_of_zero rows n h = ap (captures_at rows) h

pub local_view : (rows : List Specification) (e : Entry) → IsLocal e → entry_view rows e ≡ entry_view [] e
local_view rows (entry.Inside f) h = refl
local_view rows (entry.Called a charge caller) h =
    ap (λ c. pending.Called a charge (record (body_view rows caller) { captures = c }))
    (captures_of_zero rows caller.row h ∙ sym (captures_of_zero [] caller.row h))
local_view rows (entry.Spliced a vs object row) h = absurd h

pub waits_local : (p : Parts) (e : Entry) → MayWait e p → IsLocal e
waits_local p (entry.Inside f) h = tt
waits_local p (entry.Called a charge caller) h = h.0
waits_local p (entry.Spliced a vs object row) h = h

pub waits_named : (p : Parts) (e : Entry) (n : ℕ) → MayWait e p → IsNamed n e
waits_named p (entry.Inside f) n h = tt
waits_named p (entry.Called a charge caller) n h = omega (arith, h.0)
waits_named p (entry.Spliced a vs object row) n h = absurd h

pub waits_within : (p : Parts) (e : Entry) → MayWait e p → p.depth + calls p.entries < 2 ^ 64
    → p.depth + (calls p.entries + called e) < 2 ^ 64
waits_within p (entry.Inside f) h k = omega (arith, k)
waits_within p (entry.Called a charge caller) h k = omega (arith, h.1)
waits_within p (entry.Spliced a vs object row) h k = absurd h

-- the same run with other frames
abbrev framed : Parts → List pending.Frame → Run
framed p fs = record { program = program_of p; turns = suc p.turns; state = record (state_of p) { frames = fs } }

pub local_pushed : (p q : Parts) (e : Entry) → MayWait e p → q ≡ record p { entries = p.entries ++ e ∷ [] }
    → run_of q ≡ pushed (entry_view [] e) (run_of p)
unfolding run_of
local_pushed p q e may h =
    ap run_of h
    ∙ ap (framed p) (map-append (entry_view (rows_view p.rows)) p.entries (e ∷ []))
    ∙ ap (λ f. framed p (map (entry_view (rows_view p.rows)) p.entries ++ f ∷ []))
    (local_view (rows_view p.rows) e (waits_local p e may))

-- ---- the last of several

pub frames_push : (es : List Entry) (e : Entry) → frames_of (es ++ e ∷ []) ≡ entry_view [] e ∷ frames_of es
frames_push [] e = refl
frames_push (d ∷ es) e = ap (λ fs. fs ++ entry_view [] d ∷ []) (frames_push es e)

pub local_push : (es : List Entry) (e : Entry) → AreLocal es → IsLocal e → AreLocal (es ++ e ∷ [])
local_push [] e h k = (k, tt)
local_push (d ∷ es) e h k = (h.0, local_push es e h.1 k)

pub local_last : (es : List Entry) (e : Entry) → AreLocal (es ++ e ∷ []) → IsLocal e
local_last [] e h = h.0
local_last (d ∷ es) e h = local_last es e h.1

pub local_rest : (es : List Entry) (e : Entry) → AreLocal (es ++ e ∷ []) → AreLocal es
local_rest [] e h = tt
local_rest (d ∷ es) e h = (h.0, local_rest es e h.1)

pub may_wait : (p : Parts) (e : Entry) → IsLocal e → p.depth + calls p.entries + called e < 2 ^ 64 → MayWait e p
may_wait p (entry.Inside f) h k = tt
may_wait p (entry.Called a charge caller) h k = (h, k)
may_wait p (entry.Spliced a vs object row) h k = h

append_nil : {A : Type 0} (xs : List A) → xs ++ [] ≡ xs
append_nil [] = refl
append_nil (x ∷ xs) = ap (λ ys. x ∷ ys) (append_nil xs)

append_more : {A : Type 0} (xs ys zs : List A) → (xs ++ ys) ++ zs ≡ xs ++ (ys ++ zs)
append_more [] ys zs = refl
append_more (x ∷ xs) ys zs = ap (λ ws. x ∷ ws) (append_more xs ys zs)

-- ---- what waits is pending, from the last to the first

-- the run has those frames besides, but for the ones that still wait
abbrev pub Settles : (waiting rest : List Entry) → (p q : Parts) → Type 0
Settles waiting rest p q =
    AreLocal rest × (q.depth + calls q.entries + calls rest < 2 ^ 64)
    × (with_frames (frames_of rest) (run_of q) ≡ with_frames (frames_of waiting) (run_of p))

pub settles_first : (waiting : List Entry) (p : Parts) → AreLocal waiting
    → p.depth + calls p.entries + calls waiting < 2 ^ 64 → Settles waiting waiting p p
settles_first waiting p h k = (h, k, refl)

with_none : (r : Run) → with_frames [] r ≡ r
with_none r = ap (λ fs. record r { state = record r.state { frames = fs } }) (append_nil r.state.frames)

pub settles_last : (waiting rest : List Entry) (p q : Parts) → Settles waiting rest p q → rest ≡ []
    → run_of q ≡ with_frames (frames_of waiting) (run_of p)
settles_last waiting rest p q h none =
    sym (with_none (run_of q)) ∙ ap (λ es. with_frames (frames_of es) (run_of q)) (sym none) ∙ h.2

module _ (waiting rest es : List Entry) (e : Entry) (p q : Parts) (h : Settles waiting rest p q)
    (is : rest ≡ es ++ e ∷ []) where
  abbrev local : AreLocal (es ++ e ∷ [])
  local = subst AreLocal is h.0

  settles_may : MayWait e q
  settles_may =
      let same : calls rest ≡ calls es + called e = ap calls is ∙ calls_push es e in
      may_wait q e (local_last es e local) (omega (arith, same, h.1))

  settles_more : (t : Parts) → t ≡ record q { entries = q.entries ++ e ∷ [] }
      → run_of t ≡ pushed (entry_view [] e) (run_of q) → Settles waiting es p t
  settles_more t parts run =
      let same : calls rest ≡ calls es + called e = ap calls is ∙ calls_push es e in
      let depth : t.depth ≡ q.depth = ap (λ (t : Parts). t.depth) parts in
      let more : calls t.entries ≡ calls q.entries + called e =
      ap (λ (t : Parts). calls t.entries) parts ∙ calls_push q.entries e in (
        local_rest es e local,
        omega (arith, same, depth, more, h.1),
        ap (with_frames (frames_of es)) run
            ∙ ap (λ fs. record (run_of q) { state = record (run_of q).state { frames = fs } })
            (append_more (run_of q).state.frames (entry_view [] e ∷ []) (frames_of es))
            ∙ ap (λ fs. with_frames fs (run_of q)) (sym (frames_push es e))
            ∙ ap (λ rest. with_frames (frames_of rest) (run_of q)) (sym is)
            ∙ h.2,
      )

-- the last of those that wait
module _ (waiting es : List Entry) (e : Entry) (p : Parts) (local : AreLocal waiting)
    (within : p.depth + calls p.entries + calls waiting < 2 ^ 64) (is : waiting ≡ es ++ e ∷ []) where
  pub last_may : MayWait e p
  last_may = settles_may waiting waiting es e p p (settles_first waiting p local within) is

  pub settled : (t : Parts) → t ≡ record p { entries = p.entries ++ e ∷ [] } → IsSettled waiting es p t
  settled t parts =
      let run = local_pushed p t e last_may parts in
      let h = settles_more waiting waiting es e p p (settles_first waiting p local within) is t parts run in
      record {
        fewer = omega (arith, ap length is, length-append es (e ∷ []));
        local = h.0;
        within = h.1;
        same = h.2;
      }

-- ---- how many calls more may be active, where what waits stands on what was pending before

abbrev pub calling : pending.Frame → ℕ
calling (pending.Called a charge caller) = 1
calling _ = 0

abbrev pub all_calling : List pending.Frame → ℕ
all_calling [] = 0
all_calling (f ∷ fs) = calling f + all_calling fs

under_depth : (f : pending.Frame) (p : Place) → (under f p).depth ≡ p.depth + calling f
under_depth (pending.Called a charge caller) p = omega arith
under_depth (pending.Spliced a vs object captures) p = omega arith
under_depth _ p = omega arith

below_depth : (fs : List pending.Frame) (p : Place) → (below fs p).depth ≡ p.depth + all_calling fs
below_depth [] p = omega arith
below_depth (f ∷ fs) p = omega (arith, under_depth f (below fs p), below_depth fs p)

all_more : (fs gs : List pending.Frame) → all_calling (fs ++ gs) ≡ all_calling fs + all_calling gs
all_more [] gs = omega arith
all_more (f ∷ fs) gs = omega (arith, all_more fs gs)

inside_calls : (f : Frame) → calling (frame_view f) ≡ 0
inside_calls (frame.Expression (expression.SetVar i)) = refl
inside_calls (frame.Expression _) = refl
inside_calls (frame.Statement statement.Drop) = refl
inside_calls (frame.Statement _) = refl
inside_calls (frame.End end.SwitchEnd) = refl
inside_calls (frame.End _) = refl

entry_calls : (rows : List Specification) (e : Entry) → calling (entry_view rows e) ≡ called e
entry_calls rows (entry.Inside f) = inside_calls f
entry_calls rows (entry.Called a charge caller) = refl
entry_calls rows (entry.Spliced a vs object row) = refl

entries_call : (rows : List Specification) (es : List Entry) → all_calling (map (entry_view rows) es) ≡ calls es
entries_call rows [] = refl
entries_call rows (e ∷ es) = omega (arith, entry_calls rows e, entries_call rows es)

waiting_calls : (es : List Entry) → all_calling (frames_of es) ≡ calls es
waiting_calls [] = refl
waiting_calls (e ∷ es) =
    let more = all_more (frames_of es) (entry_view [] e ∷ []) in
    omega (arith, more, entry_calls [] e, waiting_calls es)

pub calls_same : (p q : Parts) → (run_of q).state.frames ≡ (run_of p).state.frames → calls q.entries ≡ calls p.entries
unfolding run_of
calls_same p q h =
    sym (entries_call (rows_view q.rows) q.entries) ∙ ap all_calling h ∙ entries_call (rows_view p.rows) p.entries

pub stays_within : (p q : Parts) → (run_of q).state.frames ≡ (run_of p).state.frames
    → (run_of q).state.depth ≡ (run_of p).state.depth → p.depth + calls p.entries + 1 < 2 ^ 64
    → q.depth + calls q.entries + 1 < 2 ^ 64
unfolding run_of
stays_within p q frames depth h = omega (arith, calls_same p q frames, depth, h)

pub settles_within : (p q : Parts) (es : List Entry) → IsSound p → (run_of q).state.frames ≡ (run_of p).state.frames
    → below (frames_of es) (place_of (run_of q).state) ≡ place_of (run_of p).state
    → q.depth + calls q.entries + calls es < 2 ^ 64
unfolding run_of
settles_within p q es sound frames place =
    let depth : (below (frames_of es) (place_of (run_of q).state)).depth ≡ p.depth =
    ap (λ (p : Place). p.depth) place in
    let down = below_depth (frames_of es) (place_of (run_of q).state) in
    omega (arith, depth, down, waiting_calls es, calls_same p q frames, sound.5)

pub ruleset settling = (settles_first, settles_last)
