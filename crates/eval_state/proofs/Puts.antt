-- How the run changes where a byte or a number is put out, where the input is read, and where the heap is taken.
use Rattle.std.proofs.Common.{◌≡◌, ℕ, suc, List, [], ◌∷◌, ◌++◌, map, refl, ap, sym, ◌∙◌, arith}
use Rattle.std.proofs.Common.{◌+◌, ◌<◌, length, get_or, take, subst, append_assoc, Result, Ok, Err, OnOk, OnErr}
use Rattle.std.proofs.Common.{◌-◌, ◌*◌, ◌/◌, ◌≤◌, Bool, true, false, if◌then◌else◌}
use Rattle.std.specs.Prelude.{nat_le}
use Rattle.std.proofs.lemmas.Bool.Decides.{nat_tests}
use Rattle.std.proofs.lemmas.List.{map-append, take_more}
use Rattle.history.specs.Events as happened
use Rattle.history.specs.Events.{outs, number_bytes}
use Rattle.word32.specs.declared.map.TheConstants.{FRAMES}
use Rattle.meaning_state.specs.Shared.{Shared, Specification, happens, malloc, malloc_answer, put_number}
use Rattle.staged_meaning.specs.World.{with_shared}
use Rattle.eval_state.specs.declared.state.Event.{Event}
use Rattle.eval_state.specs.declared.state.Event.TheVariants as event
use Rattle.eval_state.specs.declared.state.Parts.{Parts}
use Rattle.eval_state.specs.Kept.{event_view, rows_view}
use Rattle.eval_state.specs.Library.{put_after}
use Rattle.eval_state.specs.Sound.{AreKnown, IsKnown}
use Rattle.eval_state.proofs.Growth.{known_push}
use Rattle.eval_state.specs.Run.{Run, in_world, program_of, run_of, state_of, world}

-- the same run with another history
abbrev told : Parts → List happened.Item → Run
told p items = record {
  program = program_of p;
  turns = suc p.turns;
  state = record (state_of p) { shared = record (state_of p).shared { history = items } };
}

-- an event more
pub event_happens : (p q : Parts) (e : Event) → q ≡ record p { events = p.events ++ e ∷ [] }
    → run_of q ≡ in_world (with_shared (happens (event_view (rows_view p.rows) e) (world (run_of p)).shared)
    (world (run_of p))) (run_of p)
unfolding run_of
event_happens p q e h =
    ap run_of h
    ∙ ap (told p) (map-append (event_view (rows_view p.rows)) p.events (e ∷ []))

outs_view : (rows : List Specification) (bytes : List ℕ) → map (event_view rows) (map event.Out bytes) ≡ outs bytes
outs_view rows [] = refl
outs_view rows (b ∷ bytes) = ap (λ items. happened.Out b ∷ items) (outs_view rows bytes)

-- bytes more were put out
pub bytes_happen : (p q : Parts) (v : ℕ) → q ≡ record p { events = put_after p.events (number_bytes v) }
    → run_of q ≡ in_world (with_shared (put_number v (world (run_of p)).shared) (world (run_of p))) (run_of p)
unfolding run_of
bytes_happen p q v h =
    ap run_of h
    ∙ ap (told p)
    (map-append (event_view (rows_view p.rows)) p.events (map event.Out (number_bytes v))
    ∙ ap (λ items. map (event_view (rows_view p.rows)) p.events ++ items)
    (outs_view (rows_view p.rows) (number_bytes v)))

-- ---- the heap

is_within : (bytes room : ℕ) → bytes ≤ room → nat_le bytes room ≡ true
is_within bytes room h = grind (arith, nat_tests)

is_over : (bytes room : ℕ) → room < bytes → nat_le bytes room ≡ false
is_over bytes room h = grind (arith, nat_tests)

pub takes_room : (p : Parts) (bytes : ℕ) → bytes ≤ FRAMES - p.heap
    → malloc_answer bytes (world (run_of p)).shared ≡ p.heap
unfolding run_of
takes_room p bytes h = ap (λ b. if b then p.heap else 0) (is_within bytes (FRAMES - p.heap) h)

pub lacks_room : (p : Parts) (bytes : ℕ) → FRAMES - p.heap < bytes
    → malloc_answer bytes (world (run_of p)).shared ≡ 0
unfolding run_of
lacks_room p bytes h = ap (λ b. if b then p.heap else 0) (is_over bytes (FRAMES - p.heap) h)

-- the run behind a call of malloc
abbrev pub behind_malloc : (bytes : ℕ) → Run → Run
behind_malloc bytes r = in_world (with_shared (malloc bytes (world r).shared) (world r)) r

-- with this behind the test for room
abbrev chosen : (bytes : ℕ) → Run → Bool → Run
chosen bytes r b =
    let taken : Shared = record (world r).shared { heap = (world r).shared.heap + (bytes + 7) / 8 * 8 } in
    in_world (with_shared (if b then taken else (world r).shared) (world r)) r

pub takes_heap : (p q : Parts) (bytes : ℕ) → bytes ≤ FRAMES - p.heap
    → q ≡ record p { heap = p.heap + (bytes + 7) / 8 * 8 } → run_of q ≡ behind_malloc bytes (run_of p)
unfolding run_of
takes_heap p q bytes h e =
    ap run_of e
    ∙ ap (chosen bytes (run_of p)) (sym (is_within bytes (FRAMES - p.heap) h))

pub keeps_heap : (p : Parts) (bytes : ℕ) → FRAMES - p.heap < bytes → run_of p ≡ behind_malloc bytes (run_of p)
unfolding run_of
keeps_heap p bytes h = ap (chosen bytes (run_of p)) (sym (is_over bytes (FRAMES - p.heap) h))

-- ---- one event after another

-- an event was pushed, or none, where memory is wanting
pub known_after : {T E : Type 0} (r : Result T E) (n : ℕ) (es new : List Event) (e : Event)
    → OnOk r (new ≡ es ++ e ∷ []) → OnErr r (new ≡ es) → AreKnown n es → IsKnown n e → AreKnown n new
known_after (Ok t) n es new e ok err h k = subst (AreKnown n) (sym ok) (known_push n es e h k)
known_after (Err x) n es new e ok err h k = subst (AreKnown n) (sym err) h

pub put_more : (es : List Event) (bytes : List ℕ) (i : ℕ) → i < length bytes
    → put_after es (take i bytes) ++ event.Out (get_or bytes i 0) ∷ [] ≡ put_after es (take (i + 1) bytes)
put_more es bytes i h =
    append_assoc es (map event.Out (take i bytes)) (event.Out (get_or bytes i 0) ∷ [])
    ∙ ap (λ more. es ++ more)
    (sym (map-append event.Out (take i bytes) (get_or bytes i 0 ∷ []))
    ∙ ap (map event.Out) (sym (take_more bytes i 0 h)))
