-- How the run changes that the code's state stands for, where the parts of the state change.
use Rattle.std.proofs.Common.{◌≡◌, ℕ, zero, suc, ◌+◌, ◌-◌, ◌/◌, ◌≢◌, List, [], ◌∷◌, ◌++◌, get_or, refl, ap, sym}
use Rattle.std.proofs.Common.{subst, ◌∙◌, arith, Result, Ok, Err, OnOk, OnErr}
use Rattle.std.proofs.lemmas.List.{map-append}
use Rattle.word32.specs.Space.{update, words_from}
use Rattle.word32.specs.Space as space
use Rattle.word32.specs.declared.width.Width.{Width}
use Rattle.word32.specs.declared.map.TheConstants.{OBJECTS}
use Rattle.meaning_state.specs.Shared.{loaded, stored}
use Rattle.staged_meaning.specs.Statements.{argument}
use Rattle.staged_meaning.specs.World.{with_variable, with_shared}
use Rattle.eval_state.specs.Pending as pending
use Rattle.eval_state.specs.Pending.{Now}
use Rattle.eval_state.specs.Rest.{spent}
use Rattle.eval_state.specs.declared.parts.Frame.{Frame}
use Rattle.eval_state.specs.declared.state.Parts.{Parts}
use Rattle.eval_state.specs.declared.state.Entry.{Entry}
use Rattle.eval_state.specs.declared.state.Entry.TheVariants as entry
use Rattle.eval_state.specs.Kept.{entry_view, rows_view}
use Rattle.eval_state.specs.Sound.{AreNamed, IsNamed, called, calls}
use Rattle.eval_state.specs.Views.{frame_view}
use Rattle.eval_state.specs.Run.{Run, here, world, leads, outcome, pushed, with_units, in_world, run_of, state_of}
use Rattle.eval_state.specs.Run.{program_of}
use Rattle.eval_state.proofs.Growth.{named_push, calls_push}
use Rattle.eval_state.proofs.Runs.{spends, stops}

-- the same run with other frames, and with other variables
abbrev framed : Parts → List pending.Frame → Run
framed p fs = record { program = program_of p; turns = suc p.turns; state = record (state_of p) { frames = fs } }

abbrev varied : Parts → (ℕ → ℕ) → Run
varied p f = record {
  program = program_of p;
  turns = suc p.turns;
  state = record (state_of p) { body = record (state_of p).body { variables = f } };
}

-- ---- what is pending

pub pushes : (p q : Parts) (f : Frame) → q ≡ record p { entries = p.entries ++ entry.Inside f ∷ [] }
    → run_of q ≡ pushed (frame_view f) (run_of p)
unfolding run_of
pushes p q f h =
    ap run_of h
    ∙ ap (framed p) (map-append (entry_view (rows_view p.rows)) p.entries (entry.Inside f ∷ []))

-- an entry was pushed, or none, where memory is wanting
pub named_after : {T E : Type 0} (r : Result T E) (n : ℕ) (es new : List Entry) (e : Entry)
    → OnOk r (new ≡ es ++ e ∷ []) → OnErr r (new ≡ es) → AreNamed n es → IsNamed n e → AreNamed n new
named_after (Ok t) n es new e ok err h k = subst (AreNamed n) (sym ok) (named_push n es e h k)
named_after (Err x) n es new e ok err h k = subst (AreNamed n) (sym err) h

pub calls_after : {T E : Type 0} (r : Result T E) (es new : List Entry) (e : Entry)
    → OnOk r (new ≡ es ++ e ∷ []) → OnErr r (new ≡ es) → called e ≡ 0 → calls new ≡ calls es
calls_after (Ok t) es new e ok err k =
    let more : calls (es ++ e ∷ []) ≡ calls es + called e = calls_push es e in
    ap calls ok ∙ omega (arith, more, k)
calls_after (Err x) es new e ok err k = ap calls err

pub ruleset pushing = (pushes, named_push, calls_push)

-- ---- units

pub spends_unit : (p q : Parts) (n : Now) → p.units ≢ 0 → q ≡ record p { units = p.units - 1 }
    → outcome n (run_of q) ≡ leads (run_of p) (spent (here (run_of p)) (world (run_of p)).units n (world (run_of p)))
unfolding run_of
spends_unit p q n h k =
    let left : p.units ≡ suc (p.units - 1) = omega (arith, h) in
    ap (λ s. outcome n (run_of s)) k ∙ spends (run_of p) n (p.units - 1) left

pub has_none : (p : Parts) (n : Now) → p.units ≡ 0
    → outcome pending.Stopped (run_of p)
    ≡ leads (run_of p) (spent (here (run_of p)) (world (run_of p)).units n (world (run_of p)))
unfolding run_of
has_none p n h = stops (run_of p) n h

pub takes_unit : (p q : Parts) → q ≡ record p { units = p.units - 1 }
    → run_of q ≡ with_units ((world (run_of p)).units - 1) (run_of p)
unfolding run_of
takes_unit p q h = ap run_of h

pub units_are : (p : Parts) → (world (run_of p)).units ≡ p.units
unfolding run_of
units_are p = refl

pub turns_are : (p : Parts) → (run_of p).turns ≡ suc p.turns
unfolding run_of
turns_are p = refl

pub ruleset spending = (spends_unit, has_none, takes_unit, units_are)

-- ---- what is read

pub reads_variable : (p : Parts) (i : ℕ) → (world (run_of p)).variables i ≡ get_or p.body.variables i 0
unfolding run_of
reads_variable p i = refl

pub arguments_are : (vs : List ℕ) (k : ℕ) → argument vs k ≡ get_or vs k 0
arguments_are [] k = refl
arguments_are (v ∷ vs) zero = refl
arguments_are (v ∷ vs) (suc k) = arguments_are vs k

pub reads_argument : (p : Parts) (k : ℕ) → argument (world (run_of p)).arguments k ≡ get_or p.body.arguments k 0
unfolding run_of
reads_argument p k = arguments_are p.body.arguments k

pub reads_objects : (p : Parts) (at : ℕ) (width : Width) → loaded at width (world (run_of p)).shared
    ≡ space.load (words_from (OBJECTS / 4) p.objects.items) at width
unfolding run_of
reads_objects p at width = refl

pub ruleset reads = (reads_variable, reads_argument, reads_objects, turns_are)

-- ---- what is set

pub sets_variable : (p q : Parts) (vs : List ℕ) (i v : ℕ)
    → q ≡ record p { body = record p.body { variables = vs } }
    → ((k : ℕ) → get_or vs k 0 ≡ update i v (λ j. get_or p.body.variables j 0) k)
    → run_of q ≡ in_world (with_variable i v (world (run_of p))) (run_of p)
unfolding run_of
sets_variable p q vs i v h k =
    ap run_of h
    ∙ ap (varied p) (λ j n. k n j)

pub ruleset sets = (sets_variable)

pub stores_word : (p q : Parts) (at : ℕ) (width : Width) (w : ℕ) (objects : ℕ → ℕ)
    → run_of q ≡ in_world (with_shared (record (world (run_of p)).shared { objects = objects }) (world (run_of p)))
    (run_of p)
    → objects ≡ space.store at width w (words_from (OBJECTS / 4) p.objects.items)
    → run_of q ≡ in_world (with_shared (stored at width w (world (run_of p)).shared) (world (run_of p))) (run_of p)
unfolding run_of
stores_word p q at width w objects h k =
    h ∙ ap (λ (f : ℕ → ℕ). in_world (with_shared (record (world (run_of p)).shared { objects = f }) (world (run_of p)))
    (run_of p)) k

pub changes_objects : (p q : Parts) → q ≡ record p { objects = q.objects }
    → run_of q ≡ in_world (with_shared (record (world (run_of p)).shared {
      objects = words_from (OBJECTS / 4) q.objects.items;
    }) (world (run_of p))) (run_of p)
unfolding run_of
changes_objects p q h = ap run_of h

pub ruleset stores = (stores_word, changes_objects)
