-- How the run changes where the input is read.
use Rattle.std.proofs.Common.{◌≡◌, ℕ, suc, ◌%◌, ◌<◌, false, List, [], ◌∷◌, ◌++◌, map, refl, ap, sym}
use Rattle.std.proofs.Common.{length}
use Rattle.std.proofs.Common.{subst, ◌∙◌, arith}
use Rattle.std.proofs.lemmas.List.{map-append}
use Rattle.history.specs.Events as happened
use Rattle.history.specs.Events.{Input, next_of}
use Rattle.meaning_state.specs.Shared.{Got, Read, get_byte, happens, read}
use Rattle.eval_state.specs.declared.state.Event.TheVariants as event
use Rattle.eval_state.specs.declared.state.Parts.{Parts}
use Rattle.eval_state.specs.Kept.{event_view, rows_view}
use Rattle.eval_state.specs.Library.{IsRead}
use Rattle.eval_state.specs.Run.{Run, program_of, run_of, state_of, world}

pub no_bytes : (bytes : List ℕ) → length bytes ≡ 0 → bytes ≡ []
no_bytes [] h = refl
no_bytes (b ∷ bytes) h = absurd (omega (arith, h))

-- what a read comes to, and the run behind it
abbrev reading : Parts → List ℕ → Read
reading p bytes = read (next_of bytes false) (world (run_of p)).shared

-- the same run with another history and another input
abbrev asked : Parts → List happened.Item → List ℕ → Run
asked p items bytes = record {
  program = program_of p;
  turns = suc p.turns;
  state = record (state_of p) {
    shared = record (state_of p).shared { history = items; input = record { bytes = bytes; failing = false } };
  };
}

pub reads_byte : (p q : Parts) (b : ℕ) (rest : List ℕ) → p.input.now ≡ b ∷ rest → b < 256
    → q ≡ record p { events = p.events ++ event.In b ∷ []; input = q.input } → q.input.now ≡ rest
    → IsRead b (get_byte (world (run_of p)).shared) (run_of p) (run_of q)
unfolding run_of
reads_byte p q b rest h fits e left =
    let byte : b % 256 ≡ b = omega (arith, fits) in
    let got = ap (λ bytes. reading p bytes) h
    ∙ ap (λ n. Got n (happens (happened.In n) (record (world (run_of p)).shared {
      input = record { bytes = rest; failing = false };
    }))) byte in
    subst (λ x. IsRead b x (run_of p) (run_of q)) (sym got) (refl, behind)
  where
    behind : run_of q ≡ asked p (map (event_view (rows_view p.rows)) p.events ++ happened.In b ∷ []) rest
    behind =
        ap run_of e
        ∙ (λ i. asked p (map-append (event_view (rows_view p.rows)) p.events (event.In b ∷ []) i) (left i))

pub reads_end : (p q : Parts) → p.input.now ≡ []
    → q ≡ record p { events = p.events ++ event.In 4294967295 ∷ [] }
    → IsRead 4294967295 (get_byte (world (run_of p)).shared) (run_of p) (run_of q)
unfolding run_of
reads_end p q h e =
    let got : reading p p.input.now ≡ reading p [] = ap (reading p) h in
    subst (λ x. IsRead 4294967295 x (run_of p) (run_of q)) (sym got) (refl, behind)
  where
    behind : run_of q
        ≡ asked p (map (event_view (rows_view p.rows)) p.events ++ happened.In 4294967295 ∷ []) p.input.now
    behind =
        ap run_of e
        ∙ ap (λ items. asked p items p.input.now)
        (map-append (event_view (rows_view p.rows)) p.events (event.In 4294967295 ∷ []))
