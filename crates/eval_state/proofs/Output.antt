-- The bytes that a run put out, read off its events.
use Rattle.std.proofs.Common.{◌≡◌, ℕ, ◌+◌, ◌<◌, List, [], ◌∷◌, ◌++◌, length, map, get_or, take, refl, ap, ◌∙◌}
use Rattle.std.proofs.lemmas.List.{take_more}
use Rattle.history.specs.Events.{output}
use Rattle.meaning_state.specs.Shared.{Specification}
use Rattle.eval_state.specs.declared.state.Event.{Event}
use Rattle.eval_state.specs.declared.state.Event.TheVariants as event
use Rattle.eval_state.specs.declared.state.Parts.{Parts}
use Rattle.eval_state.specs.Kept.{event_view, rows_view}
use Rattle.eval_state.specs.Run.{run_of, world}

abbrev pub said : List Event → List ℕ
said [] = []
said (event.Out b ∷ es) = b ∷ said es
said (event.In w ∷ es) = said es
said (event.Made f row ∷ es) = said es
said (event.Entered f ∷ es) = said es

said_viewed : (rows : List Specification) (es : List Event) → output (map (event_view rows) es) ≡ said es
said_viewed rows [] = refl
said_viewed rows (event.Out b ∷ es) = ap (λ bytes. b ∷ bytes) (said_viewed rows es)
said_viewed rows (event.In w ∷ es) = said_viewed rows es
said_viewed rows (event.Made f row ∷ es) = said_viewed rows es
said_viewed rows (event.Entered f ∷ es) = said_viewed rows es

pub output_is : (p : Parts) → output (world (run_of p)).shared.history ≡ said p.events
unfolding run_of
output_is p = said_viewed (rows_view p.rows) p.events

said_last : (es : List Event) (e : Event) → said (es ++ e ∷ []) ≡ said es ++ said (e ∷ [])
said_last [] e = refl
said_last (event.Out b ∷ es) e = ap (λ bytes. b ∷ bytes) (said_last es e)
said_last (event.In w ∷ es) e = said_last es e
said_last (event.Made f row ∷ es) e = said_last es e
said_last (event.Entered f ∷ es) e = said_last es e

-- one event more was read
pub said_more : (es : List Event) (i : ℕ) (d : Event) → i < length es
    → said (take (i + 1) es) ≡ said (take i es) ++ said (get_or es i d ∷ [])
said_more es i d h = ap said (take_more es i d h) ∙ said_last (take i es) (get_or es i d)

pub said_none : (e : Event) → ((b : ℕ) → e ≡ event.Out b → ⊥) → said (e ∷ []) ≡ []
said_none (event.Out b) never = absurd (never b refl)
said_none (event.In w) never = refl
said_none (event.Made f row) never = refl
said_none (event.Entered f) never = refl
