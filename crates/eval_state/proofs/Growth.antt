-- What the state names stays what it is where a specification is added.
use Rattle.std.proofs.Common.{◌≡◌, ℕ, zero, suc, true, ◌+◌, ◌≤◌, length, List, [], ◌∷◌, ◌++◌, map, refl, ap, ◌∙◌, arith}
use Rattle.meaning_state.specs.Rows.{numbered}
use Rattle.meaning_state.specs.Shared.{Specification}
use Rattle.eval_state.specs.KeptRows.{Row, row_kept, rows_behind, rows_kept}
use Rattle.eval_state.specs.Pending as pending
use Rattle.history.specs.Events as event
use Rattle.eval_state.specs.declared.state.Body.{Body}
use Rattle.eval_state.specs.declared.state.Entry.{Entry}
use Rattle.eval_state.specs.declared.state.Entry.TheVariants as entry
use Rattle.eval_state.specs.declared.state.Compiled.{Compiled}
use Rattle.eval_state.specs.declared.state.Event.{Event}
use Rattle.eval_state.specs.declared.state.Event.TheVariants as happened
use Rattle.eval_state.specs.Kept.{variables_of, generated_of, body_view, captures_in, compiled_view, entry_view}
use Rattle.eval_state.specs.Kept.{event_view}
use Rattle.eval_state.specs.Specified.{AreMade, IsCode}
use Rattle.eval_state.specs.Sound.{IsNamed, AreNamed, IsKnown, AreKnown, called, calls}
use Rattle.staged_meaning.specs.Specifications.{syntax_in}

pub numbered_more : (n : ℕ) (rows : List Specification) (s : Specification) → n ≤ length rows
    → numbered n (rows ++ s ∷ []) ≡ numbered n rows
numbered_more zero rows s h = refl
numbered_more (suc n) [] s h = absurd (omega (arith, h))
numbered_more (suc zero) (r ∷ rows) s h = refl
numbered_more (suc (suc n)) (r ∷ rows) s h = numbered_more (suc n) rows s (omega (arith, h))

-- the number of a specification of a tick is one of a row
pub code_within : (n : ℕ) (rows : List Specification) → IsCode (numbered n rows) → n ≤ length rows
code_within zero rows h = absurd h
code_within (suc n) [] h = absurd h
code_within (suc zero) (r ∷ rows) h = omega arith
code_within (suc (suc n)) (r ∷ rows) h = omega (arith, code_within (suc n) rows h)

pub body_more : (b : Body) (rows : List Specification) (s : Specification) → b.row ≤ length rows
    → body_view (rows ++ s ∷ []) b ≡ body_view rows b
body_more b rows s h = ap
    (λ o. record {
      variables = variables_of b.variables;
      arguments = b.arguments;
      generated = generated_of b.generated;
      object = b.object;
      captures = captures_in o;
    }) (numbered_more b.row rows s h)

entry_more : (e : Entry) (rows : List Specification) (s : Specification) → IsNamed (length rows) e
    → entry_view (rows ++ s ∷ []) e ≡ entry_view rows e
entry_more (entry.Inside f) rows s h = refl
entry_more (entry.Called a charge b) rows s h = ap (pending.Called a charge) (body_more b rows s h)
entry_more (entry.Spliced a vs object row) rows s h =
    ap (λ o. pending.Spliced a (variables_of vs) object (captures_in o)) (numbered_more row rows s h)

pub entries_more : (es : List Entry) (rows : List Specification) (s : Specification) → AreNamed (length rows) es
    → map (entry_view (rows ++ s ∷ [])) es ≡ map (entry_view rows) es
entries_more [] rows s h = refl
entries_more (e ∷ es) rows s h =
    ap (λ f. f ∷ map (entry_view (rows ++ s ∷ [])) es) (entry_more e rows s h.0)
    ∙ ap (λ fs. entry_view rows e ∷ fs) (entries_more es rows s h.1)

event_more : (e : Event) (rows : List Specification) (s : Specification) → IsKnown (length rows) e
    → event_view (rows ++ s ∷ []) e ≡ event_view rows e
event_more (happened.Out b) rows s h = refl
event_more (happened.In w) rows s h = refl
event_more (happened.Made f row) rows s h = ap (λ o. event.Made f (syntax_in o)) (numbered_more row rows s h)
event_more (happened.Entered f) rows s h = refl

pub events_more : (es : List Event) (rows : List Specification) (s : Specification) → AreKnown (length rows) es
    → map (event_view (rows ++ s ∷ [])) es ≡ map (event_view rows) es
events_more [] rows s h = refl
events_more (e ∷ es) rows s h =
    ap (λ f. f ∷ map (event_view (rows ++ s ∷ [])) es) (event_more e rows s h.0)
    ∙ ap (λ fs. event_view rows e ∷ fs) (events_more es rows s h.1)

pub compiled_more : (ms : List Compiled) (rows : List Specification) (s : Specification) → AreMade rows ms
    → map (compiled_view (rows ++ s ∷ [])) ms ≡ map (compiled_view rows) ms
compiled_more [] rows s h = refl
compiled_more (m ∷ ms) rows s h =
    ap (λ o. record { syntax = syntax_in o; first = m.first; count = m.words; live = true }
    ∷ map (compiled_view (rows ++ s ∷ [])) ms)
    (numbered_more m.row rows s (code_within m.row rows h.0.0))
    ∙ ap (λ fs. compiled_view rows m ∷ fs) (compiled_more ms rows s h.1)

-- there are as many specifications as are kept
count_behind : (rows : List Specification) (more : List Row) → length (rows_behind rows more)
    ≡ length rows + length more
count_behind rows [] = omega arith
count_behind rows (row ∷ more) =
    count_behind (rows ++ row_kept rows row ∷ []) more
    ∙ ap (λ n. n + length more) (length_more rows (row_kept rows row))
    ∙ omega arith
  where
    length_more : (rows : List Specification) (s : Specification) → length (rows ++ s ∷ []) ≡ suc (length rows)
    length_more [] s = refl
    length_more (r ∷ rows) s = ap suc (length_more rows s)

pub count_kept : (more : List Row) → length (rows_kept more) ≡ length more
count_kept more = count_behind [] more ∙ omega arith

-- ---- what is pushed, and taken off

pub named_push : (n : ℕ) (es : List Entry) (e : Entry) → AreNamed n es → IsNamed n e → AreNamed n (es ++ e ∷ [])
named_push n [] e h k = (k, tt)
named_push n (d ∷ es) e h k = (h.0, named_push n es e h.1 k)

pub named_rest : (n : ℕ) (es : List Entry) (e : Entry) → AreNamed n (es ++ e ∷ []) → AreNamed n es
named_rest n [] e h = tt
named_rest n (d ∷ es) e h = (h.0, named_rest n es e h.1)

pub named_last : (n : ℕ) (es : List Entry) (e : Entry) → AreNamed n (es ++ e ∷ []) → IsNamed n e
named_last n [] e h = h.0
named_last n (d ∷ es) e h = named_last n es e h.1

pub known_push : (n : ℕ) (es : List Event) (e : Event) → AreKnown n es → IsKnown n e → AreKnown n (es ++ e ∷ [])
known_push n [] e h k = (k, tt)
known_push n (d ∷ es) e h k = (h.0, known_push n es e h.1 k)

pub calls_push : (es : List Entry) (e : Entry) → calls (es ++ e ∷ []) ≡ calls es + called e
calls_push [] e = omega arith
calls_push (d ∷ es) e = omega (arith, calls_push es e)
