-- What is still to come, where the newest of what is pending is taken off.
use Rattle.std.proofs.Common.{◌≡◌, ℕ, ◌+◌, ◌-◌, ◌^◌, ◌<◌, length, List, [], ◌∷◌, ◌++◌, map, ap, sym, ◌∙◌}
use Rattle.std.proofs.Common.{subst, arith}
use Rattle.std.proofs.lemmas.List.{map-append}
use Rattle.staged_meaning.specs.Expressions.{left_by}
use Rattle.staged_meaning.specs.World.{Gives, Returns, spend}
use Rattle.typed_tree.specs.declared.expression.Answer.{Answer}
use Rattle.eval_state.specs.Rest.{Value, valued, value_of}
use Rattle.eval_state.specs.declared.parts.Frame.{Frame}
use Rattle.eval_state.specs.declared.parts.Popped.TheVariants as popped
use Rattle.eval_state.specs.declared.state.Body.{Body}
use Rattle.eval_state.specs.declared.state.Entry.{Entry}
use Rattle.eval_state.specs.declared.state.Entry.TheVariants as entry
use Rattle.eval_state.specs.declared.state.Parts.{Parts}
use Rattle.eval_state.specs.Grown.{with_caller}
use Rattle.eval_state.specs.Kept.{body_view, captures_at, entry_view, rows_view, variables_of}
use Rattle.eval_state.specs.Popped.{IsEnded, IsLeft}
use Rattle.eval_state.specs.Run.{leads, pushed, run_of, with_units, world}
use Rattle.eval_state.specs.Sound.{AreNamed, IsNamed, IsSound, called, calls}
use Rattle.eval_state.specs.Views.{frame_view}
use Rattle.eval_state.proofs.Growth.{calls_push, named_last, named_rest}
use Rattle.eval_state.proofs.Changes.{pushes}
use Rattle.eval_state.proofs.Runs.{call_ends, call_left, splice_ends, splice_left}

-- the run with these entries behind it
module _ (p q : Parts) (es : List Entry) where
  pub frames_are : (e : Entry) → p.entries ≡ es ++ e ∷ [] → map (entry_view (rows_view p.rows)) p.entries
      ≡ map (entry_view (rows_view p.rows)) es ++ entry_view (rows_view p.rows) e ∷ []
  frames_are e h =
      ap (map (entry_view (rows_view p.rows))) h ∙ map-append (entry_view (rows_view p.rows)) es (e ∷ [])

  pub takes_frame : (f : Frame) → p.entries ≡ es ++ entry.Inside f ∷ [] → q ≡ record p { entries = es }
      → run_of p ≡ pushed (frame_view f) (run_of q)
  takes_frame f h k =
      pushes (record p { entries = es }) p f (ap (λ (es : List Entry). record p { entries = es }) h)
      ∙ ap (λ (q : Parts). pushed (frame_view f) (run_of q)) (sym k)

  pub ends_call : (a : Answer) (charge : ℕ) (caller : Body) → p.entries ≡ es ++ entry.Called a charge caller ∷ []
      → q ≡ with_caller charge caller (record p { entries = es })
      → IsEnded (popped.Called a) (run_of p) (run_of q)
  unfolding run_of
  ends_call a charge caller h k x =
      call_ends (run_of p) (map (entry_view (rows_view p.rows)) es) a charge (body_view (rows_view p.rows) caller) x
      (frames_are (entry.Called a charge caller) h)
      ∙ ap (λ (q : Parts). leads (run_of q) (valued (spend (left_by a (value_of x)) (world (run_of q))))) (sym k)

  pub leaves_call : (a : Answer) (charge : ℕ) (caller : Body) → p.entries ≡ es ++ entry.Called a charge caller ∷ []
      → q ≡ with_caller charge caller (record p { entries = es })
      → IsLeft (popped.Called a) (run_of p) (run_of q)
  unfolding run_of
  leaves_call a charge caller h k v =
      call_left (run_of p) (map (entry_view (rows_view p.rows)) es) a charge (body_view (rows_view p.rows) caller) v
      (frames_are (entry.Called a charge caller) h)
      ∙ ap (λ (q : Parts). leads (run_of q) (valued (spend (left_by a v) (world (run_of q))))) (sym k)

  pub ends_splice : (a : Answer) (vs : List ℕ) (object row : ℕ)
      → p.entries ≡ es ++ entry.Spliced a vs object row ∷ []
      → q ≡ record p { entries = es; body = record p.body { variables = vs; object = object; row = row } }
      → IsEnded (popped.Spliced a) (run_of p) (run_of q)
  unfolding run_of
  ends_splice a vs object row h k x =
      splice_ends (run_of p) (map (entry_view (rows_view p.rows)) es) a (variables_of vs) object
      (captures_at (rows_view p.rows) row) x (frames_are (entry.Spliced a vs object row) h)
      ∙ ap (λ (q : Parts). leads (run_of q) (Gives (Value (left_by a (value_of x))) (world (run_of q)))) (sym k)

  pub leaves_splice : (a : Answer) (vs : List ℕ) (object row : ℕ)
      → p.entries ≡ es ++ entry.Spliced a vs object row ∷ []
      → q ≡ record p { entries = es; body = record p.body { object = object; row = row } }
      → IsLeft (popped.Spliced a) (run_of p) (run_of q)
  unfolding run_of
  leaves_splice a vs object row h k v =
      splice_left (run_of p) (map (entry_view (rows_view p.rows)) es) a (variables_of vs) object
      (captures_at (rows_view p.rows) row) v (frames_are (entry.Spliced a vs object row) h)
      ∙ ap (λ (q : Parts). leads (run_of q) (Returns v (world (run_of q)))) (sym k)

-- nothing is pending
pub none_pending : (p : Parts) → p.entries ≡ [] → (run_of p).state.frames ≡ []
unfolding run_of
none_pending p h = ap (map (entry_view (rows_view p.rows))) h

pub ruleset taken = (takes_frame, ends_call, leaves_call, ends_splice, leaves_splice, none_pending)

-- so many units are spent
pub takes_units : (p q : Parts) (n : ℕ) → q ≡ record p { units = p.units - n }
    → run_of q ≡ with_units ((world (run_of p)).units - n) (run_of p)
unfolding run_of
takes_units p q n h = ap run_of h

pub takes_rest : (p q : Parts) → q ≡ record p { units = 0 } → run_of q ≡ with_units 0 (run_of p)
unfolding run_of
takes_rest p q h = ap run_of h

-- ---- the parts are sound without it

-- what was taken off is the last of what was pending
pub was : {old : List Entry} {e f : Entry} (es : List Entry) → old ≡ es ++ e ∷ [] → e ≡ f → old ≡ es ++ f ∷ []
was es h k = h ∙ ap (λ (e : Entry). es ++ e ∷ []) k

module _ (p : Parts) (es : List Entry) (e : Entry) (sound : IsSound p) (h : p.entries ≡ es ++ e ∷ []) where
  abbrev named : AreNamed (length p.rows) (es ++ e ∷ [])
  named = subst (AreNamed (length p.rows)) h sound.1

  -- what it names is there
  pub last_named : IsNamed (length p.rows) e
  last_named = named_last (length p.rows) es e named

  pub fewer_calls : p.depth + (calls es + called e) < 2 ^ 64
  fewer_calls =
      let same : calls p.entries ≡ calls es + called e = ap calls h ∙ calls_push es e in
      omega (arith, same, sound.5)

  pub sound_without : IsSound (record p { entries = es })
  sound_without = (
    sound.0,
    named_rest (length p.rows) es e named,
    sound.2,
    sound.3,
    sound.4,
    omega (arith, fewer_calls),
  )
