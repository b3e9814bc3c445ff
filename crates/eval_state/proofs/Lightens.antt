-- Less is pending, where the newest of what is pending is taken off.
use Rattle.std.proofs.Common.{◌≡◌, ℕ, ◌+◌, ◌<◌, List, [], ◌∷◌, ◌++◌, map, ap, subst, sym, refl, ◌∙◌, arith}
use Rattle.std.proofs.Common.{Some, slice_get}
use Rattle.std.proofs.lemmas.List.{map-append}
use Rattle.std.specs.Option.{option_map}
use Rattle.history.specs.Syntax.{Captures, Ticked}
use Rattle.typed_tree.specs.declared.expression.Answer.{Answer}
use Rattle.eval_state.specs.Pending.{Body as Pending, Frame as Waiting}
use Rattle.eval_state.specs.Pending as pending
use Rattle.eval_state.specs.Rest.{place_of}
use Rattle.eval_state.specs.Burden.{capture_weight, weight, weight_of_tick, weights}
use Rattle.eval_state.specs.KeptRows.{splice_kept}
use Rattle.eval_state.specs.Moves as moves
use Rattle.eval_state.proofs.Burdens.{splice_begins, weights_push}
use Rattle.typed_tree.specs.Nodes as node
use Rattle.eval_state.specs.declared.parts.Frame.{Frame}
use Rattle.eval_state.specs.declared.parts.EndFrame.TheVariants as end
use Rattle.eval_state.specs.declared.parts.ExpressionFrame.TheVariants as expression
use Rattle.eval_state.specs.declared.parts.Frame.TheVariants as frame
use Rattle.eval_state.specs.declared.parts.StatementFrame.TheVariants as statement
use Rattle.eval_state.specs.declared.state.Body.{Body}
use Rattle.eval_state.specs.declared.state.Entry.{Entry}
use Rattle.eval_state.specs.declared.state.Entry.TheVariants as entry
use Rattle.eval_state.specs.declared.state.Parts.{Parts}
use Rattle.eval_state.specs.declared.state.Row.{Row}
use Rattle.eval_state.specs.Grown.{tick_of, with_caller, with_row, with_spliced}
use Rattle.eval_state.specs.Kept.{body_view, captures_at, entry_view, kept_view, rows_view, syntax_at, variables_of}
use Rattle.eval_state.specs.Less.{heft, held, waiting}
use Rattle.eval_state.specs.Popped.{back_to}
use Rattle.eval_state.specs.Run.{Run, program_of, pushed, run_of}
use Rattle.eval_state.specs.Numbered.{kept_at, number_kept}
use Rattle.eval_state.specs.Views.{frame_view}
use Rattle.eval_state.specs.Sound.{IsSound}
use Rattle.eval_state.proofs.Changes.{units_are}
use Rattle.eval_state.proofs.Codes.{code_syntax, spliced_is_code, the_number}
use Rattle.eval_state.proofs.Enters.{splice_run}
use Rattle.eval_state.proofs.Named.{splice_here}
use Rattle.eval_state.proofs.Rows.{row_is_added}
use Rattle.eval_state.proofs.Runs.{spliced_back}
use Rattle.eval_state.proofs.Taken.{frames_are, takes_frame}
use Rattle.eval_state.proofs.Weighs.{held_pushed}

-- a run that spent no unit, with less behind it
abbrev pub Lighter : Run → Run → Type 0
Lighter r s = (s.state.units ≡ r.state.units) × (held s < held r)

some_weight : (k : ℕ → ℕ) (f : Frame) → 0 < weight k (frame_view f)
some_weight k (frame.Expression (expression.SetVar i)) = omega arith
some_weight k (frame.Expression _) = omega arith
some_weight k (frame.Statement statement.Drop) = omega arith
some_weight k (frame.Statement _) = omega arith
some_weight k (frame.End end.SwitchEnd) = omega arith
some_weight k (frame.End _) = omega arith

pub frame_lightens : (f : Frame) (r s : Run) → r ≡ pushed (frame_view f) s → Lighter r s
frame_lightens f r s h =
    let e : held r ≡ held s + waiting (frame_view f) s = ap held h ∙ held_pushed s f in
    let some : 0 < waiting (frame_view f) s = some_weight _ f in
    (sym (ap (λ (q : Run). q.state.units) h), omega (arith, e, some))

call_lightens : (r : Run) (fs : List Waiting) (a : Answer) (charge : ℕ) (caller : Pending)
    → r.state.frames ≡ fs ++ pending.Called a charge caller ∷ [] → Lighter r (back_to charge caller fs r)
call_lightens r fs a charge caller h =
    let e : held r ≡ held (back_to charge caller fs r) + 1 =
    ap (weights r.program.ticks (place_of r.state)) h
    ∙ weights_push r.program.ticks (place_of r.state) fs (pending.Called a charge caller) in
    (refl, omega (arith, e))

splice_lightens : (r : Run) (fs : List Waiting) (a : Answer) (vs after : ℕ → ℕ) (object : ℕ) (captures : Captures)
    → r.state.frames ≡ fs ++ pending.Spliced a vs object captures ∷ []
    → Lighter r (spliced_back after object captures fs r)
splice_lightens r fs a vs after object captures h =
    let e : held r ≡ held (spliced_back after object captures fs r) + 1 =
    ap (weights r.program.ticks (place_of r.state)) h
    ∙ weights_push r.program.ticks (place_of r.state) fs (pending.Spliced a vs object captures) in
    (refl, omega (arith, e))

module _ (p q : Parts) (es : List Entry) where
  pub inside_lightens : (f : Frame) → p.entries ≡ es ++ entry.Inside f ∷ [] → q ≡ record p { entries = es }
      → Lighter (run_of p) (run_of q)
  inside_lightens f h k = frame_lightens f (run_of p) (run_of q) (takes_frame p q es f h k)

  pub called_lightens : (a : Answer) (charge : ℕ) (caller : Body) → p.entries ≡ es ++ entry.Called a charge caller ∷ []
      → q ≡ with_caller charge caller (record p { entries = es }) → Lighter (run_of p) (run_of q)
  unfolding run_of
  called_lightens a charge caller h k =
      subst (λ (q : Parts). Lighter (run_of p) (run_of q)) (sym k)
      (call_lightens (run_of p) (map (entry_view (rows_view p.rows)) es) a charge (body_view (rows_view p.rows) caller)
      (frames_are p q es (entry.Called a charge caller) h))

  pub spliced_lightens : (a : Answer) (vs : List ℕ) (object row : ℕ)
      → p.entries ≡ es ++ entry.Spliced a vs object row ∷ []
      → q ≡ record p { entries = es; body = record p.body { variables = vs; object = object; row = row } }
      → Lighter (run_of p) (run_of q)
  unfolding run_of
  spliced_lightens a vs object row h k =
      subst (λ (q : Parts). Lighter (run_of p) (run_of q)) (sym k)
      (splice_lightens (run_of p) (map (entry_view (rows_view p.rows)) es) a (variables_of vs) (variables_of vs) object
      (captures_at (rows_view p.rows) row) (frames_are p q es (entry.Spliced a vs object row) h))

  pub left_lightens : (a : Answer) (vs : List ℕ) (object row : ℕ)
      → p.entries ≡ es ++ entry.Spliced a vs object row ∷ []
      → q ≡ record p { entries = es; body = record p.body { object = object; row = row } }
      → Lighter (run_of p) (run_of q)
  unfolding run_of
  left_lightens a vs object row h k =
      subst (λ (q : Parts). Lighter (run_of p) (run_of q)) (sym k)
      (splice_lightens (run_of p) (map (entry_view (rows_view p.rows)) es) a (variables_of vs)
      (variables_of p.body.variables) object (captures_at (rows_view p.rows) row)
      (frames_are p q es (entry.Spliced a vs object row) h))

-- a specification more makes nothing that is pending heavier
pub row_weighs : (p q : Parts) (row : Row) (bytes : ℕ) → IsSound p → q ≡ with_row row bytes p
    → (held (run_of q) ≡ held (run_of p)) × ((run_of q).state.units ≡ (run_of p).state.units)
row_weighs p q row bytes sound h =
    let added = row_is_added p q row (p.closures + bytes) sound h in
    (ap held added, ap (λ (r : Run). r.state.units) added)

-- units that stay
pub units_same : (p q : Parts) → q.units ≡ p.units → (run_of q).state.units ≡ (run_of p).state.units
units_same p q h = units_are q ∙ h ∙ sym (units_are p)

-- ---- spliced code

-- where the splices of each capture weigh
abbrev pub weighed : Run → ℕ → ℕ
weighed r = capture_weight r.program.ticks r.state.body.captures

splice_weighs : (r : Run) (a : Answer) (i tick : ℕ) (inner : Captures)
    → moves.syntax_at r.state.body.captures i ≡ Some (Ticked tick inner)
    → weight_of_tick (capture_weight r.program.ticks inner) (slice_get r.program.ticks tick)
    + held (splice_run a inner r) < heft (pending.Eval (node.Splice a i)) r
splice_weighs r a i tick inner h =
    let s = splice_run a inner r in
    let g = pending.Spliced a r.state.body.variables r.state.body.object r.state.body.captures in
    let frames : held s ≡ held r + weight (capture_weight r.program.ticks inner) g =
    weights_push r.program.ticks (place_of s.state) r.state.frames g in
    let less = splice_begins r.program.ticks r.state.body.captures inner a i tick r.state.body.object
    r.state.body.variables h in
    omega (arith, frames, less)

-- the code of the specification that is active
abbrev code_weighs : Parts → ℕ
code_weighs p = weight_of_tick (weighed (run_of p))
    (slice_get (program_of p).ticks (tick_of (syntax_at (rows_view p.rows) p.body.row)))

pub splice_lighter : (p q : Parts) (a : Answer) (i n : ℕ) → IsSound p → Some n ≡ number_kept (kept_at p i)
    → q ≡ with_spliced a n p → code_weighs q + held (run_of q) < heft (pending.Eval (node.Splice a i)) (run_of p)
unfolding run_of
splice_lighter p q a i n sound h same =
    let rows = rows_view p.rows in
    let inner = captures_at rows n in
    let tick = tick_of (syntax_at rows n) in
    let is = (spliced_is_code p i n sound h).1 in
    let there = splice_run a inner (run_of p) in
    let begun : run_of (with_spliced a n p) ≡ there =
    ap (λ fs. record there { state = record there.state { frames = fs } })
    (map-append (entry_view rows) p.entries (entry.Spliced a p.body.variables p.body.object p.body.row ∷ [])) in
    let names : moves.syntax_at (run_of p).state.body.captures i ≡ Some (Ticked tick inner) =
    splice_here p i sound
    ∙ ap (λ o. splice_kept rows (option_map kept_view o)) (the_number (kept_at p i) n h)
    ∙ ap Some (code_syntax rows n is) in
    let most = heft (pending.Eval (node.Splice a i)) (run_of p) in
    let code = weight_of_tick (capture_weight (program_of p).ticks inner) (slice_get (program_of p).ticks tick) in
    subst (λ (q : Parts). code_weighs q + held (run_of q) < most) (sym same)
    (subst (λ (r : Run). code + held r < most) (sym begun) (splice_weighs (run_of p) a i tick inner names))
