-- What is still to come where a function is called, by the parts of the state.
use Rattle.std.proofs.Common.{◌≡◌, ◌≢◌, ℕ, zero, suc, ◌+◌, ◌-◌, ◌<◌, ◌≤◌, length, List, [], ◌∷◌, ◌++◌, map, refl, ap}
use Rattle.std.proofs.Common.{sym}
use Rattle.std.proofs.Common.{◌∙◌, subst, arith, if◌then◌else◌, Option, Some, None}
use Rattle.std.proofs.Common.{slice_get}
use Rattle.std.proofs.lemmas.List.{map-append}
use Rattle.std.proofs.lemmas.Option.{slice_get-map, slice_get_within}
use Rattle.std.specs.Option.{option_map}
use Rattle.host_edge.specs.declared.ending.Ending.TheVariants.{Trap}
use Rattle.host_edge.specs.declared.ending.TrapKind.{TrapKind}
use Rattle.host_edge.specs.declared.ending.TrapKind.TheVariants.{BadCall}
use Rattle.history.specs.Events.{Ended}
use Rattle.history.specs.Events as happened
use Rattle.history.specs.Syntax.{Captures, Ticked}
use Rattle.meaning_state.specs.Rows.{locals_of, numbered}
use Rattle.meaning_state.specs.Shared.{Specification, happens, limit_trap}
use Rattle.typed_tree.specs.declared.expression.Answer.{Answer}
use Rattle.typed_tree.specs.declared.program.Function.{Function}
use Rattle.typed_tree.specs.View.{function_view}
use Rattle.staged_meaning.specs.Program.{Callee, Generated, Static, callee_at, generated_callee, static_callee}
use Rattle.staged_meaning.specs.Size.{charge_of, size_of}
use Rattle.staged_meaning.specs.World.{World, Gives, Normal, Stops, Flow, spend_all, spend_from, then_do}
use Rattle.staged_meaning.specs.World as world
use Rattle.eval_state.specs.Moves.{code_charge, passed_to}
use Rattle.eval_state.specs.Pending as pending
use Rattle.eval_state.specs.Rest.{Signal, context_at, once, spent, targeted, ticked, valued}
use Rattle.eval_state.proofs.CallLaws.{call_of_none, call_traps, code_call_traps}
use Rattle.eval_state.specs.declared.state.Body.{Body}
use Rattle.eval_state.specs.declared.state.Compiled.{Compiled}
use Rattle.eval_state.specs.declared.state.Entry.TheVariants as entry
use Rattle.eval_state.specs.declared.state.Event.TheVariants as event
use Rattle.eval_state.specs.declared.state.Parts.{Parts}
use Rattle.eval_state.specs.Grown.{code_body, with_called, with_event}
use Rattle.eval_state.specs.Kept.{captures_at, compiled_view, entry_view, event_view, rows_view, syntax_at}
use Rattle.eval_state.specs.Run.{Run, here, leads, outcome, program_of, run_of, with_units}
use Rattle.eval_state.specs.Run.{world as world_now}
use Rattle.eval_state.specs.Specified.{AreMade, IsMade}
use Rattle.eval_state.proofs.Enters.{code_enters, code_run, entered_run, enters}
use Rattle.eval_state.proofs.Makes.{is_over, is_within}
use Rattle.eval_state.proofs.Puts.{event_happens}
use Rattle.eval_state.proofs.Units.{all_spent, too_few}

-- ---- what a number stands for

abbrev pub callee_in : Parts → ℕ → Option Callee
callee_in p n = callee_at (program_of p) (world_now (run_of p)).shared.bodies n

length_map : {A B : Type 0} (f : A → B) (xs : List A) → length (map f xs) ≡ length xs
length_map f [] = refl
length_map f (x ∷ xs) = ap suc (length_map f xs)

pub static_at : (p : Parts) (n i : ℕ) (f : Function) → n ≡ suc i → slice_get p.typed.now.functions i ≡ Some f
    → callee_in p n ≡ Some (Static (function_view f))
unfolding run_of
static_at p n i f h e =
    let fs = p.typed.now.functions in
    let same = length_map function_view fs in
    let within : suc i ≤ length (map function_view fs) = omega (arith, same, slice_get_within fs i f e) in
    ap (callee_in p) h
    ∙ ap (λ b. if b then static_callee (slice_get (map function_view fs) i)
    else generated_callee (numbered (suc i - length (map function_view fs))
    (map (compiled_view (rows_view p.rows)) p.compiled)))
    (is_within (suc i) (length (map function_view fs)) within)
    ∙ ap static_callee (slice_get-map function_view fs i ∙ ap (option_map function_view) e)

made_in : (p : Parts) (n i : ℕ) → n ≡ length p.typed.now.functions + suc i
    → callee_in p n ≡ generated_callee (option_map (compiled_view (rows_view p.rows)) (slice_get p.compiled i))
unfolding run_of
made_in p n i h =
    let fs = p.typed.now.functions in
    let ms = map (compiled_view (rows_view p.rows)) p.compiled in
    let same = length_map function_view fs in
    let over : length (map function_view fs) < n = omega (arith, same, h) in
    let rest : n - length (map function_view fs) ≡ suc i = omega (arith, same, h) in
    ap (λ b. if b then static_callee (numbered n (map function_view fs))
    else generated_callee (numbered (n - length (map function_view fs)) ms))
    (is_over n (length (map function_view fs)) over)
    ∙ ap (λ k. generated_callee (numbered k ms)) rest
    ∙ ap generated_callee (slice_get-map (compiled_view (rows_view p.rows)) p.compiled i)

pub code_at : (p : Parts) (n i : ℕ) (m : Compiled) → n ≡ length p.typed.now.functions + suc i
    → slice_get p.compiled i ≡ Some m → callee_in p n ≡ Some (Generated (syntax_at (rows_view p.rows) m.row))
code_at p n i m h e =
    made_in p n i h ∙ ap (λ o. generated_callee (option_map (compiled_view (rows_view p.rows)) o)) e

pub none_at : (p : Parts) (n i : ℕ) → n ≡ length p.typed.now.functions + suc i → slice_get p.compiled i ≡ None
    → callee_in p n ≡ None
none_at p n i h e =
    made_in p n i h ∙ ap (λ o. generated_callee (option_map (compiled_view (rows_view p.rows)) o)) e

pub zero_at : (p : Parts) (n : ℕ) → n ≡ 0 → callee_in p n ≡ None
unfolding run_of
zero_at p n h =
    let fs = map function_view p.typed.now.functions in
    ap (callee_in p) h
    ∙ ap (λ b. if b then static_callee (numbered 0 fs)
    else generated_callee (numbered (0 - length fs) (map (compiled_view (rows_view p.rows)) p.compiled)))
    (is_within 0 (length fs) (omega arith))

pub made_at : (rows : List Specification) (ms : List Compiled) (i : ℕ) (m : Compiled) → slice_get ms i ≡ Some m
    → AreMade rows ms → IsMade rows m
made_at rows [] i m e h = absurd (cc)
made_at rows (k ∷ ms) zero m e h = subst (IsMade rows) (same e) h.0
  where
    same : Some k ≡ Some m → k ≡ m
    same e = cc
made_at rows (k ∷ ms) (suc i) m e h = made_at rows ms i m e h.1

-- ---- calls that go no further

abbrev pub calls_to : Parts → Answer → (f : ℕ) → List ℕ → world.Result Signal
calls_to p a f vs =
    leads (run_of p) (valued (targeted (here (run_of p)) (pending.Direct a f) vs (world_now (run_of p))))

-- the same call, where so many calls more may be active
abbrev calls_at : Parts → Answer → (f : ℕ) → List ℕ → (d : ℕ) → world.Result Signal
calls_at p a f vs d =
    leads (run_of p)
    (valued (targeted (context_at (program_of p) (suc p.turns)
    (record { depth = d; object = p.body.object; captures = captures_at (rows_view p.rows) p.body.row }))
    (pending.Direct a f) vs (world_now (run_of p))))

deeper : (p : Parts) (a : Answer) (f : ℕ) (vs : List ℕ) → p.depth ≢ 0 → calls_at p a f vs (suc (p.depth - 1))
    ≡ calls_to p a f vs
unfolding run_of
deeper p a f vs h =
    let same : suc (p.depth - 1) ≡ p.depth = omega (arith, h) in
    ap (calls_at p a f vs) same

pub too_deep : (p : Parts) (a : Answer) (f : ℕ) (vs : List ℕ) → p.depth ≡ 0
    → outcome pending.Stopped (run_of p) ≡ calls_to p a f vs
unfolding run_of
too_deep p a f vs h = ap (calls_at p a f vs) (sym h)

pub no_callee : (p : Parts) (a : Answer) (f : ℕ) (vs : List ℕ) → p.depth ≢ 0 → callee_in p f ≡ None
    → outcome (pending.Ended (Ended (Trap BadCall))) (run_of p) ≡ calls_to p a f vs
unfolding run_of
no_callee p a f vs h e =
    ap (leads (run_of p))
    (call_of_none (program_of p) (suc p.turns) (p.depth - 1) p.body.object (captures_at (rows_view p.rows) p.body.row)
    a f vs (world_now (run_of p)) e)
    ∙ deeper p a f vs h

pub static_limit : (p : Parts) (a : Answer) (f : ℕ) (vs : List ℕ) (function : Function) (kind : TrapKind)
    → p.depth ≢ 0 → callee_in p f ≡ Some (Static (function_view function))
    → limit_trap (charge_of (size_of (function_view function))) function.object (world_now (run_of p)).shared
    ≡ Some kind
    → outcome (pending.Ended (Ended (Trap kind))) (run_of p) ≡ calls_to p a f vs
unfolding run_of
static_limit p a f vs function kind h e k =
    ap (leads (run_of p))
    (call_traps (program_of p) (suc p.turns) (p.depth - 1) p.body.object (captures_at (rows_view p.rows) p.body.row)
    a f vs (function_view function) (world_now (run_of p)) kind e k)
    ∙ deeper p a f vs h

-- ---- a function of the text

pub static_enters : (p q : Parts) (a : Answer) (f charge : ℕ) (vs : List ℕ) (function : Function) (b : Body)
    → p.depth ≢ 0 → callee_in p f ≡ Some (Static (function_view function))
    → charge ≡ charge_of (size_of (function_view function))
    → None ≡ limit_trap charge function.object (world_now (run_of p)).shared
    → b ≡ record {
      variables = [];
      arguments = vs;
      generated = p.body.generated;
      object = function.object;
      row = 0;
    }
    → q ≡ with_called a charge b p
    → leads (run_of q) (spent (here (run_of q)) (world_now (run_of q)).units
    (pending.Exec (function_view function).body)
    (world_now (run_of q))) ≡ calls_to p a f vs
unfolding run_of
static_enters p q a f charge vs function b h e k l is same =
    let rows = rows_view p.rows in
    let size = charge_of (size_of (function_view function)) in
    let body : Body = record {
      variables = [];
      arguments = vs;
      generated = p.body.generated;
      object = function.object;
      row = 0;
    } in
    let begun : run_of q ≡ entered_run a size (function_view function) vs (p.depth - 1) (run_of p) =
    ap run_of same
    ∙ ap (λ (b : Body). run_of (with_called a charge b p)) is
    ∙ ap (λ n. run_of (with_called a n body p)) k
    ∙ ap (λ fs. record (entered_run a size (function_view function) vs (p.depth - 1) (run_of p)) {
      state = record (entered_run a size (function_view function) vs (p.depth - 1) (run_of p)).state {
        frames = fs;
      };
    }) (map-append (entry_view rows) p.entries (entry.Called a size p.body ∷ [])) in
    let deep : p.depth ≡ suc (p.depth - 1) = omega (arith, h) in
    let free = ap (λ n. limit_trap n function.object (world_now (run_of p)).shared) (sym k) ∙ sym l in
    ap (λ (r : Run). leads r (spent (here r) (world_now r).units (pending.Exec (function_view function).body)
    (world_now r))) begun
    ∙ enters (run_of p) a f vs (function_view function) (p.depth - 1) deep e free

-- ---- a compiled function: the units of its entry

units_none : (n u : ℕ) (w : World) → u < suc n
    → then_do {A = Flow} {B = Flow} (spend_from u Normal w) (λ flow w. spend_all n w) ≡ Stops w.shared
units_none n zero w h = refl
units_none n (suc u) w h = too_few n u w (omega (arith, h))

units_all : (n u : ℕ) (w : World) → suc n ≤ u
    → then_do {A = Flow} {B = Flow} (spend_from u Normal w) (λ flow w. spend_all n w)
    ≡ Gives Normal (record w { units = u - 1 - n })
units_all n zero w h = absurd (omega (arith, h))
units_all n (suc u) w h =
    let same : u - n ≡ suc u - 1 - n = omega arith in
    all_spent n u w (omega (arith, h)) ∙ ap (λ k. Gives Normal (record w { units = k })) same

module _ (r : Run) (a : Answer) (f : ℕ) (vs : List ℕ) (tick : ℕ) (inner : Captures) (d : ℕ)
    (deep : r.state.depth ≡ suc d)
    (callee : callee_at r.program (world_now r).shared.bodies f ≡ Some (Generated (Ticked tick inner)))
    (free : limit_trap (code_charge r.program (Ticked tick inner)) 0 (happens (happened.Entered f) (world_now r).shared)
    ≡ None) where
  abbrev begun : Run
  begun = code_run a (code_charge r.program (Ticked tick inner)) f inner vs d r

  abbrev passed : World
  passed = passed_to r.program f vs (Ticked tick inner) (world_now r)

  abbrev goes : World → world.Result Signal
  goes w = ticked (here begun) (slice_get r.program.ticks tick) (record w { variables = λ i. 0 })

  run_stops : r.state.units < suc (locals_of (Ticked tick inner)) → leads begun (Stops begun.state.shared)
      ≡ leads r (valued (targeted (here r) (pending.Direct a f) vs (world_now r)))
  run_stops h =
      ap (λ x. leads begun (once x goes)) (sym (units_none (locals_of (Ticked tick inner)) r.state.units passed h))
      ∙ code_enters r a f vs tick inner d deep callee free

  run_begins : suc (locals_of (Ticked tick inner)) ≤ r.state.units
      → leads begun (goes (record passed { units = r.state.units - 1 - locals_of (Ticked tick inner) }))
      ≡ leads r (valued (targeted (here r) (pending.Direct a f) vs (world_now r)))
  run_begins h =
      ap (λ x. leads begun (once x goes)) (sym (units_all (locals_of (Ticked tick inner)) r.state.units passed h))
      ∙ code_enters r a f vs tick inner d deep callee free

-- ---- the same by the parts

-- the parts as the body of a compiled function is entered
abbrev pub code_parts : Answer → (charge f : ℕ) → List ℕ → (row : ℕ) → Parts → Parts
code_parts a charge f vs row p = with_called a charge (code_body row vs) (with_event (event.Entered f) p)

module _ (p : Parts) (a : Answer) (f charge row : ℕ) (vs : List ℕ) (tick : ℕ) (inner : Captures)
    (deep : p.depth ≢ 0) (callee : callee_in p f ≡ Some (Generated (Ticked tick inner)))
    (is : charge ≡ code_charge (program_of p) (Ticked tick inner)) where
  pub code_limit : (q : Parts) (kind : TrapKind) → q ≡ with_event (event.Entered f) p
      → limit_trap charge 0 (world_now (run_of q)).shared ≡ Some kind
      → outcome (pending.Ended (Ended (Trap kind))) (run_of q) ≡ calls_to p a f vs
  unfolding run_of
  code_limit q kind same k =
      let now = event_happens p q (event.Entered f) same in
      let traps = ap (λ (r : Run). limit_trap charge 0 (world_now r).shared) (sym now) ∙ k in
      ap (outcome (pending.Ended (Ended (Trap kind)))) now
      ∙ ap (leads (run_of p))
      (code_call_traps (program_of p) (suc p.turns) (p.depth - 1) p.body.object
      (captures_at (rows_view p.rows) p.body.row) a f vs (Ticked tick inner) (world_now (run_of p)) kind callee
      (ap (λ n. limit_trap n 0 (happens (happened.Entered f) (world_now (run_of p)).shared)) (sym is) ∙ traps))
      ∙ deeper p a f vs deep

  module _ (captures : captures_at (rows_view p.rows) row ≡ inner)
      (free : None ≡ limit_trap charge 0 (world_now (run_of (with_event (event.Entered f) p))).shared) where
    begins_there : run_of (code_parts a charge f vs row p)
        ≡ code_run a (code_charge (program_of p) (Ticked tick inner)) f inner vs (p.depth - 1) (run_of p)
    unfolding run_of
    begins_there =
        let rows = rows_view p.rows in
        let there = code_run a charge f inner vs (p.depth - 1) (run_of p) in
        ap (λ c. record there {
          state = record there.state {
            body = record there.state.body { captures = c };
            shared = record there.state.shared {
              history = map (event_view rows) (p.events ++ event.Entered f ∷ []);
            };
            frames = map (entry_view rows) (p.entries ++ entry.Called a charge p.body ∷ []);
          };
        }) captures
        ∙ ap (λ items. record there {
          state = record there.state {
            shared = record there.state.shared { history = items };
            frames = map (entry_view rows) (p.entries ++ entry.Called a charge p.body ∷ []);
          };
        }) (map-append (event_view rows) p.events (event.Entered f ∷ []))
        ∙ ap (λ fs. record there { state = record there.state { frames = fs } })
        (map-append (entry_view rows) p.entries (entry.Called a charge p.body ∷ []))
        ∙ ap (λ n. code_run a n f inner vs (p.depth - 1) (run_of p)) is

    no_trap : limit_trap (code_charge (program_of p) (Ticked tick inner)) 0
        (happens (happened.Entered f) (world_now (run_of p)).shared) ≡ None
    unfolding run_of
    no_trap =
        ap (λ n. limit_trap n 0 (happens (happened.Entered f) (world_now (run_of p)).shared)) (sym is)
        ∙ ap (λ (r : Run). limit_trap charge 0 (world_now r).shared)
        (sym (event_happens p (with_event (event.Entered f) p) (event.Entered f) refl))
        ∙ sym free

    deep_run : (run_of p).state.depth ≡ suc (p.depth - 1)
    unfolding run_of
    deep_run = omega (arith, deep)

    -- too few units are left; so many were
    pub code_stops : (units : ℕ) → (world_now (run_of (code_parts a charge f vs row p))).units
        < suc (locals_of (Ticked tick inner))
        → outcome pending.Stopped (with_units units (run_of (code_parts a charge f vs row p))) ≡ calls_to p a f vs
    unfolding run_of
    code_stops units h =
        ap (λ (r : Run). outcome pending.Stopped (with_units units r)) begins_there
        ∙ run_stops (run_of p) a f vs tick inner (p.depth - 1) deep_run callee no_trap h

    pub code_begins : (units : ℕ) → suc (locals_of (Ticked tick inner))
        ≤ (world_now (run_of (code_parts a charge f vs row p))).units
        → units ≡ (world_now (run_of (code_parts a charge f vs row p))).units - 1 - locals_of (Ticked tick inner)
        → leads (with_units units (run_of (code_parts a charge f vs row p)))
        (ticked (here (with_units units (run_of (code_parts a charge f vs row p))))
        (slice_get (program_of p).ticks tick)
        (world_now (with_units units (run_of (code_parts a charge f vs row p))))) ≡ calls_to p a f vs
    unfolding run_of
    code_begins units h k =
        ap (λ (r : Run). leads (with_units units r) (ticked (here (with_units units r))
        (slice_get (program_of p).ticks tick) (world_now (with_units units r)))) begins_there
        ∙ ap (λ u. leads (with_units u (code_run a (code_charge (program_of p) (Ticked tick inner)) f inner vs
        (p.depth - 1) (run_of p))) (ticked (here (with_units u (code_run a (code_charge (program_of p)
        (Ticked tick inner)) f inner vs (p.depth - 1) (run_of p)))) (slice_get (program_of p).ticks tick)
        (world_now (with_units u (code_run a (code_charge (program_of p) (Ticked tick inner)) f inner vs (p.depth - 1)
        (run_of p)))))) k
        ∙ run_begins (run_of p) a f vs tick inner (p.depth - 1) deep_run callee no_trap h
