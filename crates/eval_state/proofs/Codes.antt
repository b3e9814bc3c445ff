-- What is still to come where the code of a tick begins, where code is spliced in, and where a function is called by
-- its number.
use Rattle.std.proofs.Common.{◌≡◌, ◌≢◌, ℕ, zero, suc, ◌+◌, ◌-◌, ◌<◌, ◌≤◌, length, List, [], ◌∷◌, map, refl, ap}
use Rattle.std.proofs.Common.{sym}
use Rattle.std.proofs.Common.{◌∙◌, subst, arith, Bool, true, false, nat_eq, if◌then◌else◌, nat_le, is_none, slice_get}
use Rattle.std.proofs.Common.{Option, Some, None, Result, Ok, Err, IfOk}
use Rattle.std.proofs.lemmas.List.{map-append}
use Rattle.std.proofs.lemmas.Option.{slice_get-map}
use Rattle.std.specs.Option.{option_map}
use Rattle.std.proofs.lemmas.Bool.Decides.{nat_tests}
use Rattle.host_edge.specs.declared.ending.Ending.TheVariants.{Trap}
use Rattle.host_edge.specs.declared.ending.TrapKind.{TrapKind}
use Rattle.host_edge.specs.declared.ending.TrapKind.TheVariants.{BadCall, FrameLimit, StackLimit}
use Rattle.history.specs.Events.{Ended}
use Rattle.history.specs.Syntax.{Syntax, Ticked}
use Rattle.limits.specs.declared.program.TheConstants.{FRAME_OBJECT_BYTES, SIZE_LIMIT}
use Rattle.word32.specs.declared.map.TheConstants.{STACK_BYTES}
use Rattle.meaning_state.specs.Rows.{locals_of, numbered}
use Rattle.meaning_state.specs.Shared.{Specification, limit_trap}
use Rattle.meaning_state.specs.Shared as shared
use Rattle.typed_tree.specs.declared.expression.Answer.{Answer}
use Rattle.typed_tree.specs.declared.expression.Answer.TheVariants as answer
use Rattle.typed_tree.specs.declared.program.Function.{Function}
use Rattle.typed_tree.specs.declared.program.Tick.{Tick}
use Rattle.typed_tree.specs.declared.program.TypedParts.{TypedParts}
use Rattle.typed_tree.specs.Nodes as node
use Rattle.typed_tree.specs.View.{function_view}
use Rattle.wellformed.specs.Program.{IsWellFormed}
use Rattle.staged_meaning.specs.Expressions.{left_by}
use Rattle.staged_meaning.specs.Meaning.{eval}
use Rattle.staged_meaning.specs.Program.{Callee, call_trap, parameters, syntax_size}
use Rattle.staged_meaning.specs.Program as meaning
use Rattle.staged_meaning.specs.Size.{charge_of, size_of}
use Rattle.staged_meaning.specs.Source.{tick_view}
use Rattle.staged_meaning.specs.Specifications.{syntax_in}
use Rattle.staged_meaning.specs.World.{then_do, spend, unless}
use Rattle.staged_meaning.specs.World as world
use Rattle.eval_state.specs.KeptRows.{row_kept, splice_kept}
use Rattle.eval_state.specs.Moves as moves
use Rattle.eval_state.specs.Pending as pending
use Rattle.eval_state.specs.Rest.{Signal, targeted, ticked, valued}
use Rattle.eval_state.specs.declared.parts.Now.{Now}
use Rattle.eval_state.specs.declared.state.Compiled.{Compiled}
use Rattle.eval_state.specs.declared.state.Entry.TheVariants as entry
use Rattle.eval_state.specs.declared.state.Event.{Event}
use Rattle.eval_state.specs.declared.state.Event.TheVariants as event
use Rattle.eval_state.specs.declared.state.Kept.{Kept}
use Rattle.eval_state.specs.declared.state.Kept.TheVariants as code
use Rattle.eval_state.specs.declared.state.Parts.{Parts}
use Rattle.eval_state.specs.declared.state.Row.{Row}
use Rattle.eval_state.specs.declared.state.RowKind.{RowKind}
use Rattle.eval_state.specs.declared.state.RowKind.TheVariants as kind
use Rattle.eval_state.specs.Grown.{tick_of, with_event, with_left, with_spliced}
use Rattle.eval_state.specs.Kept.{captures_at, captures_in, entry_view, kept_view, row_of, rows_view}
use Rattle.eval_state.specs.Kept.{syntax_at}
use Rattle.eval_state.specs.Numbered.{kept_at, kept_in, number_kept}
use Rattle.eval_state.specs.Run.{Run, here, leads, outcome, program_of, run_of, world as world_now}
use Rattle.eval_state.specs.Sound.{IsSound}
use Rattle.eval_state.specs.Specified.{IsCode, IsMade}
use Rattle.eval_state.specs.Views.{now_view}
use Rattle.eval_state.proofs.Callees.{callee_in, calls_to, code_at, code_begins, code_limit, code_parts, code_stops}
use Rattle.eval_state.proofs.Callees.{made_at}
use Rattle.eval_state.proofs.Enters.{splice_enters, splice_of_nothing, splice_run}
use Rattle.eval_state.proofs.Growth.{code_within}
use Rattle.eval_state.proofs.Makes.{traps}
use Rattle.eval_state.proofs.Named.{row_named, splice_here}
use Rattle.eval_state.proofs.Rows.{count}
use Rattle.eval_state.proofs.Sizes.{earlier_at}

-- ---- calls by number

pub takes_none : (callee : Option Callee) (n : ℕ) → None ≡ option_map parameters callee
    → false ≡ is_none (call_trap callee n)
takes_none None n h = refl
takes_none (Some callee) n h = absurd (cc)

pub takes_some : (callee : Option Callee) (n m : ℕ) → Some m ≡ option_map parameters callee
    → nat_eq m n ≡ is_none (call_trap callee n)
takes_some None n m h = absurd (cc)
takes_some (Some callee) n m h =
    let same : m ≡ parameters callee = cc in
    ap (λ k. nat_eq k n) same ∙ either (nat_eq (parameters callee) n)
  where
    either : (b : Bool) → b ≡ is_none (if b then None else Some BadCall)
    either true = refl
    either false = refl

bad_trap : (callee : Option Callee) (n : ℕ) → is_none (call_trap callee n) ≡ false → call_trap callee n ≡ Some BadCall
bad_trap None n h = refl
bad_trap (Some callee) n h = either (nat_eq (parameters callee) n) h
  where
    either : (b : Bool) → is_none (if b then None else Some BadCall) ≡ false
        → (if b then None else Some BadCall) ≡ Some BadCall
    either true h = absurd (cc)
    either false h = refl

no_trap : {A : Type 0} (o : Option A) → is_none o ≡ true → o ≡ None
no_trap None h = refl
no_trap (Some a) h = absurd (cc)

-- a call by number
abbrev pub numbers_to : Parts → Answer → (f : ℕ) → List ℕ → world.Result Signal
numbers_to p a f vs =
    leads (run_of p) (valued (targeted (here (run_of p)) (pending.Numbered a f) vs (world_now (run_of p))))

pub bad_number : (p : Parts) (a : Answer) (f : ℕ) (vs : List ℕ)
    → is_none (call_trap (callee_in p f) (length vs)) ≡ false
    → outcome (pending.Ended (Ended (Trap BadCall))) (run_of p) ≡ numbers_to p a f vs
unfolding run_of
bad_number p a f vs h =
    traps (run_of p) (call_trap (callee_in p f) (length vs)) BadCall
    (then_do ((here (run_of p)).call f vs (world_now (run_of p))) (λ v w. spend (left_by a v) w))
    (bad_trap (callee_in p f) (length vs) h)

pub good_number : (p : Parts) (a : Answer) (f : ℕ) (vs : List ℕ)
    → is_none (call_trap (callee_in p f) (length vs)) ≡ true → calls_to p a f vs ≡ numbers_to p a f vs
unfolding run_of
good_number p a f vs h =
    ap (λ t. leads (run_of p) (valued (unless t (world_now (run_of p))
    (then_do ((here (run_of p)).call f vs (world_now (run_of p))) (λ v w. spend (left_by a v) w)))))
    (sym (no_trap (call_trap (callee_in p f) (length vs)) h))

-- ---- limits

pub within_limits : (p : Parts) (charge object : ℕ) → None ≡ limit_trap charge object (world_now (run_of p)).shared
    → (p.used + charge ≤ STACK_BYTES) × (p.frames + object ≤ FRAME_OBJECT_BYTES)
unfolding run_of
within_limits p charge object h =
    go (nat_le (p.used + charge) STACK_BYTES) (nat_le (p.frames + object) FRAME_OBJECT_BYTES) refl refl h
  where
    at_most : (a b : ℕ) → nat_le a b ≡ true → a ≤ b
    at_most a b h = grind (arith, nat_tests)

    go : (s f : Bool) → nat_le (p.used + charge) STACK_BYTES ≡ s → nat_le (p.frames + object) FRAME_OBJECT_BYTES ≡ f
        → None ≡ (if s then (if f then None else Some FrameLimit) else Some StackLimit)
        → (p.used + charge ≤ STACK_BYTES) × (p.frames + object ≤ FRAME_OBJECT_BYTES)
    go true true s f h = (at_most _ _ s, at_most _ _ f)
    go true false s f h = absurd (cc)
    go false f s k h = absurd (cc)

pub function_small : (p : TypedParts) (i : ℕ) (f : Function) → IsWellFormed p → slice_get p.functions i ≡ Some f
    → (f.size ≡ size_of (function_view f)) × (f.size ≤ SIZE_LIMIT)
function_small p i f h e =
    let size = h.function_sizes i f e in
    let there = slice_get-map function_view p.functions i ∙ ap (option_map function_view) e in
    let small = (h.program.functions i (function_view f) there).small in
    (size, omega (arith, size, small))

-- ---- the code of a tick

tick_of_kind : (rows : List Specification) (k : RowKind) (row : Row)
    → IsCode (Some (row_kept rows (row_of k row.tick (map kept_view row.kept))))
    → tick_of (syntax_in (Some (row_kept rows (row_of k row.tick (map kept_view row.kept))))) ≡ row.tick
tick_of_kind rows kind.Expression row h = refl
tick_of_kind rows kind.Statement row h = refl
tick_of_kind rows kind.Local row h = absurd h
tick_of_kind rows (kind.Param i) row h = absurd h

pub tick_there : (p : Parts) (row : Row) (o : Option meaning.Tick) → IsSound p
    → numbered p.body.row p.rows ≡ Some row → IsCode (numbered p.body.row (rows_view p.rows))
    → option_map (λ t. tick_view t.body) (slice_get p.typed.now.ticks row.tick) ≡ o
    → o ≡ slice_get (program_of p).ticks (tick_of (syntax_at (rows_view p.rows) p.body.row))
tick_there p row o sound e h k =
    let rows = rows_view p.rows in
    let named = row_named (program_of p) p.rows p.body.row row sound.3.each e in
    let tick : tick_of (syntax_at rows p.body.row) ≡ row.tick =
    ap (λ o. tick_of (syntax_in o)) named ∙ tick_of_kind rows row.kind row (subst IsCode named h) in
    sym k
    ∙ sym (slice_get-map (λ (t : Tick). tick_view t.body) p.typed.now.ticks row.tick)
    ∙ ap (λ n. slice_get (program_of p).ticks n) (sym tick)

pub tick_begins : (p : Parts) (row : Row) (o : Option meaning.Tick) → IsSound p
    → numbered p.body.row p.rows ≡ Some row → IsCode (numbered p.body.row (rows_view p.rows))
    → option_map (λ t. tick_view t.body) (slice_get p.typed.now.ticks row.tick) ≡ o
    → leads (run_of p) (ticked (here (run_of p)) o (world_now (run_of p)))
    ≡ leads (run_of p) (ticked (here (run_of p))
    (slice_get (program_of p).ticks (tick_of (syntax_at (rows_view p.rows) p.body.row))) (world_now (run_of p)))
tick_begins p row o sound e h k =
    ap (λ o. leads (run_of p) (ticked (here (run_of p)) o (world_now (run_of p)))) (tick_there p row o sound e h k)

-- ---- spliced code

no_number : (rows : List Specification) (o : Option Kept) → None ≡ number_kept o
    → splice_kept rows (option_map kept_view o) ≡ None
no_number rows None h = refl
no_number rows (Some (code.Word w)) h = refl
no_number rows (Some (code.Key k)) h = refl
no_number rows (Some (code.Number n)) h = absurd (cc)

pub the_number : (o : Option Kept) (n : ℕ) → Some n ≡ number_kept o → o ≡ Some (code.Number n)
the_number None n h = absurd (cc)
the_number (Some (code.Word w)) n h = absurd (cc)
the_number (Some (code.Key k)) n h = absurd (cc)
the_number (Some (code.Number m)) n h = cc

pub splices_nothing : (p : Parts) (a : Answer) (i : ℕ) → IsSound p → None ≡ number_kept (kept_at p i)
    → outcome (pending.Value 0) (run_of p)
    ≡ leads (run_of p) (valued (eval (here (run_of p)) (node.Splice a i) (world_now (run_of p))))
splices_nothing p a i sound h =
    left a ∙ splice_of_nothing (run_of p) a i (splice_here p i sound ∙ no_number (rows_view p.rows) (kept_at p i) h)
  where
    left : (a : Answer) → outcome (pending.Value 0) (run_of p) ≡ outcome (pending.Value (left_by a 0)) (run_of p)
    left answer.Value = refl
    left answer.Void = refl

-- the number that is kept of a capture is one of a specification of a tick
pub spliced_is_code : (p : Parts) (i n : ℕ) → IsSound p → Some n ≡ number_kept (kept_at p i)
    → (n ≤ length p.rows) × IsCode (numbered n (rows_view p.rows))
spliced_is_code p i n sound h = go p.body.row (numbered p.body.row p.rows) refl (the_number (kept_at p i) n h)
  where
    go : (row : ℕ) (o : Option Row) → numbered row p.rows ≡ o → slice_get (kept_in (numbered row p.rows)) i
        ≡ Some (code.Number n) → (n ≤ length p.rows) × IsCode (numbered n (rows_view p.rows))
    go zero o e k = absurd (cc)
    go (suc m) None e k = let f = ap (λ o. slice_get (kept_in o) i) (sym e) ∙ k in absurd (cc)
    go (suc m) (Some row) e k =
        let kept = ap (λ o. slice_get (kept_in o) i) (sym e) ∙ k in
        let earlier = (sound.3.each m row e).1.earlier in
        let is = (earlier_at (rows_view p.rows) m row.kept i (code.Number n) kept earlier).1 in
        (omega (arith, count p.rows, code_within n (rows_view p.rows) is), is)

code_is : (o : Option Specification) → IsCode o → syntax_in o ≡ Ticked (tick_of (syntax_in o)) (captures_in o)
code_is (Some (shared.Expression (Ticked t c))) h = refl
code_is (Some (shared.Statement (Ticked t c))) h = refl
code_is (Some shared.Local) h = absurd h
code_is (Some (shared.Param i)) h = absurd h
code_is None h = absurd h

pub code_syntax : (rows : List Specification) (n : ℕ) → IsCode (numbered n rows)
    → syntax_at rows n ≡ Ticked (tick_of (syntax_at rows n)) (captures_at rows n)
code_syntax rows n h = code_is (numbered n rows) h

pub splice_begins : (p q : Parts) (a : Answer) (i n : ℕ) → IsSound p → Some n ≡ number_kept (kept_at p i)
    → q ≡ with_spliced a n p
    → leads (run_of q) (ticked (here (run_of q))
    (slice_get (program_of q).ticks (tick_of (syntax_at (rows_view q.rows) q.body.row))) (world_now (run_of q)))
    ≡ leads (run_of p) (valued (eval (here (run_of p)) (node.Splice a i) (world_now (run_of p))))
unfolding run_of
splice_begins p q a i n sound h same =
    let rows = rows_view p.rows in
    let inner = captures_at rows n in
    let tick = tick_of (syntax_at rows n) in
    let is = (spliced_is_code p i n sound h).1 in
    let there = splice_run a inner (run_of p) in
    let begun : run_of (with_spliced a n p) ≡ there =
    ap (λ fs. record there { state = record there.state { frames = fs } })
    (map-append (entry_view rows) p.entries (entry.Spliced a p.body.variables p.body.object p.body.row ∷ [])) in
    let names : moves.syntax_at (run_of p).state.body.captures i ≡ Some (Ticked tick inner) =
    splice_here p i sound
    ∙ ap (λ o. splice_kept rows (option_map kept_view o)) (the_number (kept_at p i) n h)
    ∙ ap Some (code_syntax rows n is) in
    ap (λ (q : Parts). leads (run_of q) (ticked (here (run_of q))
    (slice_get (program_of q).ticks (tick_of (syntax_at (rows_view q.rows) q.body.row))) (world_now (run_of q)))) same
    ∙ ap (λ (r : Run). leads r (ticked (here r) (slice_get (program_of p).ticks tick) (world_now r))) begun
    ∙ splice_enters (run_of p) a i tick inner names

-- ---- answers

-- what holds for each number holds for one
pub ok_at : {E : Type 0} (r : Result Now E) (q : Run) (y : ℕ → world.Result Signal) (P : ℕ → Type 0) (f : ℕ) → P f
    → IfOk r (λ n. (f : ℕ) → P f → outcome (now_view n) q ≡ y f) → IfOk r (λ n. outcome (now_view n) q ≡ y f)
ok_at (Ok n) q y P f h k = k f h
ok_at (Err e) q y P f h k = k

pub past_end : {A : Type 0} (xs : List A) (n : ℕ) → slice_get xs n ≡ None → length xs ≤ n
past_end [] n e = omega arith
past_end (x ∷ xs) zero e = absurd (cc)
past_end (x ∷ xs) (suc n) e = omega (arith, past_end xs n e)

-- ---- a compiled function

-- its code: the tick, and what the captures stand for
abbrev pub tick_at : Parts → (row : ℕ) → ℕ
tick_at p row = tick_of (syntax_at (rows_view p.rows) row)

abbrev pub code_in : Parts → (row : ℕ) → Syntax
code_in p row = Ticked (tick_at p row) (captures_at (rows_view p.rows) row)

pub made_is_code : (p : Parts) (i : ℕ) (m : Compiled) → IsSound p → slice_get p.compiled i ≡ Some m
    → IsMade (rows_view p.rows) m
made_is_code p i m sound e = made_at (rows_view p.rows) p.compiled i m e sound.3.made

pub code_callee : (p : Parts) (n i : ℕ) (m : Compiled) → IsSound p → n ≡ length p.typed.now.functions + suc i
    → slice_get p.compiled i ≡ Some m → callee_in p n ≡ Some (meaning.Generated (code_in p m.row))
code_callee p n i m sound h e =
    code_at p n i m h e
    ∙ ap (λ s. Some (meaning.Generated s)) (code_syntax (rows_view p.rows) m.row (made_is_code p i m sound e).0)

pub code_charged : (p q : Parts) (i : ℕ) (m : Compiled) (happened : Event) (size charge : ℕ) → IsSound p
    → slice_get p.compiled i ≡ Some m → q ≡ with_event happened p
    → (IsCode (numbered m.row (rows_view q.rows))
    → size ≡ syntax_size (program_of q) (syntax_at (rows_view q.rows) m.row))
    → charge ≡ charge_of size → charge ≡ moves.code_charge (program_of p) (code_in p m.row)
code_charged p q i m happened size charge sound e same h k =
    let is = (made_is_code p i m sound e).0 in
    let sized = subst (λ (q : Parts). IsCode (numbered m.row (rows_view q.rows))
    → size ≡ syntax_size (program_of q) (syntax_at (rows_view q.rows) m.row)) same h is in
    k ∙ ap charge_of sized
    ∙ ap (λ s. moves.code_charge (program_of p) s) (code_syntax (rows_view p.rows) m.row is)

pub code_locals : (p : Parts) (i : ℕ) (m : Compiled) → IsSound p → slice_get p.compiled i ≡ Some m
    → m.locals ≡ locals_of (code_in p m.row)
code_locals p i m sound e =
    let made = made_is_code p i m sound e in
    made.1 ∙ ap locals_of (code_syntax (rows_view p.rows) m.row made.0)

module _ (p : Parts) (a : Answer) (n i charge : ℕ) (m : Compiled) (vs : List ℕ) (sound : IsSound p)
    (deep : p.depth ≢ 0) (there : n ≡ length p.typed.now.functions + suc i) (at : slice_get p.compiled i ≡ Some m)
    (is : charge ≡ moves.code_charge (program_of p) (code_in p m.row)) where
  abbrev pub entered_parts : Parts
  entered_parts = code_parts a charge n vs m.row p

  pub code_traps : (q : Parts) (kind : TrapKind) → q ≡ with_event (event.Entered n) p
      → Some kind ≡ limit_trap charge 0 (world_now (run_of q)).shared
      → outcome (pending.Ended (Ended (Trap kind))) (run_of q) ≡ calls_to p a n vs
  code_traps q kind same h =
      code_limit p a n charge m.row vs (tick_at p m.row) (captures_at (rows_view p.rows) m.row) deep
      (code_callee p n i m sound there at) is q kind same (sym h)

  module _ (free : None ≡ limit_trap charge 0 (world_now (run_of (with_event (event.Entered n) p))).shared) where
    pub stops_at_entry : (q : Parts) (units : ℕ) → q ≡ with_left units entered_parts → p.units < suc m.locals
        → outcome pending.Stopped (run_of q) ≡ calls_to p a n vs
    unfolding run_of
    stops_at_entry q units same h =
        ap (λ (q : Parts). outcome pending.Stopped (run_of q)) same
        ∙ code_stops p a n charge m.row vs (tick_at p m.row) (captures_at (rows_view p.rows) m.row) deep
        (code_callee p n i m sound there at) is refl free units
        (subst (λ l. p.units < suc l) (code_locals p i m sound at) h)

    pub begins_code : (q : Parts) (units : ℕ) → q ≡ with_left units entered_parts → suc m.locals ≤ p.units
        → units ≡ p.units - 1 - m.locals
        → leads (run_of q) (ticked (here (run_of q))
        (slice_get (program_of q).ticks (tick_of (syntax_at (rows_view q.rows) q.body.row))) (world_now (run_of q)))
        ≡ calls_to p a n vs
    unfolding run_of
    begins_code q units same h k =
        ap (λ (q : Parts). leads (run_of q) (ticked (here (run_of q))
        (slice_get (program_of q).ticks (tick_of (syntax_at (rows_view q.rows) q.body.row))) (world_now (run_of q))))
        same
        ∙ code_begins p a n charge m.row vs (tick_at p m.row) (captures_at (rows_view p.rows) m.row) deep
        (code_callee p n i m sound there at) is refl free units
        (subst (λ l. suc l ≤ p.units) (code_locals p i m sound at) h)
        (k ∙ ap (λ l. p.units - 1 - l) (code_locals p i m sound at))
