-- The whole: each state's step, and so the run.
use Rattle.std.proofs.Common.{◌≡◌, inl, inr, ℕ, zero, suc, ◌+◌, ◌-◌, ◌*◌, ◌≤◌, ◌<◌, true, false, List, Option}
use Rattle.std.proofs.Common.{Some, None, refl, sym, ap, ◌∙◌, subst, arith, slice_get, append_assoc, option_map}
use Rattle.std.proofs.lemmas.Bool.{cases_Bool, and_parts}
use Rattle.std.specs.Fn.{iterate}
use Rattle.pace.specs.Pace.{Seen}
use Rattle.pace.specs.Claims.{SimulatesStep, PaysWithin, FollowsAtCost}
use Rattle.pace.proofs.OnWay.{AllWay}
use Rattle.pace.proofs.Runs.{iterate_add}
use Rattle.pace.proofs.Seams.{pays_within}
use Rattle.history.specs.Events.{End}
use Rattle.mips_model.specs.State.{Code, Data, World}
use Rattle.mips_model.specs.Steps.{step, going}
use Rattle.mips_model.specs.Laws.{at}
use Rattle.mips_model.specs.Run.{IsWellChosen, IsFine}
use Rattle.mips_model.specs.Told.{Told}
use Rattle.mips_model_laws.specs.Laws.{with_code}
use Rattle.mips_model_laws.specs.Tales.{Tale, tell, see_tale, IsCalm}
use Rattle.mips_model_laws.specs.Clean.{IsUnspoiled}
use Rattle.mips_model_laws.proofs.Seam.{world_of_tale, tale_unspoiled, seam_unspoiled}
use Rattle.mips_model_laws.proofs.Unspoiled.{unspoiled_on}
use Rattle.meaning_state.specs.Shared.{Shared, Local, Param}
use Rattle.icode_ops.specs.declared.op.Op.{Op}
use Rattle.icode_ops.specs.declared.op.Op.TheVariants.{Run, New, Put}
use Rattle.icode_ops.specs.declared.op.Op.TheVariants as op
use Rattle.icode_ops.specs.declared.kind.RunKind.{RunKind}
use Rattle.icode_ops.specs.declared.kind.RunKind.TheVariants as run
use Rattle.icode_templates.specs.Templates.{load_code}
use Rattle.icode_templates_proof.specs.Moves.{behind}
use Rattle.icode_meaning.specs.State.{Function, Frame, Log, State, Running, Zeroing, Making, Compiling, Halted, Stuck}
use Rattle.icode_meaning.specs.State.{nothing, log_of, least_at, most_at}
use Rattle.icode_meaning.specs.Steps.{advance, act, checked, uses_on, zeroed_on, word_zeroed, first, unless, paid}
use Rattle.icode_meaning.specs.Steps.{goes_on}
use Rattle.icode_meaning.specs.Steps.{set, sharing}
use Rattle.icode_meaning.specs.State.{Draft}
use Rattle.meaning_state.specs.Rows.{closure_trap, index_trap, next_number, specified, specification_at}
use Rattle.host_edge.specs.declared.ending.TrapKind.{TrapKind}
use Rattle.icode_expand_proof.specs.Settings.{Setting, places_of}
use Rattle.icode_expand_proof.specs.Standing.{op_stands_at, layout_of}
use Rattle.icode_expand_proof.specs.Relation as ops
use Rattle.icode_expand_proof.specs.Relation.{Holds, Pays, StandsAt, ZeroesAt}
use Rattle.icode_expand_proof.specs.Served.{is_of_ticks, calls_body}
use Rattle.icode_expand_proof.proofs.Recent.{IsGentle, same_run}
use Rattle.icode_expand_proof.proofs.Whole.{ops_pay, words_pay, main_begins, operand_gentle, stuck_any}
use Rattle.closures_proof.specs.Relation.{HasSpecifications}
use Rattle.compile_routine.specs.Laws.{IsTickOf}
use Rattle.icode_run_proof.specs.Making.{Nothing}
use Rattle.icode_run_proof.specs.Ticking.{AreTicks}
use Rattle.icode_run_proof.specs.Relation.{Base, text_of, ticks_of, functions_of, same_end, see_told, Stood, StandsFor}
use Rattle.icode_run_proof.specs.Relation.{OnWay, OnTick, LooksLike, Related}
use Rattle.icode_run_proof.specs.Laws.{Arrived, upper, ProgramIsSimulated, ProgramIsUnspoiled}
use Rattle.icode_run_proof.proofs.BodyCalls.{body_step}
use Rattle.icode_run_proof.proofs.Entering.{rows_of}
use Rattle.icode_run_proof.proofs.Ticking.{PaysState, tick_advances}
use Rattle.icode_run_proof.proofs.Starting.{begin_advances, local_advances, parameter_advances}
use Rattle.icode_run_proof.proofs.Drafts.{draft_now, part_now}
use Rattle.icode_run_proof.proofs.Laws.{tick_laws, start_laws}
use Rattle.icode_run_proof.proofs.CompileStep.{compile_step}
use Rattle.icode_run_proof.proofs.Compiles.{AllCompile, CompilesStep}
use Rattle.icode_run_proof.proofs.Lifted.{facts_of, lifted}
use Rattle.icode_run_proof.proofs.PutPays.{PaysTo}
use Rattle.icode_run_proof.proofs.Rising.{rises}
use Rattle.icode_run_proof.proofs.Stepping.{Stepped, stepped, state_step, looks}
use Rattle.icode_run_proof.proofs.Units.{unit_step, last_step}

-- ---- related states look alike

none_ends : {e : End} → Some e ≡ None → ⊥
none_ends h = cc

same_ending : (o : Option End) → option_map same_end o ≡ o
same_ending None = refl
same_ending (Some x) = refl

way_looks : (b : Base) (a : State) (t : Tale) → OnWay b a t → LooksLike b a t
way_looks b a t r = looks b r.code a r.world t (facts_of r.setting a r.world r.related).ending r.stands

pub same : (b : Base) (a : State) (t : Tale) → Related b a t → see_told b a ≡ see_tale t
same b (Running w arguments answer waiting log) t r = way_looks b (Running w arguments answer waiting log) t r
same b (Zeroing more address w waiting log) t r = way_looks b (Zeroing more address w waiting log) t r
same b (Making draft w waiting log) t r =
    looks b r.code (Making draft w waiting log)
    (going (at r.setting.code (op_stands_at w.function (places_of r.setting w.function) w.index) 0 r.d)) t refl r.stands
same b (Compiling more syntax to w waiting log) t r =
    ap (λ (l : List Told). let x : Seen Told End = record { history = l; ending = None } in x) (sym r.told_is)
    ∙ ap (λ (o : Option End). let x : Seen Told End = record { history = t.told; ending = o } in x)
    (sym (r.goes 0 (omega arith)))
same b (Halted e log) t r = r
same b (Stuck log) t r = r

pub halts : (b : Base) (a : State) (e : End) → (see_told b a).ending ≡ Some e → advance b.program a ≡ a
halts b (Running w arguments answer waiting log) e h = absurd (none_ends (sym h))
halts b (Zeroing more address w waiting log) e h = absurd (none_ends (sym h))
halts b (Making draft w waiting log) e h = absurd (none_ends (sym h))
halts b (Compiling more syntax to w waiting log) e h = absurd (none_ends (sym h))
halts b (Halted x log) e h = refl
halts b (Stuck log) e h = refl

-- ---- a running call

module _ (b : Base) (are : AreTicks (ticks_of b)) (compiles : CompilesStep b) (c : Code) (s : Setting)
    (stood : Stood b c s) (has : HasSpecifications (text_of b) s.made s.written) (w : Frame) (arguments : ℕ → Option
    ℕ) (answer : Option ℕ)
    (waiting : List Frame) (log : Log) (x : World)
    (z : StandsAt s w arguments answer waiting log x) (t : Tale)
    (stands : StandsFor b c (Running w arguments answer waiting log) x t) (all : AllCompile b log) where
  abbrev a : ℕ
  a = op_stands_at w.function (places_of s w.function) w.index

  at_z : t.world ≡ going (behind c a z.recent z.d)
  at_z = stands.world_is ∙ ap (λ (v : World). let y : World = record v { state = with_code c v.state } in y) z.is

  -- any step but those of ticks
  done : (state : State) → Pays s state log (behind s.code a z.recent z.d) → Stepped b log state t
  done state p =
      stepped b are c s stood t log a z.recent z.d z.holds.memory at_z stands.told_is has state p

  stuck : Stepped b log (Stuck log) t
  stuck = done (Stuck log) (stuck_any b.program s stood.standing stood.extends stood.serving (rows_of b c s stood) log
      z.recent a z.d z.holds.memory)

  -- an op by which a specification is begun, or one of a variable is made, has its operand first
  gentle : (routine : RunKind) (to from : ℕ) → slice_get w.function.ops w.index ≡ Some (Run routine to from)
      → uses_on (Run routine to from) w.on ≡ true → IsGentle s.code a z.d
  gentle routine to from i u =
      operand_gentle b.program s stood.standing stood.extends stood.serving (rows_of b c s stood) w arguments answer
      waiting log z.d z.holds z.recent z.few (Run routine to from) from _ i refl (and_parts (w.on from) true u).0
      (append_assoc (load_code 24 ((layout_of w.function (places_of s w.function)).spot from)) _ _)

  -- so it does the same where HI or LO was read
  any_way : (state : State) → IsGentle s.code a z.d → log.least + 1 ≤ least_at state
      → PaysState b s log (at s.code a 0 z.d) state
      → PaysState b s log (behind s.code a z.recent z.d) state
  any_way state g lo p = by z.recent z.few state lo p
    where
      over : (q : ℕ) → q ≤ 1 → (k : ℕ) → 1 ≤ k → iterate step k (going (behind s.code a 0 z.d))
          ≡ iterate step k (going (behind s.code a q z.d))
      over zero le k some = refl
      over (suc zero) le k some = same_run k s.code a z.d some g
      over (suc (suc q)) le k some = absurd (omega (arith, le))

      to_any : (q : ℕ) → q ≤ 1 → (v : Frame) (vs : List Frame) (log' : Log) (Also : Data → Type 0)
          → log.least + 1 ≤ log'.least → PaysTo s v vs log' log (at s.code a 0 z.d) Also
          → PaysTo s v vs log' log (behind s.code a q z.d) Also
      to_any q le v vs log' Also lo p =
          let low = p.low in
          record {
            count = p.count;
            low = p.low;
            high = p.high;
            written = p.written;
            d = p.d;
            holds = p.holds;
            also = p.also;
            arena = p.arena;
            is = sym (over q le p.count (omega (arith, lo, low))) ∙ p.is;
          }

      to_end : (q : ℕ) → q ≤ 1 → (state : State) → log.least + 1 ≤ least_at state
          → Pays s state log (at s.code a 0 z.d) → Pays s state log (behind s.code a q z.d)
      to_end q le state lo p =
          let low = p.low in
          record {
            count = p.count;
            low = p.low;
            high = p.high;
            related = subst (ops.Related s state) (over q le p.count (omega (arith, lo, low))) p.related;
          }

      by : (q : ℕ) → q ≤ 1 → (state : State) → log.least + 1 ≤ least_at state
          → PaysState b s log (at s.code a 0 z.d) state
          → PaysState b s log (behind s.code a q z.d) state
      by q le (Making draft v vs log') lo p = to_any q le v vs log' _ lo p
      by q le (Running v f o vs log') lo p = (p.0, p.1, to_any q le v vs log' _ lo p.2)
      by q le (Halted e log') lo p = to_end q le (Halted e log') lo p
      by q le (Stuck log') lo p = to_end q le (Stuck log') lo p
      by q le (Zeroing more address v vs log') lo p = absurd p
      by q le (Compiling more syntax to v vs log') lo p = absurd p

  of_ticks : (routine : RunKind) (to from : ℕ) → slice_get w.function.ops w.index ≡ Some (Run routine to from)
      → uses_on (Run routine to from) w.on ≡ true → (state : State) → log.least + 1 ≤ least_at state
      → PaysState b s log (at s.code a 0 z.d) state → Stepped b log state t
  of_ticks routine to from i u state lo p =
      state_step b are c s stood t log a z.recent z.d z.holds.memory at_z stands.told_is state
      (any_way state (gentle routine to from i u) lo p)

  now : HasSpecifications (text_of b) log.shared z.d
  now = draft_now (text_of b) Nothing s w arguments answer waiting log z.d z.holds has

  unless_low : (trap : Option TrapKind) (log' : Log) (state : State) → log.least + 1 ≤ log'.least
      → log.least + 1 ≤ least_at state → log.least + 1 ≤ least_at (unless trap log' state)
  unless_low None log' state e1 e2 = e2
  unless_low (Some k) log' state e1 e2 = e1

  tick_step : (o : Op) → slice_get w.function.ops w.index ≡ Some o → uses_on o w.on ≡ true → is_of_ticks o ≡ true
      → Stepped b log (act b.program o w arguments answer waiting log) t
  tick_step (Run run.Begin to from) i u e =
      of_ticks run.Begin to from i u (act b.program (Run run.Begin to from) w arguments answer waiting log)
      (omega arith)
      (begin_advances start_laws b s stood.standing stood.routines stood.variables w arguments answer waiting log z.d
      z.holds now to from i u)
  tick_step (Run run.Local to from) i u e =
      let log' = paid (Run run.Local to from) log in
      of_ticks run.Local to from i u (act b.program (Run run.Local to from) w arguments answer waiting log)
      (unless_low (closure_trap 0 log.shared) log'
      (goes_on (set to (next_number log.shared) w) waiting (sharing (specified Local 0 log.shared) log')) (omega arith)
      (omega arith))
      (local_advances start_laws b s stood.standing stood.routines stood.variables w arguments answer waiting log z.d
      z.holds now to from i u)
  tick_step (Run run.Parameter to from) i u e =
      let log' = paid (Run run.Parameter to from) log in
      let r = Param (w.values from) in
      let last = goes_on (set to (next_number log.shared) w) waiting (sharing (specified r 0 log.shared) log') in
      of_ticks run.Parameter to from i u (act b.program (Run run.Parameter to from) w arguments answer waiting log)
      (unless_low (index_trap (w.values from)) log' (unless (closure_trap 0 log.shared) log' last) (omega arith)
      (unless_low (closure_trap 0 log.shared) log' last (omega arith) (omega arith)))
      (parameter_advances start_laws b s stood.standing stood.routines stood.variables w arguments answer waiting log
      z.d
      z.holds now to from i u)
  tick_step (Run run.Malloc to from) i u e = absurd cc
  tick_step (Run run.Compile to from) i u e =
      compiles c s stood has w arguments answer waiting log x z t stands all to from i u
  tick_step (Run run.Expression to from) i u e = stuck
  tick_step (Run run.Statement to from) i u e = stuck
  tick_step (Run run.Variable to from) i u e = stuck
  tick_step (New to address kind captures) i u e = stuck
  tick_step (Put capture from) i u e = stuck
  tick_step (op.Const to word) i u e = absurd cc
  tick_step (op.Move to from) i u e = absurd cc
  tick_step (op.Bin kind to left right) i u e = absurd cc
  tick_step (op.CheckDivision left right) i u e = absurd cc
  tick_step (op.CheckZero divisor) i u e = absurd cc
  tick_step (op.Un kind to from) i u e = absurd cc
  tick_step (op.FrameAddress to offset) i u e = absurd cc
  tick_step (op.Load width to from) i u e = absurd cc
  tick_step (op.Store width to value) i u e = absurd cc
  tick_step (op.Clear offset words) i u e = absurd cc
  tick_step (op.Label label) i u e = absurd cc
  tick_step (op.Jump label) i u e = absurd cc
  tick_step (op.BranchZero test label) i u e = absurd cc
  tick_step (op.BranchNonzero test label) i u e = absurd cc
  tick_step (op.Argument index from) i u e = absurd cc
  tick_step (op.GetParameter to index) i u e = absurd cc
  tick_step (op.Call address) i u e = absurd cc
  tick_step (op.CallNumber number count) i u e = absurd cc
  tick_step (op.Result to) i u e = absurd cc
  tick_step (op.Return from) i u e = absurd cc
  tick_step op.ReturnZero i u e = absurd cc
  tick_step (op.Sys kind to from) i u e = absurd cc

  used_step : (o : Op) → slice_get w.function.ops w.index ≡ Some o → is_of_ticks o ≡ true
      → Stepped b log (checked b.program (Some o) w arguments answer waiting log) t
  used_step o i e = elim (cases_Bool (uses_on o w.on)) [
    | inl u ↦ rw u (tick_step o i u e)
    | inr u ↦ rw u stuck
  ]

  -- a call of a function that was compiled, or any other op but those of ticks
  plain_step : (o : Op) → slice_get w.function.ops w.index ≡ Some o → is_of_ticks o ≡ false
      → Stepped b log (checked b.program (Some o) w arguments answer waiting log) t
  plain_step o i plain = elim (cases_Bool (calls_body (functions_of b) log.shared.bodies o w)) [
    | inl e ↦ elim (cases_Bool (uses_on o w.on)) [
      | inl u ↦ rw u (body_step b c s stood has w arguments answer waiting log x z t stands o i u e)
      | inr u ↦ rw u stuck
    ]
    | inr e ↦ done (checked b.program (Some o) w arguments answer waiting log)
        (ops_pay b.program s stood.standing stood.extends stood.serving (rows_of b c s stood) w arguments answer waiting
        log z.d z.holds z.recent z.few o i plain e)
  ]

  pub runs_step : Stepped b log (advance b.program (Running w arguments answer waiting log)) t
  runs_step = by (slice_get w.function.ops w.index) refl
    where
      by : (o : Option Op) → slice_get w.function.ops w.index ≡ o
          → Stepped b log (checked b.program o w arguments answer waiting log) t
      by None i = stuck
      by (Some o) i = elim (cases_Bool (is_of_ticks o)) [
        | inl e ↦ used_step o i e
        | inr e ↦ plain_step o i e
      ]

-- ---- each step

to_simulates : (b : Base) (a : State) (t : Tale) → Stepped b (log_of a) (advance b.program a) t
    → (s : SimulatesStep (advance b.program) tell least_at most_at (Related b) a t) × AllWay tell IsCalm s.count t
to_simulates b a t p =
    (record { count = p.count; from = p.low; to = p.high; related = p.related }, p.calm)

module _ (b : Base) (are : AreTicks (ticks_of b)) (compiles : CompilesStep b) where
  way_step : (w : Frame) (arguments : ℕ → Option ℕ) (answer : Option ℕ) (waiting : List Frame) (log : Log) (t : Tale)
      → OnWay b (Running w arguments answer waiting log) t → AllCompile b log
      → Stepped b log (advance b.program (Running w arguments answer waiting log)) t
  way_step w arguments answer waiting log t r all =
      runs_step b are compiles r.code r.setting r.stood r.specifications w arguments answer waiting log r.world
      r.related.1 t r.stands all

  zeroing_step : (more address : ℕ) (w : Frame) (waiting : List Frame) (log : Log) (t : Tale)
      → OnWay b (Zeroing more address w waiting log) t
      → Stepped b log (advance b.program (Zeroing more address w waiting log)) t
  zeroing_step more address w waiting log t r =
      let z : ZeroesAt r.setting more address w waiting log r.world = r.related.1 in
      let at_z = r.stands.world_is
      ∙ ap (λ (v : World). let y : World = record v { state = with_code r.code v.state } in y) z.is in
      stepped b are r.code r.setting r.stood t log
      (op_stands_at w.function (places_of r.setting w.function) w.index + 24) 0 z.d z.holds.memory at_z r.stands.told_is
      r.specifications (zeroed_on more address w waiting (word_zeroed address log))
      (words_pay r.setting r.stood.standing more address w waiting log r.world z)

  making_step : (draft : Draft) (w : Frame) (waiting : List Frame) (log : Log) (t : Tale)
      → OnTick b draft w waiting log t → Stepped b log (advance b.program (Making draft w waiting log)) t
  making_step draft w waiting log t r =
      let s = r.setting in
      state_step b are r.code s r.stood t log (op_stands_at w.function (places_of s w.function) w.index) 0 r.d
      r.holds.memory r.stands.world_is r.stands.told_is (advance b.program (Making draft w waiting log))
      (tick_advances tick_laws b are s r.stood.standing r.stood.routines w nothing None waiting log r.d r.holds draft
      (part_now (ticks_of b) draft s w nothing None waiting log r.d r.holds r.agrees))

  -- the choices of what a step may cost are legal
  abbrev Fine : State → Tale → Type 0
  Fine a t = (k : ℕ) → k < most_at (advance b.program a) - most_at a → IsWellChosen (iterate tell k t).world

  fine_of : (n : ℕ) (t : Tale) → ((k : ℕ) → k < n → IsWellChosen (iterate tell k t).world) → IsFine n t.world
  fine_of n t fine k l = subst IsWellChosen (world_of_tale k t) (fine k l)

  -- a running state's
  step_of : (a : State) (t : Tale) → (see_told b a).ending ≡ None → Related b a t → AllCompile b (log_of a) → Fine a t
      → Stepped b (log_of a) (advance b.program a) t
  step_of (Running w arguments answer waiting log) t none r all fine =
      way_step w arguments answer waiting log t r all
  step_of (Zeroing more address w waiting log) t none r all fine = zeroing_step more address w waiting log t r
  step_of (Making draft w waiting log) t none r all fine = making_step draft w waiting log t r
  step_of (Compiling zero syntax to w waiting log) t none r all fine =
      last_step b syntax to w waiting log t r (fine_of 75 t (λ k l. fine k (omega (arith, l))))
  step_of (Compiling (suc more) syntax to w waiting log) t none r all fine =
      unit_step b more syntax to w waiting log t r (fine_of 512 t (λ k l. fine k (omega (arith, l))))
  step_of (Halted e log) t none r all fine = absurd (none_ends none)
  step_of (Stuck log) t none r all fine = record {
    count = 0;
    low = omega arith;
    high = omega arith;
    related = r;
    calm = λ j l. absurd (omega (arith, l));
  }

  pub simulates : (a : State) (t : Tale) → (see_told b a).ending ≡ None → Related b a t → AllCompile b (log_of a)
      → Fine a t
      → (s : SimulatesStep (advance b.program) tell least_at most_at (Related b) a t) × AllWay tell IsCalm s.count t
  simulates a t none r all fine = to_simulates b a t (step_of a t none r all fine)

-- ---- the run

module _ (b : Base) (compiles : CompilesStep b) (c : Code) (s : Setting) (main : Function) (shared : Shared) (n : ℕ)
    (t : Tale) (arrived : Arrived b c s main shared (iterate tell n t)) where
  -- a state of the run, related to a tale
  record Reached (a : State) (u : Tale) : Type 0 where
    steps : ℕ
    is : a ≡ upper b main shared steps
    related : Related b a u

  last : (i : ℕ) (a : State) → iterate (advance b.program) (suc i) a ≡ advance b.program (iterate (advance b.program)
      i a)
  last zero a = refl
  last (suc i) a = last i (advance b.program a)

  all_compile : (a : State) (u : Tale) → Reached a u → AllCompile b (log_of a)
  all_compile a u r number value syntax e =
      arrived.compilable r.steps number value syntax
      (subst (λ (v : State). IsTickOf value syntax (specification_at number (log_of v).shared)) r.is e)

  reached_simulates : (a : State) (u : Tale) → (see_told b a).ending ≡ None → Reached a u
      → ((k : ℕ) → k < most_at (advance b.program a) - most_at a → IsWellChosen (iterate tell k u).world)
      → (s : SimulatesStep (advance b.program) tell least_at most_at Reached a u) × AllWay tell IsCalm s.count u
  reached_simulates a u none r fine =
      let p = simulates b arrived.ticks compiles a u none r.related (all_compile a u r) fine in
      let q = p.0 in (
        record {
          count = q.count;
          from = q.from;
          to = q.to;
          related = record {
            steps = suc r.steps;
            is = ap (advance b.program) r.is ∙ sym (last r.steps (first main shared));
            related = q.related;
          };
        },
        p.1,
      )

  looks_alike : (a : State) (u : Tale) → Reached a u → see_told b a ≡ see_tale u
  looks_alike a u r = same b a u r.related

  record Started : Type 0 where
    count : ℕ
    low : 1 ≤ count
    high : count ≤ n + 32
    reached : Reached (first main shared) (iterate tell count t)
    calm : AllWay tell IsCalm (count - n) (iterate tell n t)
    over : n ≤ count

  start : Started
  start =
      let ar = arrived.arrives in
      let m = main_begins s main shared 0 arrived.world arrived.stood.standing ar in
      let d = ar.d in
      let at_d : (iterate tell n t).world ≡ going (behind c main.address 0 d) =
      arrived.stands.world_is
      ∙ ap (λ (v : World). let y : World = record v { state = with_code c v.state } in y) ar.arrives in
      let goes : iterate step m.0 arrived.world ≡ iterate step m.0 (going (behind s.code main.address 0 d)) =
      ap (iterate step m.0) ar.arrives in
      let r : ops.Related s (first main shared) (iterate step m.0 (going (behind s.code main.address 0 d))) =
      subst (ops.Related s (first main shared)) goes m.3 in
      let l = lifted b c s arrived.stood main.address 0 d shared.history ar.memory.table ar.memory.history
      ar.memory.making (iterate tell n t) at_d arrived.stands.told_is (first main shared) m.0
      (facts_of s (first main shared) (iterate step m.0 (going (behind s.code main.address 0 d))) r) in
      let there : Related b (first main shared) (iterate tell m.0 (iterate tell n t)) = record {
        code = c;
        setting = s;
        stood = arrived.stood;
        specifications = arrived.specifications;
        world = iterate step m.0 (going (behind s.code main.address 0 d));
        related = r;
        stands = l.stands;
      } in
      let low = m.1 in
      let high = m.2 in
      let e : n + m.0 - n ≡ m.0 = omega arith in
      record {
        count = n + m.0;
        low = omega (arith, low);
        high = omega (arith, high);
        reached = record {
          steps = 0;
          is = refl;
          related = subst (Related b (first main shared)) (sym (iterate_add tell n m.0 t)) there;
        };
        calm = subst (λ k. AllWay tell IsCalm k (iterate tell n t)) (sym e) l.calm;
        over = omega arith;
      }

  pub pays : (bound : ℕ) → IsFine bound t.world
      → PaysWithin bound (n + 32) (λ i. see_told b (upper b main shared i)) (λ i. least_at (upper b main shared i))
      (λ i. most_at (upper b main shared i)) (λ k. see_tale (iterate tell k t))
  pays bound fine =
      let begun = start in
      let low = begun.low in
      let high = begun.high in
      pays_within (advance b.program) tell least_at most_at (see_told b) see_tale Reached looks_alike
      (λ t. IsWellChosen t.world) (halts b) (rises b.program)
      (λ a t none r fine. (reached_simulates a t none r fine).0) (n + 32) bound (first main shared) t
      (λ k l. subst IsWellChosen (sym (world_of_tale k t)) (fine k l)) begun.count begun.reached (omega (arith, low))
      (omega (arith, high))

  pub calm_run : IsUnspoiled n t.world → (units each besides : ℕ) (meaning : ℕ → Seen Told End)
      → FollowsAtCost each besides meaning (λ i. see_told b (upper b main shared i))
      (λ i. least_at (upper b main shared i)) (λ i. most_at (upper b main shared i))
      → IsFine (each * units + (besides + (n + 32))) t.world → IsUnspoiled units t.world
  calm_run first_calm units each besides meaning follows fine =
      let begun = start in
      let low = begun.low in
      let high = begun.high in
      let over = begun.over in
      let e : n + (begun.count - n) ≡ begun.count = omega (arith, over) in
      let front : IsUnspoiled begun.count t.world =
      subst (λ k. IsUnspoiled k t.world) e
      (unspoiled_on n (begun.count - n) t.world first_calm
      (subst (IsUnspoiled (begun.count - n)) (world_of_tale n t)
      (tale_unspoiled (begun.count - n) (iterate tell n t) begun.calm))) in
      seam_unspoiled (advance b.program) least_at most_at (see_told b) Reached looks_alike (halts b) (rises b.program)
      reached_simulates (n + 32) (first main shared) t units each besides meaning follows begun.count
      begun.reached (omega (arith, low)) (omega (arith, high)) front fine

-- so it is, where the op that compiles is a step
pub simulated : ProgramIsSimulated
simulated b c s main shared n t arrived bound fine =
    pays b (compile_step b arrived.ticks arrived.generators) c s main shared n t arrived bound fine

pub unspoiled : ProgramIsUnspoiled
unspoiled b c s main shared n t arrived first_calm units each besides meaning follows fine =
    calm_run b (compile_step b arrived.ticks arrived.generators) c s main shared n t arrived first_calm units each
    besides
    meaning follows fine
