-- Runs in which no flush meets an unwritten word: those that flush nothing, those that have ended, one run behind
-- another, and those that differ in the choices that are left alone.
use Rattle.std.proofs.Common.{◌≡◌, ◌≢◌, ◌⊎◌, inl, inr, ℕ, zero, suc, ◌+◌, ◌-◌, ◌<◌, ◌≤◌, Bool, true, false, ◌&&◌, not}
use Rattle.std.proofs.Common.{refl, sym, ap, ◌∙◌, subst, arith, nat_eq, nat_le, nat_lt, if◌then◌else◌, is_some, List}
use Rattle.std.proofs.Common.{Option}
use Rattle.std.specs.Fn.{iterate}
use Rattle.std.proofs.lemmas.Bool.{cases_Bool, false≢true, cases_lt}
use Rattle.std.proofs.lemmas.Bool.Decides.{nat_tests}
use Rattle.pace.proofs.Runs.{iterate_add}
use Rattle.code_arena.specs.Arena.{Arena, flushed}
use Rattle.code_arena.specs.declared.arena.WordState.TheVariants.{Flushed, Written}
use Rattle.mips_model.specs.CodeServices as services
use Rattle.mips_model.specs.CodeServices.{Outcome, Refused, Does}
use Rattle.mips_model.specs.declared.bad_service.BadService.TheVariants.{OutsideArena}
use Rattle.mips_model.specs.Beside.{is_at_service}
use Rattle.mips_encoder.specs.declared.instruction.Instr.TheVariants.{Syscall}
use Rattle.mips_model.specs.Choices.{Choice}
use Rattle.mips_model.specs.State.{Code, State, World, register}
use Rattle.mips_model.specs.Services.{writes, generator_of, flushed_once}
use Rattle.mips_model.specs.Steps.{step, apply, is_hazard, execute, fetch}
use Rattle.mips_model.specs.Run.{is_serving}
use Rattle.mips_model_laws.specs.Clean.{is_written, is_of_written, all_written, spoils, IsUnspoiled}
use Rattle.mips_model_laws.proofs.Quiet.{serves}
use Rattle.mips_model_laws.proofs.Below.{runs_count}
use Rattle.mips_model_laws.proofs.Clean.{calm_turns}
use Rattle.mips_model_laws.proofs.Completing.{rowed}

abbrev flushes_in : World → ℕ
flushes_in w = w.state.d.outside.flushes

last_step : (n : ℕ) (w : World) → iterate step (suc n) w ≡ step (iterate step n w)
last_step zero w = refl
last_step (suc n) w = last_step n (step w)

-- ---- what flushes nothing

serving_of : (w : World) → spoils w ≡ true → is_serving 67 w ≡ true
serving_of w e = by (is_serving 67 w) e
  where
    by : (b : Bool) → (if b then not (is_of_written (register 4 w.state.d) (register 5 w.state.d) w.state.code.arena)
        else false) ≡ true → b ≡ true
    by true e = refl
    by false e = absurd (false≢true e)

-- a flush of unwritten words is one that isn't refused, so it is counted
spoil_counts : (w : World) → spoils w ≡ true → flushes_in (step w) ≡ suc (flushes_in w)
spoil_counts w e = ap flushes_in (serves 67 w (serving_of w e)) ∙ by (services.is_arena_range first count) bad
  where
    first : ℕ
    first = register 4 w.state.d

    count : ℕ
    count = register 5 w.state.d

    bad : not (is_of_written first count w.state.code.arena) ≡ true
    bad = sym (ap (λ (b : Bool). if b then not (is_of_written first count w.state.code.arena) else false)
        (serving_of w e)) ∙ e

    by : (b : Bool) → not (if b then all_written (services.arena_word first) count w.state.code.arena else true) ≡ true
        → flushes_in (apply (writes (if b
        then Does 0 (generator_of w.state.d) (flushed (services.arena_word first) count) (λ r. r)
        else services.Refused OutsideArena) flushed_once w.state.d) (w.state.recent - 1) w.state)
        ≡ suc (flushes_in w)
    by true e = omega arith
    by false e = absurd (false≢true e)

pub quiet_unspoiled : (n : ℕ) (w : World) → flushes_in (iterate step n w) ≡ flushes_in w → IsUnspoiled n w
quiet_unspoiled n w same i l = elim (cases_Bool (spoils (iterate step i w))) [
  | inr f ↦ f
  | inl t ↦ (let up = runs_count i w in
      let one = spoil_counts (iterate step i w) t in
      let on = runs_count (n - suc i) (iterate step (suc i) w) in
      let there : flushes_in (iterate step (n - suc i) (iterate step (suc i) w)) ≡ flushes_in (iterate step n w) =
      ap flushes_in (sym (iterate_add step (suc i) (n - suc i) w)
      ∙ ap (λ m. iterate step m w) (let e : suc i + (n - suc i) ≡ n = omega (arith, l) in e)) in
      let here : flushes_in (iterate step (suc i) w) ≡ flushes_in (step (iterate step i w)) =
      ap flushes_in (last_step i w) in
      absurd (omega (arith, same, up, one, on, there, here)))
]

-- ---- one run behind another

pub unspoiled_on : (m n : ℕ) (w : World) → IsUnspoiled m w → IsUnspoiled n (iterate step m w) → IsUnspoiled (m + n) w
unspoiled_on m n w first second i l = elim (cases_lt i m) [
  | inl less ↦ first i less
  | inr more ↦ (let e : m + (i - m) ≡ i = omega (arith, more) in
      subst (λ k. spoils (iterate step k w) ≡ false) e
      (subst (λ (v : World). spoils v ≡ false) (sym (iterate_add step m (i - m) w))
      (second (i - m) (omega (arith, l, more)))))
]

pub unspoiled_front : (m n : ℕ) (w : World) → m ≤ n → IsUnspoiled n w → IsUnspoiled m w
unspoiled_front m n w le fine i l = fine i (omega (arith, l, le))

pub unspoiled_behind : (m n : ℕ) (w : World) → IsUnspoiled (m + n) w → IsUnspoiled n (iterate step m w)
unspoiled_behind m n w fine i l =
    subst (λ (v : World). spoils v ≡ false) (iterate_add step m i w) (fine (m + i) (omega (arith, l)))

-- a run that has ended
pub ended_unspoiled : (n : ℕ) (w : World) → is_some w.ending ≡ true → IsUnspoiled n w
ended_unspoiled n w e zero l = ap (λ (b : Bool). if b
    then not (is_of_written (register 4 w.state.d) (register 5 w.state.d) w.state.code.arena) else false) still
  where
    still : is_serving 67 w ≡ false
    still = ap (λ (b : Bool). if b then false
        else (is_at_service w.state && (nat_eq (register 2 w.state.d) 67 && not (is_hazard Syscall w.state)))) e
ended_unspoiled n w e (suc i) l =
    subst (λ (v : World). spoils (iterate step i v) ≡ false)
    (sym (ap (λ (b : Bool). if b then w else execute (fetch w.state.code w.state.pc) w.state) e))
    (ended_unspoiled n w e i (omega (arith, l)))

-- ---- with other choices left

pub rowed_spoils : (r : List Choice) (w : World) → spoils (rowed r w) ≡ spoils w
rowed_spoils r w = refl

-- Where a row is completed, the run that was completed is unspoiled where the other is.
pub rowed_unspoiled : (n : ℕ) (row : List Choice) (w : World)
    → ((i : ℕ) → i ≤ n → (r : List Choice) × (iterate step i (rowed row w) ≡ rowed r (iterate step i w)))
    → IsUnspoiled n (rowed row w) → IsUnspoiled n w
rowed_unspoiled n row w states fine i l =
    let s = states i (omega (arith, l)) in
    sym (rowed_spoils s.0 (iterate step i w)) ∙ ap spoils (sym s.1) ∙ fine i l

-- ---- a word that was written stays so

flushed_keeps : (from count k : ℕ) (a : Arena) → is_written (a.states k) ≡ true
    → is_written ((flushed from count a).states k) ≡ true
flushed_keeps from count k a e = by (nat_le from k && nat_lt k (from + count))
  where
    by : (b : Bool) → is_written (if b then Flushed else a.states k) ≡ true
    by true = refl
    by false = e

step_keeps : (w : World) (k : ℕ) → is_written (w.state.code.arena.states k) ≡ true
    → is_written ((step w).state.code.arena.states k) ≡ true
step_keeps w k e = elim (cases_Bool (is_serving 67 w)) [
  | inr f ↦ turned (calm_turns w k f)
  | inl t ↦ subst (λ (v : World). is_written (v.state.code.arena.states k) ≡ true) (sym (serves 67 w t))
      (by (services.is_arena_range (register 4 w.state.d) (register 5 w.state.d)))
]
  where
    turned : ((step w).state.code.arena.states k ≡ w.state.code.arena.states k)
        ⊎ ((step w).state.code.arena.states k ≡ Written) → is_written ((step w).state.code.arena.states k) ≡ true
    turned (inl same) = ap is_written same ∙ e
    turned (inr is) = ap is_written is

    by : (b : Bool) → is_written ((apply (writes (if b
        then Does 0 (generator_of w.state.d) (flushed (services.arena_word (register 4 w.state.d))
        (register 5 w.state.d)) (λ r. r)
        else services.Refused OutsideArena) flushed_once w.state.d) (w.state.recent - 1)
        w.state).state.code.arena.states k) ≡ true
    by true = flushed_keeps (services.arena_word (register 4 w.state.d)) (register 5 w.state.d) k w.state.code.arena e
    by false = e

pub run_keeps : (n : ℕ) (w : World) (k : ℕ) → is_written (w.state.code.arena.states k) ≡ true
    → is_written ((iterate step n w).state.code.arena.states k) ≡ true
run_keeps zero w k e = e
run_keeps (suc n) w k e = run_keeps n (step w) k (step_keeps w k e)

-- ---- what leaves no word written that wasn't

-- an unwritten word of a range
record IsUnwrittenIn (from count : ℕ) (a : Arena) : Type 0 where
  word : ℕ
  low : from ≤ word
  high : word < from + count
  unwritten : is_written (a.states word) ≡ false

unwritten_in : (from count : ℕ) (a : Arena) → all_written from count a ≡ false → IsUnwrittenIn from count a
unfolding all_written
unwritten_in from zero a e = absurd (false≢true (sym e))
unwritten_in from (suc n) a e =
    by (λ rest. unwritten_in (suc from) n a rest) (is_written (a.states from)) refl e
  where
    by : (all_written (suc from) n a ≡ false → IsUnwrittenIn (suc from) n a) → (b : Bool)
        → is_written (a.states from) ≡ b → (b && all_written (suc from) n a) ≡ false → IsUnwrittenIn from (suc n) a
    by on false here e = record { word = from; low = omega arith; high = omega arith; unwritten = here }
    by on true here e =
        let r = on e in
        let low = r.low in
        let high = r.high in
        record { word = r.word; low = omega (arith, low); high = omega (arith, high); unwritten = r.unwritten }

-- a flush that spoils leaves a word flushed that was unwritten
record Spoils (w : World) : Type 0 where
  word : ℕ
  before : is_written (w.state.code.arena.states word) ≡ false
  after : is_written ((step w).state.code.arena.states word) ≡ true

not_true : (b : Bool) → not b ≡ true → b ≡ false
not_true true e = absurd (false≢true e)
not_true false e = refl

spoils_word : (w : World) → spoils w ≡ true → Spoils w
spoils_word w e = by (services.is_arena_range first count) refl bad
  where
    first : ℕ
    first = register 4 w.state.d

    count : ℕ
    count = register 5 w.state.d

    bad : is_of_written first count w.state.code.arena ≡ false
    bad = not_true (is_of_written first count w.state.code.arena)
        (sym (ap (λ (b : Bool). if b then not (is_of_written first count w.state.code.arena) else false)
        (serving_of w e)) ∙ e)

    by : (b : Bool) → services.is_arena_range first count ≡ b
        → (if b then all_written (services.arena_word first) count w.state.code.arena else true) ≡ false → Spoils w
    by false is e' = absurd (false≢true (sym e'))
    by true is e' =
        let k = unwritten_in (services.arena_word first) count w.state.code.arena e' in
        record {
          word = k.word;
          before = k.unwritten;
          after = ap (λ (v : World). is_written (v.state.code.arena.states k.word)) (serves 67 w (serving_of w e))
              ∙ ap (λ (b : Bool). is_written ((apply (writes (if b
              then Does 0 (generator_of w.state.d) (flushed (services.arena_word first) count) (λ r. r)
              else services.Refused OutsideArena) flushed_once w.state.d) (w.state.recent - 1)
              w.state).state.code.arena.states k.word)) is
              ∙ ap (λ (b : Bool). is_written (if b then Flushed else w.state.code.arena.states k.word))
              (both (nat_le (services.arena_word first) k.word) (nat_lt k.word (services.arena_word first + count))
              (grind (arith, nat_tests, k.low)) (grind (arith, nat_tests, k.high)));
        }
      where
        both : (x y : Bool) → x ≡ true → y ≡ true → (x && y) ≡ true
        both true y e f = f
        both false y e f = absurd (false≢true e)

-- So a run behind which no word is written that wasn't before it, flushes no unwritten word, since none is unwritten
-- again. That is each run from code to the same code.
pub same_unspoiled : (n : ℕ) (w : World)
    → ((k : ℕ) → is_written ((iterate step n w).state.code.arena.states k) ≡ true
    → is_written (w.state.code.arena.states k) ≡ true) → IsUnspoiled n w
same_unspoiled n w none i l = elim (cases_Bool (spoils (iterate step i w))) [
  | inr f ↦ f
  | inl t ↦ (let s = spoils_word (iterate step i w) t in
      let next : is_written ((iterate step (suc i) w).state.code.arena.states s.word) ≡ true =
      ap (λ (v : World). is_written (v.state.code.arena.states s.word)) (last_step i w) ∙ s.after in
      let there : iterate step (n - suc i) (iterate step (suc i) w) ≡ iterate step n w =
      sym (iterate_add step (suc i) (n - suc i) w)
      ∙ ap (λ m. iterate step m w) (let e : suc i + (n - suc i) ≡ n = omega (arith, l) in e) in
      let end : is_written ((iterate step n w).state.code.arena.states s.word) ≡ true =
      sym (ap (λ (v : World). is_written (v.state.code.arena.states s.word)) there)
      ∙ run_keeps (n - suc i) (iterate step (suc i) w) s.word next in
      absurd (false≢true (sym s.before ∙ run_keeps i w s.word (none s.word end))))
]

-- from code to the same code
pub code_unspoiled : (n : ℕ) (w : World) → (iterate step n w).state.code ≡ w.state.code → IsUnspoiled n w
code_unspoiled n w same = same_unspoiled n w (λ k e.
    sym (ap (λ (c : Code). is_written (c.arena.states k)) same) ∙ e)
