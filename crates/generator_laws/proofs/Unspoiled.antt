-- A run that calls services, each of which obeys, flushes no unwritten word, where its calls flush what they wrote.
use Rattle.std.proofs.Common.{◌≡◌, ◌≢◌, ◌⊎◌, inl, inr, ℕ, zero, suc, ◌+◌, ◌<◌, ◌≤◌, Bool, true, false, ◌&&◌, ◌||◌, not}
use Rattle.std.proofs.Common.{refl, sym, ap, ◌∙◌, subst, arith, nat_eq, nat_le, nat_lt, if◌then◌else◌}
use Rattle.std.proofs.Common.{List, [], ◌∷◌, length}
use Rattle.std.specs.Fn.{iterate}
use Rattle.std.proofs.lemmas.Bool.{cases_Bool, false≢true, and_parts}
use Rattle.std.proofs.lemmas.Bool.Decides.{nat_tests}
use Rattle.code_arena.specs.Arena.{Arena, written}
use Rattle.code_arena.specs.declared.arena.WordState.TheVariants.{Flushed, Written}
use Rattle.mips_model.specs.CodeServices.{arena_word, written_from, is_arena_range}
use Rattle.mips_model.specs.Beside.{is_at_service}
use Rattle.mips_encoder.specs.declared.instruction.Instr.TheVariants.{Syscall}
use Rattle.mips_model.specs.State.{Code, Data, Outside, State, World, register}
use Rattle.mips_model.specs.Steps.{step, going, is_hazard}
use Rattle.mips_model.specs.Laws.{at}
use Rattle.mips_model.specs.Run.{is_serving}
use Rattle.mips_model_laws.specs.Clean.{is_written, is_of_written, all_written, spoils, IsUnspoiled}
use Rattle.mips_model_laws.proofs.Clean.{words_set}
use Rattle.mips_model_laws.proofs.Unspoiled.{quiet_unspoiled, unspoiled_on, run_keeps}
use Rattle.generator_laws.specs.Calls.{Call, Begin, Emit, Finish, Flush, Publish, Asks, Own, IsRun, RunsWith}
use Rattle.generator_laws.specs.Calls.{behind_call, outside_behind, arena_behind}
use Rattle.generator_laws.specs.Served.{AreObeyed}
use Rattle.generator_laws.proofs.Makings.{runs_made}
use Rattle.generator_laws.specs.Covered.{is_in, HasWritten, written_behind, IsOfWritten, AreCovered}

-- ---- words of a range

all_from : (from count : ℕ) (a : Arena)
    → ((k : ℕ) → from ≤ k → k < from + count → is_written (a.states k) ≡ true) → all_written from count a ≡ true
unfolding all_written
all_from from zero a each = refl
all_from from (suc n) a each =
    ap (λ (b : Bool). b && all_written (suc from) n a) (each from (omega arith) (omega arith))
    ∙ all_from (suc from) n a (λ k low high. each k (omega (arith, low)) (omega (arith, high)))

in_range : (from count k : ℕ) → from ≤ k → k < from + count → is_in from count k ≡ true
in_range from count k low high = grind (arith, nat_tests, low, high)

-- what is written is there
words_written : (i k : ℕ) (ws : List ℕ) (a : Arena) → i ≤ k → k < i + length ws
    → (written_from i ws a).states k ≡ Written
words_written i k [] a low high = absurd (omega (arith, low, high))
words_written i k (w ∷ ws) a low high = elim (cases_Bool (nat_eq k i)) [
  | inl t ↦ first t (words_set (suc i) ws (written i w a) k)
  | inr f ↦ (let other : i ≢ k = λ e. false≢true (sym f ∙ ap (λ j. nat_eq k j) e ∙ eq_self k) in
      words_written (suc i) k ws (written i w a) (omega (arith, low, other)) (omega (arith, high)))
]
  where
    eq_self : (k : ℕ) → nat_eq k k ≡ true
    eq_self k = grind (arith, nat_tests)

    first : nat_eq k i ≡ true
        → ((written_from (suc i) ws (written i w a)).states k ≡ (written i w a).states k)
        ⊎ ((written_from (suc i) ws (written i w a)).states k ≡ Written)
        → (written_from (suc i) ws (written i w a)).states k ≡ Written
    first t (inr e) = e
    first t (inl e) = e ∙ ap (λ (b : Bool). if b then Written else a.states k) t

-- ---- one call

and_false : (x : Bool) → (x && false) ≡ false
and_false true = refl
and_false false = refl

-- a service of another number flushes nothing
other_unspoiled : (n : ℕ) (s : State) → register 2 s.d ≡ n → nat_eq n 67 ≡ false → spoils (going s) ≡ false
other_unspoiled n s is other =
    ap (λ (b : Bool). if b then not (is_of_written (register 4 s.d) (register 5 s.d) s.code.arena) else false) still
  where
    still : is_serving 67 (going s) ≡ false
    still = ap (λ m. is_at_service s && (nat_eq m 67 && not (is_hazard Syscall s))) is
        ∙ ap (λ (b : Bool). is_at_service s && (b && not (is_hazard Syscall s))) other
        ∙ and_false (is_at_service s)

-- a flush of words that were written
flush_unspoiled : (s : State) (has : ℕ → Bool) (address count : ℕ) → register 4 s.d ≡ address → register 5 s.d ≡ count
    → HasWritten has s.code.arena → ((k : ℕ) → is_in (arena_word address) count k ≡ true → has k ≡ true)
    → spoils (going s) ≡ false
flush_unspoiled s has address count first second there covered =
    ap (λ m. if is_serving 67 (going s) then not (is_of_written m (register 5 s.d) s.code.arena) else false) first
    ∙ ap (λ m. if is_serving 67 (going s) then not (is_of_written address m s.code.arena) else false) second
    ∙ ap (λ (b : Bool). if is_serving 67 (going s) then not b else false) made
    ∙ by (is_serving 67 (going s))
  where
    all : all_written (arena_word address) count s.code.arena ≡ true
    all = all_from (arena_word address) count s.code.arena
        (λ k low high. there k (covered k (in_range (arena_word address) count k low high)))

    made : is_of_written address count s.code.arena ≡ true
    made = by (is_arena_range address count)
      where
        by : (b : Bool) → (if b then all_written (arena_word address) count s.code.arena else true) ≡ true
        by true = all
        by false = refl

    by : (b : Bool) → (if b then false else false) ≡ false
    by true = refl
    by false = refl

call_unspoiled : (call : Call) (has : ℕ → Bool) (c : Code) (a loaded : ℕ) (d : Data) → Asks call c a loaded d
    → HasWritten has c.arena → IsOfWritten call has → spoils (going (at c a loaded d)) ≡ false
call_unspoiled (Begin parameters) has c a loaded d q there covered =
    other_unspoiled 64 (at c a loaded d) q.called.0 refl
call_unspoiled (Emit op) has c a loaded d q there covered = other_unspoiled 65 (at c a loaded d) q.called.0 refl
call_unspoiled (Finish address most frame words) has c a loaded d q there covered =
    other_unspoiled 66 (at c a loaded d) q.called.0 refl
call_unspoiled (Flush address count) has c a loaded d q there covered =
    flush_unspoiled (at c a loaded d) has address count q.called.1 q.called.2 there covered
call_unspoiled (Publish row address count) has c a loaded d q there covered =
    other_unspoiled 68 (at c a loaded d) q.called.0 refl

-- and behind it
set_keeps : (x y : Arena) (k : ℕ) → (y.states k ≡ x.states k) ⊎ (y.states k ≡ Written)
    → is_written (x.states k) ≡ true → is_written (y.states k) ≡ true
set_keeps x y k (inl same) e = ap is_written same ∙ e
set_keeps x y k (inr is) e = ap is_written is

behind_written : (call : Call) (has : ℕ → Bool) (a : Arena) → HasWritten has a
    → HasWritten (written_behind call has) (arena_behind call a)
behind_written (Begin parameters) has a there k e = there k e
behind_written (Emit op) has a there k e = there k e
behind_written (Publish row address count) has a there k e = there k e
behind_written (Flush address count) has a there k e =
    by (nat_le (arena_word address) k && nat_lt k (arena_word address + count))
  where
    by : (b : Bool) → is_written (if b then Flushed else a.states k) ≡ true
    by true = refl
    by false = there k e
behind_written (Finish address most frame words) has a there k e =
    elim (cases_Bool (is_in (arena_word address) (length words) k)) [
      | inl t ↦ (let p = and_parts (nat_le (arena_word address) k)
          (nat_lt k (arena_word address + length words)) t in
          ap is_written (words_written (arena_word address) k words a (grind (arith, nat_tests, p.0))
          (grind (arith, nat_tests, p.1))))
      | inr f ↦ (let had : has k ≡ true = sym (ap (λ (b : Bool). b || has k) f) ∙ e in
          set_keeps a (written_from (arena_word address) words a) k (words_set (arena_word address) words a k)
          (there k had))
    ]

-- ---- all calls

own_unspoiled : (n : ℕ) (s after : State) → Own n s after → IsUnspoiled n (going s)
own_unspoiled n s after o = quiet_unspoiled n (going s)
    (ap (λ (w : World). w.state.d.outside.flushes) o.by.by ∙ ap (λ (x : Outside). x.flushes) o.kept)

pub calls_unspoiled : (calls : List Call) (has : ℕ → Bool) (count : ℕ) (s after : State)
    → IsRun calls count s after → AreObeyed calls s.d.outside → HasWritten has s.code.arena → AreCovered has calls
    → IsUnspoiled count (going s)
calls_unspoiled [] has count s after run obeyed there covered = own_unspoiled count s after run
calls_unspoiled (call ∷ calls) has count s after t obeyed there covered =
    let mid = behind_call call t.code t.place t.found in
    let whole : RunsWith (call ∷ []) (t.before + 1) s mid =
    record {
      by = record {
        before = t.before;
        code = t.code;
        place = t.place;
        loaded = t.loaded;
        found = t.found;
        comes = t.comes;
        asks = t.asks;
        left = 0;
        counted = refl;
        goes_on = record { by = record { by = refl }; kept = refl };
      };
    } in
    let made = runs_made (call ∷ []) (t.before + 1) s mid whole (obeyed.0, tt) in
    let passed : outside_behind call t.found.outside ≡ outside_behind call s.d.outside =
    ap (outside_behind call) t.comes.kept in
    let here : HasWritten has t.code.arena = λ k e.
    subst (λ (w : World). is_written (w.state.code.arena.states k) ≡ true) t.comes.by.by
    (run_keeps t.before (going s) k (there k e)) in
    let now : IsUnspoiled 1 (iterate step t.before (going s)) =
    subst (IsUnspoiled 1) (sym t.comes.by.by)
    (one (going (at t.code t.place t.loaded t.found))
    (call_unspoiled call has t.code t.place t.loaded t.found t.asks here covered.0)) in
    let rest : IsUnspoiled t.left (going mid) =
    calls_unspoiled calls (written_behind call has) t.left mid after t.goes_on
    (subst (AreObeyed calls) (sym passed) obeyed.1) (behind_written call has t.code.arena here) covered.1 in
    let first : IsUnspoiled (t.before + 1) (going s) =
    unspoiled_on t.before 1 (going s) (own_unspoiled t.before s (at t.code t.place t.loaded t.found) t.comes) now in
    let e = t.counted in
    subst (λ n. IsUnspoiled n (going s)) (let same : t.before + 1 + t.left ≡ count = omega (arith, e) in same)
    (unspoiled_on (t.before + 1) t.left (going s) first
    (subst (IsUnspoiled t.left) (sym made.reaches.by) rest))
  where
    one : (w : World) → spoils w ≡ false → IsUnspoiled 1 w
    one w e zero l = e
    one w e (suc i) l = absurd (omega (arith, l))
