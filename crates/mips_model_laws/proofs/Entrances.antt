-- What a run tells that passes no published address but, at first, one.
use Rattle.std.proofs.Common.{◌≡◌, inl, inr, ◌⊎◌, ℕ, zero, suc, ◌+◌, ◌-◌, ◌<◌, ◌≤◌, Bool, true, false, List, [], ◌∷◌}
use Rattle.std.proofs.Common.{◌++◌}
use Rattle.std.proofs.Common.{Option, Some, None, refl, sym, ap, ◌∙◌, subst, arith, length, drop, map, nat_lt, is_some}
use Rattle.std.proofs.Common.{if◌then◌else◌}
use Rattle.std.specs.Fn.{iterate}
use Rattle.pace.proofs.Runs.{iterate_add}
use Rattle.std.proofs.lemmas.Bool.{cases_Bool}
use Rattle.std.proofs.lemmas.Bool.Decides.{nat_tests}
use Rattle.word32.specs.declared.map.TheConstants.{ARENA, FUNCTION_ROWS}
use Rattle.history.specs.Events.{Item}
use Rattle.mips_encoder.specs.declared.instruction.Instr.{Instr}
use Rattle.mips_model.specs.State.{Making, Outside, Code, Data, State, World}
use Rattle.mips_model.specs.Steps.{Fetched, Refused, Is, fetch, step, run, going}
use Rattle.mips_model.specs.Laws.{Reaches, at}
use Rattle.mips_model.specs.Told.{Told, Passed, Entered, row_from, entry_of, entry_at, entered, made, said, told}
use Rattle.mips_model.specs.Told.{passed}
use Rattle.mips_model.specs.Told.{IsQuiet}
use Rattle.mips_model.proofs.Told.{told_plainly, told_is_history}
use Rattle.mips_model_laws.specs.Laws.{only, with_code, IsOf, StaysIn}
use Rattle.mips_model_laws.proofs.Quiet.{published, run_counts, made_counts}
use Rattle.mips_model_laws.proofs.Tables.{table_stays}
use Rattle.mips_model_laws.proofs.Below.{enters_none}

run_is : (n : ℕ) (w : World) → run n w ≡ iterate step n w
unfolding run
run_is n w = refl

last : (n : ℕ) (w : World) → iterate step (suc n) w ≡ step (iterate step n w)
last zero w = refl
last (suc n) w = last n (step w)

-- no row has one of these addresses of the arena
abbrev pub AreNoEntries : (ℕ → Bool) → (ℕ → ℕ × ℕ) → Type 0
AreNoEntries can table = (a : ℕ) → ARENA ≤ a → IsOf can a → row_from FUNCTION_ROWS 0 a table ≡ None

-- at an address that is no entry no function is entered
enters_not : (w : World) → (ARENA ≤ w.state.pc → row_from FUNCTION_ROWS 0 w.state.pc w.state.d.table ≡ None)
    → entered w ≡ []
enters_not w none = elim (cases_Bool (nat_lt w.state.pc ARENA)) [
  | inl t ↦ enters_none w (grind (arith, nat_tests, t))
  | inr f ↦ (let high : ARENA ≤ w.state.pc = grind (arith, nat_tests, f) in
      by (is_some w.ending) (nat_lt w.state.pc ARENA) (fetch w.state.code w.state.pc) (none high))
]
  where
    by : (o b : Bool) (x : Fetched) → row_from FUNCTION_ROWS 0 w.state.pc w.state.d.table ≡ None
        → (if o then [] else (if b then [] else entry_at x w.state)) ≡ []
    by true b x e = refl
    by false true x e = refl
    by false false (Refused k) e = refl
    by false false (Is i) e = ap entry_of e

-- before each of so many instructions the run has ended, or stands at one of these
abbrev pub StaysOr : (ℕ → Bool) → (count : ℕ) → State → Type 0
StaysOr can count s = (i : ℕ) → i < count → (is_some (iterate step i (going s)).ending ≡ true)
    ⊎ IsOf can (iterate step i (going s)).state.pc

enters_none_or : (w : World) → (is_some w.ending ≡ true)
    ⊎ (ARENA ≤ w.state.pc → row_from FUNCTION_ROWS 0 w.state.pc w.state.d.table ≡ None) → entered w ≡ []
enters_none_or w (inl e) = ap (λ (b : Bool). if b then [] else
    (if nat_lt w.state.pc ARENA then [] else entry_at (fetch w.state.code w.state.pc) w.state)) e
enters_none_or w (inr h) = enters_not w h

-- A run at such addresses, behind which the services have left what they had, tells what passed in it and nothing else.
pub ends_plain : (can : ℕ → Bool) (count : ℕ) (s : State) → StaysOr can count s → AreNoEntries can s.d.table
    → (iterate step count (going s)).state.d.outside.making ≡ s.d.outside.making
    → told count (going s) ≡ map Passed (passed (told count (going s)))
ends_plain can count s stays none same = told_plainly count (going s) quiet
  where
    counts : published (iterate step count (going s)) ≡ published (going s)
    counts = ap (λ (m : Making). m.functions + length m.finishes) same

    quiet_at : (i : ℕ) → i < count → IsQuiet (iterate step i (going s))
    quiet_at i l =
        let w = iterate step i (going s) in
        let table : w.state.d.table ≡ s.d.table = table_stays count (going s) counts i (omega (arith, l)) in
        (enters_none_or w (by w table (stays i l)), unmade i l)
      where
        by : (w : World) → w.state.d.table ≡ s.d.table → (is_some w.ending ≡ true) ⊎ IsOf can w.state.pc
            → (is_some w.ending ≡ true)
            ⊎ (ARENA ≤ w.state.pc → row_from FUNCTION_ROWS 0 w.state.pc w.state.d.table ≡ None)
        by w table (inl e) = inl e
        by w table (inr h) = inr (λ high. ap (λ (t : ℕ → ℕ × ℕ). row_from FUNCTION_ROWS 0 w.state.pc t) table
            ∙ none w.state.pc high h)

        unmade : (i : ℕ) → i < count → made (iterate step i (going s)) ≡ []
        unmade i l = elim (made_counts (iterate step i (going s))) [
          | inl e ↦ e
          | inr more ↦ (let up = run_counts i (going s) in
              let on = run_counts (count - suc i) (iterate step (suc i) (going s)) in
              let all : iterate step (count - suc i) (iterate step (suc i) (going s)) ≡ iterate step count (going s) =
              sym (iterate_add step (suc i) (count - suc i) (going s))
              ∙ ap (λ n. iterate step n (going s)) (let e : suc i + (count - suc i) ≡ count = omega (arith, l) in e) in
              let there = ap published all in
              let here = ap published (last i (going s)) in
              let one = more.1 in
              absurd (omega (arith, counts, up, on, there, here, one)))
        ]

    quiet : (i : ℕ) → i < count → IsQuiet (run i (going s))
    quiet i l = subst IsQuiet (sym (run_is i (going s))) (quiet_at i l)

-- a run that goes on
pub stays_plain : (can : ℕ → Bool) (count : ℕ) (s : State) → StaysIn can count s → AreNoEntries can s.d.table
    → (iterate step count (going s)).state.d.outside.making ≡ s.d.outside.making
    → told count (going s) ≡ map Passed (passed (told count (going s)))
stays_plain can count s stays none same = ends_plain can count s (λ i l. inr (stays i l)) none same

-- and nothing where nothing passed
pub ends_silent : (can : ℕ → Bool) (count : ℕ) (s : State) → StaysOr can count s → AreNoEntries can s.d.table
    → (iterate step count (going s)).state.d.outside ≡ s.d.outside → told count (going s) ≡ []
ends_silent can count s stays none same =
    ends_plain can count s stays none (ap (λ (o : Outside). o.making) same) ∙ ap (map Passed) nothing
  where
    nothing : passed (told count (going s)) ≡ []
    nothing =
        let h = told_is_history count (going s) in
        let e : (run count (going s)).state.d.outside.history ≡ s.d.outside.history =
        ap (λ (w : World). w.state.d.outside.history) (run_is count (going s))
        ∙ ap (λ (o : Outside). o.history) same in
        front_alone s.d.outside.history (passed (told count (going s))) (h ∙ e)
      where
        front_alone : (xs ys : List Item) → xs ++ ys ≡ xs → ys ≡ []
        front_alone [] ys e = e
        front_alone (x ∷ xs) ys e = front_alone xs ys (ap (λ (zs : List Item). drop 1 zs) e)

pub stays_silent : (can : ℕ → Bool) (count : ℕ) (s : State) → StaysIn can count s → AreNoEntries can s.d.table
    → (iterate step count (going s)).state.d.outside ≡ s.d.outside → told count (going s) ≡ []
stays_silent can count s stays none same = ends_silent can count s (λ i l. inr (stays i l)) none same

-- The function of an entry is entered once: by the instruction at its address, where the rest of the run passes none,
-- whether it goes on or ends at a limit.
pub enters_once : (can : ℕ → Bool) (n count : ℕ) (s s1 : State) (i : Instr) → ARENA ≤ s.pc
    → fetch s.code s.pc ≡ Is i → row_from FUNCTION_ROWS 0 s.pc s.d.table ≡ Some n
    → step (going s) ≡ going s1 → s1.d.outside ≡ s.d.outside
    → StaysOr can count s1 → AreNoEntries can s.d.table
    → (iterate step count (going s1)).state.d.outside ≡ s1.d.outside
    → told (suc count) (going s) ≡ Entered n ∷ []
enters_once can n count s s1 i high is row first same stays none on =
    ap (λ (xs : List Told). xs ++ (map Passed (said (going s)) ++ (made (going s) ++ told count (step (going s)))))
    enters
    ∙ ap (λ (xs : List Told). Entered n ∷ xs) (
    ap (λ (xs : List Item). map Passed xs ++ (made (going s) ++ told count (step (going s)))) says_nothing
    ∙ ap (λ (xs : List Told). xs ++ told count (step (going s))) makes_nothing
    ∙ ap (λ (w : World). told count w) first
    ∙ silent)
  where
    outside_is : (step (going s)).state.d.outside ≡ s.d.outside
    outside_is = ap (λ (w : World). w.state.d.outside) first ∙ same

    counts : published (step (going s)) ≡ published (going s)
    counts = ap (λ (o : Outside). o.making.functions + length o.making.finishes) outside_is

    far : nat_lt s.pc ARENA ≡ false
    far = grind (arith, nat_tests, high)

    enters : entered (going s) ≡ Entered n ∷ []
    enters =
        ap (λ (b : Bool). if b then [] else entry_at (fetch s.code s.pc) s) far
        ∙ ap (λ (x : Fetched). entry_at x s) is ∙ ap entry_of row

    behind_all : (xs : List Item) → drop (length xs) xs ≡ []
    behind_all [] = refl
    behind_all (x ∷ xs) = behind_all xs

    says_nothing : said (going s) ≡ []
    says_nothing =
        ap (λ (o : Outside). drop (length s.d.outside.history) o.history) outside_is ∙ behind_all s.d.outside.history

    makes_nothing : made (going s) ≡ []
    makes_nothing = elim (made_counts (going s)) [
      | inl e ↦ e
      | inr more ↦ (let one = more.1 in absurd (omega (arith, counts, one)))
    ]

    table : s1.d.table ≡ s.d.table
    table = ap (λ (w : World). w.state.d.table) (sym first) ∙ table_stays 1 (going s) counts 1 (omega arith)

    silent : told count (going s1) ≡ []
    silent = ends_silent can count s1 stays
        (subst (λ (t : ℕ → ℕ × ℕ). AreNoEntries can t) (sym table) none) on
