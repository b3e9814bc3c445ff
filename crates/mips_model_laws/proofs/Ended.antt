-- What a run tells that ends by no fault, on words that are no entries; and one that enters a function and then ends.
use Rattle.std.proofs.Common.{◌≡◌, inl, inr, ℕ, suc, ◌+◌, ◌<◌, ◌≤◌, Bool, false, List, [], ◌∷◌, ◌++◌, Option, Some}
use Rattle.std.proofs.Common.{None, refl, sym}
use Rattle.std.proofs.Common.{ap, ◌∙◌, subst, arith, length, drop, map, nat_lt, if◌then◌else◌}
use Rattle.std.specs.Fn.{iterate}
use Rattle.std.proofs.lemmas.Bool.Decides.{nat_tests}
use Rattle.word32.specs.declared.map.TheConstants.{ARENA, FUNCTION_ROWS}
use Rattle.history.specs.Events.{Item, End}
use Rattle.mips_encoder.specs.declared.instruction.Instr.{Instr}
use Rattle.mips_model.specs.State.{Making, Outside, State, World}
use Rattle.mips_model.specs.Steps.{Fetched, Is, fetch, step, run, going, ended}
use Rattle.mips_model.specs.Told.{Told, Passed, Entered, row_from, entry_of, entry_at, entered, made, said, told}
use Rattle.mips_model.specs.Told.{passed}
use Rattle.mips_model.proofs.Told.{told_is_history}
use Rattle.mips_model_laws.specs.Laws.{only, with_code}
use Rattle.mips_model_laws.specs.Clean.{IsUnspoiled}
use Rattle.mips_model_laws.proofs.Quiet.{published, made_counts}
use Rattle.mips_model_laws.proofs.Tables.{table_stays}
use Rattle.mips_model_laws.proofs.Below.{IsNoFault, ends_in_words}
use Rattle.mips_model_laws.proofs.Clean.{run_is}
use Rattle.mips_model_laws.proofs.Unspoiled.{quiet_unspoiled}
use Rattle.mips_model_laws.proofs.Entrances.{AreNoEntries, StaysOr, ends_plain}

front_alone : (xs ys : List Item) → xs ++ ys ≡ xs → ys ≡ []
front_alone [] ys e = e
front_alone (x ∷ xs) ys e = front_alone xs ys (ap (λ (zs : List Item). drop 1 zs) e)

-- where nothing passed, and nothing but what passed is told, nothing is told
pub silent : (count : ℕ) (s : State) → told count (going s) ≡ map Passed (passed (told count (going s)))
    → (iterate step count (going s)).state.d.outside ≡ s.d.outside → told count (going s) ≡ []
silent count s plain same = plain ∙ ap (map Passed) nothing
  where
    nothing : passed (told count (going s)) ≡ []
    nothing =
        let h = told_is_history count (going s) in
        let e : (run count (going s)).state.d.outside.history ≡ s.d.outside.history =
        ap (λ (w : World). w.state.d.outside.history) (run_is count (going s))
        ∙ ap (λ (o : Outside). o.history) same in
        front_alone s.d.outside.history (passed (told count (going s))) (h ∙ e)

-- A run that ends by no fault on these words alone, with code and outside as they were, ends so on the code itself,
-- tells nothing and flushes no unwritten word.
pub record EndsQuietly (count : ℕ) (s last : State) (e : End) : Type 0 where
  pub ends : iterate step count (going s) ≡ ended e (with_code s.code last)
  pub told_none : told count (going s) ≡ []
  pub unspoiled : IsUnspoiled count (going s)

pub ends_quietly : (can : ℕ → Bool) (count : ℕ) (s last : State) (e : End) → IsNoFault e
    → iterate step count (going (with_code (only can s.code) s)) ≡ ended e (with_code (only can s.code) last)
    → last.d.outside ≡ s.d.outside → AreNoEntries can s.d.table → EndsQuietly count s last e
ends_quietly can count s last e fair goes same none =
    let r = ends_in_words can count s last e fair goes (ap (λ (o : Outside). o.flushes) same) in
    let out : (iterate step count (going s)).state.d.outside ≡ s.d.outside =
    ap (λ (w : World). w.state.d.outside) r.0 ∙ same in
    record {
      ends = r.0;
      told_none = silent count s (ends_plain can count s r.1 none (ap (λ (o : Outside). o.making) out)) out;
      unspoiled = quiet_unspoiled count (going s) (ap (λ (o : Outside). o.flushes) out);
    }

-- An instruction at a function's address, in which nothing passes, and then a run that tells this: the function is
-- entered, and then that is told. So a function that is entered and whose frame is over a limit is entered once too.
pub enters_then : (n count : ℕ) (s s1 : State) (i : Instr) (items : List Told) → ARENA ≤ s.pc
    → fetch s.code s.pc ≡ Is i → row_from FUNCTION_ROWS 0 s.pc s.d.table ≡ Some n
    → step (going s) ≡ going s1 → s1.d.outside ≡ s.d.outside → told count (going s1) ≡ items
    → told (suc count) (going s) ≡ Entered n ∷ items
enters_then n count s s1 i items high is row first same rest =
    ap (λ (xs : List Told). xs ++ (map Passed (said (going s)) ++ (made (going s) ++ told count (step (going s)))))
    enters
    ∙ ap (λ (xs : List Told). Entered n ∷ xs) (
    ap (λ (xs : List Item). map Passed xs ++ (made (going s) ++ told count (step (going s)))) says_nothing
    ∙ ap (λ (xs : List Told). xs ++ told count (step (going s))) makes_nothing
    ∙ ap (λ (w : World). told count w) first
    ∙ rest)
  where
    outside_is : (step (going s)).state.d.outside ≡ s.d.outside
    outside_is = ap (λ (w : World). w.state.d.outside) first ∙ same

    far : nat_lt s.pc ARENA ≡ false
    far = grind (arith, nat_tests, high)

    enters : entered (going s) ≡ Entered n ∷ []
    enters =
        ap (λ (b : Bool). if b then [] else entry_at (fetch s.code s.pc) s) far
        ∙ ap (λ (x : Fetched). entry_at x s) is ∙ ap entry_of row

    behind_all : (xs : List Item) → drop (length xs) xs ≡ []
    behind_all [] = refl
    behind_all (x ∷ xs) = behind_all xs

    says_nothing : said (going s) ≡ []
    says_nothing =
        ap (λ (o : Outside). drop (length s.d.outside.history) o.history) outside_is ∙ behind_all s.d.outside.history

    makes_nothing : made (going s) ≡ []
    makes_nothing = elim (made_counts (going s)) [
      | inl e ↦ e
      | inr more ↦ (let one = more.1 in
          let counts : published (step (going s)) ≡ published (going s) =
          ap (λ (o : Outside). o.making.functions + length o.making.finishes) outside_is in
          absurd (omega (arith, counts, one)))
    ]
