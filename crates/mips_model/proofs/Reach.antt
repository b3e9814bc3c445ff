-- One instruction of known code, what stands in the text and the arena, and straight code executed from its list.
use Rattle.std.proofs.Common.{◌≡◌, ℕ, ◌+◌, ◌-◌, ◌/◌, ◌%◌, ◌<◌, ◌≤◌, ◌==◌, Bool, true, false, ◌&&◌, ◌||◌, List, [], ◌∷◌}
use Rattle.std.proofs.Common.{◌++◌, length, Option, None, Some, refl, ap, ◌∙◌, arith, nat_eq, nat_lt, if◌then◌else◌}
use Rattle.std.specs.Fn.{iterate}
use Rattle.std.proofs.lemmas.Bool.Decides.{nat_tests}
use Rattle.pace.proofs.Runs.{iterate_add}
use Rattle.word32.specs.declared.map.TheConstants.{ARENA, ARENA_BYTES}
use Rattle.code_arena.specs.declared.arena.WordState.TheVariants.{Flushed}
use Rattle.host_edge.specs.declared.ending.MachineKind.TheVariants as kind
use Rattle.mips_encoder.specs.Decoded.{instr_of}
use Rattle.mips_encoder.specs.declared.instruction.Instr.{Instr}
use Rattle.mips_encoder.specs.Addresses.{past}
use Rattle.mips_model.specs.State.{Code, Data, State}
use Rattle.mips_model.specs.Accesses.{Effect, Plain, Loads, Changes, ReadsText, ReadsArena, StoresText, Branches}
use Rattle.mips_model.specs.Accesses.{BranchesLinking, Jumps, JumpsLinking, Goes, GoesLinking, Ends, Faults, InputFails}
use Rattle.mips_model.specs.Accesses.{arena_word}
use Rattle.mips_model.specs.Effects.{effect, jumps, reads_hilo, sets_hilo}
use Rattle.mips_model.specs.Steps.{Is, fetch, faulted, going, apply, act, is_hazard, execute, step, load_hazard}
use Rattle.mips_model.specs.Laws.{HasAt, at, Reaches, Grows}

pub step_acts : (i : Instr) (s : State) → fetch s.code s.pc ≡ Is i → is_hazard i s ≡ false → step (going s) ≡ act i s
step_acts i s stands quiet =
    ap (λ f. execute f s) stands ∙ ap (λ (b : Bool). if b then faulted kind.Hazard s else act i s) quiet

pub fetch_text : (c : Code) (a w : ℕ) (i : Instr) → a % 4 ≡ 0 → a < ARENA → c.text (a / 4) ≡ Some w →
    instr_of w ≡ Some i → fetch c a ≡ Is i
fetch_text c a w i even low stands is =
    let t : (a % 4 == 0) ≡ true = grind (arith, nat_tests) in
    let l : nat_lt a ARENA ≡ true = grind (arith, nat_tests) in
    rw (l, t, stands, is) refl

pub fetch_arena : (c : Code) (a : ℕ) (i : Instr) → a % 4 ≡ 0 → ARENA ≤ a → a < ARENA + ARENA_BYTES →
    c.arena.states (arena_word a) ≡ Flushed
    → instr_of (c.arena.words (arena_word a)) ≡ Some i → fetch c a ≡ Is i
fetch_arena c a i even from to flushed is =
    let t : (a % 4 == 0) ≡ true = grind (arith, nat_tests) in
    let l : nat_lt a ARENA ≡ false = grind (arith, nat_tests) in
    let h : nat_lt a (ARENA + ARENA_BYTES) ≡ true = grind (arith, nat_tests) in
    rw (l, t, h, flushed, is) refl

-- one stretch and then the next
pub reaches_on : {k n : ℕ} {s s1 s2 : State} → Reaches k s s1 → Reaches n s1 s2 → Reaches (k + n) s s2
reaches_on {k} {n} {s} {s1} {s2} a b = record { by = iterate_add step k n (going s) ∙ ap (iterate step n) a.by ∙ b.by }

-- what stands in code still stands in code that has grown
pub has_grown : {c c' : Code} → Grows c c' → (a : ℕ) (is : List Instr) → HasAt c a is → HasAt c' a is
has_grown g a [] h = tt
has_grown g a (i ∷ is) h = (g.stays a i h.0, has_grown g (a + 4) is h.1)

-- two stretches of code, one behind the other
pub past_append : (a : ℕ) (is js : List Instr) → past a (is ++ js) ≡ past (past a is) js
past_append a [] js = refl
past_append a (i ∷ is) js = past_append (a + 4) is js

pub front : (c : Code) (a : ℕ) (is js : List Instr) → HasAt c a (is ++ js) → HasAt c a is
front c a [] js h = tt
front c a (i ∷ is) js h = (h.0, front c (a + 4) is js h.1)

pub back : (c : Code) (a : ℕ) (is js : List Instr) → HasAt c a (is ++ js) → HasAt c (past a is) js
back c a [] js h = h
back c a (i ∷ is) js h = back c (a + 4) is js h.1

abbrev pub carry : Effect → (ℕ → Data → Option (ℕ × Data)) → Option (ℕ × Data)
carry (Plain d) go = go 0 d
carry (Loads r d) go = go r d
carry e go = None

-- The register loaded last and the data behind straight code; None where an instruction of it jumps, ends the run,
-- touches code, is a hazard, or reads HI or LO.
abbrev pub through : List Instr → ℕ → Data → Option (ℕ × Data)
through [] l d = Some (l, d)
through (i ∷ is) l d = if (load_hazard l i || reads_hilo i) then None else carry (effect i d) (through is)

abbrev Goes-to : List Instr → Code → ℕ → ℕ → Data → ℕ × Data → Type 0
Goes-to is c a l d r = iterate step (length is) (going (at c a l d)) ≡ going (at c (past a is) r.0 r.1)

cons_case :
    (is : List Instr) (b m q j : Bool) (e : Effect) (c : Code) (a l : ℕ) (d : Data) (r : ℕ × Data)
    → ((l' : ℕ) (d' : Data) → through is l' d' ≡ Some r → Goes-to is c (a + 4) l' d' r)
    → (if (b || m) then None else carry e (through is)) ≡ Some r
    → iterate step (length is)
    (if (b || ((if nat_eq 0 0 then false else q) || (false && j))) then faulted kind.Hazard (at c a l d) else
    apply e (if m then 2 else (0 - 1)) (at c a l d))
    ≡ going (at c (past (a + 4) is) r.0 r.1)
cons_case is true m q j e c a l d r ih is-some = let x : ⊥ = cc in absurd x
cons_case is false true q j e c a l d r ih is-some = let x : ⊥ = cc in absurd x
cons_case is false false q j (Plain d') c a l d r ih is-some = ih 0 d' is-some
cons_case is false false q j (Loads t d') c a l d r ih is-some = ih t d' is-some
cons_case is false false q j (Changes f d') c a l d r ih is-some = let x : ⊥ = cc in absurd x
cons_case is false false q j (ReadsText t at width) c a l d r ih is-some = let x : ⊥ = cc in absurd x
cons_case is false false q j (ReadsArena t at width) c a l d r ih is-some = let x : ⊥ = cc in absurd x
cons_case is false false q j (StoresText at width) c a l d r ih is-some = let x : ⊥ = cc in absurd x
cons_case is false false q j (Branches taken offset) c a l d r ih is-some = let x : ⊥ = cc in absurd x
cons_case is false false q j (BranchesLinking taken offset) c a l d r ih is-some = let x : ⊥ = cc in absurd x
cons_case is false false q j (Jumps target) c a l d r ih is-some = let x : ⊥ = cc in absurd x
cons_case is false false q j (JumpsLinking t target) c a l d r ih is-some = let x : ⊥ = cc in absurd x
cons_case is false false q j (Goes word) c a l d r ih is-some = let x : ⊥ = cc in absurd x
cons_case is false false q j (GoesLinking word) c a l d r ih is-some = let x : ⊥ = cc in absurd x
cons_case is false false q j (Ends e) c a l d r ih is-some = let x : ⊥ = cc in absurd x
cons_case is false false q j (Faults k) c a l d r ih is-some = let x : ⊥ = cc in absurd x
cons_case is false false q j InputFails c a l d r ih is-some = let x : ⊥ = cc in absurd x

goes_through : (is : List Instr) (c : Code) (l a : ℕ) (d : Data) (r : ℕ × Data) → through is l d ≡ Some r →
    HasAt c a is → Goes-to is c a l d r
goes_through [] c l a d r e h = let e' : (l, d) ≡ r = cc in ap (λ (x : ℕ × Data). going (at c a x.0 x.1)) e'
goes_through (i ∷ is) c l a d r e h =
    ap (λ f. iterate step (length is) (execute f (at c a l d))) h.0
    ∙ cons_case is (load_hazard l i) (reads_hilo i) (sets_hilo i) (jumps i) (effect i d) c a l d r
    (λ l' d' e'. goes_through is c l' (a + 4) d' r e' h.1) e

pub through_runs : (is : List Instr) (c : Code) (l a : ℕ) (d : Data) (r : ℕ × Data) → through is l d ≡ Some r →
    HasAt c a is → Reaches (length is) (at c a l d) (at c (past a is) r.0 r.1)
through_runs is c l a d r e h = record { by = goes_through is c l a d r e h }
