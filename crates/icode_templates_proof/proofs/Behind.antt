-- Straight code behind an instruction that read HI or LO: it does what it does elsewhere, where it sets neither.
use Rattle.std.proofs.Common.{◌≡◌, ℕ, ◌+◌, ◌-◌, Bool, true, false, ◌&&◌, ◌||◌, List, [], ◌∷◌, length, Some}
use Rattle.std.proofs.Common.{None, refl, ap, ◌∙◌, arith, nat_eq, if◌then◌else◌}
use Rattle.std.specs.Fn.{iterate}
use Rattle.host_edge.specs.declared.ending.MachineKind.TheVariants as kind
use Rattle.mips_encoder.specs.declared.instruction.Instr.{Instr}
use Rattle.mips_encoder.specs.Addresses.{past}
use Rattle.mips_model.specs.State.{Code, Data, State}
use Rattle.mips_model.specs.Accesses.{Effect, Plain, Loads, Changes, ReadsText, ReadsArena, StoresText, Branches}
use Rattle.mips_model.specs.Accesses.{BranchesLinking, Jumps, JumpsLinking, Goes, GoesLinking, Ends, Faults, InputFails}
use Rattle.mips_model.specs.Effects.{effect, jumps, reads_hilo, sets_hilo}
use Rattle.mips_model.specs.Steps.{faulted, going, apply, act, execute, step, load_hazard, hilo_hazard}
use Rattle.mips_model.specs.Laws.{HasAt}
use Rattle.mips_model.proofs.Reach.{through, carry}

-- a state at an address, where HI and LO must not be set for so many instructions
abbrev pub resting : Code → (a loaded recent : ℕ) → Data → State
resting c a loaded recent d =
    record { pc = a; next = a + 4; loaded = loaded; recent = recent; slot = false; code = c; d = d }

-- none of these instructions sets HI or LO
abbrev pub SetNeither : List Instr → Type 0
SetNeither [] = Unit {0}
SetNeither (i ∷ is) = (sets_hilo i ≡ false) × SetNeither is

abbrev GoesBehind : List Instr → Code → (a l q : ℕ) → Data → ℕ × Data → Type 0
GoesBehind is c a l q d r =
    iterate step (length is) (going (resting c a l q d)) ≡ going (resting c (past a is) r.0 (q - length is) r.1)

no_hazard : (q : ℕ) (i : Instr) → sets_hilo i ≡ false → hilo_hazard q i ≡ false
no_hazard q i quiet = by (nat_eq q 0) (sets_hilo i) quiet
  where
    by : (b x : Bool) → x ≡ false → (if b then false else x) ≡ false
    by true x e = refl
    by false x e = e

cons_case :
    (is : List Instr) (b m j : Bool) (e : Effect) (c : Code) (a l q : ℕ) (d : Data) (r : ℕ × Data)
    → ((l' q' : ℕ) (d' : Data) → through is l' d' ≡ Some r → GoesBehind is c (a + 4) l' q' d' r)
    → (if (b || m) then None else carry e (through is)) ≡ Some r
    → iterate step (length is)
    (if (b || (false || (false && j))) then faulted kind.Hazard (resting c a l q d) else
    apply e (if m then 2 else (q - 1)) (resting c a l q d))
    ≡ going (resting c (past (a + 4) is) r.0 (q - 1 - length is) r.1)
cons_case is true m j e c a l q d r ih is-some = let x : ⊥ = cc in absurd x
cons_case is false true j e c a l q d r ih is-some = let x : ⊥ = cc in absurd x
cons_case is false false j (Plain d') c a l q d r ih is-some = ih 0 (q - 1) d' is-some
cons_case is false false j (Loads t d') c a l q d r ih is-some = ih t (q - 1) d' is-some
cons_case is false false j (Changes f d') c a l q d r ih is-some = let x : ⊥ = cc in absurd x
cons_case is false false j (ReadsText t at width) c a l q d r ih is-some = let x : ⊥ = cc in absurd x
cons_case is false false j (ReadsArena t at width) c a l q d r ih is-some = let x : ⊥ = cc in absurd x
cons_case is false false j (StoresText at width) c a l q d r ih is-some = let x : ⊥ = cc in absurd x
cons_case is false false j (Branches taken offset) c a l q d r ih is-some = let x : ⊥ = cc in absurd x
cons_case is false false j (BranchesLinking taken offset) c a l q d r ih is-some = let x : ⊥ = cc in absurd x
cons_case is false false j (Jumps target) c a l q d r ih is-some = let x : ⊥ = cc in absurd x
cons_case is false false j (JumpsLinking t target) c a l q d r ih is-some = let x : ⊥ = cc in absurd x
cons_case is false false j (Goes word) c a l q d r ih is-some = let x : ⊥ = cc in absurd x
cons_case is false false j (GoesLinking word) c a l q d r ih is-some = let x : ⊥ = cc in absurd x
cons_case is false false j (Ends e) c a l q d r ih is-some = let x : ⊥ = cc in absurd x
cons_case is false false j (Faults k) c a l q d r ih is-some = let x : ⊥ = cc in absurd x
cons_case is false false j InputFails c a l q d r ih is-some = let x : ⊥ = cc in absurd x

pub goes_behind : (is : List Instr) (c : Code) (l q a : ℕ) (d : Data) (r : ℕ × Data) → SetNeither is →
    through is l d ≡ Some r → HasAt c a is → GoesBehind is c a l q d r
goes_behind [] c l q a d r n e h =
    let e' : (l, d) ≡ r = cc in
    let z : q ≡ q - 0 = omega arith in
    ap (λ (x : ℕ × Data). going (resting c a x.0 q x.1)) e' ∙ ap (λ k. going (resting c a r.0 k r.1)) z
goes_behind (i ∷ is) c l q a d r n e h =
    let s = resting c a l q d in
    let z : q - 1 - length is ≡ q - length (i ∷ is) = omega arith in
    ap (λ f. iterate step (length is) (execute f s)) h.0
    ∙ ap (λ (x : Bool). iterate step (length is)
    (if (load_hazard l i || (x || (false && jumps i))) then faulted kind.Hazard s else act i s)) (no_hazard q i n.0)
    ∙ cons_case is (load_hazard l i) (reads_hilo i) (jumps i) (effect i d) c a l q d r
    (λ l' q' d' e'. goes_behind is c l' q' (a + 4) d' r n.1 e' h.1) e
    ∙ ap (λ k. going (resting c (past (a + 4) is) r.0 k r.1)) z
