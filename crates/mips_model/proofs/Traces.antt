-- Where the instructions of a run come from. While straight code runs, each is fetched from a code that stays as it is;
-- a store to the arena or a flush would change it, and straight code has neither. The text stays as it is in any run.
use Rattle.std.proofs.Common.{◌≡◌, ℕ, zero, suc, ◌+◌, ◌-◌, ◌/◌, Bool, true, false, ◌||◌, ◌&&◌, List, [], ◌∷◌, Option}
use Rattle.std.proofs.Common.{None, Some, refl, sym, ap, ◌∙◌, subst, nat_eq, is_some, if◌then◌else◌}
use Rattle.std.specs.Fn.{iterate}
use Rattle.host_edge.specs.declared.ending.MachineKind.TheVariants as kind
use Rattle.host_edge.specs.declared.ending.Ending.TheVariants.{Trap}
use Rattle.host_edge.specs.declared.ending.TrapKind.TheVariants as trap
use Rattle.history.specs.Events.{End, Ended}
use Rattle.mips_encoder.specs.declared.instruction.Instr.{Instr}
use Rattle.mips_encoder.specs.Addresses.{past}
use Rattle.word32.specs.Parts.{is_aligned, loaded_part}
use Rattle.word32.specs.declared.width.Width.{Width}
use Rattle.mips_model.specs.State.{Code, Data, State, World, set_register}
use Rattle.mips_model.specs.Accesses.{Effect, Plain, Loads, Changes, ReadsText, ReadsArena, StoresText, Branches}
use Rattle.mips_model.specs.Accesses.{BranchesLinking, Jumps, JumpsLinking, Goes, GoesLinking, Ends, Faults, InputFails}
use Rattle.mips_model.specs.Accesses.{arena_word}
use Rattle.mips_model.specs.Effects.{effect, jumps, reads_hilo, sets_hilo}
use Rattle.mips_model.specs.Steps.{Fetched, Is, Refused, fetch, onward, ended, reads, stores_text, faulted, going}
use Rattle.mips_model.specs.Steps.{apply, act, is_hazard, recent_behind, execute, step, load_hazard}
use Rattle.mips_model.specs.Laws.{HasAt, at}
use Rattle.mips_model.proofs.Runs.{step_stays}
use Rattle.mips_model.proofs.Reach.{through, carry}

-- the next instruction of a world is fetched from this code, which is the world's own
pub record Executes (c : Code) (w : World) : Type 0 where
  pub code : w.state.code ≡ c
  pub instruction : Instr
  pub fetched : fetch c w.state.pc ≡ Is instruction

abbrev pub StaysIn : Code → World → Type 0
StaysIn c w = (n : ℕ) → (iterate step n w).ending ≡ None → Executes c (iterate step n w)

-- one step and then the rest
pub stays_first : (c : Code) (w : World) → Executes c w → StaysIn c (step w) → StaysIn c w
stays_first c w first rest zero on = first
stays_first c w first rest (suc n) on = rest n on

-- where the run has ended nothing more is executed
pub stays_ended : (c : Code) (w : World) (e : End) → w.ending ≡ Some e → StaysIn c w
stays_ended c w e is zero on = let x : None ≡ Some e = sym on ∙ is in absurd cc
stays_ended c w e is (suc n) on =
    let back : iterate step n (step w) ≡ iterate step n w = ap (iterate step n) (step_stays w e is) in
    absurd (nothing (ap (λ (v : World). v.ending) (sym back) ∙ on))
  where
    still : (n : ℕ) → (iterate step n w).ending ≡ Some e
    still zero = is
    still (suc n) = ap (λ (v : World). (iterate step n v).ending) (step_stays w e is) ∙ still n

    nothing : (iterate step n w).ending ≡ None → ⊥
    nothing on = let x : None ≡ Some e = sym on ∙ still n in cc

-- the first of straight code, and the rest of it
pub record Passes (c : Code) (a : ℕ) (is : List Instr) (r : ℕ × Data) (w : World) : Type 0 where
  pub loaded : ℕ
  pub left : Data
  pub goes : w ≡ going (at c (a + 4) loaded left)
  pub rest : through is loaded left ≡ Some r

passes_case :
    (is : List Instr) (b m q j : Bool) (e : Effect) (c : Code) (a l : ℕ) (d : Data) (r : ℕ × Data)
    → (if (b || m) then None else carry e (through is)) ≡ Some r
    → Passes c a is r (if (b || ((if nat_eq 0 0 then false else q) || (false && j))) then
    faulted kind.Hazard (at c a l d) else apply e (if m then 2 else (0 - 1)) (at c a l d))
passes_case is true m q j e c a l d r is-some = let x : ⊥ = cc in absurd x
passes_case is false true q j e c a l d r is-some = let x : ⊥ = cc in absurd x
passes_case is false false q j (Plain d') c a l d r is-some =
    record { loaded = 0; left = d'; goes = refl; rest = is-some }
passes_case is false false q j (Loads t d') c a l d r is-some =
    record { loaded = t; left = d'; goes = refl; rest = is-some }
passes_case is false false q j (Changes f d') c a l d r is-some = let x : ⊥ = cc in absurd x
passes_case is false false q j (ReadsText t at width) c a l d r is-some = let x : ⊥ = cc in absurd x
passes_case is false false q j (ReadsArena t at width) c a l d r is-some = let x : ⊥ = cc in absurd x
passes_case is false false q j (StoresText at width) c a l d r is-some = let x : ⊥ = cc in absurd x
passes_case is false false q j (Branches taken offset) c a l d r is-some = let x : ⊥ = cc in absurd x
passes_case is false false q j (BranchesLinking taken offset) c a l d r is-some = let x : ⊥ = cc in absurd x
passes_case is false false q j (Jumps target) c a l d r is-some = let x : ⊥ = cc in absurd x
passes_case is false false q j (JumpsLinking t target) c a l d r is-some = let x : ⊥ = cc in absurd x
passes_case is false false q j (Goes word) c a l d r is-some = let x : ⊥ = cc in absurd x
passes_case is false false q j (GoesLinking word) c a l d r is-some = let x : ⊥ = cc in absurd x
passes_case is false false q j (Ends e) c a l d r is-some = let x : ⊥ = cc in absurd x
passes_case is false false q j (Faults k) c a l d r is-some = let x : ⊥ = cc in absurd x
passes_case is false false q j InputFails c a l d r is-some = let x : ⊥ = cc in absurd x

passes : (i : Instr) (is : List Instr) (c : Code) (l a : ℕ) (d : Data) (r : ℕ × Data) → through (i ∷ is) l d ≡ Some r →
    fetch c a ≡ Is i
    → Passes c a is r (step (going (at c a l d)))
passes i is c l a d r e h =
    subst (λ f. Passes c a is r (execute f (at c a l d))) (sym h)
    (passes_case is (load_hazard l i) (reads_hilo i) (sets_hilo i) (jumps i) (effect i d) c a l d r e)

-- straight code keeps the code as it is
pub stays_through : (is : List Instr) (c : Code) (l a : ℕ) (d : Data) (r : ℕ × Data) → through is l d ≡ Some r →
    HasAt c a is
    → StaysIn c (going (at c (past a is) r.0 r.1)) → StaysIn c (going (at c a l d))
stays_through [] c l a d r e h rest =
    let same : (l, d) ≡ r = cc in
    subst (λ (x : ℕ × Data). StaysIn c (going (at c a x.0 x.1))) (sym same) rest
stays_through (i ∷ is) c l a d r e h rest =
    let p = passes i is c l a d r e h.0 in
    stays_first c (going (at c a l d)) (record { code = refl; instruction = i; fetched = h.0 })
    (subst (StaysIn c) (sym p.goes) (stays_through is c p.loaded (a + 4) p.left r p.rest h.1 rest))

-- no instruction writes to the text
text_read : (x : Option ℕ) (r at : ℕ) (width : Width) (recent : ℕ) (s : State) →
    (reads x r at width recent s).state.code.text ≡ s.code.text
text_read None r at width recent s = refl
text_read (Some w) r at width recent s = by (is_aligned at width)
  where
    by : (b : Bool) → (if b then
        onward (s.next + 4) r recent false s.code (set_register r (loaded_part w at width) s.d) s else
        ended (Ended (Trap trap.Misaligned)) s).state.code.text ≡ s.code.text
    by true = refl
    by false = refl

text_stored : (x : Option ℕ) (at : ℕ) (width : Width) (s : State) →
    (stores_text x at width s).state.code.text ≡ s.code.text
text_stored None at width s = refl
text_stored (Some w) at width s = refl

text_applied : (e : Effect) (recent : ℕ) (s : State) → (apply e recent s).state.code.text ≡ s.code.text
text_applied (Plain d) recent s = refl
text_applied (Loads r d) recent s = refl
text_applied (Changes f d) recent s = refl
text_applied (ReadsText r at width) recent s = text_read (s.code.text (at / 4)) r at width recent s
text_applied (ReadsArena r at width) recent s =
    text_read (Some (s.code.arena.words (arena_word at))) r at width recent s
text_applied (StoresText at width) recent s = text_stored (s.code.text (at / 4)) at width s
text_applied (Branches taken offset) recent s = refl
text_applied (BranchesLinking taken offset) recent s = refl
text_applied (Jumps target) recent s = refl
text_applied (JumpsLinking r target) recent s = refl
text_applied (Goes word) recent s = refl
text_applied (GoesLinking word) recent s = refl
text_applied (Ends e) recent s = refl
text_applied (Faults k) recent s = refl
text_applied InputFails recent s = refl

text_executed : (f : Fetched) (s : State) → (execute f s).state.code.text ≡ s.code.text
text_executed (Refused k) s = refl
text_executed (Is i) s = by (is_hazard i s)
  where
    by : (b : Bool) → (if b then faulted kind.Hazard s else act i s).state.code.text ≡ s.code.text
    by true = refl
    by false = text_applied (effect i s.d) (recent_behind i s.recent) s

text_stepped : (w : World) → (step w).state.code.text ≡ w.state.code.text
text_stepped w = by (is_some w.ending)
  where
    by : (b : Bool) → (if b then w else execute (fetch w.state.code w.state.pc) w.state).state.code.text ≡
        w.state.code.text
    by true = refl
    by false = text_executed (fetch w.state.code w.state.pc) w.state

pub text_stays : (n : ℕ) (w : World) → (iterate step n w).state.code.text ≡ w.state.code.text
text_stays zero w = refl
text_stays (suc n) w = text_stays n (step w) ∙ text_stepped w
