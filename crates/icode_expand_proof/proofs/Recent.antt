-- HI and LO may have been read just before an op: the op's code does the same then.
use Rattle.std.proofs.Common.{◌≡◌, ℕ, zero, suc, ◌+◌, ◌%◌, ◌≤◌, Bool, true, false, ◌||◌, List, ◌++◌, refl, sym, ap, ◌∙◌}
use Rattle.std.proofs.Common.{subst, arith}
use Rattle.std.proofs.Common.{nat_eq, nat_lt, nat_le}
use Rattle.std.specs.Fn.{iterate}
use Rattle.std.proofs.lemmas.Bool.Decides.{nat_tests}
use Rattle.word32.specs.declared.map.TheConstants.{STACK}
use Rattle.mips_encoder.specs.declared.instruction.Instr.{Instr}
use Rattle.mips_model.specs.State.{Code, Data}
use Rattle.mips_model.specs.Accesses.{Effect, Plain, Loads, Changes, ReadsText, ReadsArena, StoresText, Branches}
use Rattle.mips_model.specs.Accesses.{BranchesLinking, Jumps, JumpsLinking, Goes, GoesLinking, Ends, Faults, InputFails}
use Rattle.mips_model.specs.Effects.{effect, sets_hilo}
use Rattle.mips_model.specs.Steps.{Is, fetch, going, apply, is_hazard, recent_behind, step}
use Rattle.mips_model.specs.Laws.{HasAt, at}
use Rattle.mips_model.proofs.Reach.{step_acts}
use Rattle.icode_templates.specs.Layout.{Spot, InRegister, InSlot}
use Rattle.mips_assembly.specs.Assembly.{lw}
use Rattle.icode_templates.specs.Templates.{load_code}
use Rattle.icode_templates_proof.specs.Spots.{pointer, Framed, Usable}
use Rattle.icode_templates_proof.specs.Moves.{behind}
use Rattle.icode_meaning.specs.State.{Log, State, least_at}
use Rattle.icode_expand_proof.specs.Relation.{Related, Pays}
use Rattle.icode_expand_proof.specs.Settings.{Setting}

-- the run goes on behind the effect
abbrev pub IsOnward : Effect → Type 0
IsOnward (Plain d) = Unit {0}
IsOnward (Loads r d) = Unit {0}
IsOnward (Changes f d) = Unit {0}
IsOnward (Branches taken offset) = Unit {0}
IsOnward (BranchesLinking taken offset) = Unit {0}
IsOnward (Jumps target) = Unit {0}
IsOnward (JumpsLinking r target) = Unit {0}
IsOnward (Goes word) = Unit {0}
IsOnward (GoesLinking word) = Unit {0}
IsOnward e = ⊥

pub record IsGentle (c : Code) (a : ℕ) (d : Data) : Type 0 where
  pub first : Instr
  pub stands : fetch c a ≡ Is first
  pub sets_neither : sets_hilo first ≡ false
  pub onward : IsOnward (effect first d)

same_effect : (e : Effect) (c : Code) (a recent : ℕ) (d : Data) → IsOnward e → apply e recent (behind c a 1 d) ≡ apply
    e recent (behind c a 0 d)
same_effect (Plain d') c a recent d on = refl
same_effect (Loads r d') c a recent d on = refl
same_effect (Changes f d') c a recent d on = refl
same_effect (ReadsText r at width) c a recent d on = absurd on
same_effect (ReadsArena r at width) c a recent d on = absurd on
same_effect (StoresText at width) c a recent d on = absurd on
same_effect (Branches taken offset) c a recent d on = refl
same_effect (BranchesLinking taken offset) c a recent d on = refl
same_effect (Jumps target) c a recent d on = refl
same_effect (JumpsLinking r target) c a recent d on = refl
same_effect (Goes word) c a recent d on = refl
same_effect (GoesLinking word) c a recent d on = refl
same_effect (Ends e) c a recent d on = absurd on
same_effect (Faults k) c a recent d on = absurd on
same_effect InputFails c a recent d on = absurd on

same_step : (c : Code) (a : ℕ) (d : Data) (g : IsGentle c a d) → step (going (behind c a 1 d))
    ≡ step (going (behind c a 0 d))
same_step c a d g =
    let quiet : is_hazard g.first (behind c a 1 d) ≡ false = ap (λ (b : Bool). b || false) g.sets_neither in
    step_acts g.first (behind c a 1 d) g.stands quiet
    ∙ same_effect (effect g.first d) c a (recent_behind g.first 0) d g.onward
    ∙ sym (step_acts g.first (behind c a 0 d) g.stands refl)

pub same_run : (k : ℕ) (c : Code) (a : ℕ) (d : Data) → 1 ≤ k → IsGentle c a d → iterate step k (going (behind c a 0 d))
    ≡ iterate step k (going (behind c a 1 d))
same_run zero c a d some g = absurd (omega (arith, some))
same_run (suc k) c a d some g = ap (iterate step k) (sym (same_step c a d g))

pub at_any : (s : Setting) (q : ℕ) (a' : State) (log : Log) (a : ℕ) (d : Data) → q ≤ 1 → IsGentle s.code a d
    → log.least + 1 ≤ least_at a' → Pays s a' log (at s.code a 0 d) → Pays s a' log (behind s.code a q d)
at_any s zero a' log a d le g lo p = p
at_any s (suc zero) a' log a d le g lo p = record {
  count = p.count;
  low = p.low;
  high = p.high;
  related = subst (Related s a') (same_run p.count s.code a d (omega (arith, lo, p.low)) g) p.related;
}
at_any s (suc (suc q)) a' log a d le g lo p = absurd (omega (arith, le))

pub head_gentle : (c : Code) (a : ℕ) (d : Data) (i : Instr) → fetch c a ≡ Is i → sets_hilo i ≡ false
    → IsOnward (effect i d) → IsGentle c a d
head_gentle c a d i stands quiet onward = record { first = i; stands = stands; sets_neither = quiet; onward = onward }

-- an operand's load is gentle
pub load_gentle : (c : Code) (a bytes : ℕ) (d : Data) (w : Spot) (rest : List Instr) → Framed (pointer d) bytes
    → Usable bytes w → HasAt c a (load_code 24 w ++ rest) → IsGentle c a d
load_gentle c a bytes d (InRegister r) rest f u h = record { first = _; stands = h.0; sets_neither = refl; onward = tt }
load_gentle c a bytes d (InSlot false offset) rest f u h =
    let o : nat_lt offset 32768 ≡ true = grind (arith, nat_tests) in
    let m : (d.registers 29 + offset) % 4294967296 ≡ d.registers 29 + offset = omega (arith, f.to, u.1) in
    let t1 : nat_le STACK (d.registers 29 + offset) ≡ true = grind (arith, nat_tests, f.from) in
    let t2 : nat_lt (d.registers 29 + offset) 2147483648 ≡ true = grind (arith, nat_tests, f.to, u.1) in
    let z : nat_eq ((d.registers 29 + offset) % 4) 0 ≡ true = grind (arith, nat_tests, f.even, u.2) in
    let onward : IsOnward (effect (lw 24 offset 29) d) = rw (o, m, t1, t2, z) tt in
    record { first = _; stands = h.0; sets_neither = refl; onward = onward }
load_gentle c a bytes d (InSlot true offset) rest f u h =
    record { first = _; stands = h.0; sets_neither = refl; onward = tt }
