-- Branches and jumps with their delay slots.
use Rattle.std.proofs.Common.{◌≡◌, ◌≢◌, ℕ, ◌+◌, ◌*◌, ◌/◌, ◌%◌, ◌<◌, Bool, true, false, [], ◌∷◌, refl, ap, ◌∙◌, arith}
use Rattle.std.proofs.Common.{nat_eq}
use Rattle.std.proofs.lemmas.Bool.{ne_eqb}
use Rattle.word32.specs.declared.map.TheConstants.{SEGMENT_BYTES}
use Rattle.mips_encoder.specs.declared.instruction.Instr.{Instr}
use Rattle.mips_model.specs.State.{Code, Data, State}
use Rattle.mips_model.specs.Accesses.{Branches}
use Rattle.mips_model.specs.Effects.{effect}
use Rattle.mips_model.specs.Steps.{Is, fetch, going, apply, is_hazard, recent_behind, step, branch_target}
use Rattle.mips_model.specs.Laws.{HasAt, at, Reaches}
use Rattle.mips_model.proofs.Reach.{step_acts, reaches_on}
use Rattle.mips_assembly.specs.Assembly.{beq, bne, j, nop}

-- a delay slot, and where control goes behind it
abbrev pub in_slot : Code → ℕ → ℕ → Data → State
in_slot c a target d = record { pc = a + 4; next = target; loaded = 0; recent = 0; slot = true; code = c; d = d }

-- a branch or jump with a nop in its slot
pub slot_runs : (c : Code) (a l target : ℕ) (d d1 : Data) → step (going (at c a l d)) ≡ going (in_slot c a target d1) →
    fetch c (a + 4) ≡ Is nop → Reaches 2 (at c a l d) (at c target 0 d1)
slot_runs c a l target d d1 first h = record { by = ap step first ∙ step_acts nop (in_slot c a target d1) h refl }

pub jump_reaches : (c : Code) (a target : ℕ) (d : Data) → a + 4 < SEGMENT_BYTES → target % 4 ≡ 0 →
    HasAt c a (j target ∷ nop ∷ []) → Reaches 2 (at c a 0 d) (at c target 0 d)
jump_reaches c a target d low even h =
    let e : (a + 4) / SEGMENT_BYTES * SEGMENT_BYTES + 4 * (target / 4) ≡ target = omega (arith, low, even) in
    slot_runs c a 0 target d d (step_acts (j target) (at c a 0 d) h.0 refl ∙ ap (λ t. going (in_slot c a t d)) e) h.1.0

pub branch_reaches : (i : Instr) (c : Code) (a offset target : ℕ) (taken : Bool) (d : Data) →
    is_hazard i (at c a 0 d) ≡ false → recent_behind i 0 ≡ 0 → effect i d ≡ Branches taken offset →
    branch_target taken offset (at c a 0 d) ≡ target → fetch c a ≡ Is i → fetch c (a + 4) ≡ Is nop
    → Reaches 2 (at c a 0 d) (at c target 0 d)
branch_reaches i c a offset target taken d quiet rec does goes h slot =
    let s = at c a 0 d in
    let first : step (going s) ≡ going (in_slot c a target d) =
    step_acts i s h quiet ∙ ap (λ e. apply e (recent_behind i 0) s) does ∙
    ap (λ r. apply (Branches taken offset) r s) rec ∙ ap (λ t. going (in_slot c a t d)) goes in
    slot_runs c a 0 target d d first slot

-- where a branch over two instructions goes
pub over_target : (a : ℕ) → a < SEGMENT_BYTES → (a + 4 + 12) % 4294967296 ≡ a + 4 + 4 + 4 + 4
over_target a h = omega arith

-- a register is tested against 0, and control goes over a jump or to it
pub bne_over : (c : Code) (a target : ℕ) (d : Data) → a < SEGMENT_BYTES → d.registers 24 ≢ 0 →
    HasAt c a (bne 24 0 3 ∷ nop ∷ j target ∷ nop ∷ []) → Reaches 2 (at c a 0 d) (at c (a + 4 + 4 + 4 + 4) 0 d)
bne_over c a target d low ne h =
    let e : nat_eq (d.registers 24) 0 ≡ false = ne_eqb (d.registers 24) 0 ne in
    let t : effect (bne 24 0 3) d ≡ Branches true 3 = rw e in
    branch_reaches (bne 24 0 3) c a 3 (a + 4 + 4 + 4 + 4) true d refl refl t (over_target a low) h.0 h.1.0

pub bne_to : (c : Code) (a target : ℕ) (d : Data) → a + 12 < SEGMENT_BYTES → target % 4 ≡ 0 → d.registers 24 ≡ 0 →
    HasAt c a (bne 24 0 3 ∷ nop ∷ j target ∷ nop ∷ []) → Reaches 4 (at c a 0 d) (at c target 0 d)
bne_to c a target d low even z h =
    let t : effect (bne 24 0 3) d ≡ Branches false 3 = rw z in
    reaches_on (branch_reaches (bne 24 0 3) c a 3 (a + 4 + 4) false d refl refl t refl h.0 h.1.0)
    (jump_reaches c (a + 4 + 4) target d (omega (arith, low)) even h.1.1)

pub beq_over : (c : Code) (a target : ℕ) (d : Data) → a < SEGMENT_BYTES → d.registers 24 ≡ 0 →
    HasAt c a (beq 24 0 3 ∷ nop ∷ j target ∷ nop ∷ []) → Reaches 2 (at c a 0 d) (at c (a + 4 + 4 + 4 + 4) 0 d)
beq_over c a target d low z h =
    let t : effect (beq 24 0 3) d ≡ Branches true 3 = rw z in
    branch_reaches (beq 24 0 3) c a 3 (a + 4 + 4 + 4 + 4) true d refl refl t (over_target a low) h.0 h.1.0

pub beq_to : (c : Code) (a target : ℕ) (d : Data) → a + 12 < SEGMENT_BYTES → target % 4 ≡ 0 → d.registers 24 ≢ 0 →
    HasAt c a (beq 24 0 3 ∷ nop ∷ j target ∷ nop ∷ []) → Reaches 4 (at c a 0 d) (at c target 0 d)
beq_to c a target d low even ne h =
    let e : nat_eq (d.registers 24) 0 ≡ false = ne_eqb (d.registers 24) 0 ne in
    let t : effect (beq 24 0 3) d ≡ Branches false 3 = rw e in
    reaches_on (branch_reaches (beq 24 0 3) c a 3 (a + 4 + 4) false d refl refl t refl h.0 h.1.0)
    (jump_reaches c (a + 4 + 4) target d (omega (arith, low)) even h.1.1)
