-- A trap that a branch passes over, and straight code of one instruction.
use Rattle.std.proofs.Common.{◌≡◌, ◌≢◌, ℕ, ◌+◌, ◌%◌, ◌<◌, true, false, [], ◌∷◌, Some, refl, ap, ◌∙◌, arith}
use Rattle.std.proofs.Common.{nat_eq}
use Rattle.std.proofs.lemmas.Bool.{ne_eqb}
use Rattle.word32.specs.declared.map.TheConstants.{SEGMENT_BYTES}
use Rattle.host_edge.specs.declared.ending.Ending.TheVariants.{Trap}
use Rattle.host_edge.specs.declared.ending.TrapKind.{TrapKind}
use Rattle.history.specs.Events.{Ended}
use Rattle.mips_encoder.specs.declared.instruction.Instr.{Instr}
use Rattle.mips_model.specs.State.{Code, Data}
use Rattle.mips_model.specs.Accesses.{Plain, Loads, Branches}
use Rattle.mips_model.specs.Effects.{effect, trap_of, breaks, reads_hilo}
use Rattle.mips_model.specs.Steps.{Is, fetch, apply, load_hazard}
use Rattle.mips_model.specs.Laws.{HasAt, at, Reaches}
use Rattle.mips_model.proofs.Reach.{step_acts}
use Rattle.mips_assembly.specs.Assembly.{beq, trap}
use Rattle.icode_templates.specs.Templates.{trap_if_zero, trap_unless_zero}
use Rattle.icode_templates_proof.specs.Moves.{EndsIn}
use Rattle.icode_templates_proof.proofs.Leaves.{Leaves, runs_within}
use Rattle.icode_templates_proof.proofs.Jumps.{branch_reaches}
use Rattle.icode_templates_proof.proofs.Checks.{zero_stays}
use Rattle.icode_templates_proof.proofs.Endings.{ends_now, ends_behind}

-- an instruction that changes the data
pub one_leaves : (i : Instr) (l : ℕ) (d after : Data) → load_hazard l i ≡ false → reads_hilo i ≡ false →
    effect i d ≡ Plain after → Leaves (i ∷ []) l d 0 after
one_leaves i l d after quiet calm e rest = rw (quiet, calm, e) refl

-- and one that loads a register
pub one_loads : (i : Instr) (l r : ℕ) (d after : Data) → load_hazard l i ≡ false → reads_hilo i ≡ false →
    effect i d ≡ Loads r after → Leaves (i ∷ []) l d r after
one_loads i l r d after quiet calm e rest = rw (quiet, calm, e) refl

-- a break ends the run with its trap
pub break_ends : (code : ℕ) (kind : TrapKind) (c : Code) (a : ℕ) (d : Data) → trap_of code ≡ Some kind →
    fetch c a ≡ Is (trap code) → EndsIn 1 1 (Ended (Trap kind)) (at c a 0 d) c d.outside
break_ends code kind c a d is h =
    ends_now (Ended (Trap kind)) c a d
    (step_acts (trap code) (at c a 0 d) h refl ∙ ap (λ k. apply (breaks k) 0 (at c a 0 d)) is)

over_trap : (a : ℕ) → a < SEGMENT_BYTES → (a + 4 + 8) % 4294967296 ≡ a + 4 + 4 + 4
over_trap a h = omega arith

module _ (s code : ℕ) (kind : TrapKind) (c : Code) (a : ℕ) (d : Data) (n0 : nat_eq s 0 ≡ false) (is : trap_of code ≡
    Some kind) (low : a < SEGMENT_BYTES) where
  -- it must not be 0
  pub zero_ends : HasAt c a (trap_if_zero s code) → d.registers s ≡ 0 →
      EndsIn 3 3 (Ended (Trap kind)) (at c a 0 d) c d.outside
  zero_ends h z =
      ends_behind {l = 2} {m = 2} (runs_within {k = 2} (omega arith) (omega arith)
      (zero_stays s code c a d n0 low h z))
      (break_ends code kind c (a + 4 + 4) d is h.1.1.0)

  -- it must be 0
  pub zero_goes : HasAt c a (trap_unless_zero s code) → d.registers s ≡ 0 →
      Reaches 2 (at c a 0 d) (at c (a + 4 + 4 + 4) 0 d)
  zero_goes h z =
      let t : effect (beq s 0 2) d ≡ Branches true 2 = rw (n0, z) in
      branch_reaches (beq s 0 2) c a 2 (a + 4 + 4 + 4) true d refl refl t (over_trap a low) h.0 h.1.0

  pub other_ends : HasAt c a (trap_unless_zero s code) → d.registers s ≢ 0 →
      EndsIn 3 3 (Ended (Trap kind)) (at c a 0 d) c d.outside
  other_ends h ne =
      let e : nat_eq (d.registers s) 0 ≡ false = ne_eqb (d.registers s) 0 ne in
      let t : effect (beq s 0 2) d ≡ Branches false 2 = rw (n0, e) in
      ends_behind {l = 2} {m = 2} (runs_within {k = 2} (omega arith) (omega arith)
      (branch_reaches (beq s 0 2) c a 2 (a + 4 + 4) false d refl refl t refl h.0 h.1.0))
      (break_ends code kind c (a + 4 + 4) d is h.1.1.0)
