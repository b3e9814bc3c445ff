-- The stretches of the routine of malloc.
use Rattle.std.proofs.Common.{◌≡◌, ℕ, ◌+◌, ◌*◌, ◌/◌, ◌%◌, refl, nat_lt}
use Rattle.word32.specs.Space.{update}
use Rattle.word32.specs.Words.{difference}
use Rattle.word32.specs.declared.map.TheConstants.{FRAMES, GLOBAL_POINTER}
use Rattle.mips_model.specs.State.{Code, Data}
use Rattle.mips_model.specs.Arithmetic.{bit}
use Rattle.mips_model.specs.Laws.{HasAt, at, Reaches}
use Rattle.mips_model.proofs.Reach.{step_acts}
use Rattle.mips_assembly.specs.Assembly.{jr}
use Rattle.icode_templates_proof.proofs.Leaves.{Leaves}
use Rattle.icode_templates_proof.proofs.Keeping.{with_registers}
use Rattle.icode_templates_proof.proofs.Jumps.{slot_runs}
use Rattle.icode_templates_proof.specs.Malloc.{measure_code, take_code, return_code, heap_of, with_heap}

-- the rest of the heap
abbrev pub rest_of : Data → ℕ
rest_of d = difference FRAMES (heap_of d)

-- it was measured
abbrev pub measured : Data → Data
measured d = with_registers
    (update 2 0 (update 1 (bit (nat_lt (rest_of d) (d.registers 4))) (update 2 (rest_of d)
    (update 2 FRAMES (update 3 (heap_of d) d.registers)))))
    d

pub measure_leaves : (d : Data) → d.registers 28 ≡ GLOBAL_POINTER → Leaves measure_code 0 d 0 (measured d)
measure_leaves d g rest = rw g refl

-- the argument, 7 more, in eights, in bytes, and the place behind it
abbrev pub more : Data → ℕ
more d = (d.registers 4 + 7) % 4294967296

abbrev pub eights : Data → ℕ
eights d = more d / 8

abbrev pub rounded : Data → ℕ
rounded d = eights d * 8 % 4294967296

abbrev pub moved : Data → ℕ
moved d = (rounded d + d.registers 3) % 4294967296

abbrev pub taken : Data → Data
taken d = with_heap (moved d) (with_registers
    (update 4 (moved d) (update 4 (rounded d) (update 4 (eights d) (update 4 (more d)
    (update 2 ((d.registers 3 + 0) % 4294967296) d.registers)))))
    d)

pub take_leaves : (d : Data) → d.registers 28 ≡ GLOBAL_POINTER → Leaves take_code 0 d 0 (taken d)
take_leaves d g rest = rw g refl

pub return_reaches : (c : Code) (a : ℕ) (d : Data) → HasAt c a return_code →
    Reaches 2 (at c a 0 d) (at c (d.registers 31) 0 d)
return_reaches c a d h = slot_runs c a 0 (d.registers 31) d d (step_acts (jr 31) (at c a 0 d) h.0 refl) h.1.0
