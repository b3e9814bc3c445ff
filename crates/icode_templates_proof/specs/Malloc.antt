-- The routine of `malloc`: its argument is in $a0 and its answer goes to $v0, and it returns to the address in $ra. It
-- changes $at, $v0, $v1 and $a0 alone. The next place of the heap stands in a cell below $gp. The convention and the
-- code are this project's own.
use Rattle.std.specs.Prelude.{ℕ, ◌+◌, ◌-◌, ◌*◌, ◌/◌, List, [], ◌∷◌, ◌++◌, nat_le, if◌then◌else◌}
use Rattle.word32.specs.Space.{update}
use Rattle.word32.specs.declared.map.TheConstants.{FRAMES, NEXT_HEAP_CELL}
use Rattle.mips_encoder.specs.declared.instruction.Instr.{Instr}
use Rattle.mips_model.specs.State.{Data}
use Rattle.mips_assembly.specs.Assembly.{scratch, v0, a0, gp, ra, addu, subu, sltu, sll, srl, addiu, lui, lw, sw}
use Rattle.mips_assembly.specs.Assembly.{bne, jr, nop}

-- the next place of the heap
abbrev pub v1 : ℕ
v1 = 3

-- the next place to $v1, whether the rest of the heap is smaller than the argument to $at, and 0 to $v0
abbrev pub measure_code : List Instr
measure_code =
    lw v1 65532 gp ∷ lui v0 (FRAMES / 65536) ∷ subu v0 v0 v1 ∷ sltu scratch v0 a0 ∷ addu v0 0 0 ∷ []

-- to the return where it is smaller
abbrev pub pass_code : List Instr
pass_code = bne scratch 0 7 ∷ nop ∷ []

-- the next place is the answer, and it moves on by the argument, rounded up to a multiple of 8
abbrev pub take_code : List Instr
take_code =
    addu v0 v1 0 ∷ addiu a0 a0 7 ∷ srl a0 a0 3 ∷ sll a0 a0 3 ∷ addu a0 a0 v1 ∷ sw a0 65532 gp ∷ []

abbrev pub return_code : List Instr
return_code = jr ra ∷ nop ∷ []

abbrev pub malloc_code : List Instr
malloc_code = measure_code ++ (pass_code ++ (take_code ++ return_code))

-- the next place of the heap, as the data have it
abbrev pub heap_of : Data → ℕ
heap_of d = d.cells (NEXT_HEAP_CELL / 4)

abbrev pub with_heap : ℕ → Data → Data
with_heap heap d = record d { cells = update (NEXT_HEAP_CELL / 4) heap d.cells }

-- so many bytes of the heap were taken, where there is room
abbrev pub allotted : ℕ → Data → Data
allotted bytes d =
    if nat_le bytes (FRAMES - heap_of d) then with_heap (heap_of d + (bytes + 7) / 8 * 8) d else d
