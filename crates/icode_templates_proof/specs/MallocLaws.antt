-- What the routines of the run-time library do. A routine is entered at its block, with its argument in $a0 and the
-- address to return to in $ra.
use Rattle.std.specs.Prelude.{◌≡◌, ℕ, ◌+◌, ◌<◌, ◌≤◌, ◌++◌}
use Rattle.word32.specs.Space.{update}
use Rattle.word32.specs.declared.map.TheConstants.{FRAMES, GLOBAL_POINTER, SEGMENT_BYTES}
use Rattle.mips_model.specs.State.{Code, Data, State}
use Rattle.mips_encoder.specs.Addresses.{past}
use Rattle.mips_model.specs.Laws.{HasAt, at}
use Rattle.icode_ops.specs.Kinds.{run_number}
use Rattle.icode_ops.specs.declared.kind.RunKind.TheVariants.{Malloc}
use Rattle.meaning_state.specs.Shared.{Shared, malloc_answer}
use Rattle.icode_templates.specs.Layout.{Spot}
use Rattle.icode_templates.specs.Templates.{in_code, out_code, routine_code, routine_address}
use Rattle.icode_templates_proof.specs.Spots.{pointer, value, Framed, Usable, KeepsSpots}
use Rattle.icode_templates_proof.specs.Moves.{Runs, Writes}
use Rattle.icode_templates_proof.specs.Malloc.{malloc_code, heap_of, allotted}

-- a routine returned to this address with an answer in $v0, and keeps all spots
pub record Answers (x least most : ℕ) (s : State) (c : Code) (a : ℕ) (d : Data) : Type 0 where
  pub after : Data
  pub runs : Runs least most s (at c a 0 after)
  pub answer : after.registers 2 ≡ x
  pub keeps : KeepsSpots d after

-- $gp is at its place, and the cell below it has the next place of the heap, which is none behind its end
pub record HasHeap (heap : ℕ) (d : Data) : Type 0 where
  pub global : d.registers 28 ≡ GLOBAL_POINTER
  pub cell : heap_of d ≡ heap
  pub within : heap ≤ FRAMES

-- malloc answers, and the heap is as it leaves it
abbrev pub MallocIsAnswered : Type 0
MallocIsAnswered =
    (c : Code) (entry : ℕ) (shared : Shared) (d : Data) → entry < SEGMENT_BYTES → HasHeap shared.heap d
    → d.registers 4 < 4294967296 → HasAt c entry malloc_code
    → Answers (malloc_answer (d.registers 4) shared) 9 15 (at c entry 0 d) c (d.registers 31)
    (allotted (d.registers 4) d)

-- the op's call left its own address to return to in $ra
abbrev pub linked : ℕ → Data → Data
linked to d = record d { registers = update 31 to d.registers }

-- The call stands behind what brings the argument to $a0, and returns behind its delay slot.
abbrev pub return_address : ℕ → Spot → ℕ
return_address a v = past a (in_code v) + 4 + 4 + 4

-- the op calls it, and the answer is put to a spot
abbrev pub MallocIsCalled : Type 0
MallocIsCalled =
    (c : Code) (a bytes : ℕ) (shared : Shared) (d : Data) (w v : Spot) → past a (in_code v) + 12 < SEGMENT_BYTES
    → Framed (pointer d) bytes → Usable bytes w → Usable bytes v → value d v < 4294967296 → HasHeap shared.heap d
    → HasAt c (routine_address (run_number Malloc)) malloc_code
    → HasAt c a (in_code v ++ (routine_code (run_number Malloc) ++ out_code w))
    → Writes w (malloc_answer (value d v) shared) 15 26 (at c a 0 d) c
    (past a (in_code v ++ (routine_code (run_number Malloc) ++ out_code w)))
    (allotted (value d v) (linked (return_address a v) d))
