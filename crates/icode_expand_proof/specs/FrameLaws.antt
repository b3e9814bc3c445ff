-- What prologue and epilogue of a function do, under any legal places of its registers.
use Rattle.std.specs.Prelude.{◌≡◌, ℕ, ◌+◌, ◌%◌, ◌<◌, ◌≤◌, List}
use Rattle.word32.specs.declared.map.TheConstants.{GLOBAL_POINTER, OBJECTS_END, STACK, STACK_TOP}
use Rattle.host_edge.specs.declared.ending.Ending.TheVariants.{Trap}
use Rattle.host_edge.specs.declared.ending.TrapKind.TheVariants.{StackLimit, FrameLimit}
use Rattle.history.specs.Events.{Ended}
use Rattle.mips_model.specs.State.{Code, Data}
use Rattle.mips_model.specs.Laws.{at}
use Rattle.icode_meaning.specs.State.{Function}
use Rattle.icode_templates_proof.specs.Spots.{pointer, Framed}
use Rattle.icode_templates_proof.specs.Moves.{EndsIn}
use Rattle.icode_expand_proof.specs.Standing.{Stands, OpsStand}
use Rattle.icode_expand_proof.specs.Runs.{Beginning, Leaving}

-- the frame and its objects are within the limits
abbrev pub FunctionsBegin : Type 0
FunctionsBegin =
    (f : Function) (places : List ℕ) (c : Code) (d : Data) → Stands c f places
    → f.charge + STACK ≤ pointer d → pointer d ≤ STACK_TOP → pointer d % 4 ≡ 0 → d.registers 28 ≡ GLOBAL_POINTER
    → d.registers 30 + f.object ≤ OBJECTS_END → Beginning f places c d

-- the frame is over the limit of the stack
abbrev pub StackLimitTraps : Type 0
StackLimitTraps =
    (f : Function) (places : List ℕ) (c : Code) (d : Data) → Stands c f places
    → STACK ≤ pointer d → pointer d ≤ STACK_TOP → pointer d < f.charge + STACK
    → EndsIn 8 8 (Ended (Trap StackLimit)) (at c f.address 0 d) c d.outside

-- the frame is within it, and its objects over the limit of theirs
abbrev pub FrameLimitTraps : Type 0
FrameLimitTraps =
    (f : Function) (places : List ℕ) (c : Code) (d : Data) → Stands c f places
    → f.charge + STACK ≤ pointer d → pointer d ≤ STACK_TOP → pointer d % 4 ≡ 0 → d.registers 28 ≡ GLOBAL_POINTER
    → d.registers 30 ≤ OBJECTS_END → OBJECTS_END < d.registers 30 + f.object
    → EndsIn 17 33 (Ended (Trap FrameLimit)) (at c f.address 0 d) c d.outside

abbrev pub FunctionsLeave : Type 0
FunctionsLeave =
    (f : Function) (places : List ℕ) (c : Code) (d : Data) → OpsStand c f places
    → Framed (pointer d) f.charge → d.registers 28 ≡ GLOBAL_POINTER → f.object ≤ d.registers 30
    → d.registers 30 < 4294967296 → Leaving f places c d
