-- The prologue and the epilogue of a function. The prologue takes the frame from the stack and traps where the stack
-- ends, saves the address to return to and the registers of the places that the function has, and takes the bytes of
-- the frame's objects and traps where their region ends; the epilogue undoes this and returns. A compiled function has
-- no objects, and counts its active calls in a cell below $gp. These are the project's own rules.
use Rattle.std.specs.Prelude.{ℕ, ◌+◌, ◌*◌, Bool, true, false, nat_eq, if◌then◌else◌, List, [], ◌∷◌, ◌++◌}
use Rattle.mips_encoder.specs.declared.instruction.Instr.{Instr}
use Rattle.mips_assembly.specs.Assembly.{scratch, t8, t9, gp, sp, fp, ra, addu, subu, sltu, addiu, lui, lw, sw, jr}
use Rattle.mips_assembly.specs.Assembly.{nop, constant}
use Rattle.icode_templates.specs.Layout.{place_register}
use Rattle.icode_templates.specs.Templates.{trap_unless_zero}

-- each place has a word of its own among the saved registers
abbrev pub save_offset : ℕ → ℕ
save_offset place = 32 + 4 * place

abbrev pub saves : List ℕ → List Instr
saves [] = []
saves (p ∷ ps) = sw (place_register p) (save_offset p) sp ∷ saves ps

abbrev pub restores : List ℕ → List Instr
restores [] = []
restores (p ∷ ps) = lw (place_register p) (save_offset p) sp ∷ restores ps

-- adds to the cell of the number of active calls of compiled functions
abbrev pub count_code : ℕ → List Instr
count_code step = lw t9 65500 gp ∷ nop ∷ addiu t9 t9 step ∷ sw t9 65500 gp ∷ []

abbrev pub enter_count : Bool → List Instr
enter_count true = count_code 1
enter_count false = []

abbrev pub leave_count : Bool → List Instr
leave_count true = count_code 65535
leave_count false = []

-- the frame is taken; a trap where it begins below the stack's region
abbrev pub take_frame : ℕ → List Instr
take_frame frame =
    constant scratch frame
    ++ (subu t8 sp scratch ∷ lui t9 32512 ∷ sltu t9 t8 t9 ∷ trap_unless_zero t9 20 ++ addu sp t8 0 ∷ sw ra 80 sp ∷ [])

abbrev pub free_frame : ℕ → List Instr
free_frame frame = constant scratch frame ++ addu sp sp scratch ∷ jr ra ∷ nop ∷ []

-- the objects are taken; a trap where they end above the objects' region
abbrev pub take_objects : ℕ → List Instr
take_objects bytes =
    if nat_eq bytes 0 then [] else
    (constant t8 bytes ++ (addu fp fp t8 ∷ lui t8 4352 ∷ sltu t9 t8 fp ∷ trap_unless_zero t9 21))

abbrev pub free_objects : ℕ → List Instr
free_objects bytes = if nat_eq bytes 0 then [] else (constant t8 bytes ++ subu fp fp t8 ∷ [])

-- with the bytes of the frame and of its objects, the places that are saved, and whether the function is a compiled one
abbrev pub prologue : (frame objects : ℕ) (kept : List ℕ) (compiled : Bool) → List Instr
prologue frame objects kept compiled =
    take_frame frame ++ (saves kept ++ (enter_count compiled ++ take_objects objects))

abbrev pub epilogue : (frame objects : ℕ) (kept : List ℕ) (compiled : Bool) → List Instr
epilogue frame objects kept compiled =
    leave_count compiled ++ (restores kept ++ (lw ra 80 sp ∷ free_objects objects ++ free_frame frame))
