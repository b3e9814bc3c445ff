-- The blocks of the run-time routines: each routine stands in a block of 64 words, which is filled up with nop, and a
-- block without a routine is all nop. The routine of a Run stands in the block of its number; that which makes a
-- closure, in the thirteenth. There are 15 of them, behind the block of the start. These are this project's own rules.
use Rattle.std.specs.Prelude.{ℕ, ◌-◌, ◌*◌, List, [], ◌∷◌, ◌++◌, length, replicate}
use Rattle.mips_encoder.specs.Table.{word_of}
use Rattle.mips_encoder.specs.declared.instruction.Instr.{Instr}
use Rattle.mips_assembly.specs.Assembly.{scratch, bne, beq, nop, trap}
use Rattle.icode_templates.specs.Templates.{trap_if_zero, trap_unless_zero}
use Rattle.icode_templates.specs.Words.{words}
use Rattle.icode_templates_proof.specs.Malloc.{malloc_code, v1}
use Rattle.icode_templates_proof.specs.Routines.{begin_code, local_code, parameter_code, new_code, check_code}
use Rattle.icode_templates_proof.specs.Routines.{live_code}
use Rattle.icode_templates_proof.specs.Routines.{find_code, load_row_code, load_kind_code, add_code, bad_spec}
use Rattle.icode_templates_proof.specs.Routines.{AnExpression}
use Rattle.icode_templates_proof.specs.Routines.{AStatement, AVariable}
use Rattle.routine_spec.specs.Compile.{compile_code}

-- so many words of nop
abbrev pub nothing_words : ℕ → List ℕ
nothing_words count = replicate count (word_of nop)

-- a block that begins with these words
abbrev pub filled : List ℕ → List ℕ
filled front = front ++ nothing_words (64 - length front)

-- so many blocks without a routine
abbrev pub no_routines : ℕ → List ℕ
no_routines count = nothing_words (64 * count)

-- of `malloc`, compile, local, param and begin
abbrev pub first_words : List ℕ
first_words =
    filled (words malloc_code)
    ++ (filled (words compile_code)
    ++ (filled (words local_code) ++ (filled (words parameter_code) ++ filled (words begin_code))))

-- of the three that check
abbrev pub check_words : List ℕ
check_words =
    filled (words (check_code AnExpression))
    ++ (filled (words (check_code AStatement)) ++ filled (words (check_code AVariable)))

-- of new, among blocks without a routine
abbrev pub last_words : List ℕ
last_words = no_routines 4 ++ (filled (words new_code) ++ no_routines 2)

abbrev pub routine_words : List ℕ
routine_words = first_words ++ (check_words ++ last_words)

-- ---- parts of routines

-- a branch past a trap
abbrev pub trap_codes : Instr → (code : ℕ) → List Instr
trap_codes branch code = branch ∷ nop ∷ trap code ∷ []

-- a check by the instruction that tests the kind
abbrev pub tested_code : Instr → List Instr
tested_code test =
    live_code
    ++ (trap_if_zero scratch bad_spec
    ++ (find_code
    ++ (load_row_code ++ (load_kind_code ++ (test ∷ (trap_unless_zero v1 bad_spec ++ add_code))))))
