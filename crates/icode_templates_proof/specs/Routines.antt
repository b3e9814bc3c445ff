-- The routines that make specifications, as lists of instructions. The argument is in $a0; where it is the address of a
-- function that generates code, the closure's kind is in $a1 and the count of its captured words in $a2. The answer
-- goes to $v0, and each routine returns to the address in $ra. They change $at, $v0, $v1 and $a0 to $a3 alone. The
-- convention and the code are this project's own.
use Rattle.std.specs.Prelude.{ℕ, ◌/◌, List, [], ◌∷◌, ◌++◌}
use Rattle.limits.specs.declared.program.TheConstants.{SIZE_LIMIT, MOST_ARGUMENTS}
use Rattle.limits.specs.declared.run.TheConstants.{CLOSURE_HEAD_BYTES}
use Rattle.word32.specs.declared.map.TheConstants.{SPEC_ROWS}
use Rattle.mips_encoder.specs.declared.instruction.Instr.{Instr}
use Rattle.mips_assembly.specs.Assembly.{scratch, v0, a0, a1, a2, gp, addu, sltu, sll, addiu, sltiu, ori}
use Rattle.mips_assembly.specs.Assembly.{lui, lw, sw, beq, nop}
use Rattle.icode_templates.specs.Templates.{trap_if_zero, trap_unless_zero}
use Rattle.icode_templates_proof.specs.Closures.{local_kind, parameter_kind}
use Rattle.icode_templates_proof.specs.Malloc.{v1, return_code}

abbrev pub a3 : ℕ
a3 = 7

-- the codes of the traps
abbrev pub bad_spec : ℕ
bad_spec = 18

abbrev pub bad_parameter : ℕ
bad_parameter = 19

abbrev pub spec_limit : ℕ
spec_limit = 22

abbrev pub size_limit : ℕ
size_limit = 23

-- The cells by their offsets from $gp, as 16 bits: the next closure's address, the number of specifications, the size
-- and the parameters so far, and the newest closure.
abbrev pub next_cell : ℕ
next_cell = 65528

abbrev pub count_cell : ℕ
count_cell = 65524

abbrev pub size_cell : ℕ
size_cell = 65512

abbrev pub parameters_cell : ℕ
parameters_cell = 65508

abbrev pub newest_cell : ℕ
newest_cell = 65504

-- ---- a specification more

-- the next closure's address to $v0, and the address behind it to $a2, where it has as many captured words as $a2 says;
-- and to $at whether this is behind the end of the closures, where the rows begin
abbrev pub room_code : List Instr
room_code =
    lw v0 next_cell gp
    ∷ sll a2 a2 2
    ∷ addiu a2 a2 CLOSURE_HEAD_BYTES
    ∷ addu a2 a2 v0
    ∷ lui scratch (SPEC_ROWS / 65536)
    ∷ sltu scratch scratch a2
    ∷ []

-- the first four words of the closure: $a0, $a1, $v1 and $a3
abbrev pub head_code : List Instr
head_code = sw a0 0 v0 ∷ sw a1 4 v0 ∷ sw v1 8 v0 ∷ sw a3 12 v0 ∷ []

-- the place of the row, which is behind all rows, to $at, with the number of rows in $v1
abbrev pub row_code : List Instr
row_code =
    lw v1 count_cell gp ∷ lui scratch (SPEC_ROWS / 65536) ∷ sll a0 v1 2 ∷ addu scratch scratch a0 ∷ []

abbrev pub store_row_code : List Instr
store_row_code = sw v0 0 scratch ∷ []

-- the cells; the number is the answer
abbrev pub count_code : List Instr
count_code =
    addiu v1 v1 1 ∷ sw v1 count_cell gp ∷ sw a2 next_cell gp ∷ sw v0 newest_cell gp ∷ addu v0 v1 0 ∷ []

abbrev pub write_code : List Instr
write_code = head_code ++ (row_code ++ (store_row_code ++ count_code))

-- whole: the four words are in $a0, $a1, $v1 and $a3, and the count of captured words in $a2
abbrev pub append_code : List Instr
append_code = room_code ++ (trap_unless_zero scratch spec_limit ++ (write_code ++ return_code))

-- ---- a tick's specification

-- the size and the parameters so far to $v1 and $a3, and to $at whether the size is over its limit
abbrev pub measure_size_code : List Instr
measure_size_code =
    lw v1 size_cell gp ∷ lw a3 parameters_cell gp ∷ ori scratch 0 SIZE_LIMIT ∷ sltu scratch scratch v1 ∷ []

abbrev pub new_code : List Instr
new_code = measure_size_code ++ (trap_unless_zero scratch size_limit ++ append_code)

-- ---- variables of generated code: they have the size 0, and no captured words

abbrev pub local_head_code : List Instr
local_head_code =
    lw a0 count_cell gp
    ∷ ori a1 0 local_kind
    ∷ addiu a0 a0 8
    ∷ addu v1 0 0
    ∷ addu a3 0 0
    ∷ addu a2 0 0
    ∷ []

abbrev pub local_code : List Instr
local_code = local_head_code ++ append_code

abbrev pub parameter_head_code : List Instr
parameter_head_code =
    ori a1 0 parameter_kind ∷ addiu a3 a0 1 ∷ addu v1 0 0 ∷ addu a2 0 0 ∷ []

abbrev pub parameter_code : List Instr
parameter_code =
    sltiu scratch a0 MOST_ARGUMENTS
    ∷ (trap_if_zero scratch bad_parameter ++ (parameter_head_code ++ append_code))

-- ---- the size so far

-- the size and no parameters; the answer is 0
abbrev pub begin_code : List Instr
begin_code = sw a0 size_cell gp ∷ sw 0 parameters_cell gp ∷ addu v0 0 0 ∷ return_code

-- What the tick of a captured specification names it as.
pub data Named : Type 0 where
  AnExpression AStatement AVariable : Named

-- the kind in $v1 becomes 0 where it is the one that is named
abbrev pub test_kind : Named → Instr
test_kind AnExpression = addiu v1 v1 65535
test_kind AStatement = addiu v1 v1 65534
test_kind AVariable = sltiu v1 v1 local_kind

-- one less than the number to $v0, and to $at whether it is below the count of specifications
abbrev pub live_code : List Instr
live_code = lw v1 count_cell gp ∷ addiu v0 a0 65535 ∷ sltu scratch v0 v1 ∷ []

-- the place of its row to $v0, and then the address of its closure
abbrev pub find_code : List Instr
find_code = sll v0 v0 2 ∷ lui scratch (SPEC_ROWS / 65536) ∷ addu v0 v0 scratch ∷ []

abbrev pub load_row_code : List Instr
load_row_code = lw v0 0 v0 ∷ nop ∷ []

-- its kind to $v1, which is tested
abbrev pub load_kind_code : List Instr
load_kind_code = lw v1 4 v0 ∷ nop ∷ []

-- its size to $a1, and its parameters to $a3
abbrev pub load_sizes_code : List Instr
load_sizes_code = lw a1 8 v0 ∷ lw a3 12 v0 ∷ []

-- the size so far grows by its size, and to $at whether the parameters so far, in $v1, are fewer than its own
abbrev pub add_size_code : List Instr
add_size_code =
    lw a2 size_cell gp ∷ lw v1 parameters_cell gp ∷ addu a1 a1 a2 ∷ sw a1 size_cell gp ∷ sltu scratch v1 a3 ∷ []

-- then they are its own
abbrev pub raise_code : List Instr
raise_code = beq scratch 0 2 ∷ nop ∷ addu v1 a3 0 ∷ []

abbrev pub store_parameters_code : List Instr
store_parameters_code = sw v1 parameters_cell gp ∷ addu v0 0 0 ∷ []

abbrev pub add_code : List Instr
add_code = load_sizes_code ++ (add_size_code ++ (raise_code ++ (store_parameters_code ++ return_code)))

abbrev pub kind_code : Named → List Instr
kind_code named = load_kind_code ++ (test_kind named ∷ (trap_unless_zero v1 bad_spec ++ add_code))

-- the answer is 0
abbrev pub check_code : Named → List Instr
check_code named =
    live_code ++ (trap_if_zero scratch bad_spec ++ (find_code ++ (load_row_code ++ kind_code named)))
