-- The routine that compiles a specification. The number is in $a0, the answer goes to $v0, and it returns to the
-- address in $ra. It tests the number, the function table and the arena, begins a function, calls the function of the
-- specification's tick, returns the value of an expression, finishes the function at the next place of the arena,
-- flushes its words and publishes it, and moves the cells on. The convention and the code are this project's own; it
-- fills its block of 64 words.
use Rattle.std.specs.Prelude.{ℕ, ◌+◌, ◌/◌, List, [], ◌∷◌, ◌++◌}
use Rattle.word32.specs.declared.map.TheConstants.{SPEC_ROWS, EMIT_STACK, ARENA, ARENA_BYTES}
use Rattle.mips_encoder.specs.declared.instruction.Instr.{Instr}
use Rattle.mips_assembly.specs.Assembly.{scratch, v0, a0, a1, a2, t9, gp, ra, addu, sltu, sll, srl, addiu, sltiu, ori}
use Rattle.mips_assembly.specs.Assembly.{lui, lw, sw, beq, bne, jr, jalr, syscall, trap}
use Rattle.icode_templates_proof.specs.Closures.{local_kind}
use Rattle.icode_templates_proof.specs.Routines.{a3, bad_spec, count_cell}
use Rattle.routine_spec.specs.Generator.{t4, t7, last_word, last_but_one}

abbrev pub t5 : ℕ
t5 = 13

-- the cells by their offsets from $gp, as 16 bits: the next function's number, and the next address of the arena
abbrev pub function_cell : ℕ
function_cell = 65520

abbrev pub arena_cell : ℕ
arena_cell = 65516

-- the codes of the traps
abbrev pub arena_limit : ℕ
arena_limit = 24

abbrev pub table_limit : ℕ
table_limit = 25

-- ---- the tests: each branch goes to a trap at the end, and does something else in its delay slot

-- whether the number is live to $a2
abbrev pub live_code : List Instr
live_code = lw a1 count_cell gp ∷ addiu a2 a0 65535 ∷ sltu a2 a2 a1 ∷ []

abbrev pub live_test : List Instr
live_test = beq a2 0 57 ∷ sll t4 a0 2 ∷ []

-- the closure's address to $t4, the next function's number to $a3, the size to $a2, and to $a1 whether it is a tick's
abbrev pub kind_code : List Instr
kind_code =
    lui scratch (SPEC_ROWS / 65536) ∷ addu t4 t4 scratch ∷ lw t4 last_word t4 ∷ lw a3 function_cell gp ∷ lw a1 4 t4
    ∷ lw a2 8 t4 ∷ sltiu a1 a1 local_kind ∷ []

abbrev pub kind_test : List Instr
kind_test = beq a1 0 48 ∷ srl a1 a3 16 ∷ []

-- a number of 65,536 has no row
abbrev pub table_test : List Instr
table_test = bne a1 0 47 ∷ sll a1 a2 9 ∷ []

-- the charge to $a1: 768 bytes for each node and 256; and to $at whether the arena has no room for it
abbrev pub charge_code : List Instr
charge_code =
    sll a2 a2 8 ∷ addu a1 a1 a2 ∷ lw a2 arena_cell gp ∷ addiu a1 a1 256 ∷ addu a2 a2 a1
    ∷ lui scratch ((ARENA + ARENA_BYTES) / 65536) ∷ sltu scratch scratch a2 ∷ []

abbrev pub arena_test : List Instr
arena_test = bne scratch 0 39 ∷ lui t7 (EMIT_STACK / 65536) ∷ []

-- ---- the function

-- $ra and the charge to the emit stack, and a function of so many parameters is begun
abbrev pub begin_code : List Instr
begin_code = sw ra 0 t7 ∷ sw a1 4 t7 ∷ lw a0 12 t4 ∷ lw t9 0 t4 ∷ ori v0 0 64 ∷ syscall ∷ []

abbrev pub generate_code : List Instr
generate_code = jalr ra t9 ∷ addiu t7 t7 8 ∷ []

-- an expression's value is returned; the charge to $t5
abbrev pub kind_again_code : List Instr
kind_again_code = lw a1 4 t4 ∷ lw t5 last_word t7 ∷ ori scratch 0 1 ∷ []

abbrev pub value_test : List Instr
value_test = bne a1 scratch 3 ∷ ori v0 0 65 ∷ []

abbrev pub return_code : List Instr
return_code = ori a0 0 19 ∷ syscall ∷ []

-- it is finished at the next address, with the charge in words and the frame: a sixteenth of the charge, and 112 bytes
abbrev pub finish_code : List Instr
finish_code =
    lw a0 arena_cell gp ∷ srl a1 t5 2 ∷ srl a2 t5 4 ∷ addiu a2 a2 112 ∷ ori v0 0 66 ∷ syscall ∷ []

abbrev pub flush_code : List Instr
flush_code = addu a1 v0 0 ∷ ori v0 0 67 ∷ syscall ∷ []

-- the arena's cell moves on by the charge, and the function is published
abbrev pub publish_code : List Instr
publish_code =
    addu a1 a0 0 ∷ addu t5 t5 a0 ∷ sw t5 arena_cell gp ∷ lw a0 function_cell gp ∷ lw a2 12 t4 ∷ ori v0 0 68
    ∷ syscall ∷ []

-- the next function's number moves on, and the number is the answer
abbrev pub answer_code : List Instr
answer_code = lw ra last_but_one t7 ∷ addiu a1 a0 1 ∷ sw a1 function_cell gp ∷ []

abbrev pub back_code : List Instr
back_code = jr ra ∷ addu v0 a0 0 ∷ []

abbrev pub traps_code : List Instr
traps_code = trap bad_spec ∷ trap table_limit ∷ trap arena_limit ∷ []

-- ---- whole

abbrev pub tests_code : List Instr
tests_code =
    live_code ++ (live_test ++ (kind_code ++ (kind_test ++ (table_test ++ (charge_code ++ arena_test)))))

abbrev pub build_code : List Instr
build_code = begin_code ++ (generate_code ++ (kind_again_code ++ (value_test ++ return_code)))

abbrev pub make_code : List Instr
make_code = finish_code ++ (flush_code ++ (publish_code ++ (answer_code ++ back_code)))

abbrev pub compile_code : List Instr
compile_code = tests_code ++ (build_code ++ (make_code ++ traps_code))
