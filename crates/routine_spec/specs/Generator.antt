-- The function that generates a tick's code. It is entered with the address of the tick's closure in $t4, the top of
-- the emit stack in $t7 and the address to return to in $ra. It keeps $ra and $t4 on the emit stack, issues the ops of
-- its pieces in order by the service that builds an op, calls the functions of the specifications that are spliced in,
-- and returns with $t4, $t7 and $ra as they were. What adds no op is a nop, so that the function takes at least an
-- instruction for each node. The convention and the code are this project's own.
use Rattle.limits.specs.declared.ops.TheConstants.{MOST_CAPTURES}
use Rattle.std.specs.Prelude.{◌<◌, ℕ, zero, suc, ◌+◌, ◌*◌, ◌/◌, max, List, [], ◌∷◌, ◌++◌}
use Rattle.word32.specs.declared.map.TheConstants.{SPEC_ROWS}
use Rattle.history.specs.Syntax.{Syntax, Ticked, Captures, NoCapture, Word, Named, Spliced}
use Rattle.mips_encoder.specs.declared.instruction.Instr.{Instr}
use Rattle.icode_ir.specs.declared.build_op.BuildOp.{BuildOp}
use Rattle.icode_ir.specs.Codes.{code_of, first_of, second_of}
use Rattle.mips_assembly.specs.Assembly.{scratch, v0, a0, a1, a2, t9, ra, addu, addiu, sll, ori, lui, lw, sw, jr}
use Rattle.mips_assembly.specs.Assembly.{jalr}
use Rattle.mips_assembly.specs.Assembly.{syscall, nop, constant}
use Rattle.icode_templates.specs.Templates.{upper, lower}
use Rattle.tick_lower_spec.specs.declared.piece.Piece.{Piece}
use Rattle.tick_lower_spec.specs.declared.piece.Piece.TheVariants.{Plain, Captured, GetKey, SetKey, Splice, Nothing}

-- the closure's address
abbrev pub t4 : ℕ
t4 = 12

-- the top of the emit stack, which grows upwards
abbrev pub t7 : ℕ
t7 = 15

-- -4 and -8 as 16 bits
abbrev pub last_word : ℕ
last_word = 65532

abbrev pub last_but_one : ℕ
last_but_one = 65528

-- $ra and $t4 to the emit stack
abbrev pub enter_code : List Instr
enter_code = sw ra 0 t7 ∷ sw t4 4 t7 ∷ addiu t7 t7 8 ∷ []

-- $ra from there, and back
abbrev pub leave_code : List Instr
leave_code = lw ra last_but_one t7 ∷ addiu t7 t7 last_but_one ∷ jr ra ∷ nop ∷ []

-- the op of a code is issued, with its arguments in $a1 and $a2
abbrev pub emit_code : (code : ℕ) → List Instr
emit_code code = ori a0 0 code ∷ ori v0 0 65 ∷ syscall ∷ []

abbrev pub op_code : BuildOp → List Instr
op_code op = constant a1 (first_of op) ++ (constant a2 (second_of op) ++ emit_code (code_of op))

-- the captured word of a number to register t
abbrev pub captured_code : (t capture : ℕ) → List Instr
captured_code t i =
    lui scratch (upper (16 + 4 * i)) ∷ addu scratch scratch t4 ∷ lw t (lower (16 + 4 * i)) scratch ∷ []

-- the number of a specification in register t becomes the address of its closure
abbrev pub closure_code : (t : ℕ) → List Instr
closure_code t = nop ∷ sll t t 2 ∷ lui scratch (SPEC_ROWS / 65536) ∷ addu t t scratch ∷ lw t last_word t ∷ nop ∷ []

-- the key of a captured variable to $a1: the first word of its closure
abbrev pub key_code : (capture : ℕ) → List Instr
key_code i = captured_code a1 i ++ (closure_code a1 ++ lw a1 0 a1 ∷ [])

-- the function of a captured specification is called, and then $t4 is this closure's again
abbrev pub call_code : List Instr
call_code = lw t9 0 t4 ∷ nop ∷ jalr ra t9 ∷ nop ∷ lw t4 last_word t7 ∷ nop ∷ []

abbrev pub splice_code : (capture : ℕ) → List Instr
splice_code i = captured_code t4 i ++ (closure_code t4 ++ call_code)

abbrev pub piece_code : Piece → List Instr
piece_code (Plain op) = op_code op
piece_code (Captured i) = captured_code a1 i ++ emit_code 1
piece_code (GetKey i) = key_code i ++ emit_code 21
piece_code (SetKey i) = key_code i ++ emit_code 22
piece_code (Splice i) = splice_code i
piece_code Nothing = nop ∷ []

abbrev pub pieces_code : List Piece → List Instr
pieces_code [] = []
pieces_code (p ∷ ps) = piece_code p ++ pieces_code ps

-- the arguments of a piece's op are words, and a closure has room for the captured word that it names
abbrev pub HasRoom : Piece → Type 0
HasRoom (Plain op) = (first_of op < 4294967296) × (second_of op < 4294967296)
HasRoom (Captured i) = i < MOST_CAPTURES
HasRoom (GetKey i) = i < MOST_CAPTURES
HasRoom (SetKey i) = i < MOST_CAPTURES
HasRoom (Splice i) = i < MOST_CAPTURES
HasRoom Nothing = Unit {0}

-- whole
abbrev pub generator_code : List Piece → List Instr
generator_code ps = enter_code ++ (pieces_code ps ++ leave_code)

-- ---- how many instructions it takes, and how many entries of the emit stack, eight bytes each

abbrev pub piece_cost : (splice : ℕ → ℕ) → Piece → ℕ
piece_cost splice (Plain op) = 7
piece_cost splice (Captured i) = 6
piece_cost splice (GetKey i) = 13
piece_cost splice (SetKey i) = 13
piece_cost splice (Splice i) = 15 + splice i
piece_cost splice Nothing = 1

abbrev pub pieces_cost : (splice : ℕ → ℕ) → List Piece → ℕ
pieces_cost splice [] = 0
pieces_cost splice (p ∷ ps) = piece_cost splice p + pieces_cost splice ps

abbrev pub piece_depth : (splice : ℕ → ℕ) → Piece → ℕ
piece_depth splice (Splice i) = splice i
piece_depth splice _ = 0

abbrev pub pieces_depth : (splice : ℕ → ℕ) → List Piece → ℕ
pieces_depth splice [] = 0
pieces_depth splice (p ∷ ps) = max (piece_depth splice p) (pieces_depth splice ps)

module _ (pieces : ℕ → List Piece) where
  abbrev mutual
    pub syntax_cost : Syntax → ℕ
    syntax_cost (Ticked tick captures) = 7 + pieces_cost (spliced_cost captures) (pieces tick)

    pub spliced_cost : Captures → (capture : ℕ) → ℕ
    spliced_cost NoCapture i = 0
    spliced_cost (Spliced syntax captures) zero = syntax_cost syntax
    spliced_cost (Spliced syntax captures) (suc i) = spliced_cost captures i
    spliced_cost (Word word captures) zero = 0
    spliced_cost (Word word captures) (suc i) = spliced_cost captures i
    spliced_cost (Named key captures) zero = 0
    spliced_cost (Named key captures) (suc i) = spliced_cost captures i

  abbrev mutual
    -- how many functions are entered at a time
    pub syntax_depth : Syntax → ℕ
    syntax_depth (Ticked tick captures) = 1 + pieces_depth (spliced_depth captures) (pieces tick)

    pub spliced_depth : Captures → (capture : ℕ) → ℕ
    spliced_depth NoCapture i = 0
    spliced_depth (Spliced syntax captures) zero = syntax_depth syntax
    spliced_depth (Spliced syntax captures) (suc i) = spliced_depth captures i
    spliced_depth (Word word captures) zero = 0
    spliced_depth (Word word captures) (suc i) = spliced_depth captures i
    spliced_depth (Named key captures) zero = 0
    spliced_depth (Named key captures) (suc i) = spliced_depth captures i
