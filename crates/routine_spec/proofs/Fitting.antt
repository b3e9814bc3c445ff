-- The instructions of the routine that compiles, and of the functions of ticks, have words.
use Rattle.std.proofs.Common.{ℕ, ◌+◌, ◌*◌, ◌<◌, ◌≤◌, List, [], ◌∷◌, ◌++◌, length, refl, arith}
use Rattle.limits.specs.declared.ops.TheConstants.{MOST_CAPTURES}
use Rattle.mips_encoder.specs.declared.instruction.Instr.{Instr}
use Rattle.mips_assembly.specs.Assembly.{a1, constant, lw, nop}
use Rattle.mips_model.proofs.Loaded.{AllFit, all_fit_append}
use Rattle.icode_ir.specs.declared.build_op.BuildOp.{BuildOp}
use Rattle.icode_ir.specs.declared.build_op.BuildOp.TheVariants as build
use Rattle.icode_ir.specs.Codes.{code_of, first_of, second_of}
use Rattle.icode_ir.specs.Sound.{Each}
use Rattle.icode_templates_proof.proofs.FittingRoutines.{all_fit}
use Rattle.tick_lower_spec.specs.declared.piece.Piece.{Piece}
use Rattle.tick_lower_spec.specs.declared.piece.Piece.TheVariants.{Plain, Captured, GetKey, SetKey, Splice, Nothing}
use Rattle.routine_spec.specs.Generator.{enter_code, leave_code, emit_code, op_code, captured_code, closure_code}
use Rattle.routine_spec.specs.Generator.{key_code}
use Rattle.routine_spec.specs.Generator.{call_code, splice_code, piece_code, pieces_code, generator_code, HasRoom}
use Rattle.routine_spec.specs.Compile.{compile_code}

pub compile_fits : AllFit compile_code × (length compile_code ≤ 64)
compile_fits = (all_fit compile_code refl, omega arith)

code_low : (o : BuildOp) → code_of o < 30
code_low (build.Const word) = omega arith
code_low (build.Bin kind) = omega arith
code_low (build.Un kind) = omega arith
code_low (build.Enter variables labels) = omega arith
code_low build.Leave = omega arith
code_low (build.GetVariable i) = omega arith
code_low (build.SetVariable i) = omega arith
code_low build.Drop = omega arith
code_low (build.Pick i) = omega arith
code_low build.Nip = omega arith
code_low (build.Load width) = omega arith
code_low (build.Store width) = omega arith
code_low (build.Label i) = omega arith
code_low (build.Jump i) = omega arith
code_low (build.BranchZero i) = omega arith
code_low (build.BranchNonzero i) = omega arith
code_low (build.Call address n) = omega arith
code_low (build.CallNumber n) = omega arith
code_low build.Return = omega arith
code_low build.ReturnZero = omega arith
code_low (build.GetSpec key) = omega arith
code_low (build.SetSpec key) = omega arith
code_low (build.Sys kind) = omega arith
code_low (build.Run routine) = omega arith
code_low (build.FrameAddress offset) = omega arith
code_low (build.Clear offset words) = omega arith
code_low (build.New address kind captures) = omega arith
code_low (build.Put i) = omega arith
code_low (build.Parameter k) = omega arith

constant_fits : (t word : ℕ) → t < 32 → word < 4294967296 → AllFit (constant t word)
constant_fits t word low small = ((low, omega (arith, small)), ((low, low, omega arith), tt))

emit_fits : (code : ℕ) → code < 65536 → AllFit (emit_code code)
emit_fits code low =
    ((omega arith, omega arith, low), ((omega arith, omega arith, omega arith), (tt, tt)))

captured_fits : (t i : ℕ) → t < 32 → i < MOST_CAPTURES → AllFit (captured_code t i)
captured_fits t i low few = (
  (omega arith, omega (arith, few)),
  ((omega arith, omega arith, omega arith), ((low, omega arith, omega arith), tt)),
)

closure_fits : (t : ℕ) → t < 32 → AllFit (closure_code t)
closure_fits t low = (
  (omega arith, omega arith, omega arith),
  (
    (low, low, omega arith),
    (
      (omega arith, omega arith),
      ((low, low, omega arith), ((low, omega arith, low), ((omega arith, omega arith, omega arith), tt))),
    ),
  ),
)

key_fits : (i : ℕ) → i < MOST_CAPTURES → AllFit (key_code i)
key_fits i few =
    all_fit_append (captured_code 5 i) (closure_code 5 ++ lw a1 0 a1 ∷ []) (captured_fits 5 i (omega arith) few)
    (all_fit_append (closure_code 5) (lw a1 0 a1 ∷ []) (closure_fits 5 (omega arith)) (all_fit (lw a1 0 a1 ∷ []) refl))

call_fits : AllFit call_code
call_fits = all_fit call_code refl

op_fits : (o : BuildOp) → first_of o < 4294967296 → second_of o < 4294967296 → AllFit (op_code o)
op_fits o first second =
    let last = emit_code (code_of o) in
    all_fit_append (constant 5 (first_of o)) (constant 6 (second_of o) ++ last)
    (constant_fits 5 (first_of o) (omega arith) first)
    (all_fit_append (constant 6 (second_of o)) last (constant_fits 6 (second_of o) (omega arith) second)
    (emit_fits (code_of o) (omega (arith, code_low o))))

piece_fits : (p : Piece) → HasRoom p → AllFit (piece_code p)
piece_fits (Plain o) h = op_fits o h.0 h.1
piece_fits (Captured i) h =
    all_fit_append (captured_code 5 i) (emit_code 1) (captured_fits 5 i (omega arith) h) (emit_fits 1 (omega arith))
piece_fits (GetKey i) h = all_fit_append (key_code i) (emit_code 21) (key_fits i h) (emit_fits 21 (omega arith))
piece_fits (SetKey i) h = all_fit_append (key_code i) (emit_code 22) (key_fits i h) (emit_fits 22 (omega arith))
piece_fits (Splice i) h =
    all_fit_append (captured_code 12 i) (closure_code 12 ++ call_code) (captured_fits 12 i (omega arith) h)
    (all_fit_append (closure_code 12) call_code (closure_fits 12 (omega arith)) call_fits)
piece_fits Nothing h = all_fit (nop ∷ []) refl

pieces_fit : (ps : List Piece) → Each HasRoom ps → AllFit (pieces_code ps)
pieces_fit [] h = tt
pieces_fit (p ∷ ps) h = all_fit_append (piece_code p) (pieces_code ps) (piece_fits p h.0) (pieces_fit ps h.1)

pub generator_fits : (ps : List Piece) → Each HasRoom ps → AllFit (generator_code ps)
generator_fits ps h =
    all_fit_append enter_code (pieces_code ps ++ leave_code) (all_fit enter_code refl)
    (all_fit_append (pieces_code ps) leave_code (pieces_fit ps h) (all_fit leave_code refl))
