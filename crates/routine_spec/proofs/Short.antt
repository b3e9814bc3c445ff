-- How many words the routines and the functions of ticks have.
use Rattle.std.proofs.Common.{◌≡◌, ℕ, ◌+◌, ◌-◌, ◌*◌, ◌≤◌, List, [], ◌∷◌, ◌++◌, length, refl, arith, length-append, Some}
use Rattle.std.proofs.Common.{replicate}
use Rattle.std.proofs.lemmas.List.{length-replicate}
use Rattle.mips_encoder.specs.Table.{word_of}
use Rattle.mips_encoder.specs.declared.instruction.Instr.{Instr}
use Rattle.mips_assembly.specs.Assembly.{nop}
use Rattle.icode_templates.specs.Words.{words}
use Rattle.icode_ir.specs.declared.build_op.BuildOp.TheVariants.{Leave}
use Rattle.staged_meaning.specs.Program.{Tick, OfExpression, OfStatement, tick_size}
use Rattle.staged_meaning.specs.Size.{variables_in}
use Rattle.tick_lower_spec.specs.Lower.{Addresses, nowhere}
use Rattle.tick_lower_spec.specs.declared.piece.Piece.{Piece}
use Rattle.tick_lower_spec.specs.declared.piece.Piece.TheVariants.{Plain, Captured, GetKey, SetKey, Splice, Nothing}
use Rattle.tick_lower_spec.specs.TickPieces.{tick_pieces, expr_pieces, stmt_pieces}
use Rattle.routine_spec.specs.Generator.{piece_code, pieces_code, generator_code, leave_code, piece_cost}
use Rattle.routine_spec.specs.Blocks.{filled, routine_words}
use Rattle.routine_spec.specs.Laws.{GeneratorsAreShort, RoutinesFillBlocks}
use Rattle.routine_spec.proofs.Dear.{own_cost, none_spliced, cost_both}
use Rattle.routine_spec.proofs.DearTrees.{expr_small}
use Rattle.routine_spec.proofs.DearStmts.{stmt_small}

pub length_words : (is : List Instr) → length (words is) ≡ length is
length_words [] = refl
length_words (i ∷ is) = omega (arith, length_words is)

-- each instruction of a piece is executed once
piece_long : (p : Piece) → length (piece_code p) ≡ piece_cost none_spliced p
piece_long (Plain op) = refl
piece_long (Captured i) = refl
piece_long (GetKey i) = refl
piece_long (SetKey i) = refl
piece_long (Splice i) = refl
piece_long Nothing = refl

pieces_long : (ps : List Piece) → length (pieces_code ps) ≡ own_cost ps
pieces_long [] = refl
pieces_long (p ∷ ps) =
    omega (arith, length-append (piece_code p) (pieces_code ps), piece_long p, pieces_long ps)

-- the function of these pieces
pub generator_long : (ps : List Piece) → length (words (generator_code ps)) ≡ own_cost ps + 7
generator_long ps =
    let whole = length_words (generator_code ps) in
    let both = length-append (pieces_code ps) leave_code in
    omega (arith, whole, both, pieces_long ps)

pub generators_short : GeneratorsAreShort
generators_short addresses (OfExpression e) =
    let ps : List Piece = expr_pieces addresses e 0 0 in
    let long = generator_long (tick_pieces addresses (OfExpression e)) in
    omega (arith, long, (expr_small addresses e 0 0).cost, cost_both ps (Plain Leave ∷ []))
generators_short addresses (OfStatement s) =
    let ps : List Piece = stmt_pieces addresses s nowhere 0 (variables_in s) in
    let long = generator_long (tick_pieces addresses (OfStatement s)) in
    omega (arith, long, (stmt_small addresses s nowhere 0 (variables_in s)).cost, cost_both ps (Plain Leave ∷ []))

pub routines_fill : RoutinesFillBlocks
routines_fill = refl
