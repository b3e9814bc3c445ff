-- What is proved of the pieces of ticks.
use Rattle.std.specs.Prelude.{◌≡◌, ◌≤◌, ℕ, List, [], length, Option, Some, None, slice_get}
use Rattle.history.specs.Syntax.{Syntax, Captures}
use Rattle.icode_ir.specs.declared.build_op.BuildOp.{BuildOp}
use Rattle.staged_meaning.specs.Program.{Tick, tick_size}
use Rattle.tick_lower_spec.specs.Lower.{Addresses}
use Rattle.tick_lower_spec.specs.Specifications.{filled, tick_ops, specification_ops}
use Rattle.tick_lower_spec.specs.declared.piece.Piece.{Piece}
use Rattle.generator_laws.specs.Pieces.{pieces_ops, syntax_ops}
use Rattle.tick_lower_spec.specs.TickPieces.{tick_pieces}

-- the pieces of a tick of the text, if there is one of this number
abbrev pub pieces_at : Addresses → Option Tick → List Piece
pieces_at addresses None = []
pieces_at addresses (Some tick) = tick_pieces addresses tick

-- The pieces of a tick, with what was captured in their holes, are its lowering with that in its holes.
abbrev pub PiecesAreLowering : Type 0
PiecesAreLowering =
    (addresses : Addresses) (captures : Captures) (splice : ℕ → List BuildOp) (tick : Tick)
    → pieces_ops captures splice (tick_pieces addresses tick)
    ≡ tick_ops (filled captures splice) addresses (Some tick)

-- So the ops of a specification, by the pieces of its ticks, are its lowering.
abbrev pub SpecificationsAreLowered : Type 0
SpecificationsAreLowered =
    (addresses : Addresses) (ticks : List Tick) (syntax : Syntax)
    → syntax_ops (λ number. pieces_at addresses (slice_get ticks number)) syntax
    ≡ specification_ops addresses ticks syntax

-- Each node of a tick has a piece, so its function takes at least an instruction for each.
abbrev pub NodesHavePieces : Type 0
NodesHavePieces = (addresses : Addresses) (tick : Tick) → tick_size (Some tick) ≤ length (tick_pieces addresses tick)
