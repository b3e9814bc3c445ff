-- The pieces of the ticks of a program, by their numbers.
use Rattle.std.specs.Prelude.{ℕ, ◌^◌, ◌<◌, List, [], Option, Some, None, slice_get}
use Rattle.typed_tree.specs.declared.program.Tick.{Tick}
use Rattle.typed_tree.specs.declared.program.TickBody.{TickBody}
use Rattle.typed_tree.specs.declared.program.TickBody.TheVariants as body
use Rattle.typed_tree.specs.Measures.{variables_in}
use Rattle.typed_tree.specs.View.{stmt_view}
use Rattle.staged_meaning.specs.Source.{tick_view}
use Rattle.tick_lower_spec.specs.Lower.{Addresses}
use Rattle.tick_lower_spec.specs.declared.piece.Piece.{Piece}
use Rattle.tick_lower_spec.specs.TickPieces.{tick_pieces}

-- of a tick that isn't there, none
abbrev pub pieces_at : Addresses → Option Tick → List Piece
pieces_at addresses None = []
pieces_at addresses (Some t) = tick_pieces addresses (tick_view t.body)

abbrev pub pieces_of : Addresses → List Tick → (tick : ℕ) → List Piece
pieces_of addresses ticks tick = pieces_at addresses (slice_get ticks tick)

-- a word has room for the numbers of the register variables
abbrev pub HasNumbers : TickBody → Type 0
HasNumbers (body.Expression e) = Unit {0}
HasNumbers (body.Statement s) = variables_in (stmt_view s) < 2 ^ 32
