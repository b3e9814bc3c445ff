-- A tick's lowering with holes for what it captures, and the ops of a whole specification: the words and keys that were
-- captured stand in the holes, and in place of a splice stand the ops of the specification that it stands for. These
-- are this project's own definitions, after the code-generating functions of Poletto, Hsieh, Engler and Kaashoek
-- (TOPLAS 21(2), 1999).
use Rattle.std.specs.Prelude.{ℕ, zero, suc, ◌<◌, ◌^◌, List, [], ◌∷◌, ◌++◌}
use Rattle.history.specs.Syntax.{Syntax, Ticked, Captures, NoCapture, Word, Named, Spliced}
pub use Rattle.tick_lower_spec.specs.Specifications.{capture_at, word_in, key_in_capture}
use Rattle.icode_ir.specs.declared.build_op.BuildOp.{BuildOp}
use Rattle.tick_lower_spec.specs.TickPieces.{piece_with, pieces_with}
use Rattle.tick_lower_spec.specs.Specifications.{filled}
use Rattle.tick_lower_spec.specs.declared.piece.Piece.{Piece}
use Rattle.tick_lower_spec.specs.declared.piece.Piece.TheVariants.{Plain, Captured, GetKey, SetKey, Splice, Nothing}
use Rattle.icode_ir.specs.Codes.{IsServed, first_of, second_of}

-- ---- the ops of a specification

-- those of a tick with its captures, where the ops of each splice are known
abbrev pub piece_ops : Captures → (splice : ℕ → List BuildOp) → Piece → List BuildOp
piece_ops captures splice p = piece_with (filled captures splice) p

abbrev pub pieces_ops : Captures → (splice : ℕ → List BuildOp) → List Piece → List BuildOp
pieces_ops captures splice ps = pieces_with (filled captures splice) ps

-- the pieces of each tick, by its number
module _ (pieces : ℕ → List Piece) where
  abbrev mutual
    pub syntax_ops : Syntax → List BuildOp
    syntax_ops (Ticked tick captures) = pieces_ops captures (spliced_ops captures) (pieces tick)

    -- those that are spliced in by the capture of a number
    pub spliced_ops : Captures → (capture : ℕ) → List BuildOp
    spliced_ops NoCapture i = []
    spliced_ops (Spliced syntax captures) zero = syntax_ops syntax
    spliced_ops (Spliced syntax captures) (suc i) = spliced_ops captures i
    spliced_ops (Word word captures) zero = []
    spliced_ops (Word word captures) (suc i) = spliced_ops captures i
    spliced_ops (Named key captures) zero = []
    spliced_ops (Named key captures) (suc i) = spliced_ops captures i

-- ---- what a tick needs of its captures

abbrev pub IsWord : Captures → Type 0
IsWord (Word word captures) = Unit {0}
IsWord _ = ⊥

abbrev pub IsKey : Captures → Type 0
IsKey (Named key captures) = Unit {0}
IsKey _ = ⊥

abbrev pub IsSplice : Captures → Type 0
IsSplice (Spliced syntax captures) = Unit {0}
IsSplice _ = ⊥

-- a piece names captures that are there and of its kind, and its op is one that code may ask for, with words
abbrev pub PieceFits : Captures → Piece → Type 0
PieceFits captures (Plain op) =
    IsServed op × (first_of op < 4294967296) × (second_of op < 4294967296)
PieceFits captures (Captured i) = IsWord (capture_at captures i)
PieceFits captures (GetKey i) = IsKey (capture_at captures i)
PieceFits captures (SetKey i) = IsKey (capture_at captures i)
PieceFits captures (Splice i) = IsSplice (capture_at captures i)
PieceFits captures Nothing = Unit {0}

abbrev pub PiecesFit : Captures → List Piece → Type 0
PiecesFit captures [] = Unit {0}
PiecesFit captures (p ∷ ps) = PieceFits captures p × PiecesFit captures ps

-- a whole specification: its tick is one of so many, and each that is spliced in is whole
module _ (pieces : ℕ → List Piece) (ticks : ℕ) where
  abbrev mutual
    pub IsWhole : Syntax → Type 0
    IsWhole (Ticked tick captures) = (tick < ticks) × PiecesFit captures (pieces tick) × AreWhole captures

    pub AreWhole : Captures → Type 0
    AreWhole NoCapture = Unit {0}
    AreWhole (Word word captures) = AreWhole captures
    AreWhole (Named key captures) = AreWhole captures
    AreWhole (Spliced syntax captures) = IsWhole syntax × AreWhole captures
