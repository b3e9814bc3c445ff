-- What is proved of the pieces of the ticks of an accepted text.
use Rattle.std.specs.Prelude.{◌≡◌, ℕ, List, length, map, slice_get, Some, None}
use Rattle.history.specs.Syntax.{Syntax, Ticked, Captures}
use Rattle.icode_ir.specs.Sound.{Each}
use Rattle.typed_tree.specs.declared.expression.CaptureKind.{CaptureKind}
use Rattle.typed_tree.specs.Nodes as node
use Rattle.typed_tree.specs.declared.program.Tick as typed
use Rattle.typed_tree.specs.declared.program.TypedParts.{TypedParts}
use Rattle.typed_tree.specs.View.{program_view}
use Rattle.staged_meaning.specs.Source.{tick_view}
use Rattle.wellformed.specs.Program.{IsTick, IsProgram}
use Rattle.icode_ir.specs.Build.{Build}
use Rattle.mips_model.specs.State.{Code, Data}
use Rattle.meaning_state.specs.Shared.{Specification, Shared}
use Rattle.meaning_state.specs.Rows.{specification_at}
use Rattle.staged_meaning.specs.Program.{Tick}
use Rattle.closures_proof.specs.Relation.{Text, tick_of, IsOf, HasSpecifications}
use Rattle.staged_meaning.specs.Specifications.{captures_trap, captures_of}
use Rattle.tick_lower_spec.specs.Lower.{Addresses}
use Rattle.tick_lower_spec.specs.declared.piece.Piece.{Piece}
use Rattle.tick_lower_spec.specs.Specifications.{specification_ops}
use Rattle.generator_laws.specs.Pieces.{PiecesFit, IsWhole}
use Rattle.routine_spec.specs.Generator.{syntax_cost, syntax_depth}
use Rattle.generator_laws.specs.Laws.{HasGenerators, Enters, AreTaken, Issues}
use Rattle.generator_spec.specs.Laws.{pieces_at}
use Rattle.tick_lower_spec.specs.TickPieces.{tick_pieces}
use Rattle.generator_spec.specs.Kinds.{HasKinds, HasTicks, IsKnown, HasWords, AreAddresses, tick_of_body}

-- The pieces of a tick fit its captures, of the kinds that the tick has, where the arguments of its ops are words and
-- each function's address is one that a call has room for.
abbrev pub TicksFit : Type 0
TicksFit =
    (p : node.Program) (ticks : List (List CaptureKind)) (t : node.TickBody) (kinds : List CaptureKind)
    (addresses : Addresses) (captures : Captures) → IsTick p ticks t kinds → AreAddresses addresses
    → Each HasWords (tick_pieces addresses (tick_of_body t)) → HasKinds kinds captures
    → PiecesFit captures (tick_pieces addresses (tick_of_body t))

-- A specification each of whose ticks has captures of its kinds is whole, where the pieces of each tick are those of
-- the program's.
abbrev pub SyntaxesAreWhole : Type 0
SyntaxesAreWhole =
    (p : node.Program) (accepted : IsProgram p) (addresses : Addresses) (pieces : ℕ → List Piece) (syntax : Syntax)
    → AreAddresses addresses
    → ((n : ℕ) (t : node.TickBody) → slice_get p.ticks n ≡ Some t → pieces n ≡ tick_pieces addresses (tick_of_body t))
    → ((n : ℕ) → Each HasWords (pieces n)) → HasTicks accepted.captures syntax
    → IsWhole pieces (length p.ticks) syntax

-- A tick that captures these kinds, of words that stand for live specifications of their kinds, is made with captures
-- of its kinds, of specifications that are so themselves where the earlier ones are.
abbrev pub CapturesKeepKinds : Type 0
CapturesKeepKinds =
    (ticks : List (List CaptureKind)) (rows : List Specification) (tick : ℕ) (kinds : List CaptureKind)
    (words : List ℕ) → Each (IsKnown ticks) rows → slice_get ticks tick ≡ Some kinds → length kinds ≡ length words
    → captures_trap rows kinds words ≡ None → HasTicks ticks (Ticked tick (captures_of rows kinds words))

-- the ticks of a program, as they have a meaning, and their pieces
abbrev pub ticks_of : node.Program → List Tick
ticks_of p = map tick_of_body p.ticks

abbrev pub program_pieces : Addresses → node.Program → ℕ → List Piece
program_pieces addresses p n = pieces_at addresses (slice_get (ticks_of p) n)

-- the pieces of each tick are the same
abbrev pub PiecesAreAlike : node.Program → Addresses → Addresses → Type 0
PiecesAreAlike p d e = (n : ℕ) → program_pieces d p n ≡ program_pieces e p n

-- A tick of an accepted text makes no specification, so its lowering asks where functions stand, and nothing else: the
-- pieces of ticks are the same wherever functions stand alike, and so are the ops of specifications.
pub record TicksCallAlone : Type 0 where
  pub pieces : (p : node.Program) (accepted : IsProgram p) (d e : Addresses) →
      ((f : ℕ) → d.function_at f ≡ e.function_at f) → PiecesAreAlike p d e
  pub ops : (p : node.Program) (accepted : IsProgram p) (d e : Addresses) →
      ((f : ℕ) → d.function_at f ≡ e.function_at f) → (syntax : Syntax) →
      specification_ops d (ticks_of p) syntax ≡ specification_ops e (ticks_of p) syntax

-- The arguments of the ops of each tick's pieces are words, where those of each tick that the typed tree has are: of
-- one that isn't there, there are no pieces. Whoever has written the function of each tick has the premise from the
-- clause `fits` of the call that wrote it.
abbrev pub TicksHaveWords : Type 0
TicksHaveWords =
    (addresses : Addresses) (parts : TypedParts)
    → ((n : ℕ) (t : typed.Tick) → slice_get parts.ticks n ≡ Some t
    → Each HasWords (tick_pieces addresses (tick_view t.body)))
    → (n : ℕ) → Each HasWords (program_pieces addresses (program_view parts) n)

-- The machine runs the function of a tick of an accepted text, on a closure that stands for a specification of the tick
-- with captures of its kinds, while a function is begun that takes the specification's ops: it issues exactly the ops
-- of the specification's lowering, in order, and returns with all else as it was.
abbrev pub LoweringsAreIssued : Type 0
LoweringsAreIssued =
    (p : node.Program) (accepted : IsProgram p) (addresses : Addresses) (text : Text) (c : Code) (shared : Shared)
    (syntax : Syntax) (number top : ℕ) (d : Data) (b : Build)
    → let pieces = program_pieces addresses p in
    let ops = specification_ops addresses (ticks_of p) syntax in
    AreAddresses addresses → ((n : ℕ) → Each HasWords (pieces n)) → HasTicks accepted.captures syntax
    → HasGenerators text pieces (length p.ticks) c → HasSpecifications text shared d
    → IsOf syntax (specification_at number shared) → Enters number top (syntax_depth pieces syntax) d
    → d.outside.making.generator.build ≡ Some b → AreTaken ops b
    → Issues ops (syntax_cost pieces syntax) top c (text.generator_at (tick_of syntax)) d b
