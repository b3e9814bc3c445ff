-- Making specifications and compiling them. The captures of a tick are evaluated first; here they are checked and
-- become a row. The order of the limits is this project's own, and the stages are those of Poletto, Hsieh, Engler and
-- Kaashoek (TOPLAS 21(2), 1999).
use Rattle.std.specs.Prelude.{ℕ, ◌+◌, Bool, true, false, if◌then◌else◌, List, [], ◌∷◌, length, slice_get, Option, Some}
use Rattle.std.specs.Prelude.{None}
use Rattle.host_edge.specs.declared.ending.TrapKind.{TrapKind}
use Rattle.host_edge.specs.declared.ending.TrapKind.TheVariants.{BadSpec}
use Rattle.host_edge.specs.declared.ending.Ending.TheVariants.{Trap}
use Rattle.history.specs.Events.{Ended}
use Rattle.history.specs.Syntax.{Syntax, Ticked, Captures, NoCapture, Word, Named, Spliced}
use Rattle.meaning_state.specs.Shared.{Specification, Expression, Statement, Local, Param}
use Rattle.meaning_state.specs.Rows.{numbered, closure_trap, size_trap, index_trap, next_number, specified, table_trap}
use Rattle.meaning_state.specs.Rows.{arena_trap, next_function, made}
use Rattle.typed_tree.specs.declared.expression.CaptureKind.{CaptureKind}
use Rattle.typed_tree.specs.declared.expression.CaptureKind.TheVariants as kind
use Rattle.typed_tree.specs.declared.expression.Answer.TheVariants as answer
use Rattle.typed_tree.specs.Nodes.{Expr, Capture, Args, NoArg, Arg}
use Rattle.staged_meaning.specs.Program.{Program, is_expression, syntax_size}
use Rattle.staged_meaning.specs.World.{World, Result, Ends, then_do, spend, spend_all, with_shared, unless}

-- ---- captures

-- the kind of a capture, which is a node of its own
abbrev pub kind_of : Expr → CaptureKind
kind_of (Capture kind e) = kind
kind_of _ = kind.Dollar

abbrev pub kinds_of : Args → List CaptureKind
kinds_of NoArg = []
kinds_of (Arg e args) = kind_of e ∷ kinds_of args

-- a number that a tick names is one of a live specification of the kind that is named
abbrev pub fits : CaptureKind → Option Specification → Bool
fits kind.Dollar row = true
fits kind.Address row = true
fits (kind.Splice answer.Value) (Some (Expression syntax)) = true
fits (kind.Splice answer.Void) (Some (Statement syntax)) = true
fits kind.Variable (Some Local) = true
fits kind.Variable (Some (Param index)) = true
fits _ row = false

abbrev pub captures_trap : List Specification → List CaptureKind → List ℕ → Option TrapKind
captures_trap rows (k ∷ kinds) (v ∷ words) =
    if fits k (numbered v rows) then captures_trap rows kinds words else Some BadSpec
captures_trap rows _ words = None

-- what a captured number stands for
abbrev pub syntax_in : Option Specification → Syntax
syntax_in (Some (Expression syntax)) = syntax
syntax_in (Some (Statement syntax)) = syntax
syntax_in _ = Ticked 0 NoCapture

abbrev pub key_in : ℕ → Option Specification → ℕ
key_in number (Some (Param index)) = index
key_in number _ = 7 + number

abbrev pub capture : CaptureKind → ℕ → Option Specification → Captures → Captures
capture kind.Dollar word row captures = Word word captures
capture kind.Address word row captures = Word word captures
capture (kind.Splice answer) number row captures = Spliced (syntax_in row) captures
capture kind.Variable number row captures = Named (key_in number row) captures

abbrev pub captures_of : List Specification → List CaptureKind → List ℕ → Captures
captures_of rows (k ∷ kinds) (v ∷ words) = capture k v (numbered v rows) (captures_of rows kinds words)
captures_of rows _ words = NoCapture

-- ---- new specifications

-- a specification more, whose closure has so many captures; its number
abbrev pub specify : Specification → (captures : ℕ) → World → Result ℕ
specify specification captures w =
    unless (closure_trap captures w.shared) w
    (spend (next_number w.shared) (with_shared (specified specification captures w.shared) w))

abbrev pub specification_of : Bool → Syntax → Specification
specification_of true syntax = Expression syntax
specification_of false syntax = Statement syntax

-- a tick's specification, once its captures have their words
abbrev pub specify_syntax : Program → (tick : ℕ) → Syntax → (captures : ℕ) → World → Result ℕ
specify_syntax program tick syntax captures w =
    unless (size_trap (syntax_size program syntax)) w
    (specify (specification_of (is_expression (slice_get program.ticks tick)) syntax) captures w)

abbrev pub specify_tick : Program → (tick : ℕ) → List CaptureKind → List ℕ → World → Result ℕ
specify_tick program tick kinds words w =
    unless (captures_trap w.shared.specifications kinds words) w
    (specify_syntax program tick (Ticked tick (captures_of w.shared.specifications kinds words)) (length words) w)

-- a parameter of generated code
abbrev pub specify_parameter : (index : ℕ) → World → Result ℕ
specify_parameter index w = unless (index_trap index) w (specify (Param index) 0 w)

-- ---- compile

-- The units of the size are spent behind the checks and before the function is there, and then the node's own.
abbrev pub compile_syntax : Program → Syntax → World → Result ℕ
compile_syntax program syntax w =
    let size = syntax_size program syntax in
    let function = next_function (length program.functions) w.shared in
    unless (table_trap function) w
    (unless (arena_trap size w.shared) w
    (then_do (spend_all size w) (λ flow w. spend function (with_shared (made function syntax size w.shared) w))))

abbrev pub compile_row : Program → Option Specification → World → Result ℕ
compile_row program (Some (Expression syntax)) w = compile_syntax program syntax w
compile_row program (Some (Statement syntax)) w = compile_syntax program syntax w
compile_row program _ w = Ends (Ended (Trap BadSpec)) w.shared

abbrev pub compile_number : Program → (number : ℕ) → World → Result ℕ
compile_number program number w = compile_row program (numbered number w.shared.specifications) w
