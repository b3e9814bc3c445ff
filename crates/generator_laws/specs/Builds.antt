-- The ops of a tick expression, as a builder gets them: its captured words are the top operands, the first of them
-- deepest, and behind them the new specification's number is the only operand in their place. What they build is the
-- list of ops whose run makes the specification.
use Rattle.std.specs.Prelude.{◌≡◌, ℕ, suc, ◌+◌, ◌≤◌, List, [], ◌∷◌, ◌++◌, length, slice_get, Option, Some, None}
use Rattle.icode_ops.specs.declared.kind.RunKind.TheVariants as run
use Rattle.icode_ir.specs.declared.build_op.BuildOp.{BuildOp}
use Rattle.icode_ir.specs.declared.build_op.BuildOp.TheVariants as build
use Rattle.icode_ir.specs.Build.{Build}
use Rattle.typed_tree.specs.declared.expression.CaptureKind.{CaptureKind}
use Rattle.staged_meaning.specs.Program.{is_expression, tick_size}
use Rattle.icode_templates_proof.specs.Routines.{Named}
use Rattle.closures_proof.specs.Ops.{check_of}
use Rattle.closures_proof.specs.Relation.{Text}
use Rattle.closures_proof.specs.Laws.{named_by, kind_of_tick}
use Rattle.closures_proof.specs.Ticks.{TickCapture, TickRegisters, tick_ops}
use Rattle.limits.specs.declared.ops.TheConstants.{OP_LIMIT}
use Rattle.generator_laws.specs.Laws.{built_of, AreTaken}

-- a captured number that lies so deep is checked, and the answer is dropped
abbrev pub check_built : Option Named → (depth : ℕ) → List BuildOp
check_built None depth = []
check_built (Some named) depth = build.Pick depth ∷ build.Run (check_of named) ∷ build.Drop ∷ []

abbrev pub checks_built : List CaptureKind → List BuildOp
checks_built [] = []
checks_built (k ∷ kinds) = check_built (named_by k) (length kinds) ++ checks_built kinds

-- the words are put, with the number above them
abbrev pub puts_built : (capture : ℕ) → List CaptureKind → List BuildOp
puts_built i [] = []
puts_built i (k ∷ kinds) = build.Pick (suc (length kinds)) ∷ build.Put i ∷ puts_built (suc i) kinds

-- and go from below it
abbrev pub nips_built : List CaptureKind → List BuildOp
nips_built [] = []
nips_built (k ∷ kinds) = build.Nip ∷ nips_built kinds

-- whole
abbrev pub tick_built : Text → (tick : ℕ) → List CaptureKind → List BuildOp
tick_built text tick kinds =
    build.Const (tick_size (slice_get text.program.ticks tick)) ∷ build.Run run.Begin ∷ build.Drop
    ∷ (checks_built kinds
    ++ build.New (text.generator_at tick) (kind_of_tick (is_expression (slice_get text.program.ticks tick)))
    (length kinds)
    ∷ (puts_built 0 kinds ++ nips_built kinds))

-- ---- what is built

-- each check's answer has a register of its own
abbrev pub answered : Option Named → ℕ → ℕ
answered None next = next
answered (Some named) next = next + 1

abbrev pub captures_from : (next : ℕ) → List CaptureKind → (registers : List ℕ) → List TickCapture
captures_from next (k ∷ kinds) (w ∷ ws) =
    record { kind = k; word = w; answer = next } ∷ captures_from (answered (named_by k) next) kinds ws
captures_from next _ ws = []

abbrev pub answered_all : (next : ℕ) → List CaptureKind → ℕ
answered_all next [] = next
answered_all next (k ∷ kinds) = answered_all (answered (named_by k) next) kinds

-- the registers come one behind another
abbrev pub registers_from : (next : ℕ) → List CaptureKind → TickRegisters
registers_from next kinds = record { size = next; begun = next + 1; number = answered_all (next + 1 + 1) kinds }

abbrev pub TicksAreBuilt : Type 0
TicksAreBuilt =
    (text : Text) (tick : ℕ) (kinds : List CaptureKind) (below words : List ℕ) (b : Build)
    → b.operands ≡ below ++ words → length words ≡ length kinds
    → let registers = registers_from b.registers kinds in
    built_of (tick_built text tick kinds) b
    ≡ record b {
      ops = b.ops ++ tick_ops text tick registers (captures_from (b.registers + 1 + 1) kinds words);
      operands = below ++ registers.number ∷ [];
      registers = registers.number + 1;
    }

-- The builder takes each of them, where it has room for what is built, and for two operands more.
abbrev pub TicksAreTaken : Type 0
TicksAreTaken =
    (text : Text) (tick : ℕ) (kinds : List CaptureKind) (below words : List ℕ) (b : Build)
    → b.operands ≡ below ++ words → length words ≡ length kinds
    → length b.prelude + length b.ops
    + length (tick_ops text tick (registers_from b.registers kinds) (captures_from (b.registers + 1 + 1) kinds words))
    ≤ OP_LIMIT → length b.operands + 2 ≤ OP_LIMIT → AreTaken (tick_built text tick kinds) b
