-- What the function that generates a tick's code does on the machine.
use Rattle.std.specs.Prelude.{◌≡◌, ◌≢◌, ℕ, ◌+◌, ◌*◌, ◌/◌, ◌%◌, ◌<◌, ◌≤◌, List, [], ◌∷◌, ◌++◌, length}
use Rattle.std.specs.Prelude.{Some, None}
use Rattle.word32.specs.declared.map.TheConstants.{EMIT_STACK, EMIT_STACK_BYTES, SEGMENT_BYTES}
use Rattle.history.specs.Syntax.{Syntax}
use Rattle.mips_model.specs.State.{Code, Data}
use Rattle.mips_model.specs.Run.{first_making}
use Rattle.mips_model.specs.Laws.{HasAt, at, Reaches}
use Rattle.mips_encoder.specs.Addresses.{past}
use Rattle.meaning_state.specs.Shared.{Shared}
use Rattle.meaning_state.specs.Rows.{specification_at}
use Rattle.staged_meaning.specs.Program.{Program, syntax_size}
use Rattle.icode_ir.specs.declared.build_op.BuildOp.{BuildOp}
use Rattle.icode_ir.specs.Build.{Build}
use Rattle.icode_ir.specs.Rules.{fault_of, effect}
use Rattle.icode_templates_proof.specs.Closures.{closure_of}
use Rattle.closures_proof.specs.Relation.{Text, tick_of, IsOf, HasSpecifications}
use Rattle.generator_laws.specs.Calls.{RunsWith, issuing}
use Rattle.tick_lower_spec.specs.declared.piece.Piece.{Piece}
use Rattle.generator_laws.specs.Pieces.{syntax_ops, IsWhole}
use Rattle.routine_spec.specs.Generator.{generator_code, syntax_cost, syntax_depth}

-- the functions of so many ticks stand where the text has them
pub record HasGenerators (text : Text) (pieces : ℕ → List Piece) (ticks : ℕ) (c : Code) : Type 0 where
  pub stands : (tick : ℕ) → tick < ticks → HasAt c (text.generator_at tick) (generator_code (pieces tick))
  pub low : (tick : ℕ) → tick < ticks → past (text.generator_at tick) (generator_code (pieces tick)) < SEGMENT_BYTES

-- the registers that the function may leave changed: $at, $v0, $a0 to $a2 and $t9
abbrev pub IsUntouched : ℕ → Type 0
IsUntouched r = (r ≢ 1) × (r ≢ 2) × (r ≢ 4) × (r ≢ 5) × (r ≢ 6) × (r ≢ 25)

-- all but registers, emit stack, and what services that make code have left
abbrev pub others : Data → Data
others d = record d {
  registers = λ r. 0;
  emit_stack = λ n. 0;
  outside = record d.outside { making = first_making [] };
}

-- what is left as it was: other registers, the emit stack below its top, and all else
pub record Leaves (top : ℕ) (d after : Data) : Type 0 where
  pub registers : (r : ℕ) → IsUntouched r → after.registers r ≡ d.registers r
  pub below : (n : ℕ) → n < top / 4 → after.emit_stack n ≡ d.emit_stack n
  pub rest : others after ≡ others d

-- the function of a specification is entered: $t4, $t7 and $ra, with room on the emit stack for so many entries
pub record Enters (number top depth : ℕ) (d : Data) : Type 0 where
  pub closure : d.registers 12 ≡ closure_of d number
  pub pointer : d.registers 15 ≡ top
  pub from : EMIT_STACK ≤ top
  pub to : top + 8 * depth ≤ EMIT_STACK + EMIT_STACK_BYTES
  pub even : top % 4 ≡ 0

-- it issued these ops, and returned
pub record Generates (ops : List BuildOp) (count top : ℕ) (c : Code) (a : ℕ) (d : Data) : Type 0 where
  pub after : Data
  pub runs : RunsWith (issuing ops) count (at c a 0 d) (at c (d.registers 31) 0 after)
  pub leaves : Leaves top d after

-- The function of a tick, run on a closure that stands for a specification, issues exactly the ops of that
-- specification, in order, and leaves all else as it was.
abbrev pub SpecificationsAreGenerated : Type 0
SpecificationsAreGenerated =
    (text : Text) (pieces : ℕ → List Piece) (ticks : ℕ) (c : Code) (shared : Shared) (syntax : Syntax)
    (number top : ℕ) (d : Data) → HasGenerators text pieces ticks c → HasSpecifications text shared d
    → IsWhole pieces ticks syntax → IsOf syntax (specification_at number shared)
    → Enters number top (syntax_depth pieces syntax) d
    → Generates (syntax_ops pieces syntax) (syntax_cost pieces syntax) top c
    (text.generator_at (tick_of syntax)) d

-- ---- the machine's own run

-- the builder takes these ops, one behind the other
abbrev pub AreTaken : List BuildOp → Build → Type 0
AreTaken [] b = Unit {0}
AreTaken (op ∷ ops) b = (fault_of op b ≡ None) × AreTaken ops (effect op b)

abbrev pub built_of : List BuildOp → Build → Build
built_of [] b = b
built_of (op ∷ ops) b = built_of ops (effect op b)

-- The machine issued these ops to the function that is begun, and returned: they are built, and noted as issued.
pub record Issues (ops : List BuildOp) (count top : ℕ) (c : Code) (a : ℕ) (d : Data) (b : Build) : Type 0 where
  pub after : Data
  pub reaches : Reaches count (at c a 0 d) (at c (d.registers 31) 0 after)
  pub leaves : Leaves top d after
  pub built : after.outside.making.generator.build ≡ Some (built_of ops b)
  pub issued : after.outside.making.issued ≡ record d.outside.making.issued { ops = d.outside.making.issued.ops ++ ops }
  pub counted : after.outside.making.ops ≡ d.outside.making.ops + length ops

-- The machine, at the function of a tick, on a closure that stands for a specification, with a function begun that
-- takes its ops: it issues exactly these, and returns with all else as it was.
abbrev pub SpecificationsAreIssued : Type 0
SpecificationsAreIssued =
    (text : Text) (pieces : ℕ → List Piece) (ticks : ℕ) (c : Code) (shared : Shared) (syntax : Syntax)
    (number top : ℕ) (d : Data) (b : Build) → HasGenerators text pieces ticks c → HasSpecifications text shared d
    → IsWhole pieces ticks syntax → IsOf syntax (specification_at number shared)
    → Enters number top (syntax_depth pieces syntax) d
    → d.outside.making.generator.build ≡ Some b → AreTaken (syntax_ops pieces syntax) b
    → Issues (syntax_ops pieces syntax) (syntax_cost pieces syntax) top c (text.generator_at (tick_of syntax)) d b

-- No more functions are entered at a time than the specification has nodes.
abbrev pub DepthsAreSmall : Type 0
DepthsAreSmall =
    (program : Program) (pieces : ℕ → List Piece) (syntax : Syntax) → IsWhole pieces (length program.ticks) syntax
    → syntax_depth pieces syntax ≤ syntax_size program syntax
