-- What is known of the function of a specification of an accepted text's ticks, which is compiled for it. These are
-- this project's own rules.
use Rattle.std.specs.Prelude.{◌≡◌, ℕ, ◌*◌, ◌≤◌, Bool, length, None}
use Rattle.history.specs.Syntax.{Syntax}
use Rattle.icode_ir.specs.Sound.{Each}
use Rattle.limits.specs.declared.program.TheConstants.{SIZE_LIMIT}
use Rattle.meaning_state.specs.Shared.{Shared}
use Rattle.meaning_state.specs.Rows.{specification_at}
use Rattle.mips_model.specs.State.{Making}
use Rattle.typed_tree.specs.Nodes as node
use Rattle.wellformed.specs.Program.{IsProgram}
use Rattle.staged_meaning.specs.Program.{Program, syntax_size}
use Rattle.tick_lower_spec.specs.Lower.{Addresses}
use Rattle.routine_spec.specs.Generator.{syntax_cost}
use Rattle.generator_laws.specs.Pieces.{IsWhole}
use Rattle.compile_routine.specs.Laws.{IsTickOf}
use Rattle.compile_routine.specs.Made.{function_built, builder_of, FitsServices}
use Rattle.generator_spec.specs.Kinds.{HasWords, AreAddresses}
use Rattle.generator_spec.specs.FittingLaws.{ticks_of, program_pieces}
use Rattle.generated_ops_proof.specs.Answers.{leaves}
use Rattle.generated_ops_proof.specs.Laws.{SetsKeys}
use Rattle.known_closures_proof.specs.Known.{IsCode, AreKnown}

-- A specification is within the limit of sizes, and the functions of its ticks take an instruction for each node at
-- least and 105 at most. The services take its function, where none is begun, and its prelude sets the variables that
-- the specification names.
pub record HasFunction (p : node.Program) (addresses : Addresses) (program : Program) (value : Bool) (syntax : Syntax) :
    Type 0 where
  pub small : syntax_size program syntax ≤ SIZE_LIMIT
  pub least : syntax_size program syntax ≤ syntax_cost (program_pieces addresses p) syntax
  pub most : syntax_cost (program_pieces addresses p) syntax ≤ 105 * syntax_size program syntax
  pub fits : (m : Making) → m.generator.build ≡ None
      → FitsServices (function_built (program_pieces addresses p) value syntax) (syntax_size program syntax) m
  pub keys : SetsKeys syntax (builder_of (function_built (program_pieces addresses p) value syntax))

-- What code is made of has such a function, which returns a value where the specification leaves one.
abbrev pub CodeHasFunctions : Type 0
CodeHasFunctions =
    (p : node.Program) (accepted : IsProgram p) (addresses : Addresses) (program : Program) (syntax : Syntax)
    → program.ticks ≡ ticks_of p → IsCode p accepted syntax
    → HasFunction p addresses program (leaves (ticks_of p) syntax) syntax

-- The pieces of its ticks are whole.
abbrev pub CodeIsWhole : Type 0
CodeIsWhole =
    (p : node.Program) (accepted : IsProgram p) (addresses : Addresses) (syntax : Syntax) → AreAddresses addresses
    → ((n : ℕ) → Each HasWords (program_pieces addresses p n)) → IsCode p accepted syntax
    → IsWhole (program_pieces addresses p) (length p.ticks) syntax

-- The specification of a row is one that code is made of, and leaves a value where its row is of an expression.
abbrev pub KnownRowsAreCode : Type 0
KnownRowsAreCode =
    (p : node.Program) (accepted : IsProgram p) (shared : Shared) (value : Bool) (syntax : Syntax) (number : ℕ)
    → AreKnown p accepted shared → IsTickOf value syntax (specification_at number shared)
    → IsCode p accepted syntax × (leaves (ticks_of p) syntax ≡ value)
