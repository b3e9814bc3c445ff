-- What is known of the rows of specifications in a run of an accepted text. These are this project's own rules.
use Rattle.std.specs.Prelude.{◌≡◌, ℕ, ◌+◌, ◌*◌, ◌<◌, ◌≤◌, true, false, List, [], ◌∷◌, length, slice_get, Some}
use Rattle.limits.specs.declared.program.TheConstants.{MOST_ARGUMENTS, SIZE_LIMIT}
use Rattle.limits.specs.declared.ops.TheConstants.{KEYS}
use Rattle.limits.specs.declared.run.TheConstants.{CLOSURE_HEAD_BYTES}
use Rattle.word32.specs.declared.map.TheConstants.{CLOSURE_BYTES}
use Rattle.history.specs.Syntax.{Syntax}
use Rattle.meaning_state.specs.Bodies.{Body}
use Rattle.meaning_state.specs.Shared.{Shared, Specification, Expression, Statement, Local, Param}
use Rattle.meaning_state.specs.Rows.{keys_of}
use Rattle.typed_tree.specs.Nodes as node
use Rattle.wellformed.specs.Program.{IsProgram}
use Rattle.icode_ir.specs.Sound.{Each}
use Rattle.staged_meaning.specs.Program.{Program, syntax_size}
use Rattle.generator_spec.specs.FittingLaws.{ticks_of}
use Rattle.generated_ops_proof.specs.Answers.{leaves}
use Rattle.generated_ops_proof.specs.Laws.{IsMade}

-- the program as it has a meaning: its functions, main among them, and its ticks
pub record IsMeaning (p : node.Program) (program : Program) : Type 0 where
  pub functions : program.functions ≡ p.functions
  pub ticks : program.ticks ≡ ticks_of p
  pub place : ℕ
  pub main : slice_get p.functions place ≡ Some program.main

-- a specification within the limit of sizes, by the ticks of the program
abbrev pub IsSmall : node.Program → Syntax → Type 0
IsSmall p syntax = (program : Program) → program.ticks ≡ ticks_of p → syntax_size program syntax ≤ SIZE_LIMIT

-- A row: a tick of the program, made with captures of its kinds, which are made so themselves; it is an expression
-- where the tick leaves a value, and else a statement. A parameter has an index that there is.
abbrev pub IsRow : (p : node.Program) → IsProgram p → Specification → Type 0
IsRow p accepted (Expression syntax) =
    IsMade p accepted syntax × (leaves (ticks_of p) syntax ≡ true) × IsSmall p syntax
IsRow p accepted (Statement syntax) =
    IsMade p accepted syntax × (leaves (ticks_of p) syntax ≡ false) × IsSmall p syntax
IsRow p accepted Local = Unit {0}
IsRow p accepted (Param index) = index < MOST_ARGUMENTS

-- the variables that its code names
abbrev pub keys_of_row : Specification → List ℕ
keys_of_row (Expression syntax) = keys_of syntax
keys_of_row (Statement syntax) = keys_of syntax
keys_of_row Local = []
keys_of_row (Param index) = []

-- each variable that the code of a row names is a parameter, or a row before it; so many stand before these
abbrev pub AreEarlier : (before : ℕ) → List Specification → Type 0
AreEarlier before [] = Unit {0}
AreEarlier before (row ∷ rows) =
    Each (λ key. key < MOST_ARGUMENTS + before) (keys_of_row row) × AreEarlier (before + 1) rows

-- what code is made of: a specification of the program's ticks within the limit of sizes, each of whose variables has a
-- key
pub record IsCode (p : node.Program) (accepted : IsProgram p) (syntax : Syntax) : Type 0 where
  pub made : IsMade p accepted syntax
  pub small : IsSmall p syntax
  pub keys : Each (λ key. key < KEYS) (keys_of syntax)

-- all rows are such, they name earlier ones, and there are no more rows than closures have bytes for; and each function
-- that was compiled is of such a specification
pub record AreKnown (p : node.Program) (accepted : IsProgram p) (shared : Shared) : Type 0 where
  pub rows : Each (IsRow p accepted) shared.specifications
  pub keys : AreEarlier 0 shared.specifications
  pub bytes : CLOSURE_HEAD_BYTES * length shared.specifications ≤ shared.closures
  pub within : shared.closures ≤ CLOSURE_BYTES
  pub bodies : Each (λ (b : Body). IsCode p accepted b.syntax) shared.bodies
