-- What is proved of the builder and the ops of specifications.
use Rattle.std.specs.Prelude.{◌≡◌, ℕ, ◌+◌, ◌*◌, ◌<◌, ◌≤◌, Bool, true, false, List, ◌++◌, length, Some, None}
use Rattle.limits.specs.declared.ops.TheConstants.{KEYS}
use Rattle.limits.specs.declared.program.TheConstants.{MOST_ARGUMENTS, SIZE_LIMIT}
use Rattle.history.specs.Syntax.{Syntax}
use Rattle.mips_model.specs.State.{Code, Data}
use Rattle.word32.specs.declared.map.TheConstants.{ARENA_WORDS}
use Rattle.meaning_state.specs.Shared.{Shared}
use Rattle.limits.specs.declared.run.TheConstants.{STACK_OF_A_CALL}
use Rattle.meaning_state.specs.Rows.{specification_at, parameters_of, keys_of, locals_of, is_among}
use Rattle.meaning_state.specs.Rows.{arena_words, arena_trap}
use Rattle.typed_tree.specs.Nodes as node
use Rattle.wellformed.specs.Program.{IsProgram}
use Rattle.icode_ir.specs.Sound.{Each}
use Rattle.icode_ir.specs.declared.build_op.BuildOp.{BuildOp}
use Rattle.icode_ir.specs.Build.{Build, empty, stands}
use Rattle.staged_meaning.specs.Program.{Program, syntax_size}
use Rattle.tick_lower_spec.specs.Lower.{Addresses}
use Rattle.tick_lower_spec.specs.Specifications.{specification_ops}
use Rattle.closures_proof.specs.Relation.{Text, tick_of, IsOf, HasSpecifications}
use Rattle.routine_spec.specs.Generator.{syntax_cost, syntax_depth}
use Rattle.generator_laws.specs.Laws.{HasGenerators, Enters, AreTaken, built_of, Issues}
use Rattle.generator_spec.specs.Kinds.{HasTicks, HasWords, AreAddresses}
use Rattle.generator_spec.specs.FittingLaws.{ticks_of, program_pieces}
use Rattle.generated_ops_proof.specs.Room.{HasRoom, more_ops, more_operands, more_bodies, more_variables, more_labels}
use Rattle.generated_ops_proof.specs.Room.{more_registers, in_all}
use Rattle.mips_model.specs.Choices.{Choice}
use Rattle.mips_model.specs.CodeServices.{finish_refusal, words_of}
use Rattle.compile_routine.specs.Places.{place_address}
use Rattle.compile_routine.specs.Laws.{return_ops, arena_address, frame_bytes}
use Rattle.generated_ops_proof.specs.Answers.{leaves, HasAnswers}
use Rattle.generated_ops_proof.specs.Keys.{upto, zeroes, unmentioned, HasKey}
pub use Rattle.generated_ops_proof.specs.Keys.{SetsKeys}

-- each label that stands is one of a body that was entered
abbrev pub OwnsLabels : Build → Type 0
OwnsLabels b = (z : ℕ) → b.labels ≤ z → stands z b.ops ≡ false

-- a specification of the ticks of a program: each of them has captures of its kinds, and what is spliced in leaves a
-- value where its kind says so
pub record IsMade (p : node.Program) (accepted : IsProgram p) (syntax : Syntax) : Type 0 where
  pub ticks : HasTicks accepted.captures syntax
  pub answers : HasAnswers (ticks_of p) accepted.captures syntax

-- the function of a builder has the parameters that the specification names, and each variable that it names has a key
pub record IsNamed (syntax : Syntax) (b : Build) : Type 0 where
  pub parameters : parameters_of syntax ≤ b.parameters
  pub keys : Each (λ key. key < KEYS) (keys_of syntax)

-- whether there is a value
abbrev pub values : Bool → ℕ
values true = 1
values false = 0

-- a builder takes the ops; then it has an operand more where they leave a value, and the bodies that it had
pub record IsTaken (value : Bool) (ops : List BuildOp) (b : Build) : Type 0 where
  pub taken : AreTaken ops b
  pub operands : length (built_of ops b).operands ≡ length b.operands + values value
  pub bodies : (built_of ops b).bodies ≡ b.bodies

-- the ops of a specification of so many nodes add at most twelve of each a node, registers too; of ops two less, for
-- the return of a value and that at the end, and of registers seven less, for the parameters that no op mentions where
-- one is mentioned
pub record IsFew (nodes : ℕ) (os : List BuildOp) : Type 0 where
  pub ops : in_all more_ops os + 2 ≤ 12 * nodes
  pub operands : in_all more_operands os ≤ 12 * nodes
  pub bodies : in_all more_bodies os ≤ 12 * nodes
  pub variables : in_all more_variables os ≤ 12 * nodes
  pub labels : in_all more_labels os ≤ 12 * nodes
  pub registers : in_all more_registers os + 7 ≤ 12 * nodes

-- A builder with room for the ops of a specification of an accepted text's ticks takes them all, one after the other.
abbrev pub SpecificationsAreTaken : Type 0
SpecificationsAreTaken =
    (p : node.Program) (accepted : IsProgram p) (addresses : Addresses) (syntax : Syntax) (b : Build)
    → let ops = specification_ops addresses (ticks_of p) syntax in
    IsMade p accepted syntax → IsNamed syntax b → OwnsLabels b → HasRoom ops b
    → IsTaken (leaves (ticks_of p) syntax) ops b

-- So the machine, at the function of a tick, on a closure that stands for such a specification, while a function is
-- begun whose builder has room for its ops, issues exactly these, and returns with all else as it was.
abbrev pub SpecificationsWithRoomAreIssued : Type 0
SpecificationsWithRoomAreIssued =
    (p : node.Program) (accepted : IsProgram p) (addresses : Addresses) (text : Text) (c : Code) (shared : Shared)
    (syntax : Syntax) (number top : ℕ) (d : Data) (b : Build)
    → let pieces = program_pieces addresses p in
    let ops = specification_ops addresses (ticks_of p) syntax in
    AreAddresses addresses → ((n : ℕ) → Each HasWords (pieces n)) → IsMade p accepted syntax
    → HasGenerators text pieces (length p.ticks) c → HasSpecifications text shared d
    → IsOf syntax (specification_at number shared) → Enters number top (syntax_depth pieces syntax) d
    → d.outside.making.generator.build ≡ Some b → IsNamed syntax b → OwnsLabels b → HasRoom ops b
    → Issues ops (syntax_cost pieces syntax) top c (text.generator_at (tick_of syntax)) d b

-- The ops of a specification are so few.
abbrev pub SpecificationsAreFew : Type 0
SpecificationsAreFew =
    (p : node.Program) (accepted : IsProgram p) (addresses : Addresses) (program : Program)
    (syntax : Syntax) → program.ticks ≡ ticks_of p → HasTicks accepted.captures syntax
    → IsFew (syntax_size program syntax) (specification_ops addresses (ticks_of p) syntax)

-- So a builder that is begun with at least the parameters of a specification takes its ops, and the return of its
-- value,
-- whenever the specification is within the limit of sizes; then it has no operand and no body left.
abbrev pub BegunBuildersTakeAll : Type 0
BegunBuildersTakeAll =
    (p : node.Program) (accepted : IsProgram p) (addresses : Addresses) (program : Program)
    (syntax : Syntax) (parameters : ℕ)
    → let value = leaves (ticks_of p) syntax in
    let ops = specification_ops addresses (ticks_of p) syntax ++ return_ops value in
    let b = empty parameters in
    program.ticks ≡ ticks_of p → IsMade p accepted syntax → IsNamed syntax b → syntax_size program syntax ≤ SIZE_LIMIT
    → IsTaken false ops b

-- And the function of its tick issues its ops to such a builder, whichever specification of a run it is called for.
abbrev pub SpecificationsAreIssuedToBegun : Type 0
SpecificationsAreIssuedToBegun =
    (p : node.Program) (accepted : IsProgram p) (addresses : Addresses) (text : Text) (c : Code)
    (shared : Shared) (syntax : Syntax) (number top parameters : ℕ) (d : Data)
    → let pieces = program_pieces addresses p in
    let ops = specification_ops addresses (ticks_of p) syntax in
    let b = empty parameters in
    AreAddresses addresses → ((n : ℕ) → Each HasWords (pieces n)) → text.program.ticks ≡ ticks_of p
    → IsMade p accepted syntax → HasGenerators text pieces (length p.ticks) c → HasSpecifications text shared d
    → IsOf syntax (specification_at number shared) → Enters number top (syntax_depth pieces syntax) d
    → d.outside.making.generator.build ≡ Some b → IsNamed syntax b
    → Issues ops (syntax_cost pieces syntax) top c (text.generator_at (tick_of syntax)) d b

-- What comes of them can be finished: the service isn't refused, with the words and the frame that are charged for a
-- specification of this size, at any place from which the arena has so many words.
abbrev pub BuildersAreFinished : Type 0
BuildersAreFinished =
    (p : node.Program) (accepted : IsProgram p) (addresses : Addresses) (program : Program)
    (syntax : Syntax) (parameters place : ℕ)
    → let value = leaves (ticks_of p) syntax in
    let size = syntax_size program syntax in
    let ops = specification_ops addresses (ticks_of p) syntax ++ return_ops value in
    let b = empty parameters in
    program.ticks ≡ ticks_of p → IsMade p accepted syntax → IsNamed syntax b → size ≤ SIZE_LIMIT
    → place + arena_words size ≤ ARENA_WORDS
    → finish_refusal (built_of ops b) (place_address place) (arena_words size) (frame_bytes size) ≡ None

-- And its words are no more than are charged, whichever places its registers have.
abbrev pub WordsAreWithin : Type 0
WordsAreWithin =
    (p : node.Program) (accepted : IsProgram p) (addresses : Addresses) (program : Program)
    (syntax : Syntax) (parameters : ℕ) (choice : Choice) (address frame : ℕ)
    → let value = leaves (ticks_of p) syntax in
    let size = syntax_size program syntax in
    let ops = specification_ops addresses (ticks_of p) syntax ++ return_ops value in
    let b = empty parameters in
    program.ticks ≡ ticks_of p → IsMade p accepted syntax → IsNamed syntax b → size ≤ SIZE_LIMIT
    → length (words_of (built_of ops b) choice address frame) ≤ arena_words size

-- The functions of a specification's ticks take an instruction for each node at least, and 105 for each at most: a
-- compile pays each of its units.
abbrev pub SpecificationsAreDear : Type 0
SpecificationsAreDear =
    (p : node.Program) (accepted : IsProgram p) (addresses : Addresses) (program : Program) (syntax : Syntax)
    → let size = syntax_size program syntax in
    let cost = syntax_cost (program_pieces addresses p) syntax in
    program.ticks ≡ ticks_of p → HasTicks accepted.captures syntax → (size ≤ cost) × (cost ≤ 105 * size)

-- What a builder has of a function of so many parameters and nodes is little enough that the function can be made in
-- one pass within its charge: its ops and its variables together, one less where there are parameters, and its
-- registers with those of the parameters that no op mentions.
pub record IsFewInOnePass (parameters nodes : ℕ) (b : Build) : Type 0 where
  pub ops : length b.ops + length (zeroes b.prelude) + 1 ≤ 12 * nodes
  pub named : 1 ≤ parameters → length b.ops + length (zeroes b.prelude) + 2 ≤ 12 * nodes
  pub registers : b.registers + length (unmentioned b.keys (upto 0 parameters)) ≤ 12 * nodes
  -- the words of such a function, by the law on these, and its frame
  pub words :
      31 + 7 * parameters + 16 * length b.ops + 5 * length (zeroes b.prelude) ≤ arena_words nodes
  pub frame :
      STACK_OF_A_CALL + 4 * (b.registers + length (unmentioned b.keys (upto 0 parameters))) ≤ frame_bytes nodes

abbrev pub OnePassIsFew : Type 0
OnePassIsFew =
    (p : node.Program) (accepted : IsProgram p) (addresses : Addresses) (program : Program) (syntax : Syntax)
    → let value = leaves (ticks_of p) syntax in
    let ops = specification_ops addresses (ticks_of p) syntax ++ return_ops value in
    let parameters = parameters_of syntax in
    let b = empty parameters in
    program.ticks ≡ ticks_of p → IsMade p accepted syntax → IsNamed syntax b → syntax_size program syntax ≤ SIZE_LIMIT
    → IsFewInOnePass parameters (syntax_size program syntax) (built_of ops b)

-- Each variable that a specification names is mentioned to the builder that takes its ops.
abbrev pub KeysAreMentioned : Type 0
KeysAreMentioned =
    (p : node.Program) (accepted : IsProgram p) (addresses : Addresses) (syntax : Syntax) (b : Build) (key : ℕ)
    → HasTicks accepted.captures syntax → is_among key (keys_of syntax) ≡ true
    → HasKey key (built_of (specification_ops addresses (ticks_of p) syntax) b).keys

-- What a builder has mentioned is what a specification names, each once, and its prelude sets the variables among it.
abbrev pub PreludesSetKeys : Type 0
PreludesSetKeys =
    (p : node.Program) (accepted : IsProgram p) (addresses : Addresses) (syntax : Syntax) (parameters : ℕ)
    (value : Bool)
    → HasTicks accepted.captures syntax
    → SetsKeys syntax
    (built_of (specification_ops addresses (ticks_of p) syntax ++ return_ops value) (empty parameters))
