-- What is proved of the rows of specifications in runs of accepted texts.
use Rattle.std.specs.Prelude.{◌≡◌, ℕ, ◌+◌, ◌*◌, ◌<◌, ◌≤◌, Bool, true, false, List, ◌++◌, length, Some, None}
use Rattle.history.specs.Events.{Input}
use Rattle.history.specs.Syntax.{Syntax}
use Rattle.limits.specs.declared.program.TheConstants.{SIZE_LIMIT}
use Rattle.mips_model.specs.State.{Code, Data, Outside}
use Rattle.word32.specs.declared.map.TheConstants.{ARENA_WORDS}
use Rattle.meaning_state.specs.Shared.{Shared}
use Rattle.meaning_state.specs.Rows.{specification_at, parameters_of, arena_words, table_trap}
use Rattle.typed_tree.specs.Nodes as node
use Rattle.typed_tree.specs.declared.program.TypedParts.{TypedParts}
use Rattle.typed_tree.specs.View.{program_view}
use Rattle.wellformed.specs.Places.{Around}
use Rattle.wellformed.specs.Program.{IsProgram, IsWellFormed}
use Rattle.wf_ready.proofs.Scoped.{part, act}
use Rattle.icode_ir.specs.Sound.{Each}
use Rattle.icode_ir.specs.Build.{empty}
use Rattle.staged_meaning.specs.Source as source
use Rattle.staged_meaning.specs.Program.{Program, syntax_size}
use Rattle.staged_meaning.specs.Expressions.{Context, eval}
use Rattle.staged_meaning.specs.Statements.{exec}
use Rattle.staged_meaning.specs.Meaning.{call_at, run_program}
use Rattle.staged_meaning.specs.World.{World, Result, Gives, Returns, Ends, Stops}
use Rattle.tick_lower_spec.specs.Lower.{Addresses}
use Rattle.tick_lower_spec.specs.Specifications.{specification_ops}
use Rattle.closures_proof.specs.Relation.{Text, tick_of, IsOf, HasSpecifications}
use Rattle.routine_spec.specs.Generator.{syntax_cost, syntax_depth}
use Rattle.generator_laws.specs.Laws.{HasGenerators, Enters, built_of, Issues}
use Rattle.mips_model.specs.Choices.{Choice}
use Rattle.mips_model.specs.CodeServices.{finish_refusal, words_of}
use Rattle.compile_routine.specs.Places.{place_address}
use Rattle.compile_routine.specs.Laws.{IsTickOf, return_ops, frame_bytes, compile_calls}
use Rattle.generator_laws.specs.Pieces.{syntax_ops}
use Rattle.generator_laws.specs.Served.{AreObeyed}
use Rattle.mips_model.specs.Services.{next_choice}
use Rattle.generator_spec.specs.Kinds.{HasWords, AreAddresses}
use Rattle.generator_spec.specs.FittingLaws.{ticks_of, program_pieces}
use Rattle.generated_ops_proof.specs.Laws.{IsMade, IsNamed, IsTaken, IsFewInOnePass, SetsKeys}
use Rattle.known_closures_proof.specs.Known.{IsMeaning, AreKnown}

-- the program of a text, as it has a meaning
abbrev pub ProgramsAreMeant : Type 0
ProgramsAreMeant =
    (parts : TypedParts) (program : Program) → source.program_view parts ≡ Some program
    → IsMeaning (program_view parts) program

-- what outlives calls, behind a thing
abbrev pub state_of : {A : Type 0} → Result A → Shared
state_of (Gives a w) = w.shared
state_of (Returns v w) = w.shared
state_of (Ends e shared) = shared
state_of (Stops shared) = shared

-- what stands round an evaluation is of the program, and its calls and splices keep the rows known
pub record IsRound (p : node.Program) (accepted : IsProgram p) (program : Program) (c : Context) : Type 0 where
  pub same : c.program ≡ program
  pub call :
      (f : ℕ) (vs : List ℕ) (w : World) → AreKnown p accepted w.shared → AreKnown p accepted (state_of (c.call f vs w))
  pub splice : (i : ℕ) (w : World) → AreKnown p accepted w.shared → AreKnown p accepted (state_of (c.splice i w))

-- The evaluation of an expression that stands right in a function or a tick keeps the rows known, at each step: the
-- state is this behind however many units.
abbrev pub EvaluationsKeepRows : Type 0
EvaluationsKeepRows =
    (p : node.Program) (accepted : IsProgram p) (program : Program) → IsMeaning p program → (a : Around) (c : Context)
    (e : node.Expr) (w : World) → a.ticks ≡ accepted.captures → IsRound p accepted program c
    → (part e).stands a ≡ true → AreKnown p accepted w.shared → AreKnown p accepted (state_of (eval c e w))

-- And so does what a statement does.
abbrev pub ExecutionsKeepRows : Type 0
ExecutionsKeepRows =
    (p : node.Program) (accepted : IsProgram p) (program : Program) → IsMeaning p program → (a : Around) (c : Context)
    (s : node.Stmt) (w : World) → a.ticks ≡ accepted.captures → IsRound p accepted program c
    → (act s).stands a ≡ true → AreKnown p accepted w.shared → AreKnown p accepted (state_of (exec c s w))

-- And so do calls by numbers, of functions of the text and of those that were compiled.
abbrev pub CallsKeepRows : Type 0
CallsKeepRows =
    (p : node.Program) (accepted : IsProgram p) (program : Program) → IsMeaning p program → (turns d number : ℕ)
    (vs : List ℕ) (w : World) → AreKnown p accepted w.shared
    → AreKnown p accepted (state_of (call_at program turns d number vs w))

-- The rows of specifications of a run of an accepted text are known, after every number of units.
abbrev pub RowsAreKnown : Type 0
RowsAreKnown =
    (p : node.Program) (accepted : IsProgram p) (program : Program) → IsMeaning p program → (input : Input) (units : ℕ)
    → AreKnown p accepted (state_of (run_program program input units))

-- A specification of known rows is made of the program's ticks, and each variable that it names has a key.
pub record IsKnownRow (p : node.Program) (accepted : IsProgram p) (syntax : Syntax) (b : ℕ) : Type 0 where
  pub made : IsMade p accepted syntax
  pub named : parameters_of syntax ≤ b → IsNamed syntax (empty b)

abbrev pub KnownRowsAreMade : Type 0
KnownRowsAreMade =
    (p : node.Program) (accepted : IsProgram p) (shared : Shared) (syntax : Syntax) (number parameters : ℕ)
    → AreKnown p accepted shared → IsOf syntax (specification_at number shared)
    → IsKnownRow p accepted syntax parameters

-- So a builder that is begun with at least its parameters takes the ops of each specification of a run, with the return
-- of its value, and the function of its tick issues them to it.
abbrev pub KnownSpecificationsAreTaken : Type 0
KnownSpecificationsAreTaken =
    (p : node.Program) (accepted : IsProgram p) (addresses : Addresses) (text : Text) (shared : Shared)
    (value : Bool) (syntax : Syntax) (number parameters : ℕ) (d : Data)
    → let ops = specification_ops addresses (ticks_of p) syntax ++ return_ops value in
    text.program.ticks ≡ ticks_of p → AreKnown p accepted shared → HasSpecifications text shared d
    → IsTickOf value syntax (specification_at number shared) → parameters_of syntax ≤ parameters
    → IsTaken false ops (empty parameters)

abbrev pub KnownSpecificationsAreIssued : Type 0
KnownSpecificationsAreIssued =
    (p : node.Program) (accepted : IsProgram p) (addresses : Addresses) (text : Text) (c : Code)
    (shared : Shared) (syntax : Syntax) (number top parameters : ℕ) (d : Data)
    → let pieces = program_pieces addresses p in
    let ops = specification_ops addresses (ticks_of p) syntax in
    let b = empty parameters in
    AreAddresses addresses → ((n : ℕ) → Each HasWords (pieces n)) → text.program.ticks ≡ ticks_of p
    → AreKnown p accepted shared → HasGenerators text pieces (length p.ticks) c → HasSpecifications text shared d
    → IsOf syntax (specification_at number shared) → Enters number top (syntax_depth pieces syntax) d
    → d.outside.making.generator.build ≡ Some b → parameters_of syntax ≤ parameters
    → Issues ops (syntax_cost pieces syntax) top c (text.generator_at (tick_of syntax)) d b

-- And what comes of them is finished, with the words and the frame that are charged.
abbrev pub KnownFunctionsAreFinished : Type 0
KnownFunctionsAreFinished =
    (p : node.Program) (accepted : IsProgram p) (addresses : Addresses) (text : Text) (shared : Shared)
    (value : Bool) (syntax : Syntax) (number parameters place : ℕ) (d : Data)
    → let ops = specification_ops addresses (ticks_of p) syntax ++ return_ops value in
    let size = syntax_size text.program syntax in
    text.program.ticks ≡ ticks_of p → AreKnown p accepted shared → HasSpecifications text shared d
    → IsTickOf value syntax (specification_at number shared) → parameters_of syntax ≤ parameters
    → place + arena_words size ≤ ARENA_WORDS
    → finish_refusal (built_of ops (empty parameters)) (place_address place) (arena_words size) (frame_bytes size)
    ≡ None

-- And its words are no more than are charged.
abbrev pub KnownWordsAreWithin : Type 0
KnownWordsAreWithin =
    (p : node.Program) (accepted : IsProgram p) (addresses : Addresses) (text : Text) (shared : Shared)
    (value : Bool) (syntax : Syntax) (number parameters : ℕ) (d : Data) (choice : Choice) (address frame : ℕ)
    → let ops = specification_ops addresses (ticks_of p) syntax ++ return_ops value in
    text.program.ticks ≡ ticks_of p → AreKnown p accepted shared → HasSpecifications text shared d
    → IsTickOf value syntax (specification_at number shared) → parameters_of syntax ≤ parameters
    → length (words_of (built_of ops (empty parameters)) choice address frame)
    ≤ arena_words (syntax_size text.program syntax)

-- So the services obey each call of a compile, in their order, where no function is begun: of a specification of a run,
-- at any place from which the arena has its charge, and with a row left for its number.
abbrev pub CompilesAreObeyed : Type 0
CompilesAreObeyed =
    (p : node.Program) (accepted : IsProgram p) (addresses : Addresses) (text : Text) (shared : Shared)
    (value : Bool) (syntax : Syntax) (number function place : ℕ) (d : Data) (o : Outside)
    → let ops = syntax_ops (program_pieces addresses p) syntax ++ return_ops value in
    let size = syntax_size text.program syntax in
    let parameters = parameters_of syntax in
    let address = place_address place in
    let words = words_of (built_of ops (empty parameters)) (next_choice o.making.row) address (frame_bytes size) in
    text.program.ticks ≡ ticks_of p → AreKnown p accepted shared → HasSpecifications text shared d
    → IsTickOf value syntax (specification_at number shared) → place + arena_words size ≤ ARENA_WORDS → 0 < function
    → table_trap function ≡ None → o.making.generator.build ≡ None
    → AreObeyed (compile_calls function address parameters size ops words) o

-- The functions of the ticks of a specification of a run take an instruction for each node at least, and 105 for each
-- at most.
abbrev pub KnownSpecificationsAreDear : Type 0
KnownSpecificationsAreDear =
    (p : node.Program) (accepted : IsProgram p) (addresses : Addresses) (program : Program) (shared : Shared)
    (syntax : Syntax) (number : ℕ)
    → let size = syntax_size program syntax in
    let cost = syntax_cost (program_pieces addresses p) syntax in
    program.ticks ≡ ticks_of p → AreKnown p accepted shared → IsOf syntax (specification_at number shared)
    → (size ≤ cost) × (cost ≤ 105 * size)

-- A specification of a run is within the limit of sizes.
abbrev pub KnownRowsAreSmall : Type 0
KnownRowsAreSmall =
    (p : node.Program) (accepted : IsProgram p) (program : Program) (shared : Shared) (syntax : Syntax) (number : ℕ)
    → program.ticks ≡ ticks_of p → AreKnown p accepted shared → IsOf syntax (specification_at number shared)
    → syntax_size program syntax ≤ SIZE_LIMIT

-- What a builder has of a specification of a run is little enough that its function can be made in one pass.
abbrev pub KnownOnePassIsFew : Type 0
KnownOnePassIsFew =
    (p : node.Program) (accepted : IsProgram p) (addresses : Addresses) (program : Program) (shared : Shared)
    (value : Bool) (syntax : Syntax) (number : ℕ)
    → let ops = specification_ops addresses (ticks_of p) syntax ++ return_ops value in
    let parameters = parameters_of syntax in
    let size = syntax_size program syntax in
    program.ticks ≡ ticks_of p → AreKnown p accepted shared → IsTickOf value syntax (specification_at number shared)
    → IsFewInOnePass parameters size (built_of ops (empty parameters))

-- And its prelude sets the variables that the specification names.
abbrev pub KnownPreludesSetKeys : Type 0
KnownPreludesSetKeys =
    (p : node.Program) (accepted : IsProgram p) (addresses : Addresses) (shared : Shared) (value : Bool)
    (syntax : Syntax) (number parameters : ℕ)
    → let ops = specification_ops addresses (ticks_of p) syntax ++ return_ops value in
    AreKnown p accepted shared → IsOf syntax (specification_at number shared)
    → SetsKeys syntax (built_of ops (empty parameters))

-- So it is in each run of an accepted text, after every number of units, with no premise but that it is accepted.
abbrev pub RunsAreDear : Type 0
RunsAreDear =
    (parts : TypedParts) (accepted : IsWellFormed parts) (program : Program) (addresses : Addresses) (input : Input)
    (units : ℕ) (syntax : Syntax) (number : ℕ)
    → let size = syntax_size program syntax in
    let cost = syntax_cost (program_pieces addresses (program_view parts)) syntax in
    source.program_view parts ≡ Some program
    → IsOf syntax (specification_at number (state_of (run_program program input units)))
    → (size ≤ cost) × (cost ≤ 105 * size)
