-- A builder that is begun has room for each specification within the limit of sizes.
use Rattle.std.proofs.Common.{◌≡◌, ℕ, zero, suc, ◌+◌, ◌*◌, ◌%◌, ◌≤◌, ◌&&◌, Bool, true, false, List, [], ◌∷◌, ◌++◌}
use Rattle.std.proofs.Common.{length}
use Rattle.std.proofs.Common.{nat_eq, nat_le, nat_lt, if◌then◌else◌}
use Rattle.std.proofs.lemmas.Bool.Decides.{nat_tests}
use Rattle.std.proofs.Common.{Option, Some, None, slice_get, refl, sym, ap, ◌∙◌, subst, arith}
use Rattle.limits.specs.declared.program.TheConstants.{SIZE_LIMIT}
use Rattle.history.specs.Syntax.{Syntax}
use Rattle.meaning_state.specs.Shared.{Shared, Specification, Expression, Statement, Local, Param}
use Rattle.meaning_state.specs.Rows.{numbered, specification_at, arena_words, arena_trap}
use Rattle.icode_ir.specs.declared.build_op.BuildOp.{BuildOp}
use Rattle.icode_ir.specs.declared.build_op.BuildOp.TheVariants.{Return}
use Rattle.icode_ir.specs.Build.{Build, empty, finished, innermost, operand}
use Rattle.icode_ops.specs.declared.op.Op.TheVariants as op
use Rattle.icode_templates.specs.Expansion.{expansion}
use Rattle.icode_expand.proofs.Lengths.{length_words}
use Rattle.icode_expand.proofs.Most.{words_most}
use Rattle.std.proofs.lemmas.List.{length-append}
use Rattle.typed_tree.specs.Nodes as node
use Rattle.wellformed.specs.Program.{IsProgram}
use Rattle.staged_meaning.specs.Program.{Program, syntax_size}
use Rattle.tick_lower_spec.specs.Lower.{Addresses}
use Rattle.tick_lower_spec.specs.Specifications.{specification_ops}
use Rattle.icode_templates_proof.specs.Closures.{Closure}
use Rattle.closures_proof.specs.Relation.{Text, IsOf, AllStandFor}
use Rattle.generator_laws.specs.Laws.{AreTaken, built_of}
use Rattle.generator_laws.specs.Pieces.{syntax_ops}
use Rattle.host_edge.specs.declared.ending.TrapKind.{TrapKind}
use Rattle.host_edge.specs.declared.ending.TrapKind.TheVariants.{ArenaLimit}
use Rattle.word32.specs.declared.map.TheConstants.{ARENA, ARENA_BYTES, ARENA_WORDS, STACK_BYTES}
use Rattle.limits.specs.declared.run.TheConstants.{STACK_OF_A_CALL}
use Rattle.mips_model.specs.CodeServices.{finish_refusal, is_arena_range, is_empty, is_done, is_frame}
use Rattle.compile_routine.specs.Places.{place_address}
use Rattle.compile_routine.specs.Laws.{return_ops, arena_address, frame_bytes}
use Rattle.tick_captures_proof.proofs.Once.{splices_once}
use Rattle.generator_spec.proofs.Lowered.{lowered}
use Rattle.generator_spec.specs.FittingLaws.{ticks_of, program_pieces}
use Rattle.generator_spec.specs.Kinds.{HasTicks}
use Rattle.generated_ops_proof.specs.Room.{HasRoom, more_ops, more_operands, more_bodies, more_variables, more_labels}
use Rattle.generated_ops_proof.specs.Room.{more_registers}
use Rattle.generated_ops_proof.specs.Room.{in_all}
use Rattle.generated_ops_proof.specs.Answers.{leaves}
use Rattle.generated_ops_proof.specs.Laws.{IsMade, IsNamed, OwnsLabels, IsFew, values, SpecificationsAreFew}
use Rattle.generated_ops_proof.specs.Laws.{BegunBuildersTakeAll, SpecificationsAreIssuedToBegun, BuildersAreFinished}
use Rattle.generated_ops_proof.specs.Laws.{WordsAreWithin}
use Rattle.generated_ops_proof.proofs.Steps.{Above, less, step}
use Rattle.generated_ops_proof.proofs.Rooms.{in_both, room_front, room_behind}
use Rattle.generated_ops_proof.proofs.Goes.{rise}
use Rattle.generated_ops_proof.proofs.Runs.{taken_both, built_both}
use Rattle.generated_ops_proof.proofs.Registers.{registers_grow}
use Rattle.generated_ops_proof.proofs.Sizes.{syntax_few}
use Rattle.generated_ops_proof.proofs.Taken.{lowering_built, with_room_issued}

pub specifications_few : SpecificationsAreFew
specifications_few p accepted addresses program syntax ticks known =
    let same : syntax_ops (program_pieces addresses p) syntax ≡ specification_ops addresses (ticks_of p) syntax =
    lowered addresses (ticks_of p) syntax in
    subst (λ ops. IsFew (syntax_size program syntax) ops) same
    (syntax_few p accepted addresses (splices_once p accepted) program ticks syntax known)

-- no label stands in a builder that is begun
pub owns : (parameters : ℕ) → OwnsLabels (empty parameters)
owns parameters z high = refl

-- a return adds one op
returned : (v : Bool) → in_all more_ops (return_ops v) ≤ 1
returned true = omega arith
returned false = omega arith

no_operand : (v : Bool) → in_all more_operands (return_ops v) ≡ 0
no_operand true = omega arith
no_operand false = refl

no_body : (v : Bool) → in_all more_bodies (return_ops v) ≡ 0
no_body true = omega arith
no_body false = refl

no_variable : (v : Bool) → in_all more_variables (return_ops v) ≡ 0
no_variable true = omega arith
no_variable false = refl

no_label : (v : Bool) → in_all more_labels (return_ops v) ≡ 0
no_label true = omega arith
no_label false = refl

pub begun_room : (parameters nodes : ℕ) (ops : List BuildOp) (v : Bool) → IsFew nodes ops → nodes ≤ SIZE_LIMIT
    → HasRoom (ops ++ return_ops v) (empty parameters)
begun_room parameters nodes ops v f small = record {
  ops = omega (arith, in_both more_ops ops (return_ops v), returned v, f.ops, small);
  operands = omega (arith, in_both more_operands ops (return_ops v), no_operand v, f.operands, small);
  bodies = omega (arith, in_both more_bodies ops (return_ops v), no_body v, f.bodies, small);
  variables = omega (arith, in_both more_variables ops (return_ops v), no_variable v, f.variables, small);
  labels = omega (arith, in_both more_labels ops (return_ops v), no_label v, f.labels, small);
}

-- the value is returned
return_taken : (v : Bool) (b : Build) → length b.operands ≡ values v → HasRoom (return_ops v) b
    → AreTaken (return_ops v) b × (length (built_of (return_ops v) b).operands ≡ 0)
    × ((built_of (return_ops v) b).bodies ≡ b.bodies)
return_taken true b one room =
    let s = step b.parameters (innermost b).variables (innermost b).labels b refl refl refl [] Return
    (subst (λ z. Above 1 z) (sym one) tt) tt room in
    ((s.fault, tt), s.height ∙ ap less one, s.bodies)
return_taken false b none room = (tt, none, refl)

pub begun_take_all : BegunBuildersTakeAll
begun_take_all p accepted addresses program syntax parameters ticks is named small =
    let v : Bool = leaves (ticks_of p) syntax in
    let ops : List BuildOp = specification_ops addresses (ticks_of p) syntax in
    let b : Build = empty parameters in
    let room = begun_room parameters (syntax_size program syntax) ops v
    (specifications_few p accepted addresses program syntax ticks is.ticks) small in
    let built = lowering_built p accepted addresses syntax b is named (owns parameters)
    (room_front ops (return_ops v) b room) in
    let mid : Build = built_of ops b in
    let last = return_taken v mid (built.height ∙ zero_rises v)
    (room_behind ops (return_ops v) b mid room built.grown) in
    let whole : built_of (ops ++ return_ops v) b ≡ built_of (return_ops v) mid = built_both ops (return_ops v) b in
    record {
      taken = taken_both ops (return_ops v) b built.taken last.0;
      operands = ap (λ z. length z.operands) whole ∙ last.1;
      bodies = ap (λ z. z.bodies) whole ∙ (last.2 ∙ built.bodies);
    }
  where
    zero_rises : (v : Bool) → rise v 0 ≡ values v
    zero_rises true = refl
    zero_rises false = refl

-- ---- the specifications of a run are within the limit

missing : {A B : Type 0} (xs : List A) (ys : List B) (n : ℕ) (x : A) → length ys ≡ length xs → slice_get xs n ≡ Some x
    → slice_get ys n ≡ None → ⊥
missing [] ys n x same h none = absurd cc
missing (x ∷ xs) [] n y same h none = absurd (omega (arith, same))
missing (x ∷ xs) (y ∷ ys) zero z same h none = absurd cc
missing (x ∷ xs) (y ∷ ys) (suc n) z same h none = missing xs ys n z (omega (arith, same)) h none

module _ (text : Text) (rows : List Specification) (ks : List Closure) (all : AllStandFor text rows ks) where
  -- the size of a row whose closure stands for it
  small_here : (n : ℕ) (syntax : Syntax) (s : Specification) (k : Closure) → slice_get rows n ≡ Some s
      → slice_get ks n ≡ Some k → IsOf syntax (Some s) → syntax_size text.program syntax ≤ SIZE_LIMIT
  small_here n syntax (Expression x) k at own of =
      subst (λ z. syntax_size text.program z ≤ SIZE_LIMIT) of (all.each n (Expression x) k at own).small
  small_here n syntax (Statement x) k at own of =
      subst (λ z. syntax_size text.program z ≤ SIZE_LIMIT) of (all.each n (Statement x) k at own).small
  small_here n syntax Local k at own of = absurd of
  small_here n syntax (Param index) k at own of = absurd of

  pub small_row : (number : ℕ) (syntax : Syntax) (o : Option Specification) → numbered number rows ≡ o → IsOf syntax o
      → syntax_size text.program syntax ≤ SIZE_LIMIT
  small_row number syntax None at of = absurd of
  small_row zero syntax (Some s) at of = absurd cc
  small_row (suc n) syntax (Some s) at of = by (slice_get ks n) refl
    where
      by : (k : Option Closure) → slice_get ks n ≡ k → syntax_size text.program syntax ≤ SIZE_LIMIT
      by None none = absurd (missing rows ks n s all.count at none)
      by (Some k) there = small_here n syntax s k at there of

pub issued_to_begun : SpecificationsAreIssuedToBegun
issued_to_begun p accepted addresses text c shared syntax number top parameters d good words ticks is stands memory
    of_it enters there named =
    let v : Bool = leaves (ticks_of p) syntax in
    let ops : List BuildOp = specification_ops addresses (ticks_of p) syntax in
    let small = small_row text shared.specifications memory.closures memory.stand_for number syntax
    (specification_at number shared) refl of_it in
    let room = begun_room parameters (syntax_size text.program syntax) ops v
    (specifications_few p accepted addresses text.program syntax ticks is.ticks) small in
    with_room_issued p accepted addresses text c shared syntax number top d
    (empty parameters) good words is stands memory
    of_it enters there named (owns parameters) (room_front ops (return_ops v) (empty parameters) room)

-- ---- what comes of them is finished

pub no_register : (v : Bool) → in_all more_registers (return_ops v) ≡ 0
no_register true = omega arith
no_register false = refl

none_left : {A : Type 0} (xs : List A) → length xs ≡ 0 → is_empty xs ≡ true
none_left [] e = refl
none_left (x ∷ xs) e = absurd (omega (arith, e))

-- the words that are charged are in the arena
range_there : (size place : ℕ) → place + arena_words size ≤ ARENA_WORDS
    → is_arena_range (place_address place) (arena_words size) ≡ true
range_there size place room =
    let at : ℕ = place_address place in
    let even : nat_eq (at % 4) 0 ≡ true = grind (arith, nat_tests) in
    let above : nat_le ARENA at ≡ true = grind (arith, nat_tests) in
    let below : nat_lt at (ARENA + ARENA_BYTES) ≡ true = grind (arith, nat_tests) in
    let ends : nat_le (at + 4 * arena_words size) (ARENA + ARENA_BYTES) ≡ true = grind (arith, nat_tests) in
    rw (even, above, below, ends) refl

-- and the frame has a slot for each register
frame_there : (size registers : ℕ) → size ≤ SIZE_LIMIT → registers ≤ 12 * size
    → is_frame (frame_bytes size) registers ≡ true
frame_there size registers small few =
    let slots : nat_le (STACK_OF_A_CALL + 4 * registers) (frame_bytes size) ≡ true = grind (arith, nat_tests) in
    let fits : nat_le (frame_bytes size) STACK_BYTES ≡ true = grind (arith, nat_tests) in
    let even : nat_eq (frame_bytes size % 4) 0 ≡ true = grind (arith, nat_tests) in rw (slots, fits, even) refl

finished_by : (b : Build) (at most frame : ℕ) → is_done b ≡ true → is_arena_range at most ≡ true
    → is_frame frame b.registers ≡ true → finish_refusal b at most frame ≡ None
finished_by b at most frame done range frame_is = rw (done, range, frame_is) refl

-- a register for each of the specification's at most
pub few_registers : (p : node.Program) (accepted : IsProgram p) (addresses : Addresses) (program : Program)
    (syntax : Syntax) (parameters : ℕ) (v : Bool) → program.ticks ≡ ticks_of p → HasTicks accepted.captures syntax
    → (built_of (specification_ops addresses (ticks_of p) syntax ++ return_ops v) (empty parameters)).registers
    ≤ 12 * syntax_size program syntax
few_registers p accepted addresses program syntax parameters v ticks known =
    let first : List BuildOp = specification_ops addresses (ticks_of p) syntax in
    let few = specifications_few p accepted addresses program syntax ticks known in
    omega (
      arith,
      registers_grow (first ++ return_ops v) (empty parameters),
      in_both more_registers first (return_ops v),
      no_register v,
      few.registers,
    )

pub builders_finished : BuildersAreFinished
builders_finished p accepted addresses program syntax parameters place ticks is named small room =
    let v : Bool = leaves (ticks_of p) syntax in
    let size : ℕ = syntax_size program syntax in
    let first : List BuildOp = specification_ops addresses (ticks_of p) syntax in
    let ops : List BuildOp = first ++ return_ops v in
    let b : Build = empty parameters in
    let all = begun_take_all p accepted addresses program syntax parameters ticks is named small in
    let after : Build = built_of ops b in
    let done : is_done after ≡ true =
    ap (λ z. z && is_empty after.bodies) (none_left after.operands all.operands)
    ∙ none_left after.bodies (ap length all.bodies) in
    finished_by after (place_address place) (arena_words size) (frame_bytes size) done (range_there size place room)
    (frame_there size after.registers small
    (few_registers p accepted addresses program syntax parameters v ticks is.ticks))

-- ---- the words of what is finished

pub return_grows : (v : Bool) (b : Build)
    → length (built_of (return_ops v) b).prelude + length (built_of (return_ops v) b).ops
    ≤ length b.prelude + length b.ops + 1
return_grows true b = omega (arith, length-append b.ops (op.Return (operand 0 b) ∷ []))
return_grows false b = omega arith

finished_length : (b : Build) → length (finished b) ≡ length b.prelude + length b.ops + 1
finished_length b =
    omega (arith, length-append (b.prelude ++ b.ops) (op.ReturnZero ∷ []), length-append b.prelude b.ops)

pub few_ops : (p : node.Program) (accepted : IsProgram p) (addresses : Addresses) (program : Program)
    (syntax : Syntax) (parameters : ℕ) → program.ticks ≡ ticks_of p → IsMade p accepted syntax
    → IsNamed syntax (empty parameters) → syntax_size program syntax ≤ SIZE_LIMIT
    → length (finished (built_of (specification_ops addresses (ticks_of p) syntax
    ++ return_ops (leaves (ticks_of p) syntax)) (empty parameters))) ≤ 12 * syntax_size program syntax
few_ops p accepted addresses program syntax parameters ticks is named small =
    let v : Bool = leaves (ticks_of p) syntax in
    let first : List BuildOp = specification_ops addresses (ticks_of p) syntax in
    let ops : List BuildOp = first ++ return_ops v in
    let b : Build = empty parameters in
    let few = specifications_few p accepted addresses program syntax ticks is.ticks in
    let room = begun_room parameters (syntax_size program syntax) first v few small in
    let built = lowering_built p accepted addresses syntax b is named (owns parameters)
    (room_front first (return_ops v) b room) in
    let mid : Build = built_of first b in
    let after : Build = built_of ops b in
    let whole : after ≡ built_of (return_ops v) mid = built_both first (return_ops v) b in
    let grown : length after.prelude + length after.ops ≤ length mid.prelude + length mid.ops + 1 =
    omega (arith, ap (λ z. length z.prelude + length z.ops) whole, return_grows v mid) in
    omega (arith, built.grown.ops, few.ops, grown, finished_length after)

pub words_within : WordsAreWithin
words_within p accepted addresses program syntax parameters choice address frame ticks is named small =
    let v : Bool = leaves (ticks_of p) syntax in
    let after : Build = built_of (specification_ops addresses (ticks_of p) syntax ++ return_ops v)
    (empty parameters) in
    let most = words_most (finished after) choice.places address frame 0 true in
    let words = length_words (expansion (finished after) choice.places address frame 0 true) in
    omega (arith, few_ops p accepted addresses program syntax parameters ticks is named small, most, words)
