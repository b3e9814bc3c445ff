-- What a specification of an accepted text is compiled to: the code that the first seam asks for, and a function that
-- the second seam takes.
use Rattle.std.proofs.Common.{◌≡◌, ℕ, ◌+◌, ◌-◌, ◌<◌, ◌≤◌, ◌==◌, Bool, true, false, List, [], ◌∷◌, ◌++◌, length, Some, None}
use Rattle.std.proofs.Common.{Option, refl, sym, ap, ◌∙◌, subst, arith, nat_lt, if◌then◌else◌}
use Rattle.std.proofs.Common.{take, length-append}
use Rattle.std.proofs.lemmas.List.{length-take}
use Rattle.std.proofs.lemmas.Bool.Decides.{nat_tests}
use Rattle.limits.specs.declared.ops.TheConstants.{KEYS, OP_LIMIT}
use Rattle.limits.specs.declared.program.TheConstants.{MOST_ARGUMENTS}
use Rattle.history.specs.Syntax.{Syntax}
use Rattle.mips_model.specs.State.{Built}
use Rattle.mips_model.specs.Run.{first_making}
use Rattle.meaning_state.specs.Rows.{parameters_of}
use Rattle.icode_ops.specs.Flow.{op_at}
use Rattle.icode_ops.specs.Finished.{InRange}
use Rattle.icode_ops.specs.declared.op.Op.TheVariants as op
use Rattle.icode_ir.specs.declared.build_op.BuildOp.{BuildOp}
use Rattle.icode_ir.specs.declared.build_op.BuildOp.TheVariants as build
use Rattle.icode_ir.specs.declared.build_op.BuildFault.{BuildFault}
use Rattle.icode_ir.specs.declared.build_op.BuildFault.TheVariants.{BadVariable}
use Rattle.icode_ir.specs.Build.{Build, empty, finished, find, first_mention, key_register, mention, mentioned, operand}
use Rattle.icode_ir.specs.Build.{or_next}
use Rattle.icode_ir.specs.Rules.{effect, fault_of, is_key, keyed, fits, news}
use Rattle.icode_ir.specs.Runs as runs
use Rattle.icode_ir.specs.Runs.{run_ops}
use Rattle.icode_ir.specs.Sound.{Each, IsPlain, IsSound}
use Rattle.icode_ir.proofs.Enclosing.{mention-sound}
use Rattle.icode_ir.proofs.Wholes.{whole}
use Rattle.typed_tree.specs.Nodes as node
use Rattle.wellformed.specs.Program.{IsProgram}
use Rattle.staged_meaning.specs.Program.{Program, syntax_size}
use Rattle.tick_lower_spec.specs.Captured.{leaves, HasAnswers}
use Rattle.tick_lower_spec.specs.Generated.{return_ops, generated_ops, generated_build, IsGenerated}
use Rattle.tick_lower_spec.specs.Keys.{SetsKeys}
use Rattle.tick_lower_spec.specs.Lower.{Addresses}
use Rattle.tick_lower_spec.specs.Specifications.{specification_ops}
use Rattle.tick_lower_proof.proofs.Sounds.{effect_sound, empty_sound, room_of, needs_of, yield_sound, add_sound}
use Rattle.tick_lower_proof.proofs.Sounds.{operand_low}
use Rattle.closures_proof.specs.CapturedWords.{IsOfWords}
use Rattle.generator_laws.specs.Laws.{AreTaken, built_of}
use Rattle.compile_routine.specs.Made.{function_built, builder_of, FitsServices}
use Rattle.generator_spec.specs.Kinds.{HasWords, AreAddresses}
use Rattle.generator_spec.specs.FittingLaws.{ticks_of, program_pieces}
use Rattle.generator_spec.proofs.Lowered.{lowered}
use Rattle.known_closures_proof.specs.Known.{IsCode}
use Rattle.known_closures_proof.specs.Functions.{HasFunction}
use Rattle.known_closures_proof.proofs.Functions.{has_function, code_whole}
use Rattle.static_image_proof.proofs.Coded.{IsRunOp, function_coded, finished_fine}

-- ---- two ways in which a builder takes a list of ops are one

pub run_is_built : (os : List BuildOp) (b : Build) → run_ops os b ≡ built_of os b
run_is_built [] b = refl
run_is_built (o ∷ os) b = run_is_built os (effect o b)

taken_is : (os : List BuildOp) (b : Build) → AreTaken os b → runs.AreTaken os b
taken_is [] b h = tt
taken_is (o ∷ os) b h = (h.0, taken_is os (effect o b) h.1)

-- ---- a builder that takes ops stays sound, whatever they are

key_of : (key : ℕ) (b : Build) (x : Option BuildFault) → keyed key b x ≡ None → (key < KEYS) × (x ≡ None)
key_of key b x e = by (is_key b.parameters key) refl e
  where
    low_key : (t : Bool) → nat_lt key MOST_ARGUMENTS ≡ t
        → (if t then nat_lt key b.parameters else nat_lt key KEYS) ≡ true → key < KEYS
    low_key true is h = grind (arith, nat_tests, is)
    low_key false is h = grind (arith, nat_tests, h)

    by : (t : Bool) → is_key b.parameters key ≡ t → (if t then x else Some BadVariable) ≡ None
        → (key < KEYS) × (x ≡ None)
    by true is e = (low_key (nat_lt key MOST_ARGUMENTS) refl is, e)
    by false is e = absurd cc

found_low : (ms : List (ℕ × ℕ)) (key r n : ℕ) → Each (λ (m : ℕ × ℕ). (m.0 < KEYS) × (m.1 < n)) ms
    → find key ms ≡ Some r → r < n
found_low [] key r n h e = absurd cc
found_low (m ∷ ms) key r n h e = by (λ more. found_low ms key r n h.1 more) (key == m.0) e
  where
    by : (find key ms ≡ Some r → r < n) → (t : Bool) → (if t then Some m.1 else find key ms) ≡ Some r → r < n
    by rest true e = let same : m.1 ≡ r = cc in omega (arith, same, h.0.1)
    by rest false e = rest e

first_plain : (key r : ℕ) → IsPlain (r + 1) (first_mention key r)
first_plain key r = by (nat_lt key MOST_ARGUMENTS)
  where
    by : (t : Bool) → IsPlain (r + 1) (if t then op.GetParameter r key else op.Const r 0)
    by true = record { registers_low = (omega arith, tt, tt); no_label = refl; no_jump = refl }
    by false = record { registers_low = (omega arith, tt, tt); no_label = refl; no_jump = refl }

-- a key that is mentioned has a register
record Mentions (o : Option ℕ) (key : ℕ) (b : Build) : Type 0 where
  sound : IsSound (mention o key b)
  low : or_next o b.registers < (mention o key b).registers

mentions : (o : Option ℕ) (key more : ℕ) (b : Build) → find key b.keys ≡ o → key < KEYS → IsSound b
    → length b.prelude + length b.ops + (news o + more) ≤ OP_LIMIT → Mentions o key b
mentions (Some r) key more b at low i room = record { sound = i; low = found_low b.keys key r b.registers i.keys at }
mentions None key more b at low i room = record {
  sound = mention-sound b key (first_mention key b.registers) i (first_plain key b.registers) low
      (omega (arith, room));
  low = omega arith;
}

-- whichever op is taken
pub taken_sound : (o : BuildOp) (b : Build) → IsSound b → fault_of o b ≡ None → IsSound (effect o b)
taken_sound (build.GetSpec key) b i e =
    let k = key_of key b (fits (news (find key b.keys) + 1) (length b.operands + 1) b) e in
    let room = room_of (news (find key b.keys) + 1) (length b.operands + 1) b k.1 in
    let m = mentions (find key b.keys) key 1 b refl k.0 i room.0 in
    let c : Build = mentioned key b in
    yield_sound c m.sound (op.Move c.registers (key_register key b)) 0
    (record { registers_low = (omega arith, omega (arith, m.low), tt); no_label = refl; no_jump = refl })
    (grown (find key b.keys) room.0) (few (find key b.keys) room.1)
  where
    grown : (o : Option ℕ) → length b.prelude + length b.ops + (news o + 1) ≤ OP_LIMIT
        → length (mention o key b).prelude + length (mention o key b).ops + 1 ≤ OP_LIMIT
    grown (Some r) h = omega (arith, h)
    grown None h = omega (arith, h, length-append b.prelude (first_mention key b.registers ∷ []))

    few : (o : Option ℕ) → length b.operands + 1 ≤ OP_LIMIT
        → length (take (length (mention o key b).operands - 0) (mention o key b).operands) < OP_LIMIT
    few (Some r) h = omega (arith, h, length-take (length b.operands - 0) b.operands)
    few None h = omega (arith, h, length-take (length b.operands - 0) b.operands)
taken_sound (build.SetSpec key) b i e =
    let one = needs_of 1 b (keyed key b (fits (news (find key b.keys) + 1) (length b.operands) b)) e in
    let k = key_of key b (fits (news (find key b.keys) + 1) (length b.operands) b) one.1 in
    let room = room_of (news (find key b.keys) + 1) (length b.operands) b k.1 in
    let m = mentions (find key b.keys) key 1 b refl k.0 i room.0 in
    let low = operand_low b i 0 (omega (arith, one.0)) in
    add_sound (mentioned key b) m.sound (op.Move (key_register key b) (operand 0 b))
    (record { registers_low = (m.low, rises (find key b.keys) low, tt); no_label = refl; no_jump = refl })
    (grown (find key b.keys) room.0)
  where
    rises : (o : Option ℕ) → operand 0 b < b.registers → operand 0 b < (mention o key b).registers
    rises (Some r) h = h
    rises None h = omega (arith, h)

    grown : (o : Option ℕ) → length b.prelude + length b.ops + (news o + 1) ≤ OP_LIMIT
        → length (mention o key b).prelude + length (mention o key b).ops + 1 ≤ OP_LIMIT
    grown (Some r) h = omega (arith, h)
    grown None h = omega (arith, h, length-append b.prelude (first_mention key b.registers ∷ []))
taken_sound o b i e = effect_sound o b tt i e

pub all_sound : (os : List BuildOp) (b : Build) → AreTaken os b → IsSound b → IsSound (built_of os b)
all_sound [] b taken i = i
all_sound (o ∷ os) b taken i = all_sound os (effect o b) taken.1 (taken_sound o b i taken.0)

-- ---- a specification

none_left : {A : Type 0} (xs : List A) → length xs ≡ 0 → xs ≡ []
none_left [] e = refl
none_left (x ∷ xs) e = absurd (omega (arith, e))

module _ (p : node.Program) (accepted : IsProgram p) (d : Addresses) (program : Program)
    (meant : program.ticks ≡ ticks_of p) (own : d.ticks ≡ program.ticks) (syntax : Syntax)
    (code : IsCode p accepted syntax) where
  ticks_are : d.ticks ≡ ticks_of p
  ticks_are = own ∙ meant

  abbrev value : Bool
  value = leaves (ticks_of p) syntax

  abbrev function : Built
  function = function_built (program_pieces d p) value syntax

  pub has : HasFunction p d program value syntax
  has = has_function p accepted d program syntax meant code

  services : FitsServices function (syntax_size program syntax) (first_making [])
  services = has.fits (first_making []) refl

  -- its ops are the lowering's
  pub ops_are : function.ops ≡ generated_ops d syntax
  ops_are =
      ap (λ os. os ++ return_ops value) (lowered d (ticks_of p) syntax)
      ∙ ap (λ ts. specification_ops d ts syntax ++ return_ops (leaves ts syntax)) (sym ticks_are)

  pub build_is : builder_of function ≡ generated_build d syntax
  build_is =
      ap (λ os. built_of os (empty (parameters_of syntax))) ops_are
      ∙ sym (run_is_built (generated_ops d syntax) (empty (parameters_of syntax)))

  pub generated : IsGenerated d accepted.captures syntax
  generated = record {
    kinds = code.made.ticks;
    answers = subst (λ ts. HasAnswers ts accepted.captures syntax) (sym ticks_are) code.made.answers;
    taken = taken_is (generated_ops d syntax) (empty (parameters_of syntax))
        (subst (λ os. AreTaken os (empty (parameters_of syntax))) ops_are services.taken);
    no_bodies = ap (λ (b : Build). b.bodies) (sym build_is) ∙ services.bodies;
    keys = subst (SetsKeys syntax) build_is has.keys;
  }

  pub some : 1 ≤ syntax_size program syntax
  some =
      let b : Build = builder_of function in
      omega (arith, services.few, length-append (b.prelude ++ b.ops) (op.ReturnZero ∷ []))

  pub in_range : (n : ℕ) → InRange (builder_of function).registers (op_at (finished (builder_of function)) n)
  in_range =
      (whole (builder_of function)
      (all_sound function.ops (empty (parameters_of syntax)) services.taken (empty_sound (parameters_of syntax)))
      services.bodies).in_range

  pub fine : AreAddresses d → ((n : ℕ) → Each HasWords (program_pieces d p n)) → (n : ℕ)
      → IsRunOp (IsOfWords syntax) (op_at (finished (builder_of function)) n)
  fine good words n =
      finished_fine (IsOfWords syntax) function.ops (empty (parameters_of syntax)) refl refl
      (function_coded (IsOfWords syntax) (program_pieces d p) (length p.ticks) value syntax
      (code_whole p accepted d syntax good words code) (λ small. small)) n
