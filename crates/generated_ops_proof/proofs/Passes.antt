-- A specification's function can be made in one pass within its charge.
use Rattle.std.proofs.Common.{◌≡◌, ℕ, zero, suc, ◌+◌, ◌*◌, ◌≤◌, Bool, List, ◌++◌, length, refl, sym, ap, ◌∙◌, subst}
use Rattle.std.proofs.Common.{arith}
use Rattle.limits.specs.declared.program.TheConstants.{MOST_ARGUMENTS}
use Rattle.meaning_state.specs.Rows.{parameters_of}
use Rattle.icode_ir.specs.declared.build_op.BuildOp.{BuildOp}
use Rattle.icode_ir.specs.Build.{Build, empty}
use Rattle.staged_meaning.specs.Program.{syntax_size}
use Rattle.tick_lower_spec.specs.Specifications.{specification_ops}
use Rattle.generator_laws.specs.Laws.{built_of}
use Rattle.generator_laws.specs.Pieces.{syntax_ops}
use Rattle.compile_routine.specs.Laws.{return_ops}
use Rattle.generator_spec.proofs.Lowered.{lowered}
use Rattle.generator_spec.specs.FittingLaws.{ticks_of, program_pieces}
use Rattle.generated_ops_proof.specs.Answers.{leaves}
use Rattle.generated_ops_proof.specs.Laws.{IsFewInOnePass, OnePassIsFew, KeysAreMentioned}
use Rattle.generated_ops_proof.specs.Keys.{upto, zeroes, unmentioned, HasKey, low_keys}
use Rattle.generated_ops_proof.specs.Room.{more_registers, in_all}
use Rattle.generated_ops_proof.proofs.Rooms.{in_both, room_front}
use Rattle.generated_ops_proof.proofs.Runs.{built_both}
use Rattle.generated_ops_proof.proofs.Registers.{registers_grow}
use Rattle.generated_ops_proof.proofs.Taken.{lowering_built}
use Rattle.generated_ops_proof.proofs.Begun.{specifications_few, begun_room, owns, return_grows, no_register}
use Rattle.generated_ops_proof.proofs.Mentions.{names_key, all_mention, all_keep, all_told, told_parts, low_there}
use Rattle.generated_ops_proof.proofs.Mentions.{unmentioned_few, one_mentioned}
use Rattle.generated_ops_proof.proofs.KeyOps.{syntax_names, parameter_there, parameters_few}

pub keys_mentioned : KeysAreMentioned
keys_mentioned p accepted addresses syntax b key has among =
    let same : syntax_ops (program_pieces addresses p) syntax ≡ specification_ops addresses (ticks_of p) syntax =
    lowered addresses (ticks_of p) syntax in
    all_mention key (specification_ops addresses (ticks_of p) syntax) b
    (subst (λ z. 1 ≤ in_all (names_key key) z) same (syntax_names p accepted addresses syntax has key among))

-- where there are parameters, one is mentioned
record Mentioned (parameters : ℕ) (b : Build) : Type 0 where
  low : 1 ≤ parameters → 1 ≤ low_keys b.keys
  unmentioned : 1 ≤ parameters → length (unmentioned b.keys (upto 0 parameters)) + 1 ≤ parameters

few_by : (parameters nodes : ℕ) (b : Build) → parameters ≤ MOST_ARGUMENTS → Mentioned parameters b
    → length b.prelude ≡ length (zeroes b.prelude) + low_keys b.keys
    → length b.prelude + length b.ops + 1 ≤ 12 * nodes → b.registers + 7 ≤ 12 * nodes
    → IsFewInOnePass parameters nodes b
few_by zero nodes b most h parts ops registers =
    let none = unmentioned_few b.keys 0 0 in record {
      ops = omega (arith, parts, ops);
      named = λ some. absurd (omega (arith, some));
      registers = omega (arith, none, registers);
      words = omega (arith, parts, ops);
      frame = omega (arith, none, registers);
    }
few_by (suc n) nodes b most h parts ops registers =
    let low = h.low (omega arith) in
    let one = h.unmentioned (omega arith) in record {
      ops = omega (arith, parts, ops);
      named = λ some. omega (arith, parts, ops, low);
      registers = omega (arith, one, most, registers);
      words = omega (arith, parts, ops, low, most);
      frame = omega (arith, one, most, registers);
    }

-- a return mentions no more
there : (v : Bool) (key : ℕ) (mid after : Build) → HasKey key mid.keys → after ≡ built_of (return_ops v) mid
    → HasKey key after.keys
there v key mid after h whole = subst (λ z. HasKey key z.keys) (sym whole) (all_keep key (return_ops v) mid h)

pub one_pass_few : OnePassIsFew
one_pass_few p accepted addresses program syntax ticks is named small =
    let v : Bool = leaves (ticks_of p) syntax in
    let n : ℕ = parameters_of syntax in
    let first : List BuildOp = specification_ops addresses (ticks_of p) syntax in
    let ops : List BuildOp = first ++ return_ops v in
    let b : Build = empty n in
    let few = specifications_few p accepted addresses program syntax ticks is.ticks in
    let room = begun_room n (syntax_size program syntax) first v few small in
    let built = lowering_built p accepted addresses syntax b is named (owns n) (room_front first (return_ops v) b room)
    in
    let mid : Build = built_of first b in
    let after : Build = built_of ops b in
    let whole : after ≡ built_of (return_ops v) mid = built_both first (return_ops v) b in
    let grown : length after.prelude + length after.ops ≤ length mid.prelude + length mid.ops + 1 =
    omega (arith, ap (λ z. length z.prelude + length z.ops) whole, return_grows v mid) in
    let registers : after.registers + 7 ≤ 12 * syntax_size program syntax =
    omega (arith, registers_grow ops b, in_both more_registers first (return_ops v), no_register v, few.registers) in
    let parts : length after.prelude ≡ length (zeroes after.prelude) + low_keys after.keys =
    let told = all_told ops b refl in
    ap length told ∙ told_parts after.keys ∙ ap (λ z. length (zeroes z) + low_keys after.keys) (sym told) in
    few_by n (syntax_size program syntax) after (parameters_few syntax)
    (record {
      low = λ some.
          let x = parameter_there syntax some in
          low_there x.key after.keys x.low
          (there v x.key mid after (keys_mentioned p accepted addresses syntax b x.key is.ticks x.among) whole);
      unmentioned = λ some.
          let x = parameter_there syntax some in
          one_mentioned x.key after.keys 0 n (omega arith) (omega (arith, x.is))
          (there v x.key mid after (keys_mentioned p accepted addresses syntax b x.key is.ticks x.among) whole);
    })
    parts (omega (arith, built.grown.ops, few.ops, grown)) registers
