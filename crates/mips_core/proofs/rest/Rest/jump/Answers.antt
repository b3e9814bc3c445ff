use Rattle.std.proofs.Common.{ℕ, ◌+◌, ◌*◌, ◌/◌, ◌%◌, true, refl, ap}
use Rattle.word32.specs.declared.map.TheConstants.{SEGMENT_BYTES}
use Rattle.mips_encoder.specs.declared.instruction.Instr.TheVariants.{Jump}
use Rattle.mips_encoder.specs.declared.instruction.JumpOp.TheVariants.{J}
use Rattle.mips_core.specs.Core.{at, branching, state_of}
use Rattle.mips_core.proofs.Rows.{jump_names_none, jumps}
use Rattle.mips_core.proofs.rest.Rest.jump.Goals as goal

pub returns : goal.returns
returns g c =
    let k = c.args.self.now in
    let s = state_of (at c.args.pc k) in
    let word = c.args.w % 67108864 in
    jumps k (Jump J word) (λ (n : ℕ). branching true (n / SEGMENT_BYTES * SEGMENT_BYTES + 4 * word) s)
    c.branch_to.ensures refl refl
    (ap (λ (t : ℕ). branching true t s) c.segment_target-to.ensures) (jump_names_none k) refl refl
