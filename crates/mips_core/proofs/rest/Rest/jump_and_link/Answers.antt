use Rattle.std.proofs.Common.{ℕ, ◌+◌, ◌*◌, ◌/◌, ◌%◌, true, refl, ap}
use Rattle.word32.specs.declared.map.TheConstants.{SEGMENT_BYTES}
use Rattle.mips_encoder.specs.declared.instruction.Instr.TheVariants.{Jump}
use Rattle.mips_encoder.specs.declared.instruction.JumpOp.TheVariants.{Jal}
use Rattle.mips_core.specs.Core.{at, linking, state_of}
use Rattle.mips_core.proofs.Rows.{jump_names_one, jumps}
use Rattle.mips_core.proofs.rest.Rest.jump_and_link.Goals as goal

pub returns : goal.returns
returns g c =
    let k = c.args.self.now in
    let s = state_of (at c.args.pc k) in
    let word = c.args.w % 67108864 in
    let f = λ (n : ℕ). linking 31 ((n + 4) % 4294967296) true (n / SEGMENT_BYTES * SEGMENT_BYTES + 4 * word) s in
    jumps k (Jump Jal word) f c.link_to.ensures refl refl
    (ap (λ (t : ℕ). linking 31 ((c.args.pc + 4 + 4) % 4294967296) true t s) c.segment_target-to.ensures)
    (jump_names_one k 31) refl refl
