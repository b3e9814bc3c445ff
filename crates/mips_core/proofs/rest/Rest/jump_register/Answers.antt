use Rattle.std.proofs.Common.{ℕ, ◌∙◌, true, refl, ap}
use Rattle.mips_encoder.specs.Fields.{rs}
use Rattle.mips_encoder.specs.declared.instruction.Instr.TheVariants.{JumpRegister}
use Rattle.mips_model.specs.State.{register}
use Rattle.mips_core.specs.Core.{at, branching, data_of, state_of}
use Rattle.mips_core.proofs.Rows.{jump_names_one, jumps}
use Rattle.mips_core.proofs.rest.Rest.jump_register.Goals as goal

pub returns : goal.returns
returns g c =
    let k = c.args.self.now in
    let s = state_of (at c.args.pc k) in
    let d = data_of k in
    jumps k (JumpRegister (rs c.args.w)) (λ (n : ℕ). branching true (register (rs c.args.w) d) s) c.branch_to.ensures
    c.rs-a.ensures c.rs-a.ensures
    (ap (λ (t : ℕ). branching true t s)
    (c.at-to.ensures ∙ c.register.ensures ∙ ap (λ (r : ℕ). register r d) c.rs-a.ensures))
    (jump_names_one k (rs c.args.w)) refl refl
