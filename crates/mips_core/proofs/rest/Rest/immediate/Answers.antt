use Rattle.std.proofs.Common.{ℕ, ◌∙◌, refl, ap}
use Rattle.mips_encoder.specs.Fields.{immediate as low_half, rs, rt}
use Rattle.mips_encoder.specs.declared.instruction.Instr.TheVariants.{ImmediateArithmetic}
use Rattle.mips_model.specs.Arithmetic.{immediate}
use Rattle.mips_model.specs.State.{register}
use Rattle.mips_core.specs.Core.{data_of}
use Rattle.mips_core.proofs.Rows.{both, gives, two_names}
use Rattle.mips_core.proofs.rest.Rest.immediate.Goals as goal

pub returns : goal.returns
returns g c =
    let k = c.args.self.now in
    let w = c.args.w in
    let r = λ (n : ℕ). register n (data_of k) in
    gives k (ImmediateArithmetic c.args.op (rt w) (rs w) (low_half w)) c.give.ensures c.rt.ensures
    c.rs-a.ensures c.rs-a.ensures
    (c.immediate-v.ensures
    ∙ both (immediate c.args.op) (c.register.ensures ∙ ap r c.rs-a.ensures) c.immediate.ensures)
    (two_names k (rt w) (rs w)) refl refl
