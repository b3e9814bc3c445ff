use Rattle.std.proofs.Common.{ℕ, ◌∙◌, refl, ap}
use Rattle.mips_encoder.specs.Fields.{rs, rt}
use Rattle.mips_encoder.specs.declared.instruction.Instr.TheVariants.{MultiplyDivide}
use Rattle.mips_model.specs.Arithmetic.{multiply_divide}
use Rattle.mips_model.specs.State.{register}
use Rattle.mips_core.specs.Core.{at, data_of, halved, state_of}
use Rattle.mips_core.proofs.Rows.{both, halves, sets_two}
use Rattle.mips_core.proofs.rest.Rest.multiply_divide.Goals as goal

pub returns : goal.returns
returns g c =
    let k = c.args.self.now in
    let w = c.args.w in
    let r = λ (n : ℕ). register n (data_of k) in
    halves k (MultiplyDivide c.args.op (rs w) (rt w)) c.set_halves.ensures c.rs-a.ensures c.rt-b.ensures
    (ap (λ (v : ℕ × ℕ). halved v.0 v.1 (state_of (at c.args.pc k)))
    (c.multiply_divide-v.ensures
    ∙ both (multiply_divide c.args.op) (c.register.ensures ∙ ap r c.rs-a.ensures)
    (c.register-2.ensures ∙ ap r c.rt-b.ensures)))
    (sets_two k (rs w) (rt w)) refl refl
