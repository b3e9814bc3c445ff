use Rattle.std.proofs.Common.{ℕ, ◌∙◌, refl, ap}
use Rattle.mips_encoder.specs.Fields.{rd, rs, rt}
use Rattle.mips_encoder.specs.declared.instruction.Instr.TheVariants.{Arithmetic}
use Rattle.mips_model.specs.Arithmetic.{arithmetic}
use Rattle.mips_model.specs.State.{register}
use Rattle.mips_core.specs.Core.{data_of}
use Rattle.mips_core.proofs.Rows.{both, gives, three_names}
use Rattle.mips_core.proofs.rest.Rest.arithmetic.Goals as goal

pub returns : goal.returns
returns g c =
    let k = c.args.self.now in
    let w = c.args.w in
    let r = λ (n : ℕ). register n (data_of k) in
    gives k (Arithmetic c.args.op (rd w) (rs w) (rt w)) c.give.ensures c.rd.ensures c.rs-a.ensures c.rt-b.ensures
    (c.arithmetic-v.ensures
    ∙ both (arithmetic c.args.op) (c.register.ensures ∙ ap r c.rs-a.ensures)
    (c.register-2.ensures ∙ ap r c.rt-b.ensures))
    (three_names k (rd w) (rs w) (rt w)) refl refl
