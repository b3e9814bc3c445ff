use Rattle.std.proofs.Common.{ℕ, ◌∙◌, Some, refl, ap}
use Rattle.mips_encoder.specs.Fields.{rd, rt, shamt}
use Rattle.mips_encoder.specs.declared.instruction.Instr.TheVariants.{Shift}
use Rattle.mips_model.specs.Arithmetic.{shifted}
use Rattle.mips_model.specs.State.{register}
use Rattle.mips_core.specs.Core.{data_of}
use Rattle.mips_core.proofs.Rows.{both, gives, two_names}
use Rattle.mips_core.proofs.rest.Rest.shift.Goals as goal

pub returns : goal.returns
returns g c =
    let k = c.args.self.now in
    let w = c.args.w in
    let r = λ (n : ℕ). register n (data_of k) in
    gives k (Shift c.args.op (rd w) (rt w) (shamt w)) c.give.ensures c.rd.ensures c.rt-b.ensures c.rt-b.ensures
    (ap (λ (n : ℕ). Some n) (c.shifted-v.ensures
    ∙ both (shifted c.args.op) (c.register.ensures ∙ ap r c.rt-b.ensures) (c.bits.ensures.value ∙ c.shamt.ensures)))
    (two_names k (rd w) (rt w)) refl refl
