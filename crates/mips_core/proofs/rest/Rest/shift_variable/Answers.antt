use Rattle.std.proofs.Common.{ℕ, ◌∙◌, Some, refl, ap}
use Rattle.mips_encoder.specs.Fields.{rd, rs, rt}
use Rattle.mips_encoder.specs.declared.instruction.Instr.TheVariants.{ShiftVariable}
use Rattle.mips_encoder.specs.declared.instruction.ShiftOp.{ShiftOp}
use Rattle.mips_model.specs.Arithmetic.{by_number, shifted}
use Rattle.mips_model.specs.State.{register}
use Rattle.mips_core.specs.Core.{data_of}
use Rattle.mips_core.proofs.Rows.{both, gives, three_names}
use Rattle.mips_core.proofs.rest.Rest.shift_variable.Goals as goal

pub returns : goal.returns
returns g c =
    let k = c.args.self.now in
    let w = c.args.w in
    let r = λ (n : ℕ). register n (data_of k) in
    gives k (ShiftVariable c.args.op (rd w) (rt w) (rs w)) c.give.ensures c.rd.ensures c.rt-b.ensures c.rs-a.ensures
    (ap (λ (n : ℕ). Some n) (c.shifted-v.ensures
    ∙ ap (λ (op : ShiftOp). shifted op c.register.result c.register-2.result) c.by_number.ensures
    ∙ both (shifted (by_number c.args.op)) (c.register.ensures ∙ ap r c.rt-b.ensures)
    (c.register-2.ensures ∙ ap r c.rs-a.ensures)))
    (three_names k (rd w) (rt w) (rs w)) refl refl
