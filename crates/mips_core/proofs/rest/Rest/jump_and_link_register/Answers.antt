use Rattle.std.proofs.Common.{ℕ, ◌+◌, ◌%◌, ◌∙◌, true, refl, ap}
use Rattle.mips_encoder.specs.Fields.{rd, rs}
use Rattle.mips_encoder.specs.declared.instruction.Instr.TheVariants.{JumpAndLinkRegister}
use Rattle.mips_model.specs.State.{register}
use Rattle.mips_core.specs.Core.{at, data_of, linking, state_of}
use Rattle.mips_core.proofs.Rows.{becomes, both, jump_names_two, jumps, links, links_itself, links_register}
use Rattle.mips_core.proofs.rest.Rest.jump_and_link_register.Goals as goal
use Rattle.mips_core.proofs.rest.Rest.jump_and_link_register.Goals.{
  then-w-via-then-w,
  then-w-via-else-w+then-w-ne0,
}

pub returns-then-w : goal.returns-then-w
returns-then-w g c =
    let n = c.args.w in
    let s = state_of (at c.args.pc c.args.self.now) in
    becomes (elim c.then-w.branch [
      | then-w-via-then-w w ↦ links_itself n s w.if-w.true
      | then-w-via-else-w+then-w-ne0 w ↦ links_register n s w.if-w-ne0.true
    ]) (c.fault.ensures.becomes _)

pub returns : goal.returns
returns g c =
    let k = c.args.self.now in
    let w = c.args.w in
    let s = state_of (at c.args.pc k) in
    let d = data_of k in
    let f = λ (n : ℕ). linking (rd w) ((n + 4) % 4294967296) true (register (rs w) d) s in
    jumps k (JumpAndLinkRegister (record { rd = rd w; rs = rs w })) f c.link_to.ensures c.rd.ensures c.rs-a.ensures
    (both (λ (r t : ℕ). linking r ((c.args.pc + 4 + 4) % 4294967296) true t s) c.rd.ensures
    (c.at-to.ensures ∙ c.register.ensures ∙ ap (λ (r : ℕ). register r d) c.rs-a.ensures))
    (jump_names_two k (rd w) (rs w)) refl (links w c.if-w.false c.if-w-ne0.false)
