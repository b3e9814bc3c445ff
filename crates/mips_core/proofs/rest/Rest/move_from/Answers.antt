use Rattle.std.proofs.Common.{◌≡◌, ◌∙◌, ap, refl, sym}
use Rattle.mips_encoder.specs.Fields.{rd}
use Rattle.mips_encoder.specs.declared.instruction.Instr.TheVariants.{MoveFrom}
use Rattle.mips_encoder.specs.declared.instruction.HiLo.{HiLo}
use Rattle.mips_model.specs.Effects.{half_of}
use Rattle.mips_core.specs.Core.{CoreKept, at, data_of, state_of}
use Rattle.mips_core.proofs.Rows.{asked, becomes, goes_pending, hazard, moves, moves_nothing, moves_shifted, no_hazard}
use Rattle.mips_core.proofs.Rows.{one_name, read_half}
use Rattle.mips_core.proofs.rest.Rest.move_from.Goals as goal
use Rattle.mips_core.proofs.rest.Rest.move_from.Goals.{
  in-Hi,
  in-Lo,
  then-w-ne0-via-then-w-ne0,
  then-w-ne0-via-else-w-ne0+then-w-ne0-2,
}

pub returns-then-w-ne0 : goal.returns-then-w-ne0
returns-then-w-ne0 g c =
    let n = c.args.w in
    let s = state_of (at c.args.pc c.args.self.now) in
    becomes (elim c.then-w-ne0.branch [
      | then-w-ne0-via-then-w-ne0 w ↦ moves_nothing c.args.half n s w.if-w-ne0.true
      | then-w-ne0-via-else-w-ne0+then-w-ne0-2 w ↦ moves_shifted c.args.half n s w.if-w-ne0-2.true
    ]) (c.fault.ensures.becomes _)

pub returns-then-is_loaded : goal.returns-then-is_loaded
returns-then-is_loaded g c =
    let k = c.args.self.now in
    let w = c.args.w in
    let r = c.rd-r.ensures in
    becomes (hazard (MoveFrom c.args.half (rd w)) (state_of (at c.args.pc k))
    (one_name k (rd w) ∙ asked k.loaded c.is_loaded.ensures c.if-is_loaded.true r r r)
    (moves c.args.half w c.if-w-ne0.false c.if-w-ne0-2.false)) (c.fault-then-is_loaded.ensures.becomes _)

pub returns : goal.returns
returns g c =
    let k = c.args.self.now in
    let w = c.args.w in
    let s = state_of (at c.args.pc k) in
    let d = data_of k in
    let r = c.rd-r.ensures in
    let value : c.match-half.v ≡ half_of c.args.half d = elim c.match-half.branch [
      | in-Hi b ↦ b.v-is ∙ ap (λ (n : CoreKept). n.hi) c.self.view_is
          ∙ sym (ap (λ (h : HiLo). half_of h d) b.in-Hi.is)
      | in-Lo b ↦ b.v-is ∙ ap (λ (n : CoreKept). n.lo) c.self.view_is
          ∙ sym (ap (λ (h : HiLo). half_of h d) b.in-Lo.is)
    ] in
    becomes (no_hazard (MoveFrom c.args.half (rd w)) s
    (one_name k (rd w) ∙ asked k.loaded c.is_loaded.ensures c.if-is_loaded.false r r r)
    (moves c.args.half w c.if-w-ne0.false c.if-w-ne0-2.false))
    (goes_pending c.requires.ready
    (read_half k c.write.new.self c.advance-next.new.self c.set_recent.new.self c.args.pc c.advance-next.result
    c.set_recent.ensures c.advance-next.ensures.world (c.write.ensures.at c.args.pc) c.requires.ready.on r value)
    refl refl)
