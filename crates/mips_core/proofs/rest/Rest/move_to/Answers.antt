use Rattle.std.proofs.Common.{ℕ, ◌∙◌, refl, sym, ap}
use Rattle.mips_encoder.specs.Fields.{rs}
use Rattle.mips_encoder.specs.declared.instruction.HiLo.{HiLo}
use Rattle.mips_encoder.specs.declared.instruction.HiLo.TheVariants.{Hi, Lo}
use Rattle.mips_encoder.specs.Decoded.{move_to}
use Rattle.mips_encoder.specs.declared.instruction.Instr.TheVariants.{MoveTo}
use Rattle.mips_model.specs.State.{register}
use Rattle.mips_core.specs.Core.{CoreKept, at, data_of, does, halved, state_of}
use Rattle.mips_core.proofs.Rows.{becomes, both, halves, sets_one}
use Rattle.mips_core.proofs.rest.Rest.move_to.Goals as goal

pub returns-in-Hi : goal.returns-in-Hi
returns-in-Hi g c =
    let k = c.args.self.now in
    let w = c.args.w in
    let s = state_of (at c.args.pc k) in
    let d = data_of k in
    becomes (ap (λ (half : HiLo). does (move_to half w) s) (sym c.in-Hi.is))
    (halves k (MoveTo Hi (rs w)) c.set_halves.ensures c.rs-a.ensures c.rs-a.ensures
    (both (λ (v u : ℕ). halved v u s) (c.register-v.ensures ∙ ap (λ (r : ℕ). register r d) c.rs-a.ensures)
    (ap (λ (n : CoreKept). n.lo) c.self.view_is))
    (sets_one k (rs w)) refl refl)

pub returns-in-Lo : goal.returns-in-Lo
returns-in-Lo g c =
    let k = c.args.self.now in
    let w = c.args.w in
    let s = state_of (at c.args.pc k) in
    let d = data_of k in
    becomes (ap (λ (half : HiLo). does (move_to half w) s) (sym c.in-Lo.is))
    (halves k (MoveTo Lo (rs w)) c.set_halves-in-Lo.ensures c.rs-a.ensures c.rs-a.ensures
    (both (λ (u v : ℕ). halved u v s) (ap (λ (n : CoreKept). n.hi) c.self.view_is)
    (c.register-v.ensures ∙ ap (λ (r : ℕ). register r d) c.rs-a.ensures))
    (sets_one k (rs w)) refl refl)
