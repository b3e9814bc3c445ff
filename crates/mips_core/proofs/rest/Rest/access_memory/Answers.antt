use Rattle.std.proofs.Common.{ℕ, ◌+◌, ◌%◌, ◌∙◌, ap, refl}
use Rattle.word32.specs.Words.{widened_half}
use Rattle.word32.specs.declared.width.Width.TheVariants.{Byte, Half, Word}
use Rattle.mips_encoder.specs.Fields.{immediate, rs, rt}
use Rattle.mips_encoder.specs.declared.instruction.Instr.TheVariants.{Memory}
use Rattle.mips_model.specs.State.{register}
use Rattle.mips_core.specs.Core.{at, data_of, state_of, storing}
use Rattle.mips_core.proofs.Rows.{accesses, asked, becomes, hazard, two_names}
use Rattle.mips_core.proofs.rest.Rest.access_memory.Goals as goal

pub returns-then-is_loaded : goal.returns-then-is_loaded
returns-then-is_loaded g c =
    let k = c.args.self.now in
    let w = c.args.w in
    let b = c.rs-base.ensures in
    becomes (hazard (Memory c.args.op (rt w) (immediate w) (rs w)) (state_of (at c.args.pc k))
    (two_names k (rt w) (rs w) ∙ asked k.loaded c.is_loaded.ensures c.if-is_loaded.true c.rt-r.ensures b b) refl)
    (c.fault.ensures.becomes _)

pub returns-in-Lb : goal.returns-in-Lb
returns-in-Lb g c =
    let k = c.args.self.now in
    let w = c.args.w in
    let b = c.rs-base.ensures in
    becomes (accesses k c.args.pc w c.in-Lb.is c.rt-r.ensures
    (c.register.ensures ∙ ap (λ (r : ℕ). register r (data_of k)) b)
    (c.widened.ensures ∙ ap widened_half c.immediate.ensures)
    (asked k.loaded c.is_loaded.ensures c.if-is_loaded.false c.rt-r.ensures b b)) c.load.ensures

pub returns-in-Lh : goal.returns-in-Lh
returns-in-Lh g c =
    let k = c.args.self.now in
    let w = c.args.w in
    let b = c.rs-base.ensures in
    becomes (accesses k c.args.pc w c.in-Lh.is c.rt-r.ensures
    (c.register.ensures ∙ ap (λ (r : ℕ). register r (data_of k)) b)
    (c.widened.ensures ∙ ap widened_half c.immediate.ensures)
    (asked k.loaded c.is_loaded.ensures c.if-is_loaded.false c.rt-r.ensures b b)) c.load-in-Lh.ensures

pub returns-in-Lw : goal.returns-in-Lw
returns-in-Lw g c =
    let k = c.args.self.now in
    let w = c.args.w in
    let b = c.rs-base.ensures in
    becomes (accesses k c.args.pc w c.in-Lw.is c.rt-r.ensures
    (c.register.ensures ∙ ap (λ (r : ℕ). register r (data_of k)) b)
    (c.widened.ensures ∙ ap widened_half c.immediate.ensures)
    (asked k.loaded c.is_loaded.ensures c.if-is_loaded.false c.rt-r.ensures b b)) c.load-in-Lw.ensures

pub returns-in-Lbu : goal.returns-in-Lbu
returns-in-Lbu g c =
    let k = c.args.self.now in
    let w = c.args.w in
    let b = c.rs-base.ensures in
    becomes (accesses k c.args.pc w c.in-Lbu.is c.rt-r.ensures
    (c.register.ensures ∙ ap (λ (r : ℕ). register r (data_of k)) b)
    (c.widened.ensures ∙ ap widened_half c.immediate.ensures)
    (asked k.loaded c.is_loaded.ensures c.if-is_loaded.false c.rt-r.ensures b b)) c.load-in-Lbu.ensures

pub returns-in-Lhu : goal.returns-in-Lhu
returns-in-Lhu g c =
    let k = c.args.self.now in
    let w = c.args.w in
    let b = c.rs-base.ensures in
    becomes (accesses k c.args.pc w c.in-Lhu.is c.rt-r.ensures
    (c.register.ensures ∙ ap (λ (r : ℕ). register r (data_of k)) b)
    (c.widened.ensures ∙ ap widened_half c.immediate.ensures)
    (asked k.loaded c.is_loaded.ensures c.if-is_loaded.false c.rt-r.ensures b b)) c.load-in-Lhu.ensures

pub returns-in-Sb : goal.returns-in-Sb
returns-in-Sb g c =
    let k = c.args.self.now in
    let w = c.args.w in
    let b = c.rs-base.ensures in
    becomes (
    ap (λ (v : ℕ). storing ((c.register.result + c.widened.result) % 4294967296) Byte v
    (state_of (at c.args.pc k))) c.register-in-Sb.ensures
    ∙ accesses k c.args.pc w c.in-Sb.is c.rt-r.ensures
    (c.register.ensures ∙ ap (λ (r : ℕ). register r (data_of k)) b)
    (c.widened.ensures ∙ ap widened_half c.immediate.ensures)
    (asked k.loaded c.is_loaded.ensures c.if-is_loaded.false c.rt-r.ensures b b)) c.store.ensures

pub returns-in-Sh : goal.returns-in-Sh
returns-in-Sh g c =
    let k = c.args.self.now in
    let w = c.args.w in
    let b = c.rs-base.ensures in
    becomes (
    ap (λ (v : ℕ). storing ((c.register.result + c.widened.result) % 4294967296) Half v
    (state_of (at c.args.pc k))) c.register-in-Sh.ensures
    ∙ accesses k c.args.pc w c.in-Sh.is c.rt-r.ensures
    (c.register.ensures ∙ ap (λ (r : ℕ). register r (data_of k)) b)
    (c.widened.ensures ∙ ap widened_half c.immediate.ensures)
    (asked k.loaded c.is_loaded.ensures c.if-is_loaded.false c.rt-r.ensures b b)) c.store-in-Sh.ensures

pub returns-in-Sw : goal.returns-in-Sw
returns-in-Sw g c =
    let k = c.args.self.now in
    let w = c.args.w in
    let b = c.rs-base.ensures in
    becomes (
    ap (λ (v : ℕ). storing ((c.register.result + c.widened.result) % 4294967296) Word v
    (state_of (at c.args.pc k))) c.register-in-Sw.ensures
    ∙ accesses k c.args.pc w c.in-Sw.is c.rt-r.ensures
    (c.register.ensures ∙ ap (λ (r : ℕ). register r (data_of k)) b)
    (c.widened.ensures ∙ ap widened_half c.immediate.ensures)
    (asked k.loaded c.is_loaded.ensures c.if-is_loaded.false c.rt-r.ensures b b)) c.store-in-Sw.ensures
