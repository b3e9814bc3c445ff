use Rattle.std.proofs.Common.{◌∙◌, ◌-◌, ap, refl}
use Rattle.mips_core.specs.Core.{CoreKept, at, ending_from}
use Rattle.mips_core.proofs.Accessed.{misaligned, read_only, refused_outside, stores}
use Rattle.mips_core.proofs.Rows.{becomes, goes_on}
use Rattle.mips_core.proofs.rest.Rest.store.Goals as goal

pub returns-in-Ok : goal.returns-in-Ok
returns-in-Ok g c =
    becomes (
    stores c.args.pc c.args.at c.args.width c.args.w c.store.new.self c.self.view_is c.in-Ok.ensures
    c.requires.ready.on)
    (goes_on c.requires.ready c.advance.ensures.world
    (ap (λ (k : CoreKept). ending_from k.stopped) c.self.view_is ∙ ap ending_from c.requires.ready.on)
    (ap (λ (k : CoreKept). (at c.args.pc k).next) c.self.view_is) refl refl
    (ap (λ (k : CoreKept). k.recent - 1) c.self.view_is))

pub returns-in-Err-Outside : goal.returns-in-Err-Outside
returns-in-Err-Outside g c =
    becomes (refused_outside c.args.pc c.args.at c.args.width c.args.w c.store.new.self c.self.view_is
    c.in-Err-Outside.ensures.1) c.store_elsewhere.ensures

pub returns-in-Err-Misaligned : goal.returns-in-Err-Misaligned
returns-in-Err-Misaligned g c =
    becomes (misaligned c.args.pc c.args.at c.args.width c.args.w c.store.new.self c.self.view_is
    c.in-Err-Misaligned.field-0-is c.in-Err-Misaligned.ensures) (c.end.ensures _)

pub returns-in-Err-ReadOnly : goal.returns-in-Err-ReadOnly
returns-in-Err-ReadOnly g c =
    becomes (read_only c.args.pc c.args.at c.args.width c.args.w c.store.new.self c.self.view_is
    c.in-Err-ReadOnly.field-0-is c.in-Err-ReadOnly.ensures) (c.end-in-Err-ReadOnly.ensures _)
