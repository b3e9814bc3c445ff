use Rattle.std.proofs.Common.{sym, ap, ◌∙◌, rules}
use Rattle.flat_memory.specs.Regions.{spaces_of}
use Rattle.flat_memory.specs.Spaces as flat
use Rattle.mips_core.specs.Core.{CoreKept}
use Rattle.mips_core.proofs.Accessed.{loads, load_refused}
use Rattle.mips_core.proofs.Rows.{becomes}
use Rattle.mips_core.proofs.rest.Rest.load.Goals as goal

pub returns-in-Ok : goal.returns-in-Ok
returns-in-Ok g c =
    becomes (loads c.args.self.now c.args.pc c.args.r c.args.at c.args.width c.in-Ok.v
    (ap (λ (k : CoreKept). flat.load (spaces_of k.memory) c.args.at c.args.width) (sym c.self.view_is)
    ∙ sym c.load.ensures ∙ c.in-Ok.is)) c.take.ensures

pub returns-in-Err-Outside : goal.returns-in-Err-Outside
returns-in-Err-Outside g c = c.load_elsewhere.ensures

pub returns-in-Err : goal.returns-in-Err
returns-in-Err g c =
    becomes (load_refused c.args.self.now c.args.pc c.args.r c.args.at c.args.width c.in-Err.field-0
    (ap (λ (k : CoreKept). flat.load (spaces_of k.memory) c.args.at c.args.width) (sym c.self.view_is)
    ∙ sym c.load.ensures ∙ c.in-Err.is)
    (search rules)) (c.end.ensures _)
