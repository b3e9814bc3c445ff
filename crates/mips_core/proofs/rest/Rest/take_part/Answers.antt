use Rattle.mips_core.specs.Core.{at, state_of}
use Rattle.mips_core.proofs.Elsewhere.{takes_none, takes_part}
use Rattle.mips_core.proofs.Rows.{becomes}
use Rattle.mips_core.proofs.rest.Rest.take_part.Goals as goal

pub returns-then-is_aligned : goal.returns-then-is_aligned
returns-then-is_aligned g c =
    becomes (takes_part c.args.r c.args.at c.args.width c.args.word (state_of (at c.args.pc c.args.self.now))
    c.is_aligned.ensures c.if-is_aligned.true c.loaded_part.ensures) c.take.ensures

pub returns-else-is_aligned : goal.returns-else-is_aligned
returns-else-is_aligned g c =
    becomes (takes_none c.args.r c.args.at c.args.width c.args.word (state_of (at c.args.pc c.args.self.now))
    c.is_aligned.ensures c.if-is_aligned.false) (c.end.ensures _)
