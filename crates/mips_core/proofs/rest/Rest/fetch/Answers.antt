use Rattle.std.proofs.Common.{sym}
use Rattle.mips_core.specs.Core.{state_of}
use Rattle.mips_core.proofs.Fetched.{from_words}
use Rattle.mips_core.proofs.rest.Rest.fetch.Goals as goal

pub returns-in-Some-clause-word : goal.returns-in-Some-clause-word
returns-in-Some-clause-word c =
    sym (from_words (state_of c.args.self.now).code c.args.text.now c.args.at.now.pc c.in-Some.w c.requires.text
    c.in-Some.ensures.word c.in-Some.ensures.below)
