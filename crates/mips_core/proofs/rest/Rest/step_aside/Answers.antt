use Rattle.mips_core.proofs.Stepped.{executed}
use Rattle.mips_core.proofs.rest.Rest.step_aside.Goals as goal

pub returns : goal.returns
returns c =
    let e = executed c.requires.word c.requires.on c.execute.ensures in
    record { service = e.0; other = e.1 }
