-- What the loop promises of a machine that had not stopped is what the call promises.
use Rattle.mips_machine.proofs.machine.Machine.run.Goals as goal

pub returns-in-None-clause-ran : goal.returns-in-None-clause-ran
returns-in-None-clause-ran g c = λ fresh. c.go_on.ensures.ran

pub returns-in-None-clause-stopped : goal.returns-in-None-clause-stopped
returns-in-None-clause-stopped g c = λ fresh. c.go_on.ensures.stopped

pub returns-in-None-clause-read : goal.returns-in-None-clause-read
returns-in-None-clause-read g c = λ fresh. c.go_on.ensures.read

pub returns-in-None-clause-write : goal.returns-in-None-clause-write
returns-in-None-clause-write g c = λ fresh. c.go_on.ensures.write
