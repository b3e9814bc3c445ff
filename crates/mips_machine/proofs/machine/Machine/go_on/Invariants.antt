use Rattle.std.proofs.Common.{◌≡◌, ◌+◌, ◌-◌, ◌≤◌, None}
use Rattle.mips_machine.specs.declared.stop.Stop.TheVariants.{Steps}
use Rattle.mips_machine.specs.Progress.{progress_of}
use Rattle.mips_machine.specs.Ran.{Ran}
use Rattle.mips_machine.proofs.machine.Machine.go_on.Given as goal

abbrev pub invariant-loop-left : goal.invariant-loop-left
invariant-loop-left g l = record {
  fresh : l.self.stopped ≡ None;
  within : l.left ≤ l.fn.n;
  steps : l.self.steps + l.left ≡ l.fn.self.steps + l.fn.n;
  ran : Ran (l.fn.n - l.left) (progress_of l.fn.self) (progress_of l.self) (g.I.Source.left l.fn.input)
      (g.I.Source.left l.input) (g.O.Sink.taken l.fn.out) (g.O.Sink.taken l.out) Steps;
  read : g.I.Source.faults l.input ≡ g.I.Source.faults l.fn.input;
  write : g.O.Sink.faults l.out ≡ g.O.Sink.faults l.fn.out;
}

abbrev pub decreases-loop-left : goal.decreases-loop-left
decreases-loop-left g l = l.left
