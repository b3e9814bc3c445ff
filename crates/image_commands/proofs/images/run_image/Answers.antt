use Rattle.std.proofs.Common.{rules, subst}
use Rattle.mips_machine.specs.Progress.{Progress, progress_of}
use Rattle.mips_machine.specs.Ran.{Ran}
use Rattle.image_commands.proofs.images.run_image.Goals as goal

-- the run of a fresh machine is that of its image
pub returns-clause-ran : goal.returns-clause-ran
returns-clause-ran g c = record {
  handed_back = search rules;
  final = progress_of c.run-stop.new.self;
  stop = c.run-stop.result;
  ran =
      subst (λ (p : Progress). Ran c.args.steps p (progress_of c.run-stop.new.self) (g.I.Source.left c.args.input.now)
      (g.I.Source.left c.run-stop.new.input) (g.O.Sink.taken c.args.out.now) (g.O.Sink.taken c.run-stop.new.out)
      c.run-stop.result)
      c.in_ok-machine.ensures.state (c.run-stop.ensures.ran c.in_ok-machine.ensures.fresh);
  steps = search rules;
  counts = search rules;
  choices = search rules;
  outcome = search rules;
}
