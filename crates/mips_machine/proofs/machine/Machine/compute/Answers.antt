use Rattle.std.proofs.Common.{◌+◌, ◌-◌, Some, refl, ap, sym, ◌∙◌, subst}
use Rattle.mips_machine.specs.Progress.{Held, progress_of}
use Rattle.mips_machine.specs.Ran.{Ran}
use Rattle.mips_machine.specs.Served.{stop_from}
use Rattle.mips_machine.proofs.Stretch.{Stays, halted_ran, paused_ran}
use Rattle.mips_machine.proofs.machine.Machine.compute.Goals as goal

pub returns-in-Some-clause-ran : goal.returns-in-Some-clause-ran
returns-in-Some-clause-ran c = λ left taken.
    let count = c.args.n - c.go_on-left.result in
    let old : Held = record {
      core = c.self.inside.core;
      generator = c.self.inside.service;
      at_end = c.self.inside.at_end;
      tally = c.self.inside.tally;
      steps = c.self.inside.steps;
      stopped = c.self.inside.stopped;
    } in
    let new : Held = record {
      core = c.go_on-left.new.self;
      generator = c.self.inside.service;
      at_end = c.self.inside.at_end;
      tally = c.self.inside.tally;
      steps = c.self.inside.steps + count;
      stopped = Some c.stop_of.result;
    } in
    let on = c.self.invariant.alive (ap (λ (h : Held). h.stopped) c.self.view_is ∙ c.requires.fresh) in
    let stays : Stays count old new = record { at_end = refl; generator = refl; tally = refl; steps = refl } in
    subst (λ (h : Held). Ran count (progress_of h) (progress_of new) left left taken taken c.stop_of.result)
    c.self.view_is
    (halted_ran count old new left taken c.stop_of.result c.in-Some.halt c.stop_of.ensures
    (sym c.stopped.ensures ∙ c.in-Some.is) on c.go_on-left.ensures.ran stays)

pub returns-in_default-clause-ran : goal.returns-in_default-clause-ran
returns-in_default-clause-ran c = λ left taken.
    let count = c.args.n - c.go_on-left.result in
    let old : Held = record {
      core = c.self.inside.core;
      generator = c.self.inside.service;
      at_end = c.self.inside.at_end;
      tally = c.self.inside.tally;
      steps = c.self.inside.steps;
      stopped = c.self.inside.stopped;
    } in
    let new : Held = record {
      core = c.go_on-left.new.self;
      generator = c.self.inside.service;
      at_end = c.self.inside.at_end;
      tally = c.self.inside.tally;
      steps = c.self.inside.steps + count;
      stopped = c.self.inside.stopped;
    } in
    let fresh = ap (λ (h : Held). h.stopped) c.self.view_is ∙ c.requires.fresh in
    let on = c.self.invariant.alive fresh in
    let stays : Stays count old new = record { at_end = refl; generator = refl; tally = refl; steps = refl } in
    subst (λ (h : Held). Ran count (progress_of h) (progress_of new) left left taken taken
    (stop_from c.self.inside.stopped)) c.self.view_is
    (paused_ran count old new left taken c.self.inside.stopped fresh (sym c.stopped.ensures ∙ c.in_default.is) on
    c.go_on-left.ensures.ran stays)
