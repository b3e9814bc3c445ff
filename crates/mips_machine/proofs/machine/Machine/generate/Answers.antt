use Rattle.std.proofs.Common.{◌≡◌, ◌+◌, ap, sym, ◌∙◌, subst}
use Rattle.mips_model.specs.CodeServices as services
use Rattle.mips_model.specs.State.{register}
use Rattle.mips_core.specs.Core.{state_of}
use Rattle.mips_machine.specs.declared.tally.Tally.{Tally}
use Rattle.mips_machine.specs.Progress.{Held, progress_of}
use Rattle.mips_machine.specs.Served.{Generates, Makes, stop_from}
use Rattle.mips_machine.proofs.Generates.{answers, refuses, left_alone, small_answer, grown, unmoved}
use Rattle.mips_machine.proofs.machine.Machine.generate.Goals as goal

pub invariant_of-self : goal.invariant_of-self
invariant_of-self c =
    let old : Held = record {
      core = c.self.inside.core;
      generator = c.self.inside.service;
      at_end = c.self.inside.at_end;
      tally = c.self.inside.tally;
      steps = c.self.inside.steps;
      stopped = c.self.inside.stopped;
    } in
    let d = (state_of old.core).d in
    let s = c.in-Ok.ensures.served in
    grown old c.generate.new.self c.generate.new.service c.args.service c.in-Ok.v c.add.new.self c.self.invariant
    c.generate.ensures.on c.add.ensures
    (small_answer s.0 (register 2 d) (register 4 d) (register 5 d) (register 6 d) c.in-Ok.v old.generator
    c.generate.new.service (state_of old.core).code.arena s.1 d.table s.2 s.4)
    c.generate.ensures.few

pub invariant_of-self-in-Err : goal.invariant_of-self-in-Err
invariant_of-self-in-Err c =
    let old : Held = record {
      core = c.self.inside.core;
      generator = c.self.inside.service;
      at_end = c.self.inside.at_end;
      tally = c.self.inside.tally;
      steps = c.self.inside.steps;
      stopped = c.self.inside.stopped;
    } in
    let d = (state_of old.core).d in
    let s = c.in-Err.ensures.served in
    unmoved old c.generate.new.self c.generate.new.service c.self.invariant c.generate.ensures.on
    (left_alone old c.generate.new.service c.in-Err.field-0 s.1 s.2
    (services.service s.0 (register 2 d) (register 4 d) (register 5 d) (register 6 d) old.generator) s.4)

pub returns-in-Ok-clause-made : goal.returns-in-Ok-clause-made
returns-in-Ok-clause-made c =
    let old : Held = record {
      core = c.self.inside.core;
      generator = c.self.inside.service;
      at_end = c.self.inside.at_end;
      tally = c.self.inside.tally;
      steps = c.self.inside.steps;
      stopped = c.self.inside.stopped;
    } in
    let new : Held = record {
      core = c.generate.new.self;
      generator = c.generate.new.service;
      at_end = c.self.inside.at_end;
      tally = c.add.new.self;
      steps = c.self.inside.steps + 1;
      stopped = c.self.inside.stopped;
    } in
    let d = (state_of old.core).d in
    let s = c.in-Ok.ensures.served in
    let o = services.service s.0 (register 2 d) (register 4 d) (register 5 d) (register 6 d) old.generator in
    let on = ap (λ (h : Held). h.stopped) c.self.view_is ∙ c.requires.fresh in
    let made = answers old c.generate.new.self c.generate.new.service c.args.service c.in-Ok.v s.1 s.2 o s.4 s.5 on in
    subst (λ (h : Held). Generates c.args.service (progress_of h) (progress_of new) (stop_from new.stopped))
    c.self.view_is (
      s.0,
      s.3,
      subst (λ (t : Tally). Makes o c.args.service (progress_of old) (progress_of (record new { tally = t }))
          (stop_from old.stopped)) (sym c.add.ensures) made,
    )

pub returns-in-Err-clause-made : goal.returns-in-Err-clause-made
returns-in-Err-clause-made c =
    let old : Held = record {
      core = c.self.inside.core;
      generator = c.self.inside.service;
      at_end = c.self.inside.at_end;
      tally = c.self.inside.tally;
      steps = c.self.inside.steps;
      stopped = c.self.inside.stopped;
    } in
    let d = (state_of old.core).d in
    let s = c.in-Err.ensures.served in
    let o = services.service s.0 (register 2 d) (register 4 d) (register 5 d) (register 6 d) old.generator in
    subst (λ (h : Held). Generates c.args.service (progress_of h) (progress_of c.refuse.new.self)
    (stop_from c.refuse.new.self.stopped)) c.self.view_is (
      s.0,
      s.3,
      refuses old c.generate.new.self c.generate.new.service c.args.service c.in-Err.field-0 s.1 s.2
          (progress_of c.refuse.new.self) o c.refuse.new.self.stopped s.4 s.5 c.refuse.ensures.state
          c.refuse.ensures.stopped,
    )
