use Rattle.std.proofs.Common.{◌≡◌, ◌≢◌, Some, refl, sym, ap, arith, ◌∙◌, subst}
use Rattle.mips_machine.specs.declared.stop.Stop.{Stop}
use Rattle.mips_machine.specs.declared.stop.Stop.TheVariants.{Ended, Fault, Steps, ReadFault, WriteFault}
use Rattle.mips_machine.specs.Progress.{Held, progress_of}
use Rattle.mips_machine.specs.Ran.{ReadCause, WriteCause, kept_stop}
use Rattle.mips_machine.specs.Served.{stop_from}
use Rattle.mips_machine.proofs.More.{ran_none, ran_more, ran_within, ran_count, ran_stop}
use Rattle.mips_machine.proofs.machine.Machine.go_on.Goals as goal

kept_is : (stop : Stop) → stop ≢ Steps → Some stop ≡ kept_stop stop
kept_is (Ended e) other = refl
kept_is (Fault k at) other = refl
kept_is Steps other = absurd (other refl)
kept_is ReadFault other = refl
kept_is WriteFault other = refl

pub loop-left-init : goal.loop-left-init
loop-left-init g c = record {
  fresh = c.requires.fresh;
  within = omega arith;
  steps = omega arith;
  ran = ran_count (omega arith)
      (ran_none (progress_of c.args.self.now) (g.I.Source.left c.args.input.now) (g.O.Sink.taken c.args.out.now));
  read = refl;
  write = refl;
}

pub returns-in-Some-clause-ran : goal.returns-in-Some-clause-ran
returns-in-Some-clause-ran g c =
    let same = ap (λ (h : Held). stop_from h.stopped) (sym c.self.view_is) ∙ ap stop_from c.in-Some.is in
    let within = c.loop-left.invariant.within in
    ran_within (omega (arith, within)) (λ e. c.self.invariant.stays (c.in-Some.is ∙ ap Some e))
    (ran_more c.loop-left.invariant.ran (ran_stop same c.advance-left.ensures.ran))

pub returns-in-Some-clause-stopped : goal.returns-in-Some-clause-stopped
returns-in-Some-clause-stopped g c =
    ap (λ (h : Held). h.stopped) (sym c.self.view_is) ∙ c.in-Some.is ∙
    kept_is c.in-Some.stop (λ e. c.self.invariant.stays (c.in-Some.is ∙ ap Some e))

pub loop-left-preserved : goal.loop-left-preserved
loop-left-preserved g c =
    let fresh = ap (λ (h : Held). h.stopped) (sym c.self.view_is) ∙ c.in_default.is in
    let f = ran_stop (ap stop_from fresh) c.advance-left.ensures.ran in
    let counted = f.counted in
    let all = f.all refl in
    let within = c.loop-left.invariant.within in
    let less = c.advance-left.ensures.within in
    let steps = c.loop-left.invariant.steps in
    let read : g.I.Source.faults c.advance-left.new.input ≡ g.I.Source.faults c.loop-left.input =
    subst (λ s. ReadCause s (g.I.Source.faults c.loop-left.input) (g.I.Source.faults c.advance-left.new.input))
    (ap stop_from fresh) c.advance-left.ensures.read in
    let write : g.O.Sink.faults c.advance-left.new.out ≡ g.O.Sink.faults c.loop-left.out =
    subst (λ s. WriteCause s (g.O.Sink.faults c.loop-left.out) (g.O.Sink.faults c.advance-left.new.out))
    (ap stop_from fresh) c.advance-left.ensures.write in
    record {
      fresh = fresh;
      within = omega (arith, within, less);
      steps = omega (arith, counted, all, less, steps);
      ran = ran_count (omega (arith, within, less)) (ran_more c.loop-left.invariant.ran f);
      read = read ∙ c.loop-left.invariant.read;
      write = write ∙ c.loop-left.invariant.write;
    }
