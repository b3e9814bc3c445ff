-- Instructions up to the next service: nothing is read or written, and the outside stays.
use Rattle.std.proofs.Common.{◌≡◌, ◌≢◌, ℕ, ◌+◌, Bool, true, false, ◌&&◌, not, nat_eq, is_some, if◌then◌else◌, List, []}
use Rattle.std.proofs.Common.{Option, None, Some, refl, sym, ap, ◌∙◌, subst, arith}
use Rattle.std.specs.Fn.{iterate}
use Rattle.std.proofs.KnownBytes.{Consumes-nil, Appends-nil}
use Rattle.std.proofs.lemmas.Bool.{false≢true}
use Rattle.history.specs.Events.{End, Input}
use Rattle.mips_model.specs.CodeServices.{Generator}
use Rattle.mips_encoder.specs.declared.instruction.Instr.TheVariants.{Syscall}
use Rattle.mips_model.specs.State.{Outside, World, register}
use Rattle.mips_model.specs.Steps.{step, run, is_hazard}
use Rattle.mips_model.specs.Beside.{beside, beside_state, is_at_service}
use Rattle.mips_core.specs.declared.halt.Halt.{Halt}
use Rattle.mips_core.specs.declared.halt.Halt.TheVariants as halt
use Rattle.mips_core.specs.Core.{GoesOn, state_of, world_of, ending_from}
use Rattle.mips_machine.specs.declared.stop.Stop.{Stop}
use Rattle.mips_machine.specs.declared.tally.Tally.{Tally}
use Rattle.mips_machine.specs.declared.stop.Stop.TheVariants.{Steps, ReadFault, WriteFault}
use Rattle.mips_machine.specs.Progress.{Held, Unkept, outside_with, outside_of, progress_of, world}
use Rattle.mips_machine.specs.Ran.{Ran, IsScannedAt, ending_of}
use Rattle.mips_machine.specs.Served.{stop_of, stop_from}
use Rattle.mips_machine.proofs.Quiet.{said_all}

-- the outside stays, and so many instructions more were executed
pub record Stays (count : ℕ) (old new : Held) : Type 0 where
  pub at_end : new.at_end ≡ old.at_end
  pub generator : new.generator ≡ old.generator
  pub tally : new.tally ≡ old.tally
  pub steps : new.steps ≡ old.steps + count

-- what is to come and what took place, beside what a machine keeps
abbrev with : Held → Input → Unkept → Outside
with h input u = outside_with input u (outside_of h)

world_is : (h : Held) (input : Input) (u : Unkept) (e : Option End) → ending_from h.core.stopped ≡ e →
    beside (with h input u) (world_of h.core) ≡ world (progress_of h) input u e
world_is h input u e is =
    ap (λ (x : Option End). record { state = beside_state (with h input u) (state_of h.core); ending = x }) is

same_outside : {count : ℕ} {old new : Held} → Stays count old new → (input : Input) (u : Unkept) →
    with old input u ≡ with new input u
same_outside {count} {old} {new} s input u =
    ap (λ (b : Bool). with (record old { at_end = b }) input u) (sym s.at_end)
    ∙ (ap (λ (g : Generator). with (record old { at_end = new.at_end; generator = g }) input u) (sym s.generator)
    ∙ ap (λ (t : Tally). with (record new { tally = t }) input u) (sym s.tally))

-- an instruction that is no service finishes no function
idle_at : (w : World) → is_at_service w.state ≡ false → IsScannedAt w
idle_at w is serving = absurd (false≢true (sym (none_served (is_some w.ending) (is_at_service w.state) is) ∙ serving))
  where
    none_served : (b c : Bool) → c ≡ false →
        (if b then false else (c && (nat_eq (register 2 w.state.d) 66 && not (is_hazard Syscall w.state)))) ≡ false
    none_served true c e = refl
    none_served false c e =
        ap (λ (x : Bool). x && (nat_eq (register 2 w.state.d) 66 && not (is_hazard Syscall w.state))) e

pub stretch_ran : (count : ℕ) (old new : Held) (left taken : Option (List ℕ)) (stop : Stop) → stop ≢ ReadFault →
    stop ≢ WriteFault
    → old.core.stopped ≡ None → GoesOn count old.core new.core → Stays count old new →
    ending_from new.core.stopped ≡ ending_of stop
    → Ran count (progress_of old) (progress_of new) left left taken taken stop
unfolding run
stretch_ran count old new left taken stop no_read no_write on g s is = record {
  count = count;
  within = omega arith;
  counted = s.steps;
  all = λ _. refl;
  given = [];
  consumed = Consumes-nil left;
  events = [];
  taken_in = refl;
  last = [];
  front = 0;
  appended = Appends-nil taken;
  whole = λ _. refl;
  cut = λ w. absurd (no_write w);
  stays = λ h. (refl, s.at_end ∙ h);
  at_end = λ h n. absurd (false≢true (sym n ∙ sym s.at_end ∙ h));
  unended = λ r. absurd (no_read r);
  noted = λ n. n;
  chosen = [];
  refused = [];
  spent = λ e. refl;
  ran = λ rest u m.
      ap (λ (w : World). iterate step count w) (sym (world_is old rest u None (ap ending_from on)))
      ∙ g.ran (with old rest u)
      ∙ ap (λ (o : Outside). beside o (world_of new.core)) (same_outside s rest u)
      ∙ world_is new rest u (ending_of stop) is
      ∙ said_all (progress_of new) rest u (ending_of stop);
  alive = λ rest u m k lt.
      ap (λ (w : World). (iterate step k w).ending) (sym (world_is old rest u None (ap ending_from on)))
      ∙ g.alive (with old rest u) k lt;
  earlier = λ w. absurd (no_write w);
  scanned = λ rest u m k lt.
      subst (λ (w : World). IsScannedAt (iterate step k w)) (world_is old rest u None (ap ending_from on))
      (idle_at (iterate step k (beside (with old rest u) (world_of old.core))) (g.others (with old rest u) k lt));
}

-- the stop that the core's halt is
ended_is : (h : Halt) → ending_from (Some h) ≡ ending_of (stop_of h)
ended_is (halt.Ended e) = refl
ended_is (halt.Fault k at) = refl

never_read : (h : Halt) → stop_of h ≢ ReadFault
never_read (halt.Ended e) is = absurd cc
never_read (halt.Fault k at) is = absurd cc

never_write : (h : Halt) → stop_of h ≢ WriteFault
never_write (halt.Ended e) is = absurd cc
never_write (halt.Fault k at) is = absurd cc

-- the stretch ends the run
pub halted_ran : (count : ℕ) (old new : Held) (left taken : Option (List ℕ)) (stop : Stop) (h : Halt) →
    stop ≡ stop_of h → new.core.stopped ≡ Some h
    → old.core.stopped ≡ None → GoesOn count old.core new.core → Stays count old new
    → Ran count (progress_of old) (progress_of new) left left taken taken stop
halted_ran count old new left taken stop h same stopped on g s =
    stretch_ran count old new left taken stop (λ e. never_read h (sym same ∙ e)) (λ e. never_write h (sym same ∙ e)) on
    g s
    (ap ending_from stopped ∙ ended_is h ∙ ap ending_of (sym same))

-- or it doesn't
pub paused_ran : (count : ℕ) (old new : Held) (left taken : Option (List ℕ)) (o : Option Stop) → o ≡ None →
    new.core.stopped ≡ None
    → old.core.stopped ≡ None → GoesOn count old.core new.core → Stays count old new
    → Ran count (progress_of old) (progress_of new) left left taken taken (stop_from o)
paused_ran count old new left taken o none stopped on g s =
    subst (λ (x : Option Stop). Ran count (progress_of old) (progress_of new) left left taken taken (stop_from x))
    (sym none)
    (stretch_ran count old new left taken Steps (λ e. absurd cc) (λ e. absurd cc) on g s (ap ending_from stopped))
