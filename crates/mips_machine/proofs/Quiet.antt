-- A service that neither reads nor writes, as a run of one instruction.
use Rattle.std.proofs.Common.{◌≡◌, ◌≢◌, ℕ, ◌+◌, ◌<◌, List, [], ◌++◌, Option, None, refl, sym, ap, ◌∙◌, subst, arith}
use Rattle.std.proofs.Common.{append-nil}
use Rattle.std.proofs.KnownBytes.{Consumes-nil, Appends-nil}
use Rattle.std.proofs.lemmas.Bool.{false≢true}
use Rattle.history.specs.Events.{Item, End, Input}
use Rattle.mips_model.specs.Choices.{Choice}
use Rattle.mips_model.specs.State.{World}
use Rattle.mips_model.specs.Steps.{step, run}
use Rattle.mips_model.proofs.Runs.{run_0, run_1}
use Rattle.mips_machine.specs.declared.stop.Stop.{Stop}
use Rattle.mips_machine.specs.declared.stop.Stop.TheVariants.{Steps, ReadFault, WriteFault}
use Rattle.mips_machine.specs.Progress.{Progress, Notes, Unkept, is_at_end, choosing, more, world}
use Rattle.mips_machine.specs.Ran.{Ran, IsScannedAt, start, ending_of}

-- with this history in place of the other
abbrev pub saying : List Item → Unkept → Unkept
saying history u = record u { history = history }

-- with so much more said of functions
abbrev pub noting : (Notes → Notes) → Unkept → Unkept
noting noted u = record u { notes = noted u.notes }

pub said_all : (new : Progress) (rest : Input) (u : Unkept) (e : Option End) →
    world new rest u e ≡ world new rest (more [] (more [] u)) e
said_all new rest u e =
    sym (ap (λ (o : List Item). world new rest (saying (o ++ []) u) e) (append-nil u.history)
    ∙ ap (λ (o : List Item). world new rest (saying o u) e) (append-nil u.history))

-- before a single instruction the run had not ended
pub alive_one : (w : World) → w.ending ≡ None → (m : ℕ) → m < 1 → (run m w).ending ≡ None
alive_one w is m lt = let e : m ≡ 0 = omega (arith, lt) in
    ap (λ k. (run k w).ending) e ∙ ap (λ (v : World). v.ending) (run_0 w) ∙ is

-- and of a single instruction the choice is known where it is known at first
pub scanned_one : (w : World) → IsScannedAt w → (m : ℕ) → m < 1 → IsScannedAt (run m w)
scanned_one w is m lt = let e : m ≡ 0 = omega (arith, lt) in
    subst IsScannedAt (sym (ap (λ k. run k w) e ∙ run_0 w)) is

-- a service that takes these choices, and says so much more of functions
pub making_ran : (old new : Progress) (left taken : Option (List ℕ)) (stop : Stop) → stop ≢ ReadFault →
    stop ≢ WriteFault → new.steps ≡ old.steps + 1 → is_at_end new ≡ is_at_end old →
    (noted : Notes → Notes) (chosen refused : List Choice) → (stop ≡ Steps → refused ≡ [])
    → ((rest : Input) (u : Unkept) → IsScannedAt (start old [] chosen refused rest u))
    → ((rest : Input) (u : Unkept) →
    step (start old [] chosen refused rest u) ≡ world new rest (choosing refused (noting noted u)) (ending_of stop))
    → Ran 1 old new left left taken taken stop
making_ran old new left taken stop no_read no_write steps same noted chosen refused spent scan is = record {
  count = 1;
  within = omega arith;
  counted = steps;
  all = λ _. refl;
  given = [];
  consumed = Consumes-nil left;
  events = [];
  taken_in = refl;
  last = [];
  front = 0;
  appended = Appends-nil taken;
  whole = λ _. refl;
  cut = λ w. absurd (no_write w);
  stays = λ h. (refl, same ∙ h);
  at_end = λ h n. absurd (false≢true (sym n ∙ sym same ∙ h));
  unended = λ r. absurd (no_read r);
  noted = noted;
  chosen = chosen;
  refused = refused;
  spent = spent;
  ran = λ rest u m.
      run_1 (start old [] chosen refused rest u) ∙ is rest u
      ∙ said_all new rest (choosing refused (noting noted u)) (ending_of stop);
  alive = λ rest u m. alive_one (start old [] chosen refused rest u) refl;
  earlier = λ w. absurd (no_write w);
  scanned = λ rest u m. scanned_one (start old [] chosen refused rest u) (scan rest u);
}

pub quiet_ran : (old new : Progress) (left taken : Option (List ℕ)) (stop : Stop) → stop ≢ ReadFault →
    stop ≢ WriteFault → new.steps ≡ old.steps + 1 → is_at_end new ≡ is_at_end old
    → ((rest : Input) (u : Unkept) → IsScannedAt (world old rest u None))
    → ((rest : Input) (u : Unkept) → step (world old rest u None) ≡ world new rest u (ending_of stop))
    → Ran 1 old new left left taken taken stop
quiet_ran old new left taken stop no_read no_write steps same scan is =
    making_ran old new left taken stop no_read no_write steps same (λ n. n) [] [] (λ e. refl) scan is
