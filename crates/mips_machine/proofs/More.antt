-- Two calls, one after the other, are one; and what a call says of the definition's run.
use Rattle.std.proofs.Common.{◌≡◌, ◌≢◌, inl, inr, ℕ, zero, suc, ◌+◌, ◌-◌, ◌≤◌, ◌<◌, Bool, true, false, nat_eq, List, []}
use Rattle.std.proofs.Common.{◌∷◌, ◌++◌, take, Option, None, Some, refl, sym, ap, ◌∙◌, subst, arith, append_assoc}
use Rattle.std.proofs.Common.{append-nil, is_some, if◌then◌else◌, ⊎_elim, ◌&&◌, not}
use Rattle.std.specs.Io.KnownBytes.{Appends, Consumes}
use Rattle.std.proofs.KnownBytes.{Consumes-nil, Consumes-trans, Appends-nil, Appends-trans}
use Rattle.std.proofs.lemmas.Bool.{false≢true, cases_Bool, cases_lt}
use Rattle.history.specs.Events.{Item, Out, In, Made, Entered, End, Input, output, outs}
use Rattle.icode_ir.specs.Build.{Build}
use Rattle.icode_service.specs.Served.{ChosenFor}
use Rattle.mips_model.specs.Choices.{Choice}
use Rattle.mips_encoder.specs.declared.instruction.Instr.TheVariants.{Syscall}
use Rattle.mips_model.specs.State.{World, register}
use Rattle.mips_model.specs.Services.{generator_of, next_choice}
use Rattle.mips_model.specs.Steps.{step, run, is_hazard}
use Rattle.mips_model.specs.Beside.{is_at_service}
use Rattle.mips_model.specs.Run.{IsLegalFor, IsWellChosen, steps_within}
use Rattle.mips_model.proofs.Runs.{run-+, run_0, run_stays}
use Rattle.mips_machine.specs.declared.stop.Stop.{Stop}
use Rattle.mips_machine.specs.declared.stop.Stop.TheVariants.{Ended, Fault, Steps, ReadFault, WriteFault}
use Rattle.mips_machine.specs.Progress.{Progress, Unkept, is_at_end, choosing, more, world}
use Rattle.mips_machine.specs.Ran.{Ran, MayFollow, IsScannedAt, EndsFrom, bytes_read, told_of, start, ending_of, before}
use Rattle.mips_machine.proofs.Quiet.{said_all, saying}

-- the bytes of two histories
pub output-++ : (a b : List Item) → output (a ++ b) ≡ output a ++ output b
output-++ [] b = refl
output-++ (Out x ∷ a) b = ap (λ (l : List ℕ). x ∷ l) (output-++ a b)
output-++ (In x ∷ a) b = output-++ a b
output-++ (Made f syntax ∷ a) b = output-++ a b
output-++ (Entered f ∷ a) b = output-++ a b

-- and the bytes that they took from the input
read_on : (w : ℕ) (a b : List Item) (t : Bool) → bytes_read (a ++ b) ≡ bytes_read a ++ bytes_read b
    → (if t then bytes_read (a ++ b) else (w ∷ bytes_read (a ++ b))) ≡ (if t then bytes_read a else (w ∷ bytes_read a))
    ++ bytes_read b
read_on w a b true e = e
read_on w a b false e = ap (λ (l : List ℕ). w ∷ l) e

pub bytes_read-++ : (a b : List Item) → bytes_read (a ++ b) ≡ bytes_read a ++ bytes_read b
bytes_read-++ [] b = refl
bytes_read-++ (Out x ∷ a) b = bytes_read-++ a b
bytes_read-++ (In x ∷ a) b = read_on x a b (nat_eq x 4294967295) (bytes_read-++ a b)
bytes_read-++ (Made f syntax ∷ a) b = bytes_read-++ a b
bytes_read-++ (Entered f ∷ a) b = bytes_read-++ a b

-- at the end already
still_at_end : (a b c : Option (List ℕ)) (first second : List ℕ) → Consumes a b first → Consumes b c second →
    second ≡ [] → EndsFrom a b → EndsFrom a c
still_at_end None b c first second f s none e = tt
still_at_end (Some x) None c first second f s none e = absurd f
still_at_end (Some x) (Some y) None first second f s none e = absurd s
still_at_end (Some x) (Some y) (Some z) first second f s none e = sym (s ∙ ap (λ (l : List ℕ). l ++ z) none) ∙ e

-- the end is read in the second run
later_end : (a b c : Option (List ℕ)) (first : List ℕ) → Consumes a b first → EndsFrom b c → EndsFrom a c
later_end None b c first f e = tt
later_end (Some x) None c first f e = absurd f
later_end (Some x) (Some y) c first f e = e

nil_append : (a b : List ℕ) → a ≡ [] → b ≡ [] → a ++ b ≡ []
nil_append a b e f = ap (λ (l : List ℕ). l ++ b) e ∙ f

none : (m : ℕ) → m < 0 → ⊥
none m lt = omega (arith, lt)

-- a run of no instructions
pub ran_none : (s : Progress) (left taken : Option (List ℕ)) → Ran 0 s s left left taken taken Steps
ran_none s left taken = record {
  count = 0;
  within = omega arith;
  counted = omega arith;
  all = λ _. refl;
  given = [];
  consumed = Consumes-nil left;
  events = [];
  taken_in = refl;
  last = [];
  front = 0;
  appended = Appends-nil taken;
  whole = λ _. refl;
  cut = λ e. absurd (cc);
  stays = λ e. (refl, e);
  at_end = λ e n. absurd (false≢true (sym n ∙ e));
  unended = λ r. absurd (cc);
  noted = λ n. n;
  chosen = [];
  refused = [];
  spent = λ e. refl;
  ran = λ rest u m. run_0 (world s rest u None) ∙ said_all s rest u None;
  alive = λ rest u m k lt. absurd (none k lt);
  earlier = λ w. absurd (cc);
  scanned = λ rest u m k lt. absurd (none k lt);
}

-- a run that stopped otherwise is one within any more instructions
pub ran_within : {a b : ℕ} {old new : Progress} {left later taken told : Option (List ℕ)} {stop : Stop} → a ≤ b →
    stop ≢ Steps → Ran a old new left later taken told stop → Ran b old new left later taken told stop
ran_within le other f = record {
  count = f.count;
  within = omega (arith, le, f.within);
  counted = f.counted;
  all = λ e. absurd (other e);
  given = f.given;
  consumed = f.consumed;
  events = f.events;
  taken_in = f.taken_in;
  last = f.last;
  front = f.front;
  appended = f.appended;
  whole = f.whole;
  cut = f.cut;
  stays = f.stays;
  at_end = f.at_end;
  ran = f.ran;
  alive = f.alive;
  unended = f.unended;
  noted = f.noted;
  chosen = f.chosen;
  refused = f.refused;
  spent = λ e. absurd (other e);
  earlier = f.earlier;
  scanned = f.scanned;
}

pub ran_count : {a b : ℕ} {old new : Progress} {left later taken told : Option (List ℕ)} {stop : Stop} → a ≡ b →
    Ran a old new left later taken told stop → Ran b old new left later taken told stop
ran_count {a} {b} {old} {new} {left} {later} {taken} {told} {stop} e f =
    subst (λ k. Ran k old new left later taken told stop) e f

-- the same stop under another name
pub ran_stop : {a : ℕ} {old new : Progress} {left later taken told : Option (List ℕ)} {s t : Stop} → s ≡ t →
    Ran a old new left later taken told s → Ran a old new left later taken told t
ran_stop {a} {old} {new} {left} {later} {taken} {told} {s} {t} e f =
    subst (λ k. Ran a old new left later taken told k) e f

take_nil : (n : ℕ) → ◌≡◌ {A = List ℕ} (take n []) []
take_nil zero = refl
take_nil (suc n) = refl

module _ {a b : ℕ} {old mid new : Progress} {left between later taken held told : Option (List ℕ)} {stop : Stop}
    (f : Ran a old mid left between taken held Steps) (s : Ran b mid new between later held told stop) where
  no_last : f.last ≡ []
  no_last = f.whole (λ e. absurd (cc))

  first_output : Appends taken held (output f.events)
  first_output = subst (Appends taken held)
      (ap (λ (l : List ℕ). output f.events ++ take f.front l) no_last ∙
      ap (λ (l : List ℕ). output f.events ++ l) (take_nil f.front) ∙ append-nil (output f.events)) f.appended

  both_output : output f.events ++ (output s.events ++ take s.front s.last) ≡ output (f.events ++ s.events) ++ take
      s.front s.last
  both_output = sym (append_assoc (output f.events) (output s.events) (take s.front s.last)) ∙
      ap (λ (l : List ℕ). l ++ take s.front s.last) (sym (output-++ f.events s.events))

  -- what may follow both may follow the second, and what the second takes and that may follow the first
  follows_second : (rest : Input) → MayFollow old new stop rest → MayFollow mid new stop rest
  follows_second rest m = record {
    ended = λ e n. m.ended e (elim (cases_Bool (is_at_end old))
        [ inl t ↦ absurd (false≢true (sym n ∙ (f.stays t).1)) | inr t ↦ t ]);
    failed = m.failed;
  }

  follows_first : (rest : Input) → MayFollow old new stop rest → MayFollow old mid Steps (before s.given rest)
  follows_first rest m = record {
    ended = λ e n.
        let stays = s.stays e in
        ap (λ (i : Input). before s.given i) (m.ended stays.1 n) ∙
        ap (λ (l : List ℕ). record { bytes = l ++ []; failing = false }) stays.0;
    failed = λ e. absurd (cc);
  }

  -- what the second call's own choices leave of the first's
  none_refused : f.refused ≡ []
  none_refused = f.spent refl

  abbrev chosen_first : Unkept → Unkept
  chosen_first u = choosing s.chosen (choosing s.refused u)

  abbrev begun : Input → Unkept → World
  begun rest u = start old (f.given ++ s.given) (f.chosen ++ s.chosen) s.refused rest u

  abbrev told_first : Unkept → Unkept
  told_first u = told_of f.events f.noted u

  -- the beginning of both is that of the first, with what the second takes still to come
  begins_first : (rest : Input) (u : Unkept) →
      begun rest u ≡ start old f.given f.chosen f.refused (before s.given rest) (chosen_first u)
  begins_first rest u =
      ap (λ (l : List ℕ). world old (record { bytes = l; failing = rest.failing })
      (choosing (f.chosen ++ s.chosen) (choosing s.refused u)) None) (append_assoc f.given s.given rest.bytes)
      ∙ (ap (λ (l : List Choice). world old (before f.given (before s.given rest)) (record u { row = l }) None)
      (append_assoc f.chosen s.chosen (s.refused ++ u.row))
      ∙ ap (λ (l : List Choice). world old (before f.given (before s.given rest))
      (choosing f.chosen (choosing l (chosen_first u))) None) (sym none_refused))

  first_ran : (rest : Input) (u : Unkept) → MayFollow old new stop rest →
      run f.count (begun rest u) ≡ start mid s.given s.chosen s.refused rest (told_first u)
  first_ran rest u m =
      ap (run f.count) (begins_first rest u)
      ∙ (f.ran (before s.given rest) (chosen_first u) (follows_first rest m)
      ∙ (ap (λ (l : List ℕ). world mid (before s.given rest)
      (choosing f.refused (more (outs l) (told_of f.events f.noted (chosen_first u)))) None) no_last
      ∙ (ap (λ (l : List Item). world mid (before s.given rest)
      (saying l (choosing f.refused (told_of f.events f.noted (chosen_first u)))) None)
      (append-nil (u.history ++ f.events))
      ∙ ap (λ (l : List Choice). world mid (before s.given rest)
      (choosing l (told_of f.events f.noted (chosen_first u))) None) none_refused)))

  -- no instruction of the first is the last of the run, nor one of the second but its last
  first_alive : (rest : Input) (u : Unkept) → MayFollow old new stop rest → (k : ℕ) → k < f.count →
      (run k (begun rest u)).ending ≡ None
  first_alive rest u m k lt =
      ap (λ (v : World). (run k v).ending) (begins_first rest u)
      ∙ f.alive (before s.given rest) (chosen_first u) (follows_first rest m) k lt

  -- an instruction of the second call stands behind all of the first
  second_at : (rest : Input) (u : Unkept) → MayFollow old new stop rest → (k : ℕ) → f.count ≤ k →
      run k (begun rest u) ≡ run (k - f.count) (start mid s.given s.chosen s.refused rest (told_first u))
  second_at rest u m k le =
      let e : k ≡ f.count + (k - f.count) = omega (arith, le) in
      ap (λ i. run i (begun rest u)) e
      ∙ (run-+ f.count (k - f.count) (begun rest u) ∙ ap (run (k - f.count)) (first_ran rest u m))

  second_alive : (rest : Input) (u : Unkept) → MayFollow old new stop rest → (k : ℕ) → f.count ≤ k →
      k < f.count + s.count → (run k (begun rest u)).ending ≡ None
  second_alive rest u m k le lt =
      let less : k - f.count < s.count = omega (arith, le, lt) in
      ap (λ (v : World). v.ending) (second_at rest u m k le)
      ∙ s.alive rest (told_first u) (follows_second rest m) (k - f.count) less

  first_scanned : (rest : Input) (u : Unkept) → MayFollow old new stop rest → (k : ℕ) → k < f.count →
      IsScannedAt (run k (begun rest u))
  first_scanned rest u m k lt =
      subst (λ (v : World). IsScannedAt (run k v)) (sym (begins_first rest u))
      (f.scanned (before s.given rest) (chosen_first u) (follows_first rest m) k lt)

  second_scanned : (rest : Input) (u : Unkept) → MayFollow old new stop rest → (k : ℕ) → f.count ≤ k →
      k < f.count + s.count → IsScannedAt (run k (begun rest u))
  second_scanned rest u m k le lt =
      let less : k - f.count < s.count = omega (arith, le, lt) in
      subst IsScannedAt (sym (second_at rest u m k le))
      (s.scanned rest (told_first u) (follows_second rest m) (k - f.count) less)

  pub ran_more : Ran (a + b) old new left later taken told stop
  ran_more = record {
    count = f.count + s.count;
    within = omega (arith, f.within, s.within);
    counted = omega (arith, f.counted, s.counted);
    all = λ e. let whole = f.all refl in let rest = s.all e in omega arith;
    given = f.given ++ s.given;
    consumed = Consumes-trans left between later f.given s.given f.consumed s.consumed;
    events = f.events ++ s.events;
    taken_in = bytes_read-++ f.events s.events ∙ ap (λ (l : List ℕ). l ++ bytes_read s.events) f.taken_in ∙
        ap (λ (l : List ℕ). f.given ++ l) s.taken_in;
    last = s.last;
    front = s.front;
    appended = subst (Appends taken told) both_output
        (Appends-trans taken held told (output f.events) (output s.events ++ take s.front s.last) first_output
        s.appended);
    whole = s.whole;
    cut = s.cut;
    stays = λ e. let first = f.stays e in let second = s.stays first.1 in
        (nil_append f.given s.given first.0 second.0, second.1);
    at_end = λ e n. elim (cases_Bool (is_at_end mid)) [
      | inl t ↦ still_at_end left between later f.given s.given f.consumed s.consumed (s.stays t).0 (f.at_end t n)
      | inr t ↦ later_end left between later f.given f.consumed (s.at_end e t)
    ];
    unended = s.unended;
    noted = λ n. s.noted (f.noted n);
    chosen = f.chosen ++ s.chosen;
    refused = s.refused;
    spent = s.spent;
    ran = λ rest u m.
        run-+ f.count s.count (begun rest u)
        ∙ (ap (run s.count) (first_ran rest u m)
        ∙ (s.ran rest (told_first u) (follows_second rest m)
        ∙ ap (λ (l : List Item). world new rest
        (saying (l ++ outs s.last) (choosing s.refused (told_of s.events s.noted (told_first u)))) (ending_of stop))
        (append_assoc u.history f.events s.events)));
    alive = λ rest u m k lt. ⊎_elim (λ early. first_alive rest u m k early)
        (λ late. second_alive rest u m k late lt) (cases_lt k f.count);
    earlier = λ w. let before_last = s.earlier w in (
      f.count + before_last.0,
      omega (arith, before_last.1),
      λ rest u m.
          ap (λ (v : World). v.state.d.outside.history) (run-+ f.count before_last.0 (begun rest u))
          ∙ (ap (λ (v : World). (run before_last.0 v).state.d.outside.history) (first_ran rest u m)
          ∙ (before_last.2 rest (told_first u) (follows_second rest m)
          ∙ append_assoc u.history f.events s.events)),
    );
    scanned = λ rest u m k lt. ⊎_elim (λ early. first_scanned rest u m k early)
        (λ late. second_scanned rest u m k late lt) (cases_lt k f.count);
  }

pub on_told : (n : ℕ) (old new : Progress) (bytes : List ℕ) (later taken told : Option (List ℕ)) (stop : Stop) →
    is_at_end old ≡ false → stop ≢ ReadFault
    → (f : Ran n old new (Some bytes) later taken told stop)
    → (rest : List ℕ) × (later ≡ Some rest) × ((u : Unkept) →
    run f.count (world old (record { bytes = bytes; failing = false }) (choosing f.chosen (choosing f.refused u)) None)
    ≡ world new (record { bytes = rest; failing = false })
    (choosing f.refused (more (outs f.last) (told_of f.events f.noted u))) (ending_of stop))
on_told n old new bytes None taken told stop not_ended fine f = absurd f.consumed
on_told n old new bytes (Some rest) taken told stop not_ended fine f =
    let follows : MayFollow old new stop (record { bytes = rest; failing = false }) = record {
      ended = λ e o. ap (λ (l : List ℕ). record { bytes = l; failing = false }) (f.at_end e o);
      failed = λ e. absurd (fine e);
    } in (
      rest,
      refl,
      λ u.
          ap (λ (l : List ℕ). run f.count
          (world old (record { bytes = l; failing = false }) (choosing f.chosen (choosing f.refused u)) None))
          f.consumed
          ∙ f.ran (record { bytes = rest; failing = false }) u follows,
    )

-- so many instructions, none but the last of which ends the run, are all executed
pub steps_are : (k : ℕ) (w : World) → ((m : ℕ) → m < k → (run m w).ending ≡ None) → steps_within k w ≡ k
unfolding run
steps_are zero w alive = refl
steps_are (suc k) w alive =
    ap (λ (o : Option End). if is_some o then 0 else (1 + steps_within k (step w))) (alive 0 (omega arith))
    ∙ ap (λ n. 1 + n) (steps_are k (step w) (λ m lt. alive (suc m) (omega (arith, lt)))) ∙ omega arith

-- and more than these are allowed, where the last has ended the run
ended_within : (j : ℕ) (w : World) (e : End) → w.ending ≡ Some e → steps_within j w ≡ 0
ended_within zero w e is = refl
ended_within (suc j) w e is = ap (λ (o : Option End). if is_some o then 0 else (1 + steps_within j (step w))) is

pub steps_end : (k j : ℕ) (w : World) (e : End) → ((m : ℕ) → m < k → (run m w).ending ≡ None) →
    (run k w).ending ≡ Some e → steps_within (k + j) w ≡ k
unfolding run
steps_end zero j w e alive is = let s : 0 + j ≡ j = omega arith in ap (λ i. steps_within i w) s ∙ ended_within j w e is
steps_end (suc k) j w e alive is =
    let s : suc k + j ≡ suc (k + j) = omega arith in
    ap (λ i. steps_within i w) s
    ∙ ap (λ (o : Option End). if is_some o then 0 else (1 + steps_within (k + j) (step w))) (alive 0 (omega arith))
    ∙ ap (λ n. 1 + n) (steps_end k j (step w) e (λ m lt. alive (suc m) (omega (arith, lt))) is) ∙ omega arith

-- each choice of a service is legal
legal_for : (o : Option Build) (at most frame : ℕ) (choice : Choice) → ChosenFor o at most frame choice →
    IsLegalFor o at most frame choice
legal_for None at most frame choice is = tt
legal_for (Some b) at most frame choice is = λ taken. (is taken).1

well : (w : World) → IsScannedAt w → IsWellChosen w
well w is serving =
    legal_for (generator_of w.state.d).build (register 4 w.state.d) (register 5 w.state.d) (register 6 w.state.d)
    (next_choice w.state.d.outside.making.row) (is serving)

-- a run that has ended serves nothing
over : (w : World) (e : End) → w.ending ≡ Some e → IsScannedAt w
over w e is serving = absurd (false≢true (sym (none_served w.ending is) ∙ serving))
  where
    none_served : (o : Option End) → o ≡ Some e →
        (if is_some o then false else (is_at_service w.state && (nat_eq (register 2 w.state.d) 66 &&
        not (is_hazard Syscall w.state)))) ≡ false
    none_served (Some x) same = refl
    none_served None same = absurd cc

module _ {n : ℕ} {old new : Progress} {left later taken told : Option (List ℕ)} {stop : Stop}
    (f : Ran n old new left later taken told stop) (rest : Input) (u : Unkept) (m : MayFollow old new stop rest)
  where
    abbrev first : World
    first = start old f.given f.chosen f.refused rest u

    pub counts_steps : steps_within f.count first ≡ f.count
    counts_steps = steps_are f.count first (f.alive rest u m)

    no_last_bytes : stop ≢ WriteFault →
        world new rest (choosing f.refused (more (outs f.last) (told_of f.events f.noted u))) (ending_of stop) ≡ world
        new rest (choosing f.refused (told_of f.events f.noted u)) (ending_of stop)
    no_last_bytes other = ap (λ (l : List ℕ). world new rest
        (choosing f.refused (more (outs l) (told_of f.events f.noted u))) (ending_of stop)) (f.whole other) ∙
        ap (λ (l : List Item). world new rest (saying l (choosing f.refused (told_of f.events f.noted u)))
        (ending_of stop)) (append-nil (u.history ++ f.events))

    abbrev AllRun : Type 0
    AllRun = (run n (start old f.given f.chosen f.refused rest u) ≡ world new rest
        (choosing f.refused (told_of f.events f.noted u)) (ending_of stop)) ×
        (steps_within n (start old f.given f.chosen f.refused rest u) ≡ f.count)

    all_run : stop ≢ WriteFault → f.count ≡ n → AllRun
    all_run other e = (
      ap (λ i. run i first) (sym e) ∙ f.ran rest u m ∙ no_last_bytes other,
      ap (λ i. steps_within i first) (sym e) ∙ counts_steps,
    )

    has_ended : stop ≢ WriteFault → (e : End) → ending_of stop ≡ Some e → (run f.count first).ending ≡ Some e
    has_ended other e is = ap (λ (v : World). v.ending) (f.ran rest u m ∙ no_last_bytes other) ∙ is

    ended_run : stop ≢ WriteFault → (e : End) → ending_of stop ≡ Some e → AllRun
    ended_run other e is =
        let more_of : n ≡ f.count + (n - f.count) = omega (arith, f.within) in
        let there = f.ran rest u m ∙ no_last_bytes other in
        let ended = has_ended other e is in (
          ap (λ i. run i first) more_of
              ∙ run-+ f.count (n - f.count) first
              ∙ run_stays (n - f.count) (run f.count first) e ended
              ∙ there,
          ap (λ i. steps_within i first) more_of
              ∙ steps_end f.count (n - f.count) first e (f.alive rest u m) ended,
        )

    -- a run that has ended finishes no function
    scanned_behind : stop ≢ WriteFault → (e : End) → ending_of stop ≡ Some e → (i : ℕ) → IsScannedAt (run i first)
    scanned_behind other e is i = ⊎_elim (f.scanned rest u m i)
        (λ late.
        let k : i ≡ f.count + (i - f.count) = omega (arith, late) in
        let there : run i first ≡ run f.count first =
        ap (λ j. run j first) k
        ∙ (run-+ f.count (i - f.count) first
        ∙ run_stays (i - f.count) (run f.count first) e (has_ended other e is)) in
        subst IsScannedAt (sym there) (over (run f.count first) e (has_ended other e is)))
        (cases_lt i f.count)

    scanned_on : f.count ≡ n → (i : ℕ) → i < n → IsScannedAt (run i first)
    scanned_on e i lt = f.scanned rest u m i (omega (arith, e, lt))

    pub chooses_so_far : (i : ℕ) → i < f.count → IsWellChosen (run i first)
    chooses_so_far i lt = well (run i first) (f.scanned rest u m i lt)

pub runs_all : {n : ℕ} {old new : Progress} {left later taken told : Option (List ℕ)} (stop : Stop) →
    stop ≢ WriteFault → (f : Ran n old new left later taken told stop) (rest : Input) (u : Unkept) →
    MayFollow old new stop rest
    → (run n (start old f.given f.chosen f.refused rest u) ≡ world new rest
    (choosing f.refused (told_of f.events f.noted u)) (ending_of stop)) ×
    (steps_within n (start old f.given f.chosen f.refused rest u) ≡ f.count)
runs_all Steps other f rest u m = all_run f rest u m other (f.all refl)
runs_all (Ended e) other f rest u m = ended_run f rest u m other _ refl
runs_all (Fault k at) other f rest u m = ended_run f rest u m other _ refl
runs_all ReadFault other f rest u m = ended_run f rest u m other _ refl
runs_all WriteFault other f rest u m = absurd (other refl)

scanned_all : {n : ℕ} {old new : Progress} {left later taken told : Option (List ℕ)} (stop : Stop) →
    stop ≢ WriteFault → (f : Ran n old new left later taken told stop) (rest : Input) (u : Unkept) →
    MayFollow old new stop rest → (i : ℕ) → i < n → IsScannedAt (run i (start old f.given f.chosen f.refused rest u))
scanned_all Steps other f rest u m i lt = scanned_on f rest u m (f.all refl) i lt
scanned_all (Ended e) other f rest u m i lt = scanned_behind f rest u m other _ refl i
scanned_all (Fault k at) other f rest u m i lt = scanned_behind f rest u m other _ refl i
scanned_all ReadFault other f rest u m i lt = scanned_behind f rest u m other _ refl i
scanned_all WriteFault other f rest u m i lt = absurd (other refl)

pub chooses_well : {n : ℕ} {old new : Progress} {left later taken told : Option (List ℕ)} (stop : Stop) →
    stop ≢ WriteFault → (f : Ran n old new left later taken told stop) (rest : Input) (u : Unkept) →
    MayFollow old new stop rest → (i : ℕ) → i < n →
    IsScannedAt (run i (start old f.given f.chosen f.refused rest u))
    × IsWellChosen (run i (start old f.given f.chosen f.refused rest u))
chooses_well {old = old} stop other f rest u m i lt =
    let is = scanned_all stop other f rest u m i lt in
    (is, well (run i (start old f.given f.chosen f.refused rest u)) is)
