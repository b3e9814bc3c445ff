-- What a whole call says of the ending of a run, and of the meaning of its text.
use Rattle.std.proofs.Common.{◌≡◌, ◌≢◌, ◌⊎◌, inl, inr, ℕ, ◌+◌, true, List, length, take, drop, Option, Some, None}
use Rattle.std.proofs.Common.{Result}
use Rattle.std.proofs.Common.{Ok, Err, MatchResult, nat_lt, take-append-drop, refl, sym, ap, ◌∙◌, subst}
use Rattle.std.specs.Option.{option_map}
use Rattle.std.specs.Io.KnownBytes.{Appends, Consumes}
use Rattle.std.proofs.lemmas.Bool.{false≢true}
use Rattle.host_edge.specs.Files.{Loads}
use Rattle.host_edge.specs.Moves.{TakesFront}
use Rattle.host_edge.specs.declared.ending.Ending.{Ending}
use Rattle.host_edge.specs.declared.ending.Ending.TheVariants as ending
use Rattle.host_edge.specs.declared.ending.MachineKind.{MachineKind}
use Rattle.history.specs.Events.{Item, End, output}
use Rattle.history.specs.Events as event
use Rattle.image_file.specs.Image.{ImageParts}
use Rattle.pace.specs.Pace.{Seen}
use Rattle.pace.proofs.Runs.{to_prefix}
use Rattle.mips_model.specs.Run.{runs}
use Rattle.staged_meaning.specs.Meaning.{Program, meant}
use Rattle.command_words.specs.Orders.{Order, run, build, exec, mean, asm, dis, Asked, of_file, gen}
use Rattle.command_words.specs.Words.{order_of}
use Rattle.tick_outcome.specs.declared.outcome.Outcome.{Outcome}
use Rattle.tick_outcome.specs.declared.outcome.Outcome.TheVariants as outcome
use Rattle.tick_outcome.specs.declared.ended.Ended as code
use Rattle.image_commands.specs.Outside.{Files, Outside, Failures}
use Rattle.image_commands.specs.Answers.{longest_text}
use Rattle.image_commands.specs.Does.{Answered, IsOfCommand, SavedAt, PrintsText}
use Rattle.source_commands.specs.Does.{Evaluates}
use Rattle.image_commands.specs.Generated.{PrintsSource}
use Rattle.source_commands.specs.Generated.{Fulfils}
use Rattle.image_commands.specs.Said.{said}
use Rattle.source_commands.specs.Top.{Ticked}
use Rattle.image_commands.specs.Seen.{told as told_input, IsInput, outcome_at, IsScannedRun, account_of, ShowsRun}
use Rattle.image_commands.specs.Seen.{PutsFront}
use Rattle.source_commands.specs.Rows.{refusal, most_steps, RunEnds, IsOfEnding, IsOfEither, Executes}
use Rattle.source_commands.specs.Evaluations.{MeantText, Evaluation, seen_of, EvaluationEnds, TellsOf, MeanIsMeant}
use Rattle.source_commands.specs.Meant.{RunIsMeant}
use Rattle.source_commands.specs.Laws.{IsOfEvaluation}
use Rattle.source_commands.proofs.Came.{Performed}
use Rattle.source_commands.proofs.Calls.{run_by_outcome, run_by_image, IsDone, is_done, shows, shows_reported}
use Rattle.source_commands.proofs.Calls.{one_input}
use Rattle.source_commands.proofs.Calls.{short_enough}
use Rattle.source_commands.proofs.Meanings.{by_answers, WasMeant, IsEvaluated, mean_done, one_meant, one_units}
use Rattle.source_commands.proofs.Meanings.{one_read}
use Rattle.source_commands.proofs.Meanings.{not_refused}
use Rattle.source_commands.proofs.Meant.{tells_meaning}
use Rattle.image_commands.proofs.Runs.{seen_by, scanned_by}
use Rattle.image_commands.proofs.Scans.{one_run}
use Rattle.image_commands.proofs.Outcomes.{is_of_machine, is_ending, no_ending, ending_machine, told_at, ending_told}
use Rattle.image_commands.proofs.Outcomes.{seen_whole, reported, stays}
use Rattle.source_commands.proofs.Rows.{performed, refused_front, told_done, first_loaded, by_first}

-- ---- an order that was done

pub record IsShown (steps : ℕ) (old new : Outside) (e : code.Ended) : Type 0 where
  pub image : ImageParts
  pub handed_back : e.image ≡ Some image
  pub shown : ShowsRun steps image (account_of e) old.left new.left old.taken new.taken e.outcome

one_number : (a b : ℕ) → ◌≡◌ {A = Option ℕ} (Some a) (Some b) → a ≡ b
one_number a b q = cc

pub order_shows : (order : Order) (steps : ℕ) (old new : Outside) (e : code.Ended) (bytes : List ℕ) →
    most_steps order ≡ Some steps
    → Performed order old new e bytes → IsShown steps old new e
order_shows (run file n) steps old new e bytes most (tree, is, (program, means, r)) = record {
  image = r.image;
  handed_back = r.runs.1.handed_back;
  shown = subst (λ k. ShowsRun k r.image (account_of e) old.left new.left old.taken new.taken e.outcome)
      (one_number n steps most) (shows n old new e r.image r.runs);
}
order_shows (exec file n) steps old new e bytes most (image, is, r) = record {
  image = image;
  handed_back = r.1.handed_back;
  shown = subst (λ k. ShowsRun k image (account_of e) old.left new.left old.taken new.taken e.outcome)
      (one_number n steps most) (shows n old new e image r);
}
order_shows (mean file units) steps old new e bytes most d = absurd cc
order_shows (build file path) steps old new e bytes most d = absurd cc
order_shows (asm file path) steps old new e bytes most d = absurd cc
order_shows (dis file) steps old new e bytes most d = absurd cc

saved_ends : {A : Type 0} (path bytes : List ℕ) (old new : Files) (e : code.Ended) → is_ending e.outcome ≡ true →
    SavedAt path bytes old new e → A
saved_ends path bytes old new e is (inl s) = no_ending is s.0.outcome refl
saved_ends path bytes old new e is (inr s) = no_ending is s.0.outcome refl

source_ends : {A : Type 0} (n : ℕ) (taken told : Option (List ℕ)) (e : code.Ended) →
    is_ending e.outcome ≡ true → PrintsSource n taken told e → A
source_ends n taken told e is (inl p) = no_ending is p.0.outcome refl
source_ends n taken told e is (inr p) = no_ending is p.0.outcome refl

-- ---- a whole call

-- a call that ran a machine
record IsMachineCall (words : List (List ℕ)) (old new : Outside) (e : code.Ended) : Type 0 where
  order : Order
  ordered : order_of words ≡ Ok (of_file order)
  steps : ℕ
  most : most_steps order ≡ Some steps
  shown : IsShown steps old new e

-- or one that evaluated the meaning of a text
pub record IsMeantCall (words : List (List ℕ)) (old new : Outside) (e : code.Ended) : Type 0 where
  pub evaluation : Evaluation words old new
  pub seen : Evaluates evaluation.of.units evaluation.of.program old.taken new.taken e evaluation.input

abbrev IsEndingCall : List (List ℕ) → Outside → Outside → code.Ended → Type 0
IsEndingCall words old new e = IsMachineCall words old new e ⊎ IsMeantCall words old new e

meant_call : (words : List (List ℕ)) (old new : Outside) (e : code.Ended) (of : MeantText words old.file) →
    IsEvaluated words old new e of → IsMeantCall words old new e
meant_call words old new e of v = record {
  evaluation = v.evaluation;
  seen = subst
      (λ (m : MeantText words old.file). Evaluates m.units m.program old.taken new.taken e v.evaluation.input)
      (sym v.same) v.seen;
}

-- only an order that runs a machine or evaluates the meaning comes to an ending
order_ends : (words : List (List ℕ)) (old new : Outside) (e : code.Ended) (order : Order) →
    order_of words ≡ Ok (of_file order) → is_ending e.outcome ≡ true → IsDone order old new e
    → IsEndingCall words old new e
order_ends words old new e (run file steps) ordered is d = inl (record {
  order = run file steps;
  ordered = ordered;
  steps = steps;
  most = refl;
  shown = order_shows (run file steps) steps old new e d.bytes refl d.done;
})
order_ends words old new e (exec file steps) ordered is d = inl (record {
  order = exec file steps;
  ordered = ordered;
  steps = steps;
  most = refl;
  shown = order_shows (exec file steps) steps old new e d.bytes refl d.done;
})
order_ends words old new e (mean file units) ordered is d =
    let m = mean_done words old new e file units d.bytes ordered d.loads d.fine d.done in
    by m.of m.was
  where
    by : (of : MeantText words old.file) → WasMeant words old new e of → IsEndingCall words old new e
    by of (inl (long, i)) = no_ending is long refl
    by of (inr (inl failed)) = no_ending is failed refl
    by of (inr (inr v)) = inr (meant_call words old new e of v)
order_ends words old new e (build file path) ordered is d =
    saved_ends path d.done.2.2.saves.bytes old.file new.file e is d.done.2.2.saves.saved
order_ends words old new e (asm file path) ordered is d =
    saved_ends path d.done.2.bytes old.file new.file e is d.done.2.saved
order_ends words old new e (dis file) ordered is d = by d.done.2
  where
    by : PrintsText old.taken new.taken e d.done.0 → IsEndingCall words old new e
    by (inl p) = no_ending is p.0.outcome refl
    by (inr p) = no_ending is p.0.outcome refl

-- a front part that was put out
puts_front : (taken now : Option (List ℕ)) (history : List Item) → TakesFront taken now (output history) →
    PutsFront taken now history
puts_front taken now history f = record {
  bytes = take f.count (output history);
  put_out = f.taken;
  front = (drop f.count (output history), take-append-drop f.count (output history));
}

-- what an evaluation told
tells_of : (units : ℕ) (taken now : Option (List ℕ)) (seen : Seen Item End) (x : Option End) → seen.ending ≡ x
    → Appends taken now (output seen.history) → TellsOf units taken now (outcome_at units x) seen
tells_of units taken now seen (Some (event.Ended (ending.Done s))) is a = (ap (outcome_at units) (sym is), a)
tells_of units taken now seen (Some (event.Ended (ending.Trap k))) is a = (ap (outcome_at units) (sym is), a)
tells_of units taken now seen (Some event.ReadFault) is a = (ap (outcome_at units) (sym is), a)
tells_of units taken now seen (Some (event.Fault k at)) is a = (ap (outcome_at units) (sym is), a)
tells_of units taken now seen None is a = (ap (outcome_at units) (sym is), a)

tells_first : (units : ℕ) (program : Program) (taken now : Option (List ℕ)) (e : code.Ended) (input : List ℕ)
    → Evaluates units program taken now e input
    → TellsOf units taken now e.outcome (meant program (told_input input) units)
tells_first units program taken now e input v =
    let at = meant program (told_input input) units in
    by_answers units program taken now e input v
    (λ bare a. subst (λ o. TellsOf units taken now o at) (sym bare.outcome)
    (tells_of units taken now at at.ending refl a))
    (λ bare f. subst (λ o. TellsOf units taken now o at) (sym bare.outcome) (puts_front taken now at.history f))

-- also where standard error failed behind it
tells_last : (units : ℕ) (taken now : Option (List ℕ)) (seen : Seen Item End) (first last : Outcome)
    → (last ≡ first) ⊎ ((status : ℕ) × (first ≡ outcome.Done status) × (last ≡ outcome.WriteFault))
    → TellsOf units taken now first seen → TellsOf units taken now last seen
tells_last units taken now seen first last (inl same) t = subst (λ o. TellsOf units taken now o seen) (sym same) t
tells_last units taken now seen first last (inr (status, done, fault)) t =
    let whole = subst (λ o. TellsOf units taken now o seen) done t in
    subst (λ o. TellsOf units taken now o seen) (sym fault) (record {
      bytes = output seen.history;
      put_out = whole.1;
      front = to_prefix (output seen.history) (output seen.history) refl;
    })

evaluation_machine : (o : Outcome) → IsOfEvaluation o → is_of_machine o ≡ true
evaluation_machine (outcome.Done s) is = refl
evaluation_machine (outcome.Trap k) is = refl
evaluation_machine (outcome.OutOfSteps n) is = refl
evaluation_machine outcome.WriteFault is = refl
evaluation_machine (outcome.MachineFault k at) is = absurd is
evaluation_machine outcome.ReadFault is = absurd is
evaluation_machine (outcome.BadWords p) is = absurd is
evaluation_machine (outcome.Refused fault) is = absurd is
evaluation_machine (outcome.AsmRefused fault) is = absurd is
evaluation_machine outcome.LoadFault is = absurd is
evaluation_machine outcome.TooLong is = absurd is
evaluation_machine (outcome.BadImage fault) is = absurd is
evaluation_machine outcome.SaveFault is = absurd is

-- its ending and its output, where no write failed
pub evaluated_at : (units : ℕ) (program : Program) (taken now : Option (List ℕ)) (e : code.Ended) (input : List ℕ)
    → Evaluates units program taken now e input → e.outcome ≢ outcome.WriteFault
    → (e.outcome ≡ outcome_at units (meant program (told_input input) units).ending)
    × Appends taken now (output (meant program (told_input input) units).history)
evaluated_at units program taken now e input v other = by_answers units program taken now e input v
    (λ bare a. (bare.outcome, a)) (λ bare f. absurd (other bare.outcome))

module _ (words : List (List ℕ)) (old new : Outside) (before now : Failures) (taken told : Option (List ℕ))
    (err_before err_now : ℕ) (e : code.Ended) (did : Ticked words old new before now taken told err_before err_now e)
  where
    abbrev first : Outcome
    first = did.0

    abbrev at_first : code.Ended
    at_first = record e { outcome = first }

    abbrev text : List ℕ
    text = said words at_first

    by_reported : (P : Outcome → Type 0) → P first → P outcome.WriteFault → P e.outcome
    by_reported P a b = by (reported text first e.outcome taken told err_before err_now did.3)
      where
        by : (e.outcome ≡ first) ⊎ ((status : ℕ) × (first ≡ outcome.Done status) × (e.outcome ≡ outcome.WriteFault)) →
            P e.outcome
        by (inl same) = subst P (sym same) a
        by (inr (status, done, fault)) = subst P (sym fault) b

    -- the run of the image that is handed back
    pub machine_call : (order : Order) (steps : ℕ) (image : ImageParts) → order_of words ≡ Ok (of_file order) →
        most_steps order ≡ Some steps → e.image ≡ Some image
        → ShowsRun steps image (account_of e) old.left new.left old.taken new.taken e.outcome
    machine_call order steps image ordered most handed =
        let d = is_done order old new at_first (run_by_image at_first image handed)
        (performed words old new at_first order ordered did.1) in
        let s = order_shows order steps old new at_first d.bytes most d.done in
        shows_reported text steps image (account_of e) old.left new.left old.taken new.taken taken told first e.outcome
        err_before err_now did.3
        (subst (λ i. ShowsRun steps i (account_of e) old.left new.left old.taken new.taken first)
        (one_image s.image s.handed_back) s.shown)
      where
        one_image : (other : ImageParts) → e.image ≡ Some other → other ≡ image
        one_image other h = some_is (sym h ∙ handed)
          where
            some_is : ◌≡◌ {A = Option ImageParts} (Some other) (Some image) → other ≡ image
            some_is q = cc

    -- an ending comes of a call that ran a machine or evaluated the meaning
    ending_call : is_ending first ≡ true → IsEndingCall words old new at_first
    ending_call is = by (order_of words) refl did.1
      where
        of_order : (order : Order) → order_of words ≡ Ok (of_file order) → IsEndingCall words old new at_first
        of_order order ordered = order_ends words old new at_first order ordered is
            (is_done order old new at_first (run_by_outcome at_first (ending_machine first is))
            (performed words old new at_first order ordered did.1))

        by : (r : Result Asked ℕ) → order_of words ≡ r
            → MatchResult r (λ asked. Fulfils asked old new at_first × IsOfCommand first)
            (λ place. Answered old new at_first (outcome.BadWords place))
            → IsEndingCall words old new at_first
        by (Ok (of_file order)) ordered p = of_order order ordered
        by (Ok (gen n)) ordered p = source_ends n old.taken new.taken at_first is p.0.1
        by (Err place) ordered a = no_ending is a.0.outcome refl

    module _ (o : ℕ → Outcome) (end : Option End) (agrees : (n : ℕ) → o n ≡ outcome_at n end)
        (is : (n : ℕ) → is_ending (o n) ≡ true) where
      other : (n : ℕ) → e.outcome ≡ o n → e.outcome ≢ outcome.WriteFault
      other n same w = no_ending (is n) (sym same ∙ w) refl

      first_is : (n : ℕ) → e.outcome ≡ o n → e.outcome ≡ first
      first_is n same = stays text first e.outcome taken told err_before err_now did.3 (other n same)

      -- what the outcome tells of how a run or an evaluation ended
      ends_alike : (n steps : ℕ) (x : Option End) → e.outcome ≡ o n → first ≡ outcome_at steps x →
          (x ≡ end) × (o steps ≡ o n)
      ends_alike n steps x same at =
          let ends : x ≡ end =
          sym (told_at steps x) ∙ ap ending_told (sym at ∙ sym (first_is n same) ∙ same ∙ agrees n) ∙ told_at n end in
          (ends, agrees steps ∙ ap (outcome_at steps) (sym ends) ∙ sym at ∙ sym (first_is n same) ∙ same)

      machine_ends : (n : ℕ) → e.outcome ≡ o n → IsMachineCall words old new at_first
          → (steps : ℕ) × (o steps ≡ o n) × RunEnds words old new e steps end
      machine_ends n same c =
          let s = c.shown in
          let at = runs s.image s.shown.input s.shown.row c.steps in
          let unfailed : first ≢ outcome.WriteFault = λ w. other n same (first_is n same ∙ w) in
          let whole = seen_whole c.steps old.left new.left old.taken new.taken first at unfailed
          (seen_by first s.shown) in
          let alike = ends_alike n c.steps at.ending same whole.0 in (
            c.steps,
            alike.1,
            record {
              order = c.order;
              ordered = c.ordered;
              most = c.most;
              image = s.image;
              handed_back = s.handed_back;
              input = s.shown.input;
              is_input = subst (λ x. IsInput old.left new.left x s.shown.input) (sym (first_is n same))
                  s.shown.is_input;
              row = s.shown.row;
              scanned = scanned_by s.shown unfailed;
              ending = alike.0;
            },
          )

      meant_ends : (n : ℕ) → e.outcome ≡ o n → IsMeantCall words old new at_first
          → (units : ℕ) × (o units ≡ o n) × EvaluationEnds words old new units end
      meant_ends n same c =
          let v = c.evaluation in
          let at = evaluated_at v.of.units v.of.program old.taken new.taken at_first v.input c.seen
          (λ w. other n same (first_is n same ∙ w)) in
          let alike = ends_alike n v.of.units (seen_of v).ending same at.0 in
          (v.of.units, alike.1, record { evaluation = v; allowed = refl; ending = alike.0 })

      ends_of : (n : ℕ) → e.outcome ≡ o n → IsEndingCall words old new at_first
      ends_of n same = ending_call (subst (λ x. is_ending x ≡ true) (sym same ∙ first_is n same) (is n))

      either_ends : (n : ℕ) → e.outcome ≡ o n → (steps : ℕ) × (o steps ≡ o n) ×
          (RunEnds words old new e steps end ⊎ EvaluationEnds words old new steps end)
      either_ends n same = by (ends_of n same)
        where
          by : IsEndingCall words old new at_first → (steps : ℕ) × (o steps ≡ o n) ×
              (RunEnds words old new e steps end ⊎ EvaluationEnds words old new steps end)
          by (inl c) = let r = machine_ends n same c in (r.0, r.1, inl r.2)
          by (inr c) = let m = meant_ends n same c in (m.0, m.1, inr m.2)

      always_ends : (steps : ℕ) (bytes : List ℕ) → old.left ≡ Some bytes → RunEnds words old new e steps end →
          e.outcome ≢ outcome.WriteFault → e.outcome ≡ o steps
      always_ends steps bytes left r other =
          let s = machine_call r.order steps r.image r.ordered r.most r.handed_back in
          let whole = seen_whole steps old.left new.left old.taken new.taken e.outcome
          (runs r.image s.input s.row steps) other (seen_by e.outcome s) in
          let same = one_input bytes new.left e.outcome s.input r.input
          (subst (λ l. IsInput l new.left e.outcome s.input) left s.is_input)
          (subst (λ l. IsInput l new.left e.outcome r.input) left r.is_input) in
          let one = one_run r.image r.input s.row r.row steps
          (subst (λ i. IsScannedRun r.image i s.row steps) same (scanned_by s other)) r.scanned in
          whole.0 ∙ ap (λ i. outcome_at steps (runs r.image i s.row steps).ending) same
          ∙ ap (λ v. outcome_at steps v.ending) one.0 ∙ ap (outcome_at steps) r.ending ∙ sym (agrees steps)

      -- told bytes and a told text have one evaluation
      evaluated : (v : Evaluation words old new) (file bytes : List ℕ) → old.file v.of.file ≡ Some (Some file)
          → old.left ≡ Some bytes → (seen_of v).ending ≡ end → e.outcome ≢ outcome.LoadFault
          → e.outcome ≢ outcome.ReadFault → e.outcome ≢ outcome.WriteFault → e.outcome ≡ o v.of.units
      evaluated v file bytes is_file left ends loaded read written =
          let order = mean v.of.file v.of.units in
          let text_is : v.of.text ≡ take (longest_text + 1) file =
          subst (λ t. Loads t (longest_text + 1) v.of.text) is_file v.of.loads in
          let fine = sym (refused_front order file) ∙ ap (refusal order) (sym text_is)
          ∙ not_refused words old.file v.of v.of.file v.of.units in
          let d = told_done words old new at_first v.of.file v.of.units file v.of.ordered is_file fine
          (first_loaded words old new before now taken told err_before err_now e did loaded)
          (performed words old new at_first order v.of.ordered did.1) in
          by d.of d.was
        where
          last_is : (x : Outcome) → first ≡ x → ((s : ℕ) → x ≡ outcome.Done s → ⊥) → e.outcome ≡ x
          last_is x = by_first words old new before now taken told err_before err_now e did x

          unread : first ≢ outcome.ReadFault
          unread w = read (last_is outcome.ReadFault w not_done)
            where
              not_done : (s : ℕ) → outcome.ReadFault ≡ outcome.Done s → ⊥
              not_done s q = cc

          unwritten : first ≢ outcome.WriteFault
          unwritten w = written (last_is outcome.WriteFault w not_done)
            where
              not_done : (s : ℕ) → outcome.WriteFault ≡ outcome.Done s → ⊥
              not_done s q = cc

          one : (input : List ℕ) → Consumes old.left new.left input → input ≡ v.input
          one input took = one_read bytes new.left input v.input (subst (λ l. Consumes l new.left input) left took)
              (subst (λ l. Consumes l new.left v.input) left v.read)

          by : (of : MeantText words old.file) → WasMeant words old new at_first of → e.outcome ≡ o v.of.units
          by of (inl (long, i)) =
              absurd (false≢true (sym v.few ∙
              ap (λ (l : List ℕ). nat_lt longest_text (length l)) (sym (one i.input i.read))
              ∙ i.long))
          by of (inr (inl failed)) = absurd (unread failed)
          by of (inr (inr w)) =
              let at = evaluated_at of.units of.program old.taken new.taken at_first w.evaluation.input w.seen unwritten
              in
              stays text first e.outcome taken told err_before err_now did.3 written ∙ at.0
              ∙ ap (λ (i : List ℕ). outcome_at of.units (meant of.program (told_input i) of.units).ending)
              (one w.evaluation.input w.evaluation.read)
              ∙ ap (λ (p : Program). outcome_at of.units (meant p (told_input v.input) of.units).ending)
              (sym (one_meant words old.file v.of of file is_file))
              ∙ ap (λ (n : ℕ). outcome_at n (meant v.of.program (told_input v.input) n).ending)
              (sym (one_units words old.file v.of of file is_file))
              ∙ ap (outcome_at v.of.units) ends ∙ sym (agrees v.of.units)

      pub either_row : IsOfEither words old new e o end
      either_row = record { only = either_ends; always = always_ends; evaluated = evaluated }

      -- where no evaluation ends so, only a run does
      pub ending_row : ((c : IsMeantCall words old new at_first) → (seen_of c.evaluation).ending ≡ end → ⊥)
          → IsOfEnding words old new e o end
      ending_row never = record { only = only_runs; always = always_ends }
        where
          only_runs : (n : ℕ) → e.outcome ≡ o n → (steps : ℕ) × (o steps ≡ o n) × RunEnds words old new e steps end
          only_runs n same = by (ends_of n same)
            where
              by : IsEndingCall words old new at_first →
                  (steps : ℕ) × (o steps ≡ o n) × RunEnds words old new e steps end
              by (inl c) = machine_ends n same c
              by (inr c) = absurd (never c (ends c))
                where
                  ends : (c : IsMeantCall words old new at_first) → (seen_of c.evaluation).ending ≡ end
                  ends c = (ends_alike n c.evaluation.of.units (seen_of c.evaluation).ending same
                      (evaluated_at c.evaluation.of.units c.evaluation.of.program old.taken new.taken at_first
                      c.evaluation.input c.seen (λ w. other n same (first_is n same ∙ w))).0).0

    -- what `run` tells of the meaning
    pub run_means : (file : List ℕ) (steps : ℕ) (o : Outcome) → order_of words ≡ Ok (of_file (run file steps)) →
        e.outcome ≡ o → is_of_machine o ≡ true → RunIsMeant file steps old new o
    run_means file steps o ordered same machine =
        let d = is_done (run file steps) old new at_first (run_by_outcome at_first first_machine)
        (performed words old new at_first (run file steps) ordered did.1) in
        let r = d.done.2.2 in
        let s = subst (ShowsRun steps r.image (account_of e) old.left new.left old.taken new.taken) same
        (shows_reported text steps r.image (account_of e) old.left new.left old.taken new.taken taken told first
        e.outcome err_before err_now did.3
        (shows steps old new at_first r.image r.runs)) in
        record {
          text = d.bytes;
          loads = d.loads;
          short = short_enough (run file steps) d.bytes d.fine;
          program = d.done.2.0;
          accepted = record { tree = d.done.0; is_typed = d.done.1; means = d.done.2.1 };
          input = s.input;
          is_input = s.is_input;
          tells = tells_meaning d.done.2.0 r.image r.headline steps old new (account_of e) o s;
        }
      where
        first_machine : is_of_machine first ≡ true
        first_machine = by (reported text first e.outcome taken told err_before err_now did.3)
          where
            by : (e.outcome ≡ first) ⊎
                ((status : ℕ) × (first ≡ outcome.Done status) × (e.outcome ≡ outcome.WriteFault)) →
                is_of_machine first ≡ true
            by (inl x) = ap is_of_machine (sym x ∙ same) ∙ machine
            by (inr (status, done, fault)) = ap is_of_machine done

    -- no evaluation ends with a fault of the machine
    pub meant_faultless : (kind : MachineKind) (at : ℕ) (c : IsMeantCall words old new at_first) →
        (seen_of c.evaluation).ending ≡ Some (event.Fault kind at) → ⊥
    meant_faultless kind at c is = by c.seen.ending (sym is ∙ c.seen.ends)
      where
        by : (x : Option Ending) → ◌≡◌ {A = Option End} (Some (event.Fault kind at)) (option_map event.Ended x) → ⊥
        by None q = cc
        by (Some ending) q = cc

    -- a fault of the machine comes of `exec` alone
    pub fault_of_exec : (kind : MachineKind) (at : ℕ) → e.outcome ≡ outcome.MachineFault kind at → Executes words
    fault_of_exec kind at same =
        let r = machine_of_fault same in
        let c = r.2 in
        by c.order c.ordered r.0 c.most
      where
        machine_of_fault : e.outcome ≡ outcome.MachineFault kind at → (steps : ℕ)
            × (outcome.MachineFault kind at ≡ outcome.MachineFault kind at) ×
            RunEnds words old new e steps (Some (event.Fault kind at))
        machine_of_fault same =
            (ending_row (λ n. outcome.MachineFault kind at) (Some (event.Fault kind at)) (λ n. refl) (λ n. refl)
            (meant_faultless kind at)).only 0 same

        by : (order : Order) → order_of words ≡ Ok (of_file order) → (steps : ℕ) → most_steps order ≡ Some steps →
            Executes words
        by (exec file n) ordered steps most = (file, n, ordered)
        by (run file n) ordered steps most =
            absurd (run_means file n (outcome.MachineFault kind at) ordered same refl).tells
        by (mean file n) ordered steps most = absurd cc
        by (build file path) ordered steps most = absurd cc
        by (asm file path) ordered steps most = absurd cc
        by (dis file) ordered steps most = absurd cc

    -- what `mean` tells of the meaning
    pub mean_means : (file : List ℕ) (units : ℕ) (o : Outcome) → order_of words ≡ Ok (of_file (mean file units)) →
        e.outcome ≡ o → IsOfEvaluation o → MeanIsMeant words old new o
    mean_means file units o ordered same evaluation =
        let d = is_done (mean file units) old new at_first (run_by_outcome at_first first_machine)
        (performed words old new at_first (mean file units) ordered did.1) in
        let m = mean_done words old new at_first file units d.bytes ordered d.loads d.fine d.done in
        by m.of m.was
      where
        kept : (e.outcome ≡ first) ⊎ ((status : ℕ) × (first ≡ outcome.Done status) × (e.outcome ≡ outcome.WriteFault))
        kept = reported text first e.outcome taken told err_before err_now did.3

        first_machine : is_of_machine first ≡ true
        first_machine = by kept
          where
            by : (e.outcome ≡ first) ⊎
                ((status : ℕ) × (first ≡ outcome.Done status) × (e.outcome ≡ outcome.WriteFault)) →
                is_of_machine first ≡ true
            by (inl x) = ap is_of_machine (sym x ∙ same) ∙ evaluation_machine o evaluation
            by (inr (status, done, fault)) = ap is_of_machine done

        -- what is no outcome of an evaluation isn't the first
        never : (x : Outcome) → first ≡ x → (IsOfEvaluation x → ⊥) → ((s : ℕ) → x ≡ outcome.Done s → ⊥) →
            MeanIsMeant words old new o
        never x is none done = absurd (none (subst IsOfEvaluation
            (sym same ∙ by_first words old new before now taken told err_before err_now e did x is done) evaluation))

        by : (of : MeantText words old.file) → WasMeant words old new at_first of → MeanIsMeant words old new o
        by of (inl (long, i)) = never outcome.TooLong long (λ x. x) not_done
          where
            not_done : (s : ℕ) → outcome.TooLong ≡ outcome.Done s → ⊥
            not_done s q = cc
        by of (inr (inl failed)) = never outcome.ReadFault failed (λ x. x) not_done
          where
            not_done : (s : ℕ) → outcome.ReadFault ≡ outcome.Done s → ⊥
            not_done s q = cc
        by of (inr (inr w)) =
            let c = meant_call words old new at_first of w in
            let v = c.evaluation in
            record {
              evaluation = v;
              tells = subst (λ x. TellsOf v.of.units old.taken new.taken x (seen_of v)) same
                  (tells_last v.of.units old.taken new.taken (seen_of v) first e.outcome kept
                  (tells_first v.of.units v.of.program old.taken new.taken at_first v.input c.seen));
            }
