-- Where nothing outside failed, a command whose file isn't refused is done.
use Rattle.std.proofs.Common.{◌≡◌, ◌≢◌, ◌⊎◌, inl, inr, ℕ, ◌+◌, ◌<◌, ◌≤◌, false, arith, lt-ltb, List, length, take}
use Rattle.std.proofs.Common.{Option, Some, None, Result, Ok, nat_lt, refl, sym, ap, ◌∙◌, subst}
use Rattle.std.specs.Io.KnownBytes.{Appends, Consumes}
use Rattle.std.proofs.lemmas.Bool.{false≢true, cases_lt}
use Rattle.std.proofs.lemmas.List.{take_all}
use Rattle.host_edge.specs.Files.{Loads}
use Rattle.host_edge.specs.declared.ending.Ending.{Ending}
use Rattle.history.specs.Events.{Ended, output}
use Rattle.image_file.specs.Image.{ImageParts}
use Rattle.mips_model.specs.Run.{runs, IsDefined}
use Rattle.staged_meaning.specs.Meaning.{Program, meant}
use Rattle.static_image.specs.Headline.{Headline}
use Rattle.tick_tree.specs.declared.fault.Fault.{Fault}
use Rattle.wellformed.specs.declared.typed.Typed.{Typed}
use Rattle.source_commands.specs.Texts.{typed_tree, Means, IsProgramOf}
use Rattle.tick_gen.specs.Source.{source}
use Rattle.command_words.specs.Orders.{Order, run, build, exec, mean, asm, dis, of_file, gen}
use Rattle.command_words.specs.Words.{order_of}
use Rattle.tick_outcome.specs.declared.outcome.Outcome.{Outcome}
use Rattle.tick_outcome.specs.declared.outcome.Outcome.TheVariants as outcome
use Rattle.tick_outcome.specs.declared.ended.Ended as code
use Rattle.image_commands.specs.Outside.{Files, Outside, Failures}
use Rattle.image_commands.specs.Answers.{longest_text}
use Rattle.image_commands.specs.Does.{SavedAt, Cause}
use Rattle.image_commands.specs.Generated.{PrintsSource}
use Rattle.image_commands.specs.Said.{said}
use Rattle.image_commands.specs.Said.{Reports}
use Rattle.source_commands.specs.Top.{Ticked}
use Rattle.mips_model.specs.Choices.{Choice}
use Rattle.image_commands.specs.Seen.{told, EndsBehind, outcome_at, Moves, IsScannedRun, account_of, ShowsRun}
use Rattle.image_commands.proofs.Runs.{seen_by, scanned_by}
use Rattle.source_commands.specs.Rows.{file_of, longest_of, refusal, most_steps, most_units}
use Rattle.source_commands.specs.Meant.{allowed, Unfailed}
use Rattle.source_commands.specs.Evaluations.{MeantText}
use Rattle.source_commands.proofs.Came.{Performed, Came}
use Rattle.source_commands.proofs.Calls.{IsDone, shows, input_ends}
use Rattle.source_commands.proofs.Endings.{order_shows, evaluated_at}
use Rattle.source_commands.proofs.Meanings.{WasMeant, mean_done, one_meant, one_units, long_input, whole_read}
use Rattle.source_commands.proofs.Meant.{in_time, moved_alike}
use Rattle.source_commands.proofs.Programs.{means_as_it_runs}
use Rattle.image_commands.proofs.Outcomes.{seen_whole}
use Rattle.source_commands.proofs.Rows.{fulfilled, performed, refused_front}

module _ (words : List (List ℕ)) (old new : Outside) (before now : Failures) (taken told_err : Option (List ℕ))
    (err_before err_now : ℕ) (e : code.Ended)
    (did : Ticked words old new before now taken told_err err_before err_now e)
    (fine : Unfailed before now err_before err_now) where
  abbrev first : Outcome
  first = did.0

  abbrev at_first : code.Ended
  at_first = record e { outcome = first }

  -- the outcome is said
  said_first : e.outcome ≡ first
  said_first = by did.3
    where
      by : Reports (said words at_first) first e.outcome taken told_err err_before err_now →
          e.outcome ≡ first
      by (inl r) = r.0
      by (inr r) = absurd (fine.err r.2)

  -- and no fault of the outside
  caused : (o : Outcome) → first ≡ o → Cause o before now
  caused o is = subst (λ x. Cause x before now) is did.2

  no_load_fault : first ≢ outcome.LoadFault
  no_load_fault is = fine.store (caused outcome.LoadFault is)

  no_save_fault : first ≢ outcome.SaveFault
  no_save_fault is = fine.store (caused outcome.SaveFault is)

  no_read_fault : first ≢ outcome.ReadFault
  no_read_fault is = fine.input (caused outcome.ReadFault is)

  no_write_fault : first ≢ outcome.WriteFault
  no_write_fault is = fine.out (caused outcome.WriteFault is)

  -- ---- a generated source

  pub generates : (number : ℕ) → order_of words ≡ Ok (gen number) →
      (e.outcome ≡ outcome.Done 0) × Appends old.taken new.taken (source number)
  generates number ordered = by (fulfilled words old new at_first (gen number) ordered did.1).0.1
    where
      by : PrintsSource number old.taken new.taken at_first →
          (e.outcome ≡ outcome.Done 0) × Appends old.taken new.taken (source number)
      by (inl p) = (said_first ∙ p.0.outcome, p.1)
      by (inr p) = absurd (no_write_fault p.0.outcome)

  -- ---- a told file that isn't refused

  module _ (order : Order) (file : List ℕ) (ordered : order_of words ≡ Ok (of_file order))
      (is_told : old.file (file_of order) ≡ Some (Some file)) (accepted : refusal order file ≡ None) where
    loaded : (bytes : List ℕ) → Loads (old.file (file_of order)) (longest_of order + 1) bytes →
        bytes ≡ take (longest_of order + 1) file
    loaded bytes loads = subst (λ t. Loads t (longest_of order + 1) bytes) is_told loads

    not_refused : (bytes : List ℕ) → Loads (old.file (file_of order)) (longest_of order + 1) bytes →
        refusal order bytes ≡ None
    not_refused bytes loads = ap (refusal order) (loaded bytes loads) ∙ refused_front order file ∙ accepted

    pub done : IsDone order old new at_first
    done = by (performed words old new at_first order ordered did.1)
      where
        by : Came order old new at_first → IsDone order old new at_first
        by (inl failed) = absurd (no_load_fault failed.outcome)
        by (inr (bytes, loads, inl (o, refused, bare))) = absurd (none_is (sym (not_refused bytes loads) ∙ refused))
          where
            none_is : ◌≡◌ {A = Option Outcome} None (Some o) → ⊥
            none_is q = cc
        by (inr (bytes, loads, inr (is, d))) = record { bytes = bytes; loads = loads; fine = is; done = d }

    saved_done : (path bytes : List ℕ) (a b : Files) → SavedAt path bytes a b at_first → first ≡ outcome.Done 0
    saved_done path bytes a b (inl s) = s.0.outcome
    saved_done path bytes a b (inr s) = absurd (no_save_fault s.0.outcome)

    order_done : (o : Order) (bytes : List ℕ) → most_steps o ≡ None → most_units o ≡ None →
        Performed o old new at_first bytes → first ≡ outcome.Done 0
    order_done (run path steps) bytes none units d = absurd cc
    order_done (exec path steps) bytes none units d = absurd cc
    order_done (mean path units) bytes none other d = absurd cc
    order_done (build path image) bytes none units (tree, is, (program, means, s)) =
        saved_done image s.saves.bytes old.file new.file s.saves.saved
    order_done (asm path image) bytes none units (parts, is, s) = saved_done image s.bytes old.file new.file s.saved
    order_done (dis path) bytes none units (parts, is, inl p) = p.0.outcome
    order_done (dis path) bytes none units (parts, is, inr p) = absurd (no_write_fault p.0.outcome)

    pub is_done_so : most_steps order ≡ None → most_units order ≡ None → e.outcome ≡ outcome.Done 0
    is_done_so none units = said_first ∙ order_done order done.bytes none units done.done

    -- what is shown of a run on told input
    told_run : (steps : ℕ) (bytes : List ℕ) (image : ImageParts) → old.left ≡ Some bytes
        → ShowsRun steps image (account_of e) old.left new.left old.taken new.taken first
        → (row : List Choice) × IsScannedRun image (told bytes) row steps
        × (first ≡ outcome_at steps (runs image (told bytes) row steps).ending)
        × Moves old.left new.left old.taken new.taken (runs image (told bytes) row steps).history
        × IsDefined image (told bytes) row steps
    told_run steps bytes image left s =
        let input : s.input ≡ told bytes =
        subst (λ l. EndsBehind l s.input) left (input_ends old.left new.left first s.input no_read_fault s.is_input)
        in
        let seen = subst
        (λ i. (first ≡ outcome_at steps (runs image i s.row steps).ending) ×
        Moves old.left new.left old.taken new.taken (runs image i s.row steps).history)
        input
        (seen_whole steps old.left new.left old.taken new.taken first (runs image s.input s.row steps)
        no_write_fault (seen_by first s)) in (
          s.row,
          subst (λ i. IsScannedRun image i s.row steps) input (scanned_by s no_write_fault),
          seen.0,
          seen.1,
          subst (λ i. IsDefined image i s.row steps) input
              (subst (IsDefined image s.input s.row) (s.all no_write_fault) s.defined),
        )

    pub ends_so : (steps : ℕ) (bytes : List ℕ) → most_steps order ≡ Some steps → old.left ≡ Some bytes
        → (image : ImageParts) × (e.image ≡ Some image)
        × ((row : List Choice) × IsScannedRun image (told bytes) row steps
        × (e.outcome ≡ outcome_at steps (runs image (told bytes) row steps).ending))
    ends_so steps bytes most left =
        let s = order_shows order steps old new at_first done.bytes most done.done in
        let r = told_run steps bytes s.image left s.shown in
        (s.image, s.handed_back, (r.0, r.1, said_first ∙ r.2))

  -- a text that isn't too long is loaded whole
  all_of : (text : List ℕ) → nat_lt longest_text (length text) ≡ false → take (longest_text + 1) text ≡ text
  all_of text short = take_all (longest_text + 1) text (within (cases_lt longest_text (length text)))
    where
      within : (longest_text < length text) ⊎ (length text ≤ longest_text) → length text ≤ longest_text + 1
      within (inl long) = absurd (false≢true (sym short ∙ lt-ltb longest_text (length text) long))
      within (inr le) = omega (arith, le)

  -- ---- a told text that is accepted

  accepted_is : (file text : List ℕ) (steps : ℕ) (program : Program) → nat_lt longest_text (length text) ≡ false →
      IsProgramOf text program → refusal (run file steps) text ≡ None
  accepted_is file text steps program short of = rw short (rw of.is_typed refl)

  pub completes : (file text : List ℕ) (steps : ℕ) (program : Program) (bytes : List ℕ) (units : ℕ) (end : Ending)
      → order_of words ≡ Ok (of_file (run file steps)) → old.file file ≡ Some (Some text) →
      nat_lt longest_text (length text) ≡ false → IsProgramOf text program
      → old.left ≡ Some bytes → (meant program (told bytes) units).ending ≡ Some (Ended end) → allowed units ≤ steps
      → (e.outcome ≡ outcome_at steps (Some (Ended end))) ×
      Moves old.left new.left old.taken new.taken (meant program (told bytes) units).history
  completes file text steps program bytes units end ordered is_told short is left ends le =
      let accepted = accepted_is file text steps program short is in
      let d = done (run file steps) text ordered is_told accepted in
      let r = d.done.2.2 in
      let shown = told_run (run file steps) text ordered is_told accepted steps bytes r.image left
      (shows steps old new at_first r.image r.runs) in
      let whole : d.bytes ≡ text =
      loaded (run file steps) text ordered is_told accepted d.bytes d.loads ∙ all_of text short in
      let same = means_as_it_runs text d.done.2.0 program
      (record { tree = d.done.0; is_typed = ap typed_tree (sym whole) ∙ d.done.1; means = d.done.2.1 }) is in
      let there = in_time program r.image (subst (λ p. Headline p r.image) same r.headline) shown.0 (told bytes)
      steps units (Ended end) shown.4 ends le in (
        said_first ∙ shown.2 ∙ ap (outcome_at steps) there.0,
        moved_alike old.left new.left old.taken new.taken (runs r.image (told bytes) shown.0 steps).history
            (meant program (told bytes) units).history there.1 shown.3,
      )

  -- ---- a told text whose meaning is evaluated on a told input

  pub means_so : (file text : List ℕ) (units : ℕ) (tree : Typed) (program : Program) (bytes : List ℕ)
      → order_of words ≡ Ok (of_file (mean file units)) → old.file file ≡ Some (Some text)
      → nat_lt longest_text (length text) ≡ false → typed_tree text ≡ Ok tree → Means tree program
      → old.left ≡ Some bytes → nat_lt longest_text (length bytes) ≡ false
      → (e.outcome ≡ outcome_at units (meant program (told bytes) units).ending)
      × Appends old.taken new.taken (output (meant program (told bytes) units).history)
  means_so file text units tree program bytes ordered is_told short is means left few =
      let fine : refusal (mean file units) text ≡ None = rw short (rw is refl) in
      let d = done (mean file units) text ordered is_told fine in
      let m = mean_done words old new at_first file units d.bytes ordered d.loads d.fine d.done in
      by m.of m.was
    where
      shown : (of : MeantText words old.file) (input : List ℕ)
          → (of.units ≡ units) × (of.program ≡ program) → bytes ≡ input
          → (first ≡ outcome_at of.units (meant of.program (told input) of.units).ending)
          × Appends old.taken new.taken (output (meant of.program (told input) of.units).history)
          → (e.outcome ≡ outcome_at units (meant program (told bytes) units).ending)
          × Appends old.taken new.taken (output (meant program (told bytes) units).history)
      shown of input same whole s =
          let moved = subst (λ (n : ℕ). (first ≡ outcome_at n (meant of.program (told input) n).ending)
          × Appends old.taken new.taken (output (meant of.program (told input) n).history)) same.0 s in
          let placed = subst (λ (p : Program). (first ≡ outcome_at units (meant p (told input) units).ending)
          × Appends old.taken new.taken (output (meant p (told input) units).history)) same.1 moved in
          let read = subst (λ (l : List ℕ). (first ≡ outcome_at units (meant program (told l) units).ending)
          × Appends old.taken new.taken (output (meant program (told l) units).history)) (sym whole) placed in
          (said_first ∙ read.0, read.1)

      -- the text that the words ask the meaning of
      asked : MeantText words old.file
      asked = record {
        file = file;
        units = units;
        ordered = ordered;
        text = take (longest_text + 1) text;
        loads = subst (λ t. Loads t (longest_text + 1) (take (longest_text + 1) text)) (sym is_told) refl;
        short = ap (λ (l : List ℕ). nat_lt longest_text (length l)) (all_of text short) ∙ short;
        tree = tree;
        accepted = ap typed_tree (all_of text short) ∙ is;
        program = program;
        means = means;
      }

      by : (of : MeantText words old.file) → WasMeant words old new at_first of
          → (e.outcome ≡ outcome_at units (meant program (told bytes) units).ending)
          × Appends old.taken new.taken (output (meant program (told bytes) units).history)
      by of (inl (long, i)) =
          absurd (false≢true (sym few ∙ long_input bytes new.left i.input
          (subst (λ l. Consumes l new.left i.input) left i.read) i.long))
      by of (inr (inl failed)) = absurd (no_read_fault failed)
      by of (inr (inr v)) =
          let input = v.evaluation.input in
          let whole = whole_read bytes new.left input (subst (λ l. Consumes l new.left input) left v.evaluation.read)
          v.evaluation.at_end in
          let units_same = one_units words old.file asked of text is_told in
          let program_same = one_meant words old.file asked of text is_told in
          shown of input (sym units_same, sym program_same) whole
          (evaluated_at of.units of.program old.taken new.taken at_first input v.seen no_write_fault)
