-- Each outcome comes exactly where its row says, from what a call did.
use Rattle.std.proofs.Common.{◌≡◌, ◌≢◌, ◌⊎◌, inl, inr, ℕ, ◌+◌, ◌<◌, ◌≤◌, Bool, true, false, List, length, take, Option}
use Rattle.std.proofs.Common.{Some, None, Result, Ok, Err, MatchResult, nat_lt, if◌then◌else◌, lt-ltb, refl, sym, ap}
use Rattle.std.proofs.Common.{◌∙◌, subst, arith, ◌↔◌}
use Rattle.std.specs.Io.KnownBytes.{Consumes}
use Rattle.std.proofs.lemmas.Bool.{false≢true}
use Rattle.std.proofs.lemmas.List.{length-take-le, take_all}
use Rattle.std.proofs.lemmas.Bool.{cases_lt}
use Rattle.host_edge.specs.Files.{Loads}
use Rattle.command_words.specs.Orders.{Order, run, build, exec, mean, asm, dis, Asked, of_file, gen}
use Rattle.command_words.specs.Words.{order_of}
use Rattle.tick_outcome.specs.declared.outcome.Outcome.{Outcome}
use Rattle.tick_outcome.specs.declared.outcome.Outcome.TheVariants as outcome
use Rattle.tick_outcome.specs.declared.ended.Ended.{Ended}
use Rattle.image_commands.specs.Outside.{Files, Outside, Failures}
use Rattle.staged_meaning.specs.Meaning.{Program, meant}
use Rattle.image_commands.specs.Answers.{longest_text}
use Rattle.image_commands.specs.Seen.{told}
use Rattle.image_commands.specs.Does.{Answered, IsOfCommand, SavedAt}
use Rattle.source_commands.specs.Does.{Evaluates}
use Rattle.source_commands.specs.Evaluations.{MeantText, InputTooLong}
use Rattle.image_commands.specs.Generated.{PrintsSource}
use Rattle.source_commands.specs.Generated.{Fulfils}
use Rattle.image_commands.specs.Said.{said}
use Rattle.source_commands.specs.Top.{Performs, Ticked}
use Rattle.source_commands.specs.Rows.{file_of, longest_of, content_refusal, refusal, most_units, Refuses, IsRefusal}
use Rattle.source_commands.specs.Rows.{IsTooLong}
use Rattle.image_commands.proofs.Outcomes as kinds
use Rattle.image_commands.proofs.Outcomes.{is_refusal, is_content, no_refusal, stop_refuses, at_refuses, reported}
use Rattle.image_commands.proofs.Outcomes.{stays}
use Rattle.source_commands.proofs.Meanings.{by_answers, WasMeant, MeanDone, mean_done, long_input, whole_read}
use Rattle.source_commands.proofs.Meanings.{not_refused}
use Rattle.source_commands.proofs.Came.{Performed, Taken, Came, came}

pub one_order : {A B : Type 0} (r : Result A B) (a b : A) → r ≡ Ok a → r ≡ Ok b → a ≡ b
one_order r a b p q = cc

one_file : (a b : Order) → ◌≡◌ {A = Asked} (of_file a) (of_file b) → a ≡ b
one_file a b q = cc

one_words : (a b : List ℕ) (m n : ℕ) → ◌≡◌ {A = Asked} (of_file (mean a m)) (of_file (mean b n)) → (a ≡ b) × (m ≡ n)
one_words a b m n q = (cc, cc)

-- what the words ask for was done
pub fulfilled : (words : List (List ℕ)) (old new : Outside) (e : Ended) (asked : Asked) → order_of words ≡ Ok asked →
    Performs words old new e → Fulfils asked old new e × IsOfCommand e.outcome
fulfilled words old new e asked is p = rewritten (order_of words) is p
  where
    rewritten : (r : Result Asked ℕ) → r ≡ Ok asked
        → MatchResult r (λ asked. Fulfils asked old new e × IsOfCommand e.outcome)
        (λ place. Answered old new e (outcome.BadWords place))
        → Fulfils asked old new e × IsOfCommand e.outcome
    rewritten (Ok other) q m =
        subst (λ o. Fulfils o old new e × IsOfCommand e.outcome) (one_order (Ok other) other asked refl q) m
    rewritten (Err place) q m = absurd cc

-- what came of an order that the words give
pub performed : (words : List (List ℕ)) (old new : Outside) (e : Ended) (order : Order) →
    order_of words ≡ Ok (of_file order) → Performs words old new e → Came order old new e
performed words old new e order is p = came order old new e (fulfilled words old new e (of_file order) is p).0

-- an evaluation refuses nothing
evaluated_refuses : (units : ℕ) (program : Program) (taken now : Option (List ℕ)) (e : Ended) (input : List ℕ)
    → Evaluates units program taken now e input → is_refusal e.outcome ≡ false
evaluated_refuses units program taken now e input v = by_answers units program taken now e input v
    (λ bare a. ap is_refusal bare.outcome ∙ at_refuses units (meant program (told input) units).ending)
    (λ bare f. ap is_refusal bare.outcome)

saved_refuses : (path bytes : List ℕ) (old new : Files) (e : Ended) → SavedAt path bytes old new e →
    is_refusal e.outcome ≡ false
saved_refuses path bytes old new e (inl s) = ap is_refusal s.0.outcome
saved_refuses path bytes old new e (inr s) = ap is_refusal s.0.outcome

-- any other order that is done refuses nothing
done_refuses : (order : Order) (old new : Outside) (e : Ended) (bytes : List ℕ) → most_units order ≡ None →
    Performed order old new e bytes → is_refusal e.outcome ≡ false
done_refuses (run file steps) old new e bytes none (tree, is, (program, means, r)) =
    ap is_refusal r.runs.1.outcome ∙ stop_refuses steps r.runs.1.stop
done_refuses (exec file steps) old new e bytes none (image, is, r) =
    ap is_refusal r.1.outcome ∙ stop_refuses steps r.1.stop
done_refuses (mean file units) old new e bytes none d = absurd cc
done_refuses (build file path) old new e bytes none (tree, is, (program, means, s)) =
    saved_refuses path s.saves.bytes old.file new.file e s.saves.saved
done_refuses (asm file path) old new e bytes none (image, is, s) =
    saved_refuses path s.bytes old.file new.file e s.saved
done_refuses (dis file) old new e bytes none (image, is, inl p) = ap is_refusal p.0.outcome
done_refuses (dis file) old new e bytes none (image, is, inr p) = ap is_refusal p.0.outcome

-- nor does `gen`
source_refuses : (n : ℕ) (taken told : Option (List ℕ)) (e : Ended) → PrintsSource n taken told e →
    is_refusal e.outcome ≡ false
source_refuses n taken told e (inl p) = ap is_refusal p.0.outcome
source_refuses n taken told e (inr p) = ap is_refusal p.0.outcome

-- ---- the first bytes of a file are refused as the whole

refusal_within : (order : Order) (bytes : List ℕ) (b : Bool) → nat_lt (longest_of order) (length bytes) ≡ b
    → refusal order bytes ≡ (if b then Some outcome.TooLong else content_refusal order bytes)
refusal_within order bytes b is = ap (λ c. if c then Some outcome.TooLong else content_refusal order bytes) is

pub refused_front : (order : Order) (file : List ℕ) →
    refusal order (take (longest_of order + 1) file) ≡ refusal order file
refused_front order file = by (cases_lt (longest_of order) (length file))
  where
    by : (longest_of order < length file) ⊎ (length file ≤ longest_of order) →
        refusal order (take (longest_of order + 1) file) ≡ refusal order file
    by (inl long) =
        let front : length (take (longest_of order + 1) file) ≡ longest_of order + 1 =
        length-take-le (longest_of order + 1) file (omega (arith, long)) in
        refusal_within order (take (longest_of order + 1) file) true
        (lt-ltb (longest_of order) (length (take (longest_of order + 1) file)) (omega (arith, front)))
        ∙ sym (refusal_within order file true (lt-ltb (longest_of order) (length file) long))
    by (inr short) = ap (refusal order) (take_all (longest_of order + 1) file (omega (arith, short)))

-- ---- refusals

module _ (words : List (List ℕ)) (old new : Outside) (e : Ended) (last o : Outcome) (is : is_refusal o ≡ true) where
  -- the bytes of the file are refused so, or the input of `mean` is too long
  abbrev Only : Type 0
  Only = Refuses words old.file o ⊎ ((o ≡ outcome.TooLong) × InputTooLong words old new)

  only_bad : (place : ℕ) → Answered old new e (outcome.BadWords place) → e.outcome ≡ o → Only
  only_bad place a same = no_refusal is (sym same ∙ a.0.outcome) refl

  only_mean : (file : List ℕ) (units : ℕ) (bytes : List ℕ) → MeanDone words old new e file units bytes →
      e.outcome ≡ o → Only
  only_mean file units bytes d same = by d.was
    where
      by : WasMeant words old new e d.of → Only
      by (inl (long, i)) = inr (sym same ∙ long, i)
      by (inr (inl failed)) = no_refusal is (sym same ∙ failed) refl
      by (inr (inr v)) = no_refusal is (sym same)
          (evaluated_refuses d.of.units d.of.program old.taken new.taken e v.evaluation.input v.seen)

  only_done : (order : Order) (bytes : List ℕ) → order_of words ≡ Ok (of_file order)
      → Loads (old.file (file_of order)) (longest_of order + 1) bytes → refusal order bytes ≡ None
      → Performed order old new e bytes → e.outcome ≡ o → Only
  only_done (mean file units) bytes ordered loads fine d same =
      only_mean file units bytes (mean_done words old new e file units bytes ordered loads fine d) same
  only_done (run file steps) bytes ordered loads fine d same =
      no_refusal is (sym same) (done_refuses (run file steps) old new e bytes refl d)
  only_done (exec file steps) bytes ordered loads fine d same =
      no_refusal is (sym same) (done_refuses (exec file steps) old new e bytes refl d)
  only_done (build file path) bytes ordered loads fine d same =
      no_refusal is (sym same) (done_refuses (build file path) old new e bytes refl d)
  only_done (asm file path) bytes ordered loads fine d same =
      no_refusal is (sym same) (done_refuses (asm file path) old new e bytes refl d)
  only_done (dis file) bytes ordered loads fine d same =
      no_refusal is (sym same) (done_refuses (dis file) old new e bytes refl d)

  only_came : (order : Order) → order_of words ≡ Ok (of_file order) → Came order old new e → e.outcome ≡ o → Only
  only_came order ordered (inl failed) same = no_refusal is (sym same ∙ failed.outcome) refl
  only_came order ordered (inr (bytes, loads, inl (found, at_bytes, bare))) same = inl (record {
    order = order;
    ordered = ordered;
    bytes = bytes;
    loads = loads;
    refused = at_bytes ∙ ap Some (sym bare.outcome ∙ same);
  })
  only_came order ordered (inr (bytes, loads, inr (fine, d))) same = only_done order bytes ordered loads fine d same

  only_first : (r : Result Asked ℕ) → order_of words ≡ r → Performs words old new e → e.outcome ≡ o → Only
  only_first (Ok (of_file order)) ordered p same =
      only_came order ordered (performed words old new e order ordered p) same
  only_first (Ok (gen n)) ordered p same =
      no_refusal is (sym same)
      (source_refuses n old.taken new.taken e (fulfilled words old new e (gen n) ordered p).0.1)
  only_first (Err place) ordered p same = only_bad place (rewritten (order_of words) ordered p) same
    where
      rewritten : (r : Result Asked ℕ) → r ≡ Err place
          → MatchResult r (λ asked. Fulfils asked old new e × IsOfCommand e.outcome)
          (λ place. Answered old new e (outcome.BadWords place))
          → Answered old new e (outcome.BadWords place)
      rewritten (Ok other) q m = absurd cc
      rewritten (Err other) q m = subst (λ p. Answered old new e (outcome.BadWords p)) (err_is other q) m
        where
          err_is : (other : ℕ) → ◌≡◌ {A = Result Asked ℕ} (Err other) (Err place) → other ≡ place
          err_is other q = cc

  comes : (order : Order) (file : List ℕ) → old.file (file_of order) ≡ Some (Some file) → Came order old new e →
      e.outcome ≢ outcome.LoadFault
      → refusal order file ≡ Some o → e.outcome ≡ o
  comes order file told (inl failed) other refused = absurd (other failed.outcome)
  comes order file told (inr (bytes, loads, came)) other refused = by came
    where
      all_bytes : bytes ≡ take (longest_of order + 1) file
      all_bytes = subst (λ t. Loads t (longest_of order + 1) bytes) told loads

      same : refusal order bytes ≡ Some o
      same = ap (refusal order) all_bytes ∙ refused_front order file ∙ refused

      by : Taken (refusal order bytes) e (Performed order old new e bytes) → e.outcome ≡ o
      by (inl (found, at_bytes, bare)) = bare.outcome ∙ some_is (sym at_bytes ∙ same)
        where
          some_is : ◌≡◌ {A = Option Outcome} (Some found) (Some o) → found ≡ o
          some_is q = cc
      by (inr (fine, d)) = absurd (none_is (sym fine ∙ same))
        where
          none_is : ◌≡◌ {A = Option Outcome} None (Some o) → ⊥
          none_is q = cc

  -- the refusal of a told file
  told_refusal : (order : Order) (file : List ℕ) → order_of words ≡ Ok (of_file order) →
      old.file (file_of order) ≡ Some (Some file)
      → Refuses words old.file o → refusal order file ≡ Some o
  told_refusal order file ordered told r =
      let same = one_file r.order order
      (one_order (order_of words) (of_file r.order) (of_file order) r.ordered ordered) in
      let loads = subst (λ t. Loads t (longest_of order + 1) r.bytes) told
      (subst (λ k. Loads (old.file (file_of k)) (longest_of k + 1) r.bytes) same r.loads) in
      sym (refused_front order file) ∙ ap (refusal order) (sym loads) ∙ ap (λ k. refusal k r.bytes) (sym same) ∙
      r.refused

-- a told text that isn't refused was given to `mean`
pub told_done : (words : List (List ℕ)) (old new : Outside) (e : Ended) (name : List ℕ) (units : ℕ) (file : List ℕ)
    → order_of words ≡ Ok (of_file (mean name units)) → old.file name ≡ Some (Some file) →
    refusal (mean name units) file ≡ None → e.outcome ≢ outcome.LoadFault → Came (mean name units) old new e
    → MeanDone words old new e name units (take (longest_text + 1) file)
told_done words old new e name units file ordered is fine loaded (inl failed) = absurd (loaded failed.outcome)
told_done words old new e name units file ordered is fine loaded (inr (bytes, loads, came)) = by came
  where
    all_bytes : bytes ≡ take (longest_text + 1) file
    all_bytes = subst (λ t. Loads t (longest_text + 1) bytes) is loads

    accepted : refusal (mean name units) bytes ≡ None
    accepted = ap (refusal (mean name units)) all_bytes ∙ refused_front (mean name units) file ∙ fine

    by : Taken (refusal (mean name units) bytes) e (Performed (mean name units) old new e bytes) →
        MeanDone words old new e name units (take (longest_text + 1) file)
    by (inl (found, at_bytes, bare)) = absurd (none_is (sym accepted ∙ at_bytes))
      where
        none_is : ◌≡◌ {A = Option Outcome} None (Some found) → ⊥
        none_is q = cc
    by (inr (is_fine, d)) =
        subst (λ b. MeanDone words old new e name units b) all_bytes
        (mean_done words old new e name units bytes ordered loads is_fine d)

module _ (words : List (List ℕ)) (old new : Outside) (before now : Failures) (taken told : Option (List ℕ))
    (err_before err_now : ℕ) (e : Ended) (did : Ticked words old new before now taken told err_before err_now e) where
  -- the outcome before it was reported
  abbrev pub first : Outcome
  first = did.0

  abbrev pub at_first : Ended
  at_first = record e { outcome = first }

  abbrev pub text : List ℕ
  text = said words at_first

  pub is_first : e.outcome ≢ outcome.WriteFault → e.outcome ≡ first
  is_first = stays text first e.outcome taken told err_before err_now did.3

  first_refusal : (o : Outcome) → is_refusal o ≡ true → first ≡ o → e.outcome ≡ o
  first_refusal o r same = by (reported text first e.outcome taken told err_before err_now did.3)
    where
      by : (e.outcome ≡ first) ⊎ ((status : ℕ) × (first ≡ outcome.Done status) × (e.outcome ≡ outcome.WriteFault)) →
          e.outcome ≡ o
      by (inl is) = is ∙ same
      by (inr (status, is, fault)) = no_refusal r (sym same ∙ is) refl

  last_refusal : (o : Outcome) → is_refusal o ≡ true → e.outcome ≡ o → first ≡ o
  last_refusal o r same = sym (is_first (λ w. no_refusal r (sym same ∙ w) refl)) ∙ same

  -- a first outcome that isn't Done stays
  pub by_first : (o : Outcome) → first ≡ o → ((s : ℕ) → o ≡ outcome.Done s → ⊥) → e.outcome ≡ o
  by_first o is other = by (reported text first e.outcome taken told err_before err_now did.3)
    where
      by : (e.outcome ≡ first) ⊎ ((status : ℕ) × (first ≡ outcome.Done status) × (e.outcome ≡ outcome.WriteFault)) →
          e.outcome ≡ o
      by (inl same) = same ∙ is
      by (inr (status, done, fault)) = absurd (other status (sym is ∙ done))

  pub first_loaded : e.outcome ≢ outcome.LoadFault → first ≢ outcome.LoadFault
  first_loaded other is = by (reported text first e.outcome taken told err_before err_now did.3)
    where
      by : (e.outcome ≡ first) ⊎ ((status : ℕ) × (first ≡ outcome.Done status) × (e.outcome ≡ outcome.WriteFault)) → ⊥
      by (inl same) = other (same ∙ is)
      by (inr (status, done, fault)) = not_done (sym is ∙ done)
        where
          not_done : outcome.LoadFault ≡ outcome.Done status → ⊥
          not_done q = cc

  -- what is known where the outcome is a refusal
  only_last : (o : Outcome) (r : is_refusal o ≡ true) → e.outcome ≡ o → Only words old new at_first e.outcome o r
  only_last o r same =
      only_first words old new at_first e.outcome o r (order_of words) refl did.1 (last_refusal o r same)

  comes_last : (o : Outcome) (r : is_refusal o ≡ true) (order : Order) (file : List ℕ) →
      order_of words ≡ Ok (of_file order) → old.file (file_of order) ≡ Some (Some file) →
      e.outcome ≢ outcome.LoadFault → refusal order file ≡ Some o → e.outcome ≡ o
  comes_last o r order file ordered is other refused = first_refusal o r
      (comes words old new at_first e.outcome o r order file is
      (performed words old new at_first order ordered did.1) (first_loaded other) refused)

  pub refusal_row : (o : Outcome) → is_content o ≡ true → IsRefusal words old.file e.outcome o
  refusal_row o k = record {
    only = only_refused;
    exactly = λ order file ordered is other. (
      λ same. told_refusal words old new at_first e.outcome o r order file ordered is (only_refused same),
      λ refused. comes_last o r order file ordered is other refused,
    );
  }
    where
      r : is_refusal o ≡ true
      r = kinds.content_refusal o k

      only_refused : e.outcome ≡ o → Refuses words old.file o
      only_refused same = by (only_last o (kinds.content_refusal o k) same)
        where
          by : Only words old new at_first e.outcome o (kinds.content_refusal o k) → Refuses words old.file o
          by (inl refuses) = refuses
          by (inr (long, i)) = absurd (false≢true (sym (ap is_content long) ∙ k))

  abbrev Long : Type 0
  Long = Refuses words old.file outcome.TooLong ⊎ InputTooLong words old new

  only_long : e.outcome ≡ outcome.TooLong → Long
  only_long same = by (only_last outcome.TooLong refl same)
    where
      by : Only words old new at_first e.outcome outcome.TooLong refl → Long
      by (inl refuses) = inl refuses
      by (inr (long, i)) = inr i

  -- an order other than `mean` has no input that is too long
  other_order : (order : Order) → order_of words ≡ Ok (of_file order) → most_units order ≡ None →
      InputTooLong words old new → ⊥
  other_order order ordered none i =
      no_units (sym none ∙ ap most_units (one_file order (mean i.of.file i.of.units)
      (one_order (order_of words) (of_file order) (of_file (mean i.of.file i.of.units)) ordered i.of.ordered)))
    where
      no_units : ◌≡◌ {A = Option ℕ} None (Some i.of.units) → ⊥
      no_units q = cc

  long_file : (order : Order) (file : List ℕ) → order_of words ≡ Ok (of_file order) →
      old.file (file_of order) ≡ Some (Some file) → most_units order ≡ None → Long →
      refusal order file ≡ Some outcome.TooLong
  long_file order file ordered is none (inl refuses) =
      told_refusal words old new at_first e.outcome outcome.TooLong refl order file ordered is refuses
  long_file order file ordered is none (inr i) = absurd (other_order order ordered none i)

  -- ---- the input of `mean`

  module _ (name : List ℕ) (units : ℕ) (file bytes : List ℕ) (ordered : order_of words ≡ Ok (of_file (mean name units)))
      (is : old.file name ≡ Some (Some file)) (left : old.left ≡ Some bytes) where
    abbrev Either : Type 0
    Either = (refusal (mean name units) file ≡ Some outcome.TooLong)
        ⊎ ((refusal (mean name units) file ≡ None) × (nat_lt longest_text (length bytes) ≡ true))

    long_either : Long → Either
    long_either (inl refuses) =
        inl (told_refusal words old new at_first e.outcome outcome.TooLong refl (mean name units) file ordered is
        refuses)
    long_either (inr i) = inr (
      sym (refused_front (mean name units) file) ∙ ap (refusal (mean name units)) (sym loads) ∙
          not_refused words old.file i.of name units,
      long_input bytes new.left i.input (subst (λ l. Consumes l new.left i.input) left i.read) i.long,
    )
      where
        same : i.of.file ≡ name
        same = (one_words i.of.file name i.of.units units
            (one_order (order_of words) (of_file (mean i.of.file i.of.units)) (of_file (mean name units)) i.of.ordered
            ordered)).0

        loads : i.of.text ≡ take (longest_text + 1) file
        loads = subst (λ t. Loads t (longest_text + 1) i.of.text) (ap old.file same ∙ is) i.of.loads

    long_comes : e.outcome ≢ outcome.LoadFault → e.outcome ≢ outcome.ReadFault
        → refusal (mean name units) file ≡ None → nat_lt longest_text (length bytes) ≡ true
        → e.outcome ≡ outcome.TooLong
    long_comes loaded read fine long =
        let d = told_done words old new at_first name units file ordered is fine (first_loaded loaded)
        (performed words old new at_first (mean name units) ordered did.1) in
        by d.of d.was
      where
        by : (of : MeantText words old.file) → WasMeant words old new at_first of → e.outcome ≡ outcome.TooLong
        by of (inl (is_long, i)) = first_refusal outcome.TooLong refl is_long
        by of (inr (inl failed)) = absurd (read (by_first outcome.ReadFault failed (λ s q. no_done s q)))
          where
            no_done : (s : ℕ) → outcome.ReadFault ≡ outcome.Done s → ⊥
            no_done s q = cc
        by of (inr (inr v)) =
            let whole = whole_read bytes new.left v.evaluation.input
            (subst (λ l. Consumes l new.left v.evaluation.input) left v.evaluation.read) v.evaluation.at_end in
            absurd (false≢true (sym v.evaluation.few ∙ ap (λ (l : List ℕ). nat_lt longest_text (length l)) (sym whole) ∙
            long))

    of_input : e.outcome ≢ outcome.LoadFault → e.outcome ≢ outcome.ReadFault → (e.outcome ≡ outcome.TooLong) ↔ Either
    of_input loaded read = (λ same. long_either (only_long same), comes_so)
      where
        comes_so : Either → e.outcome ≡ outcome.TooLong
        comes_so (inl refused) = comes_last outcome.TooLong refl (mean name units) file ordered is loaded refused
        comes_so (inr (fine, long)) = long_comes loaded read fine long

  pub too_long : IsTooLong words old new e.outcome
  too_long = record {
    only = only_long;
    exactly = λ order file ordered is other none. (
      λ same. long_file order file ordered is none (only_long same),
      λ refused. comes_last outcome.TooLong refl order file ordered is other refused,
    );
    of_input = λ name units file bytes ordered is left loaded read. of_input name units file bytes ordered is left
        loaded
        read;
  }
