-- What a call shows of the run of its image, from what the machine did.
use Rattle.std.proofs.Common.{◌≡◌, ◌≢◌, ℕ, zero, suc, true, false, List, [], ◌++◌, take, Option, None, Some, refl, sym}
use Rattle.std.proofs.Common.{ap, ◌∙◌, subst, arith, append_assoc, append-nil}
use Rattle.std.specs.Io.KnownBytes.{Appends, Consumes}
use Rattle.std.proofs.lemmas.Bool.{false≢true}
use Rattle.std.proofs.lemmas.List.{take-append-drop}
use Rattle.std.proofs.Math.ListN.{drop}
use Rattle.host_edge.specs.declared.ending.Ending.TheVariants as ending
use Rattle.history.specs.Events.{Item, End, Input, output, outs}
use Rattle.image_file.specs.Image.{ImageParts}
use Rattle.pace.specs.Pace.{Seen, IsPrefix}
use Rattle.pace.proofs.Runs.{later_prefix, prefix_trans}
use Rattle.mips_model.specs.Choices.{Choice}
use Rattle.host_edge.specs.declared.ending.Counts.{Counts}
use Rattle.mips_model.specs.State.{World}
use Rattle.mips_model.specs.Steps.{run}
use Rattle.mips_model.specs.Run.{begins, runs, see, steps_within}
use Rattle.mips_model.proofs.Runs.{grows}
use Rattle.mips_machine.specs.declared.stop.Stop.{Stop}
use Rattle.mips_machine.specs.declared.stop.Stop.TheVariants as stop
use Rattle.mips_machine.specs.Progress.{Progress, Unkept, first_progress, first_unkept, no_input, choosing, more}
use Rattle.mips_machine.specs.Progress.{world, counts_of}
use Rattle.mips_machine.specs.Ran.{Ran, MayFollow, before, ending_of, told_of}
use Rattle.mips_machine.proofs.More.{runs_all, counts_steps, chooses_well, chooses_so_far, output-++}
use Rattle.mips_machine.proofs.Moves.{output_outs}
use Rattle.image_commands.specs.Answers.{outcome_of}
use Rattle.image_commands.proofs.Outcomes.{by_fault}
use Rattle.tick_outcome.specs.declared.outcome.Outcome.{Outcome}
use Rattle.tick_outcome.specs.declared.outcome.Outcome.TheVariants as outcome
use Rattle.image_commands.specs.Seen.{EndsBehind, IsInput, outcome_at, Moves, PutsFront, IsSeen, IsScannedRun, Account}
use Rattle.image_commands.specs.Seen.{account_at}
use Rattle.image_commands.specs.Seen.{ShowsRun}

-- ---- the input

-- an input that the bytes taken begin, and what is still to come
record IsBegun (final : Progress) (image : ImageParts) (given : List ℕ) (s : Stop) (is : Input → Type 0) : Type 0 where
  rest : Input
  follows : MayFollow (first_progress image) final s rest
  is_input : is (before given rest)

-- of told bytes the end comes behind all that were left
to_end : (n : ℕ) (image : ImageParts) (final : Progress) (left later taken told : Option (List ℕ)) (s : Stop) →
    s ≢ stop.ReadFault
    → (f : Ran n (first_progress image) final left later taken told s) → IsBegun final image f.given s (EndsBehind left)
to_end n image final None later taken told s fine f = record {
  rest = no_input;
  follows = record { ended = λ e o. refl; failed = λ e. absurd (fine e) };
  is_input = refl;
}
to_end n image final (Some bytes) None taken told s fine f = absurd f.consumed
to_end n image final (Some bytes) (Some rest) taken told s fine f = record {
  rest = record { bytes = rest; failing = false };
  follows = record {
    ended = λ e o. ap (λ (l : List ℕ). record { bytes = l; failing = false }) (f.at_end e o);
    failed = λ e. absurd (fine e);
  };
  is_input = ap (λ (l : List ℕ). record { bytes = l; failing = false }) (sym f.consumed);
}

abbrev FailsBehind : Option (List ℕ) → Option (List ℕ) → Input → Type 0
FailsBehind left later input = Consumes left later input.bytes × (input.failing ≡ true)

to_fault : (n : ℕ) (image : ImageParts) (final : Progress) (left later taken told : Option (List ℕ))
    → (f : Ran n (first_progress image) final left later taken told stop.ReadFault) →
    IsBegun final image f.given stop.ReadFault (FailsBehind left later)
to_fault n image final left later taken told f = record {
  rest = record { bytes = []; failing = true };
  follows = record { ended = λ e o. absurd (false≢true (sym (f.unended refl) ∙ e)); failed = λ e. refl };
  is_input = (subst (Consumes left later) (sym (append-nil f.given)) f.consumed, refl);
}

-- ---- the run

take_nil : (n : ℕ) → ◌≡◌ {A = List ℕ} (take n []) []
take_nil zero = refl
take_nil (suc n) = refl

-- what a longer history puts out begins with what a shorter one does
pub output_prefix : (a b : List Item) → IsPrefix a b → IsPrefix (output a) (output b)
output_prefix a b p = (output p.0, sym (output-++ a p.0) ∙ ap output p.1)

-- the outcome is that of the run's ending
at_ending : (n : ℕ) (s : Stop) → s ≢ stop.WriteFault → outcome_of n s ≡ outcome_at n (ending_of s)
at_ending n (stop.Ended (ending.Done x)) other = refl
at_ending n (stop.Ended (ending.Trap k)) other = refl
at_ending n (stop.Fault k at) other = refl
at_ending n stop.Steps other = refl
at_ending n stop.ReadFault other = refl
at_ending n stop.WriteFault other = absurd (other refl)

-- the choices of a call
abbrev pub row_of : {n : ℕ} {old final : Progress} {left later taken told : Option (List ℕ)} {s : Stop} →
    Ran n old final left later taken told s → List Choice
row_of f = f.chosen ++ (f.refused ++ [])

-- what a machine has come to
abbrev pub accounted : Progress → Account
accounted p = record {
  steps = p.steps;
  counts = counts_of p.state.d.outside;
  choices = p.state.d.outside.making.generator.choices;
}

module _ (n : ℕ) (image : ImageParts) (final : Progress) (left later taken told : Option (List ℕ)) (s : Stop)
    (f : Ran n (first_progress image) final left later taken told s) where
  put_all : s ≢ stop.WriteFault → Appends taken told (output f.events)
  put_all other =
      subst (Appends taken told)
      (ap (λ (l : List ℕ). output f.events ++ take f.front l) (f.whole other)
      ∙ ap (λ (l : List ℕ). output f.events ++ l) (take_nil f.front)
      ∙ append-nil (output f.events))
      f.appended

  moved : s ≢ stop.WriteFault → Moves left later taken told f.events
  moved other = record { read = subst (Consumes left later) (sym f.taken_in) f.consumed; put_out = put_all other }

  module _ (rest : Input) (follows : MayFollow (first_progress image) final s rest) where
    abbrev input : Input
    input = before f.given rest

    abbrev row : List Choice
    row = row_of f

    -- the world behind a run of so many instructions
    came_to : (k : ℕ) (u : Unkept) (end : Option End) →
        run k (begins image input row) ≡ world final rest u end → steps_within k (begins image input row) ≡ f.count →
        accounted final ≡ account_at image input row k
    came_to k u end is steps =
        let counts : counts_of final.state.d.outside ≡ counts_of (run k (begins image input row)).state.d.outside =
        sym (ap (λ (w : World). counts_of w.state.d.outside) is) in
        let choices : final.state.d.outside.making.generator.choices
        ≡ (run k (begins image input row)).state.d.outside.making.generator.choices =
        sym (ap (λ (w : World). w.state.d.outside.making.generator.choices) is) in
        let same : final.steps ≡ steps_within k (begins image input row) =
        let c = f.counted in omega (arith, c, steps) in
        ap (λ (x : ℕ). record {
          steps = x;
          counts = counts_of final.state.d.outside;
          choices = final.state.d.outside.making.generator.choices;
        }) same
        ∙ (ap (λ (x : Counts). record {
          steps = steps_within k (begins image input row);
          counts = x;
          choices = final.state.d.outside.making.generator.choices;
        }) counts
        ∙ ap (λ (x : List ℕ). record {
          steps = steps_within k (begins image input row);
          counts = counts_of (run k (begins image input row)).state.d.outside;
          choices = x;
        }) choices)

    abbrev behind : Unkept
    behind = choosing f.refused (told_of f.events f.noted (first_unkept []))

    sees : s ≢ stop.WriteFault →
        runs image input row n ≡ record { history = f.events; ending = ending_of s }
    sees other = ap see (runs_all s other f rest (first_unkept []) follows).0

    -- the run, where no write failed
    whole_run : s ≢ stop.WriteFault →
        (outcome_of n s ≡ outcome_at n (runs image input row n).ending)
        × Moves left later taken told (runs image input row n).history
    whole_run other = (
      at_ending n s other ∙ ap (λ v. outcome_at n v.ending) (sym (sees other)),
      subst (λ v. Moves left later taken told v.history) (sym (sees other)) (moved other),
    )

    whole_account : s ≢ stop.WriteFault → accounted final ≡ account_at image input row n
    whole_account other =
        let r = runs_all s other f rest (first_unkept []) follows in
        came_to n behind (ending_of s) r.0 r.1

    -- the run up to a failed write
    cut_history : (runs image input row f.count).history ≡ f.events ++ outs f.last
    cut_history = ap (λ w. (see w).history) (f.ran rest (first_unkept []) follows)

    front_output : IsPrefix (output f.events ++ take f.front f.last) (output (f.events ++ outs f.last))
    front_output = (
      drop f.front f.last,
      append_assoc (output f.events) (take f.front f.last) (drop f.front f.last)
          ∙ ap (λ (l : List ℕ). output f.events ++ l) (take-append-drop f.front f.last ∙ sym (output_outs f.last))
          ∙ sym (output-++ f.events (outs f.last)),
    )

    cut_run : PutsFront taken told (runs image input row f.count).history
    cut_run = record {
      bytes = output f.events ++ take f.front f.last;
      put_out = f.appended;
      front =
          subst (λ (l : List Item). IsPrefix (output f.events ++ take f.front f.last) (output l)) (sym cut_history)
          front_output;
    }

    cut_account : accounted final ≡ account_at image input row f.count
    cut_account =
        came_to f.count
        (choosing f.refused (more (outs f.last) (told_of f.events f.noted (first_unkept [])))) (ending_of s)
        (f.ran rest (first_unkept []) follows) (counts_steps f rest (first_unkept []) follows)

  -- a run that no failed write cut short
  whole : (other : s ≢ stop.WriteFault) (b : IsBegun final image f.given s (IsInput left later (outcome_of n s)))
      → ((seen : Seen Item End) → (outcome_of n s ≡ outcome_at n seen.ending)
      × Moves left later taken told seen.history →
      IsSeen n left later taken told (outcome_of n s) seen)
      → ShowsRun n image (accounted final) left later taken told (outcome_of n s)
  whole other b sees_so = record {
    input = before f.given b.rest;
    is_input = b.is_input;
    row = row_of f;
    reached = n;
    within = omega arith;
    all = λ o. refl;
    scanned = λ i less. (chooses_well s other f b.rest (first_unkept []) b.follows i less).0;
    defined = λ i less. (chooses_well s other f b.rest (first_unkept []) b.follows i less).1;
    seen =
        sees_so (runs image (before f.given b.rest) (row_of f) n)
        (whole_run b.rest b.follows other);
    accounted = whole_account b.rest b.follows other;
  }

pub shows_run : (n : ℕ) (image : ImageParts) (final : Progress) (left later taken told : Option (List ℕ)) (s : Stop)
    → Ran n (first_progress image) final left later taken told s →
    ShowsRun n image (accounted final) left later taken told (outcome_of n s)
shows_run n image final left later taken told (stop.Ended (ending.Done x)) f =
    let fine : stop.Ended (ending.Done x) ≢ stop.WriteFault = λ e. absurd cc in
    let b = to_end n image final left later taken told (stop.Ended (ending.Done x)) (λ e. absurd cc) f in
    whole n image final left later taken told (stop.Ended (ending.Done x)) f fine b (λ seen h. h)
shows_run n image final left later taken told (stop.Ended (ending.Trap k)) f =
    let fine : stop.Ended (ending.Trap k) ≢ stop.WriteFault = λ e. absurd cc in
    let b = to_end n image final left later taken told (stop.Ended (ending.Trap k)) (λ e. absurd cc) f in
    whole n image final left later taken told (stop.Ended (ending.Trap k)) f fine b (λ seen h. h)
shows_run n image final left later taken told (stop.Fault k at) f =
    let fine : stop.Fault k at ≢ stop.WriteFault = λ e. absurd cc in
    let b = to_end n image final left later taken told (stop.Fault k at) (λ e. absurd cc) f in
    whole n image final left later taken told (stop.Fault k at) f fine b (λ seen h. h)
shows_run n image final left later taken told stop.Steps f =
    let fine : stop.Steps ≢ stop.WriteFault = λ e. absurd cc in
    let b = to_end n image final left later taken told stop.Steps (λ e. absurd cc) f in
    whole n image final left later taken told stop.Steps f fine b (λ seen h. h)
shows_run n image final left later taken told stop.ReadFault f =
    let fine : stop.ReadFault ≢ stop.WriteFault = λ e. absurd cc in
    let b = to_fault n image final left later taken told f in
    whole n image final left later taken told stop.ReadFault f fine b (λ seen h. h)
shows_run n image final left later taken told stop.WriteFault f =
    let b = to_end n image final left later taken told stop.WriteFault (λ e. absurd cc) f in
    record {
      input = before f.given b.rest;
      is_input = b.is_input;
      row = row_of f;
      reached = f.count;
      within = f.within;
      all = λ other. absurd (other refl);
      scanned = f.scanned b.rest (first_unkept []) b.follows;
      defined = λ i less. chooses_so_far f b.rest (first_unkept []) b.follows i less;
      seen = cut_run n image final left later taken told stop.WriteFault f b.rest b.follows;
      accounted = cut_account n image final left later taken told stop.WriteFault f b.rest b.follows;
    }

-- as far as all instructions that were allowed, where a failed write cut the run short too
pub seen_by : {n : ℕ} {image : ImageParts} {account : Account} {left later taken told : Option (List ℕ)} (o : Outcome)
    → (s : ShowsRun n image account left later taken told o) →
    IsSeen n left later taken told o (runs image s.input s.row n)
seen_by {n = n} {image = image} {left = left} {later = later} {taken = taken} {told = told} o s =
    by_fault (λ (x : Outcome). IsSeen n left later taken told x (runs image s.input s.row n)) o
    (λ is. front (subst (λ (x : Outcome). IsSeen n left later taken told x at) is s.seen))
    (λ other. subst (λ (k : ℕ). IsSeen n left later taken told o (runs image s.input s.row k)) (s.all other) s.seen)
  where
    at : Seen Item End
    at = runs image s.input s.row s.reached

    front : PutsFront taken told at.history → PutsFront taken told (runs image s.input s.row n).history
    front f = record {
      bytes = f.bytes;
      put_out = f.put_out;
      front =
          prefix_trans f.bytes (output at.history) (output (runs image s.input s.row n).history) f.front
          (output_prefix at.history (runs image s.input s.row n).history
          (later_prefix (runs image s.input s.row) (grows image s.input s.row) s.reached n s.within));
    }

-- and its choices
pub scanned_by : {n : ℕ} {image : ImageParts} {account : Account} {left later taken told : Option (List ℕ)}
    {o : Outcome}
    → (s : ShowsRun n image account left later taken told o) → o ≢ outcome.WriteFault →
    IsScannedRun image s.input s.row n
scanned_by {n = n} {image = image} s other = subst (IsScannedRun image s.input s.row) (s.all other) s.scanned
