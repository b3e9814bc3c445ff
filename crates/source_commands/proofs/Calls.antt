-- What a whole call shows of the run of its image, and of the meaning of its text.
use Rattle.std.proofs.Common.{◌≡◌, ◌≢◌, ◌⊎◌, inl, inr, ℕ, ◌+◌, Bool, true, false, List, length, Option, Some, None}
use Rattle.std.proofs.Common.{Result, Ok, Err, nat_lt, if◌then◌else◌, refl, sym, ap, ◌∙◌, subst}
use Rattle.std.proofs.lemmas.Bool.{false≢true}
use Rattle.std.proofs.lemmas.List.{append_cancel_right}
use Rattle.host_edge.specs.Files.{Loads}
use Rattle.history.specs.Events.{Input, output}
use Rattle.image_file.specs.Image.{ImageParts}
use Rattle.image_file.specs.Format.{parsed}
use Rattle.image_file.specs.declared.fault.ImageFault.{ImageFault}
use Rattle.mips_text.specs.Assembly.{assembled}
use Rattle.asm_passes.specs.declared.fault.AsmFault.{AsmFault}
use Rattle.pace.proofs.Runs.{to_prefix}
use Rattle.host_edge.specs.declared.ending.Counts.{Counts}
use Rattle.mips_model.specs.Run.{runs}
use Rattle.mips_machine.specs.Progress.{counts_of}
use Rattle.staged_meaning.specs.Meaning.{Program}
use Rattle.tick_tree.specs.declared.fault.Fault.{Fault}
use Rattle.wellformed.specs.declared.typed.Typed.{Typed}
use Rattle.source_commands.specs.Texts.{typed_tree}
use Rattle.command_words.specs.Orders.{Order, run, build, exec, mean, asm, dis}
use Rattle.tick_outcome.specs.declared.outcome.Outcome.{Outcome}
use Rattle.tick_outcome.specs.declared.outcome.Outcome.TheVariants as outcome
use Rattle.tick_outcome.specs.declared.ended.Ended as code
use Rattle.image_commands.specs.Outside.{Outside}
use Rattle.image_commands.specs.Answers.{IsBare, outcome_of}
use Rattle.image_commands.specs.Does.{Runs}
use Rattle.image_commands.specs.Said.{Reports}
use Rattle.image_commands.specs.Seen.{EndsBehind, IsInput, Account, account_of, ShowsRun}
use Rattle.source_commands.specs.Rows.{file_of, longest_of, content_refusal, refusal, text_refusal}
use Rattle.source_commands.specs.Rows.{assembly_refusal, image_refusal}
use Rattle.source_commands.proofs.Came.{Performed, Came}
use Rattle.image_commands.proofs.Outcomes.{is_refusal, refusal_no_machine, is_of_machine, reported}
use Rattle.image_commands.proofs.Runs.{accounted, shows_run}

-- ---- bytes that are refused

text_kind : (r : Result Typed Fault) (o : Outcome) → text_refusal r ≡ Some o → is_refusal o ≡ true
text_kind (Ok tree) o e = absurd cc
text_kind (Err fault) o e = ap is_refusal (some_is e)
  where
    some_is : ◌≡◌ {A = Option Outcome} (Some (outcome.Refused fault)) (Some o) → o ≡ outcome.Refused fault
    some_is q = cc

assembly_kind : (r : Result ImageParts AsmFault) (o : Outcome) → assembly_refusal r ≡ Some o → is_refusal o ≡ true
assembly_kind (Ok image) o e = absurd cc
assembly_kind (Err fault) o e = ap is_refusal (some_is e)
  where
    some_is : ◌≡◌ {A = Option Outcome} (Some (outcome.AsmRefused fault)) (Some o) → o ≡ outcome.AsmRefused fault
    some_is q = cc

image_kind : (r : Result ImageParts ImageFault) (o : Outcome) → image_refusal r ≡ Some o → is_refusal o ≡ true
image_kind (Ok image) o e = absurd cc
image_kind (Err fault) o e = ap is_refusal (some_is e)
  where
    some_is : ◌≡◌ {A = Option Outcome} (Some (outcome.BadImage fault)) (Some o) → o ≡ outcome.BadImage fault
    some_is q = cc

content_kind : (order : Order) (bytes : List ℕ) (o : Outcome) → content_refusal order bytes ≡ Some o →
    is_refusal o ≡ true
content_kind (run file steps) bytes o e = text_kind (typed_tree bytes) o e
content_kind (build file path) bytes o e = text_kind (typed_tree bytes) o e
content_kind (exec file steps) bytes o e = image_kind (parsed bytes) o e
content_kind (mean file units) bytes o e = text_kind (typed_tree bytes) o e
content_kind (asm file path) bytes o e = assembly_kind (assembled bytes) o e
content_kind (dis file) bytes o e = image_kind (parsed bytes) o e

refusal_kind : (order : Order) (bytes : List ℕ) (o : Outcome) → refusal order bytes ≡ Some o → is_refusal o ≡ true
refusal_kind order bytes o e = by (nat_lt (longest_of order) (length bytes)) e
  where
    by : (b : Bool) → (if b then Some outcome.TooLong else content_refusal order bytes) ≡ Some o → is_refusal o ≡ true
    by true q = ap is_refusal (some_is q)
      where
        some_is : ◌≡◌ {A = Option Outcome} (Some outcome.TooLong) (Some o) → o ≡ outcome.TooLong
        some_is p = cc
    by false q = content_kind order bytes o q

-- bytes that aren't refused aren't too many
pub short_enough : (order : Order) (bytes : List ℕ) → refusal order bytes ≡ None →
    nat_lt (longest_of order) (length bytes) ≡ false
short_enough order bytes e = by (nat_lt (longest_of order) (length bytes)) refl e
  where
    by : (b : Bool) → nat_lt (longest_of order) (length bytes) ≡ b →
        (if b then Some outcome.TooLong else content_refusal order bytes) ≡ None
        → nat_lt (longest_of order) (length bytes) ≡ false
    by true is q = absurd (none_is q)
      where
        none_is : ◌≡◌ {A = Option Outcome} (Some outcome.TooLong) None → ⊥
        none_is p = cc
    by false is q = is

-- ---- an order that was done

-- no answer is one without a machine
abbrev pub IsRun : code.Ended → Type 0
IsRun e = (o : Outcome) → IsBare e o → is_of_machine o ≡ false → ⊥

pub run_by_outcome : (e : code.Ended) → is_of_machine e.outcome ≡ true → IsRun e
run_by_outcome e machine o bare not = false≢true (sym not ∙ ap is_of_machine (sym bare.outcome) ∙ machine)

pub run_by_image : (e : code.Ended) (image : ImageParts) → e.image ≡ Some image → IsRun e
run_by_image e image handed o bare not = none_is (sym bare.image ∙ handed)
  where
    none_is : ◌≡◌ {A = Option ImageParts} None (Some image) → ⊥
    none_is q = cc

pub record IsDone (order : Order) (old new : Outside) (e : code.Ended) : Type 0 where
  pub bytes : List ℕ
  pub loads : Loads (old.file (file_of order)) (longest_of order + 1) bytes
  pub fine : refusal order bytes ≡ None
  pub done : Performed order old new e bytes

pub is_done : (order : Order) (old new : Outside) (e : code.Ended) → IsRun e → Came order old new e →
    IsDone order old new e
is_done order old new e is (inl failed) = absurd (is outcome.LoadFault failed refl)
is_done order old new e is (inr (bytes, loads, inl (o, refused, bare))) =
    absurd (is o bare (refusal_no_machine o (refusal_kind order bytes o refused)))
is_done order old new e is (inr (bytes, loads, inr (fine, done))) =
    record { bytes = bytes; loads = loads; fine = fine; done = done }

-- a machine ran: what is shown of its run
pub shows : (steps : ℕ) (old new : Outside) (e : code.Ended) (image : ImageParts) → Runs steps old new e image
    → ShowsRun steps image (account_of e) old.left new.left old.taken new.taken e.outcome
shows steps old new e image (files, r) =
    subst (ShowsRun steps image (account_of e) old.left new.left old.taken new.taken) (sym r.outcome)
    (subst
    (λ (a : Account). ShowsRun steps image a old.left new.left old.taken new.taken (outcome_of steps r.stop)) same
    (shows_run steps image r.final old.left new.left old.taken new.taken r.stop r.ran))
  where
    same : accounted r.final ≡ account_of e
    same =
        ap (λ (x : ℕ). record {
          steps = x;
          counts = counts_of r.final.state.d.outside;
          choices = r.final.state.d.outside.making.generator.choices;
        }) (sym r.steps)
        ∙ (ap (λ (x : Counts). record {
          steps = e.steps;
          counts = x;
          choices = r.final.state.d.outside.making.generator.choices;
        }) (sym r.counts)
        ∙ ap (λ (x : List ℕ). record { steps = e.steps; counts = e.counts; choices = x }) (sym r.choices))

-- one that also holds where standard error failed
unsaid_shows : (n : ℕ) (image : ImageParts) (account : Account) (left later taken told : Option (List ℕ)) (status : ℕ)
    → ShowsRun n image account left later taken told (outcome.Done status) →
    ShowsRun n image account left later taken told outcome.WriteFault
unsaid_shows n image account left later taken told status s = record {
  input = s.input;
  is_input = s.is_input;
  row = s.row;
  reached = s.reached;
  within = s.within;
  all = λ other. absurd (other refl);
  scanned = s.scanned;
  defined = s.defined;
  seen = record {
    bytes = output (runs image s.input s.row s.reached).history;
    put_out = s.seen.1.put_out;
    front = to_prefix (output (runs image s.input s.row s.reached).history)
        (output (runs image s.input s.row s.reached).history) refl;
  };
  accounted = s.accounted;
}

pub shows_reported : (text : List ℕ) (n : ℕ) (image : ImageParts) (account : Account)
    (left later taken told said said' : Option (List ℕ)) (first last : Outcome) (old new : ℕ)
    → Reports text first last said said' old new → ShowsRun n image account left later taken told first →
    ShowsRun n image account left later taken told last
shows_reported text n image account left later taken told said said' first last old new reports s =
    by (reported text first last said said' old new reports)
  where
    by : (last ≡ first) ⊎ ((status : ℕ) × (first ≡ outcome.Done status) × (last ≡ outcome.WriteFault)) →
        ShowsRun n image account left later taken told last
    by (inl same) = subst (ShowsRun n image account left later taken told) (sym same) s
    by (inr (status, done, fault)) =
        subst (ShowsRun n image account left later taken told) (sym fault)
        (unsaid_shows n image account left later taken told status
        (subst (ShowsRun n image account left later taken told) done s))

-- ---- the input

pub input_ends : (left later : Option (List ℕ)) (o : Outcome) (input : Input) → o ≢ outcome.ReadFault →
    IsInput left later o input → EndsBehind left input
input_ends left later (outcome.Done s) input other h = h
input_ends left later (outcome.BadWords p) input other h = h
input_ends left later (outcome.Refused fault) input other h = h
input_ends left later (outcome.AsmRefused fault) input other h = h
input_ends left later outcome.LoadFault input other h = h
input_ends left later outcome.TooLong input other h = h
input_ends left later (outcome.BadImage fault) input other h = h
input_ends left later (outcome.Trap k) input other h = h
input_ends left later (outcome.MachineFault k at) input other h = h
input_ends left later (outcome.OutOfSteps n) input other h = h
input_ends left later outcome.WriteFault input other h = h
input_ends left later outcome.ReadFault input other h = absurd (other refl)
input_ends left later outcome.SaveFault input other h = h

one_failing : (bytes : List ℕ) (later : Option (List ℕ)) (a b : Input) →
    IsInput (Some bytes) later outcome.ReadFault a → IsInput (Some bytes) later outcome.ReadFault b → a ≡ b
one_failing bytes None a b p q = absurd p.0
one_failing bytes (Some rest) a b p q =
    ap (λ (l : List ℕ). record { bytes = l; failing = a.failing })
    (append_cancel_right a.bytes b.bytes rest (sym p.0 ∙ q.0))
    ∙ ap (λ f. record { bytes = b.bytes; failing = f }) (p.1 ∙ sym q.1)

-- a told input is one
pub one_input : (bytes : List ℕ) (later : Option (List ℕ)) (o : Outcome) (a b : Input) →
    IsInput (Some bytes) later o a → IsInput (Some bytes) later o b → a ≡ b
one_input bytes later (outcome.Done s) a b p q = p ∙ sym q
one_input bytes later (outcome.BadWords x) a b p q = p ∙ sym q
one_input bytes later (outcome.Refused fault) a b p q = p ∙ sym q
one_input bytes later (outcome.AsmRefused fault) a b p q = p ∙ sym q
one_input bytes later outcome.LoadFault a b p q = p ∙ sym q
one_input bytes later outcome.TooLong a b p q = p ∙ sym q
one_input bytes later (outcome.BadImage fault) a b p q = p ∙ sym q
one_input bytes later (outcome.Trap k) a b p q = p ∙ sym q
one_input bytes later (outcome.MachineFault k at) a b p q = p ∙ sym q
one_input bytes later (outcome.OutOfSteps n) a b p q = p ∙ sym q
one_input bytes later outcome.WriteFault a b p q = p ∙ sym q
one_input bytes later outcome.ReadFault a b p q = one_failing bytes later a b p q
one_input bytes later outcome.SaveFault a b p q = p ∙ sym q
