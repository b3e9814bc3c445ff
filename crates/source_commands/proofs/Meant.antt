-- What the outcome of a run tells of the meaning, by the headline.
use Rattle.std.proofs.Common.{◌≡◌, ◌≢◌, ℕ, ◌-◌, ◌/◌, ◌≤◌, false, List, [], ◌∷◌, ◌++◌, Option, Some, None, refl, sym, ap}
use Rattle.std.proofs.Common.{◌∙◌, subst, arith, if◌then◌else◌, nat_eq}
use Rattle.std.specs.List.{flat_map}
use Rattle.std.specs.Option.{option_map}
use Rattle.std.specs.Io.KnownBytes.{Appends, Consumes}
use Rattle.host_edge.specs.declared.ending.Ending.TheVariants as ending
use Rattle.history.specs.Events.{Item, End, Input, output}
use Rattle.history.specs.Events as event
use Rattle.image_file.specs.Image.{ImageParts}
use Rattle.pace.specs.Pace.{Seen, IsPrefix, instructions_of_a_unit, instructions_besides}
use Rattle.pace.proofs.Runs.{later_prefix, later_same, prefix_trans}
use Rattle.mips_model.specs.Choices.{Choice}
use Rattle.mips_model.specs.Run.{runs, begins, IsDefined}
use Rattle.mips_model.specs.Steps.{run}
use Rattle.mips_model.specs.Told.{Told, Passed, Made, Entered, passed, tells}
use Rattle.mips_model.proofs.Told.{tells_grow, tells_its_run}
use Rattle.mips_model_laws.proofs.Completing.{completed}
use Rattle.mips_machine.specs.Ran.{bytes_read}
use Rattle.staged_meaning.specs.Meaning.{Program, meant}
use Rattle.static_image.specs.Told.{told_of}
use Rattle.static_image.specs.Headline.{Headline, told_meaning}
use Rattle.tick_outcome.specs.declared.outcome.Outcome.{Outcome}
use Rattle.tick_outcome.specs.declared.outcome.Outcome.TheVariants as outcome
use Rattle.image_commands.specs.Outside.{Outside}
use Rattle.image_commands.specs.Seen.{outcome_at, Moves, PutsFront, IsSeen, Account, ShowsRun}
use Rattle.source_commands.specs.Meant.{allowed, MeaningEnds, MeaningGoesOn, TellsMeaning}
use Rattle.image_commands.proofs.Outcomes.{ending_is, is_of_machine, at_machine, no_machine}

none_some : {A : Type 0} (o : Option End) (e : End) → o ≡ None → o ≡ Some e → A
none_some o e p q = absurd cc

by_ending : {P : Type 0} (o : Option End) → (o ≡ None → P) → ((e : End) → o ≡ Some e → P) → P
by_ending None f g = f refl
by_ending (Some e) f g = g e refl

-- the instructions of an outcome that hasn't an ending
abbrev told_steps : Outcome → ℕ
told_steps (outcome.OutOfSteps n) = n
told_steps other = 0

-- ---- what is seen of a history that is told

-- the bytes that a run put out, and those that it read, of what it told
abbrev out_of : List Told → List ℕ
out_of items = output (passed items)

abbrev read_of : List Told → List ℕ
read_of items = bytes_read (passed items)

out_both : (xs ys : List Told) → out_of (xs ++ ys) ≡ out_of xs ++ out_of ys
out_both [] ys = refl
out_both (Passed (event.Out b) ∷ xs) ys = ap (λ (zs : List ℕ). b ∷ zs) (out_both xs ys)
out_both (Passed (event.In w) ∷ xs) ys = out_both xs ys
out_both (Passed (event.Made f syntax) ∷ xs) ys = out_both xs ys
out_both (Passed (event.Entered f) ∷ xs) ys = out_both xs ys
out_both (Made f built ∷ xs) ys = out_both xs ys
out_both (Entered f ∷ xs) ys = out_both xs ys

out_prefix : (xs ys : List Told) → IsPrefix xs ys → IsPrefix (out_of xs) (out_of ys)
out_prefix xs ys p = (out_of p.0, sym (out_both xs p.0) ∙ ap out_of p.1)

module _ (program : Program) (image : ImageParts) where
  out_told : (items : List Item) → out_of (flat_map (told_of program image) items) ≡ output items
  out_told [] = refl
  out_told (event.Out b ∷ items) = ap (λ (zs : List ℕ). b ∷ zs) (out_told items)
  out_told (event.In w ∷ items) = out_told items
  out_told (event.Made f syntax ∷ items) = out_told items
  out_told (event.Entered f ∷ items) = out_told items

  read_told : (items : List Item) → read_of (flat_map (told_of program image) items) ≡ bytes_read items
  read_told [] = refl
  read_told (event.Out b ∷ items) = read_told items
  read_told (event.In w ∷ items) =
      ap (λ (zs : List ℕ). if nat_eq w 4294967295 then zs else (w ∷ zs)) (read_told items)
  read_told (event.Made f syntax ∷ items) = read_told items
  read_told (event.Entered f ∷ items) = read_told items

-- an ending is told as it is
same_ending : (o e : Option End) → option_map (λ (e : End). e) o ≡ e → o ≡ e
same_ending None e is = is
same_ending (Some x) e is = is

-- the same bytes were read and put out
pub record SameBytes (this other : List Item) : Type 0 where
  pub out : output this ≡ output other
  pub read : bytes_read this ≡ bytes_read other

pub moved_alike : (left later taken told : Option (List ℕ)) (this other : List Item) → SameBytes this other →
    Moves left later taken told this → Moves left later taken told other
moved_alike left later taken told this other same m = record {
  read = subst (Consumes left later) same.read m.read;
  put_out = subst (Appends taken told) same.out m.put_out;
}

module _ (program : Program) (image : ImageParts) (headline : Headline program image) (choices : List Choice)
    (input : Input)
  where
    abbrev machine : ℕ → Seen Item End
    machine = runs image input choices

    abbrev meaning : ℕ → Seen Item End
    meaning = meant program input

    abbrev teller : ℕ → Seen Told End
    teller = tells image input choices

    -- the run is defined for fewer instructions too
    fewer : (n k : ℕ) → k ≤ n → IsDefined image input choices n → IsDefined image input choices k
    fewer n k le defined i less = defined i (omega (arith, less, le))

    out_seen : (n : ℕ) → out_of (teller n).history ≡ output (machine n).history
    out_seen n = ap output (tells_its_run image input choices n)

    -- where what is told is what is meant, the same bytes were read and put out
    same_bytes : (n m : ℕ) → (teller n).history ≡ (told_meaning program image input m).history →
        SameBytes (machine n).history (meaning m).history
    same_bytes n m same = record {
      out = sym (out_seen n) ∙ ap out_of same ∙ out_told program image (meaning m).history;
      read = sym (ap bytes_read (tells_its_run image input choices n)) ∙ ap read_of same
          ∙ read_told program image (meaning m).history;
    }

    -- where the meaning ends within what n instructions allow, so does the run, with the same bytes
    pub in_time : (n units : ℕ) (e : End) → IsDefined image input choices n → (meaning units).ending ≡ Some e
        → allowed units ≤ n → ((machine n).ending ≡ Some e) × SameBytes (machine n).history (meaning units).history
    in_time n units e defined is le =
        let there = (headline.faithful input choices).ends_in_time units e (fewer n (allowed units) le defined)
        (ap (option_map (λ (e : End). e)) is) in
        let same = later_same teller (tells_grow image input choices) (allowed units) n e le there.ending in
        (ap (λ s. s.ending) same ∙ there.ending, same_bytes n units (ap (λ s. s.history) same ∙ there.history))

    -- what is meant is done in time
    done_in_time : (n units : ℕ) → IsDefined image input choices n → allowed units ≤ n →
        IsPrefix (output (meaning units).history) (output (machine n).history)
    done_in_time n units defined le =
        let back : (allowed units - instructions_besides) / instructions_of_a_unit ≡ units = omega arith in
        let told = subst (λ m. IsPrefix (told_meaning program image input m).history (teller (allowed units)).history)
        back
        ((headline.faithful input choices).keeps_pace (allowed units) (fewer n (allowed units) le defined)
        (omega arith)) in
        let whole = prefix_trans (told_meaning program image input units).history (teller (allowed units)).history
        (teller n).history told (later_prefix teller (tells_grow image input choices) (allowed units) n le) in
        subst (λ (xs : List ℕ). IsPrefix xs (output (machine n).history))
        (out_told program image (meaning units).history)
        (subst (IsPrefix (out_of (told_meaning program image input units).history)) (out_seen n)
        (out_prefix (told_meaning program image input units).history (teller n).history whole))

    -- What is done in k instructions is meant within n units: a row of choices under which the run is defined for k
    -- instructions is completed to one for n.
    pub done_is_meant : (k n : ℕ) → k ≤ n → IsDefined image input choices k →
        IsPrefix (output (machine k).history) (output (meaning n).history)
    unfolding run
    done_is_meant k n le defined =
        let w = begins image input choices in
        let c = completed k n w defined in
        let more = tells image input c.row in
        let told = prefix_trans (more k).history (more n).history (told_meaning program image input n).history
        (later_prefix more (tells_grow image input c.row) k n le)
        ((headline.faithful input c.row).follows n (λ i l. c.fine i l)) in
        let same : (more k).history ≡ (teller k).history = c.tells in
        subst (λ (xs : List ℕ). IsPrefix xs (output (meaning n).history)) (out_seen k)
        (subst (IsPrefix (out_of (teller k).history)) (out_told program image (meaning n).history)
        (out_prefix (teller k).history (told_meaning program image input n).history
        (subst (λ (xs : List Told). IsPrefix xs (told_meaning program image input n).history) same told)))

    module _ (n : ℕ) (defined : IsDefined image input choices n) (old new : Outside) where
      ends : (e : End) → Some e ≡ (machine n).ending → Moves old.left new.left old.taken new.taken (machine n).history →
          MeaningEnds program input n old new e
      ends e is moves =
          let there = (headline.faithful input choices).ends_only_so n e defined (sym is) in
          record {
            ending = same_ending (meaning n).ending (Some e) there.ending;
            moves =
                moved_alike old.left new.left old.taken new.taken (machine n).history (meaning n).history
                (same_bytes n n (sym there.history)) moves;
          }

      goes_on : None ≡ (machine n).ending → Moves old.left new.left old.taken new.taken (machine n).history →
          MeaningGoesOn program input n old new
      goes_on is moves = record {
        unended = λ units le. by_ending (meaning units).ending (λ none. none)
            (λ e ended. none_some (machine n).ending e (sym is) (in_time n units e defined ended le).0);
        bytes = output (machine n).history;
        put_out = moves.put_out;
        follows = done_is_meant n n (omega arith) defined;
        keeps_pace = λ units le. done_in_time n units defined le;
      }

      none_other : {A : Type 0} (o : Outcome) → is_of_machine o ≡ false → o ≡ outcome_at n (machine n).ending → A
      none_other o not e = no_machine not e (at_machine n (machine n).ending)

      tells_whole : (o : Outcome) → o ≢ outcome.WriteFault →
          IsSeen n old.left new.left old.taken new.taken o (machine n) → TellsMeaning program input n old new o
      tells_whole (outcome.Done s) other h =
          ends (event.Ended (ending.Done s)) (sym (ending_is n (outcome.Done s) (machine n).ending h.0)) h.1
      tells_whole (outcome.Trap k) other h =
          ends (event.Ended (ending.Trap k)) (sym (ending_is n (outcome.Trap k) (machine n).ending h.0)) h.1
      tells_whole outcome.ReadFault other h =
          ends event.ReadFault (sym (ending_is n outcome.ReadFault (machine n).ending h.0)) h.1
      tells_whole (outcome.OutOfSteps k) other h =
          let none = ending_is n (outcome.OutOfSteps k) (machine n).ending h.0 in
          (ap told_steps h.0 ∙ ap (λ x. told_steps (outcome_at n x)) none, goes_on (sym none) h.1)
      tells_whole outcome.WriteFault other h = absurd (other refl)
      tells_whole (outcome.MachineFault k at) other h =
          headline.faultless input choices n defined k at
          (ending_is n (outcome.MachineFault k at) (machine n).ending h.0)
      tells_whole (outcome.BadWords p) other h = none_other (outcome.BadWords p) refl h.0
      tells_whole (outcome.Refused fault) other h = none_other (outcome.Refused fault) refl h.0
      tells_whole (outcome.AsmRefused fault) other h = none_other (outcome.AsmRefused fault) refl h.0
      tells_whole outcome.LoadFault other h = none_other outcome.LoadFault refl h.0
      tells_whole outcome.TooLong other h = none_other outcome.TooLong refl h.0
      tells_whole (outcome.BadImage fault) other h = none_other (outcome.BadImage fault) refl h.0
      tells_whole outcome.SaveFault other h = none_other outcome.SaveFault refl h.0

    -- a failed write cut the run short: the choices are told as far as it went
    front : (k n : ℕ) (old new : Outside) → k ≤ n → IsDefined image input choices k →
        PutsFront old.taken new.taken (machine k).history → PutsFront old.taken new.taken (meaning n).history
    front k n old new le defined f = record {
      bytes = f.bytes;
      put_out = f.put_out;
      front =
          prefix_trans f.bytes (output (machine k).history) (output (meaning n).history) f.front
          (done_is_meant k n le defined);
    }

-- where no write failed
whole : (program : Program) (image : ImageParts) → Headline program image → (n : ℕ) (old new : Outside)
    (account : Account) (o : Outcome)
    → (s : ShowsRun n image account old.left new.left old.taken new.taken o) → o ≢ outcome.WriteFault →
    TellsMeaning program s.input n old new o
whole program image headline n old new account o s other =
    tells_whole program image headline s.row s.input n
    (subst (IsDefined image s.input s.row) (s.all other) s.defined) old new o other
    (subst (λ (k : ℕ). IsSeen n old.left new.left old.taken new.taken o (runs image s.input s.row k)) (s.all other)
    s.seen)

-- what the outcome of a run of the image tells of the meaning
pub tells_meaning : (program : Program) (image : ImageParts) → Headline program image → (n : ℕ) (old new : Outside)
    (account : Account) (o : Outcome)
    → (s : ShowsRun n image account old.left new.left old.taken new.taken o) → TellsMeaning program s.input n old new o
tells_meaning program image headline n old new account outcome.WriteFault s =
    front program image headline s.row s.input s.reached n old new s.within s.defined s.seen
tells_meaning program image headline n old new account (outcome.Done x) s =
    whole program image headline n old new account (outcome.Done x) s (λ e. absurd cc)
tells_meaning program image headline n old new account (outcome.Trap k) s =
    whole program image headline n old new account (outcome.Trap k) s (λ e. absurd cc)
tells_meaning program image headline n old new account outcome.ReadFault s =
    whole program image headline n old new account outcome.ReadFault s (λ e. absurd cc)
tells_meaning program image headline n old new account (outcome.OutOfSteps k) s =
    whole program image headline n old new account (outcome.OutOfSteps k) s (λ e. absurd cc)
tells_meaning program image headline n old new account (outcome.MachineFault k at) s =
    whole program image headline n old new account (outcome.MachineFault k at) s (λ e. absurd cc)
tells_meaning program image headline n old new account (outcome.BadWords p) s =
    whole program image headline n old new account (outcome.BadWords p) s (λ e. absurd cc)
tells_meaning program image headline n old new account (outcome.Refused fault) s =
    whole program image headline n old new account (outcome.Refused fault) s (λ e. absurd cc)
tells_meaning program image headline n old new account (outcome.AsmRefused fault) s =
    whole program image headline n old new account (outcome.AsmRefused fault) s (λ e. absurd cc)
tells_meaning program image headline n old new account outcome.LoadFault s =
    whole program image headline n old new account outcome.LoadFault s (λ e. absurd cc)
tells_meaning program image headline n old new account outcome.TooLong s =
    whole program image headline n old new account outcome.TooLong s (λ e. absurd cc)
tells_meaning program image headline n old new account (outcome.BadImage fault) s =
    whole program image headline n old new account (outcome.BadImage fault) s (λ e. absurd cc)
tells_meaning program image headline n old new account outcome.SaveFault s =
    whole program image headline n old new account outcome.SaveFault s (λ e. absurd cc)
