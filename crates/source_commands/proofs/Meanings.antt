-- What `mean` did with a text that is accepted: its input was too long or failed, or the meaning was evaluated on it.
use Rattle.std.proofs.Common.{◌≡◌, ◌⊎◌, inl, inr, ℕ, ◌+◌, Bool, true, false, List, ◌++◌, length}
use Rattle.std.proofs.Common.{Option, Some, None, Result, Ok, MatchBool, nat_lt, ltb-true, lt-ltb, length-append}
use Rattle.std.proofs.Common.{append-nil, refl, sym, ap}
use Rattle.std.proofs.Common.{◌∙◌, subst, arith}
use Rattle.std.specs.Io.KnownBytes.{Appends, Consumes, IsAtEnd}
use Rattle.std.proofs.lemmas.List.{append_cancel_right}
use Rattle.host_edge.specs.Files.{Loads}
use Rattle.host_edge.specs.Moves.{TakesFront}
use Rattle.history.specs.Events.{output}
use Rattle.staged_meaning.specs.Meaning.{Program, meant}
use Rattle.wellformed.specs.declared.typed.Typed.{Typed}
use Rattle.tick_tree.specs.declared.fault.Fault.{Fault}
use Rattle.source_commands.specs.Texts.{typed_tree, Means}
use Rattle.command_words.specs.Orders.{mean, Asked, of_file}
use Rattle.command_words.specs.Words.{order_of}
use Rattle.tick_outcome.specs.declared.outcome.Outcome.TheVariants as outcome
use Rattle.tick_outcome.specs.declared.ended.Ended.{Ended}
use Rattle.image_commands.specs.Outside.{Files, Outside}
use Rattle.image_commands.specs.Answers.{IsBare, longest_text}
use Rattle.image_commands.specs.Seen.{told, outcome_at}
use Rattle.image_commands.specs.Does.{Unprinted}
use Rattle.source_commands.specs.Does.{Evaluates, MeansProgram}
use Rattle.source_commands.specs.Rows.{refusal}
use Rattle.source_commands.specs.Evaluations.{MeantText, InputTooLong, Evaluation}
use Rattle.source_commands.proofs.Came.{Performed}
use Rattle.source_commands.proofs.Calls.{short_enough}

-- an evaluation was written, or a front part of it
pub by_answers : {A : Type 0} (units : ℕ) (program : Program) (taken now : Option (List ℕ)) (e : Ended) (input : List ℕ)
    → Evaluates units program taken now e input
    → (IsBare e (outcome_at units (meant program (told input) units).ending)
    → Appends taken now (output (meant program (told input) units).history) → A)
    → (IsBare e outcome.WriteFault → TakesFront taken now (output (meant program (told input) units).history) → A) → A
by_answers {A} units program taken now e input v whole front = by v.answers
  where
    by : (IsBare e (outcome_at units (meant program (told input) units).ending)
        × Appends taken now (output (meant program (told input) units).history))
        ⊎ (IsBare e outcome.WriteFault × TakesFront taken now (output (meant program (told input) units).history)) → A
    by (inl a) = whole a.0 a.1
    by (inr a) = front a.0 a.1

-- the meaning was evaluated
pub record IsEvaluated (words : List (List ℕ)) (old new : Outside) (e : Ended) (of : MeantText words old.file) : Type 0
  where
    pub evaluation : Evaluation words old new
    pub same : evaluation.of ≡ of
    pub seen : Evaluates of.units of.program old.taken new.taken e evaluation.input

abbrev pub WasMeant : (words : List (List ℕ)) → (old new : Outside) → Ended → MeantText words old.file → Type 0
WasMeant words old new e of =
    ((e.outcome ≡ outcome.TooLong) × InputTooLong words old new)
    ⊎ ((e.outcome ≡ outcome.ReadFault) ⊎ IsEvaluated words old new e of)

pub record MeanDone (words : List (List ℕ)) (old new : Outside) (e : Ended) (file : List ℕ) (units : ℕ) (bytes : List ℕ)
    : Type 0 where
  pub of : MeantText words old.file
  pub text : of.text ≡ bytes
  pub was : WasMeant words old new e of

was_meant : (words : List (List ℕ)) (old new : Outside) (e : Ended) (of : MeantText words old.file)
    → MeansProgram of.units old new e of.program → WasMeant words old new e of
was_meant words old new e of (input, read, m) = by (nat_lt longest_text (length input)) refl m
  where
    ended : nat_lt longest_text (length input) ≡ false → Unprinted old.taken new.taken e outcome.ReadFault ⊎
        (IsAtEnd new.left × Evaluates of.units of.program old.taken new.taken e input) → WasMeant words old new e of
    ended is (inl a) = inr (inl a.0.outcome)
    ended is (inr v) = inr (inr (record {
      evaluation = record { of = of; input = input; read = read; at_end = v.0; few = is };
      same = refl;
      seen = v.1;
    }))

    by : (b : Bool) → nat_lt longest_text (length input) ≡ b
        → MatchBool b (Unprinted old.taken new.taken e outcome.TooLong)
        (Unprinted old.taken new.taken e outcome.ReadFault
        ⊎ (IsAtEnd new.left × Evaluates of.units of.program old.taken new.taken e input))
        → WasMeant words old new e of
    by true is a = inl (a.0.outcome, record { of = of; input = input; read = read; long = is })
    by false is a = ended is a

pub mean_done : (words : List (List ℕ)) (old new : Outside) (e : Ended) (file : List ℕ) (units : ℕ) (bytes : List ℕ)
    → order_of words ≡ Ok (of_file (mean file units)) → Loads (old.file file) (longest_text + 1) bytes
    → refusal (mean file units) bytes ≡ None → Performed (mean file units) old new e bytes
    → MeanDone words old new e file units bytes
mean_done words old new e file units bytes ordered loads fine (tree, accepted, (program, means, m)) =
    let of : MeantText words old.file = record {
      file = file;
      units = units;
      ordered = ordered;
      text = bytes;
      loads = loads;
      short = short_enough (mean file units) bytes fine;
      tree = tree;
      accepted = accepted;
      program = program;
      means = means;
    } in
    record { of = of; text = refl; was = was_meant words old new e of m }

-- ---- a told text and a told input are one

one_asked : {A B : Type 0} (r : Result A B) (a b : A) → r ≡ Ok a → r ≡ Ok b → a ≡ b
one_asked r a b p q = cc

one_file : (a b : List ℕ) (m n : ℕ) → ◌≡◌ {A = Asked} (of_file (mean a m)) (of_file (mean b n)) → (a ≡ b) × (m ≡ n)
one_file a b m n q = (cc, cc)

one_tree : (r : Result Typed Fault) (a b : Typed) → r ≡ Ok a → r ≡ Ok b → a ≡ b
one_tree r a b p q = cc

one_program : (o : Option Program) (a b : Program) → o ≡ Some a → o ≡ Some b → a ≡ b
one_program o a b p q = cc

module _ (words : List (List ℕ)) (files : Files) (a b : MeantText words files) (file : List ℕ)
    (is : files a.file ≡ Some (Some file)) where
  same_words : (a.file ≡ b.file) × (a.units ≡ b.units)
  same_words = one_file a.file b.file a.units b.units
      (one_asked (order_of words) (of_file (mean a.file a.units)) (of_file (mean b.file b.units)) a.ordered b.ordered)

  pub one_units : a.units ≡ b.units
  one_units = same_words.1

  same_text : a.text ≡ b.text
  same_text =
      subst (λ t. Loads t (longest_text + 1) a.text) is a.loads ∙
      sym (subst (λ t. Loads t (longest_text + 1) b.text) (ap files (sym same_words.0) ∙ is) b.loads)

  same_tree : a.tree ≡ b.tree
  same_tree = one_tree (typed_tree a.text) a.tree b.tree a.accepted (ap typed_tree same_text ∙ b.accepted)

  pub one_meant : a.program ≡ b.program
  one_meant = by same_tree b.means
    where
      by : a.tree ≡ b.tree → Means b.tree b.program → a.program ≡ b.program
      by same means =
          one_program _ a.program b.program a.means (subst (λ (t : Typed). Means t b.program) (sym same) means)

-- bytes that were read of a told input are those
pub one_read : (bytes : List ℕ) (later : Option (List ℕ)) (a b : List ℕ) → Consumes (Some bytes) later a →
    Consumes (Some bytes) later b → a ≡ b
one_read bytes None a b p q = absurd p
one_read bytes (Some rest) a b p q = append_cancel_right a b rest (sym p ∙ q)

-- all of a told input
pub whole_read : (bytes : List ℕ) (later : Option (List ℕ)) (a : List ℕ) → Consumes (Some bytes) later a →
    IsAtEnd later →
    bytes ≡ a
whole_read bytes None a p end = absurd p
whole_read bytes (Some rest) a p end = p ∙ ap (λ (l : List ℕ). a ++ l) end ∙ append-nil a

-- a front part of it that is too long
pub long_input : (bytes : List ℕ) (later : Option (List ℕ)) (a : List ℕ) → Consumes (Some bytes) later a →
    nat_lt longest_text (length a) ≡ true → nat_lt longest_text (length bytes) ≡ true
long_input bytes None a p long = absurd p
long_input bytes (Some rest) a p long =
    let sum : length bytes ≡ length a + length rest = ap (λ (l : List ℕ). length l) p ∙ length-append a rest in
    let less = ltb-true longest_text (length a) long in
    lt-ltb longest_text (length bytes) (omega (arith, less, sum))

-- a text that is accepted isn't refused
pub not_refused : (words : List (List ℕ)) (files : Files) (of : MeantText words files) (name : List ℕ) (units : ℕ) →
    refusal (mean name units) of.text ≡ None
not_refused words files of name units = rw of.short (rw of.accepted refl)
