-- What came of an order: its file wasn't loaded, or its bytes were refused, or it was done.
use Rattle.std.proofs.Common.{◌≡◌, ◌⊎◌, inl, inr, ℕ, ◌+◌, Bool, true, false, List, length, Option, Some, None, Result}
use Rattle.std.proofs.Common.{Ok, Err, MatchResult, MatchBool, nat_lt, if◌then◌else◌, refl}
use Rattle.host_edge.specs.Files.{Loads}
use Rattle.image_file.specs.Image.{ImageParts}
use Rattle.image_file.specs.Format.{parsed}
use Rattle.image_file.specs.declared.fault.ImageFault.{ImageFault}
use Rattle.mips_text.specs.Assembly.{assembled}
use Rattle.asm_passes.specs.declared.fault.AsmFault.{AsmFault}
use Rattle.staged_meaning.specs.Meaning.{Program}
use Rattle.tick_tree.specs.declared.fault.Fault.{Fault}
use Rattle.wellformed.specs.declared.typed.Typed.{Typed}
use Rattle.source_commands.specs.Texts.{typed_tree, Means}
use Rattle.command_words.specs.Orders.{Order, run, build, exec, mean, asm, dis}
use Rattle.tick_outcome.specs.declared.outcome.Outcome.{Outcome}
use Rattle.tick_outcome.specs.declared.outcome.Outcome.TheVariants.{Refused, AsmRefused, LoadFault, TooLong, BadImage}
use Rattle.tick_outcome.specs.declared.ended.Ended.{Ended}
use Rattle.image_commands.specs.Outside.{Outside}
use Rattle.image_commands.specs.Answers.{IsBare, longest_text, longest_image}
use Rattle.image_commands.specs.Does.{WithFile, WithAssembled, WithImage, Answered, Unsaved}
use Rattle.source_commands.specs.Does.{WithProgram, Does}
use Rattle.image_commands.specs.Does.{Unprinted, Runs, SavesImage, PrintsText}
use Rattle.source_commands.specs.Does.{RunsProgram, MeansProgram, SavesProgram}
use Rattle.source_commands.specs.Rows.{file_of, longest_of, text_refusal, assembly_refusal, image_refusal}
use Rattle.source_commands.specs.Rows.{refusal}

-- what an order does with the bytes of its file
abbrev pub Performed : Order → Outside → Outside → Ended → List ℕ → Type 0
Performed (run file steps) old new e bytes =
    (tree : Typed) × (typed_tree bytes ≡ Ok tree) ×
    ((program : Program) × Means tree program × RunsProgram steps old new e bytes program)
Performed (build file path) old new e bytes =
    (tree : Typed) × (typed_tree bytes ≡ Ok tree) ×
    ((program : Program) × Means tree program × SavesProgram path old.file new.file e bytes program)
Performed (exec file steps) old new e bytes =
    (image : ImageParts) × (parsed bytes ≡ Ok image) × Runs steps old new e image
Performed (mean file units) old new e bytes =
    (tree : Typed) × (typed_tree bytes ≡ Ok tree) ×
    ((program : Program) × Means tree program × MeansProgram units old new e program)
Performed (asm file path) old new e bytes =
    (image : ImageParts) × (assembled bytes ≡ Ok image) × SavesImage path old.file new.file e image
Performed (dis file) old new e bytes =
    (image : ImageParts) × (parsed bytes ≡ Ok image) × PrintsText old.taken new.taken e image

-- bytes are refused, and nothing is done, or they aren't, and this is done with them
abbrev pub Taken : Option Outcome → Ended → Type 0 → Type 0
Taken refused e Done = ((o : Outcome) × (refused ≡ Some o) × IsBare e o) ⊎ ((refused ≡ None) × Done)

abbrev pub Came : Order → Outside → Outside → Ended → Type 0
Came order old new e =
    IsBare e LoadFault
    ⊎ ((bytes : List ℕ) × Loads (old.file (file_of order)) (longest_of order + 1) bytes
    × Taken (refusal order bytes) e (Performed order old new e bytes))

module _ (e : Ended) (answers : Outcome → Type 0) (bare : (o : Outcome) → answers o → IsBare e o) where
  from_file : (told : Option (Option (List ℕ))) (longest : ℕ) (content : List ℕ → Option Outcome)
      (next Done : List ℕ → Type 0)
      → ((bytes : List ℕ) → next bytes → Taken (content bytes) e (Done bytes)) → WithFile told longest answers next
      → IsBare e LoadFault ⊎ ((bytes : List ℕ) × Loads told (longest + 1) bytes
      × Taken (if nat_lt longest (length bytes) then Some TooLong else content bytes) e (Done bytes))
  from_file told longest content next Done by (inl a) = inl (bare LoadFault a)
  from_file told longest content next Done by (inr (bytes, loads, m)) =
      inr (bytes, loads, split (nat_lt longest (length bytes)) m)
    where
      split : (b : Bool) → MatchBool b (answers TooLong) (next bytes) →
          Taken (if b then Some TooLong else content bytes) e (Done bytes)
      split true a = inl (TooLong, refl, bare TooLong a)
      split false n = by bytes n

  of_program : (next : Program → Type 0) (found r : Result Typed Fault) → found ≡ r →
      MatchResult r (λ tree. (program : Program) × Means tree program × next program) (λ fault. answers (Refused fault))
      → Taken (text_refusal r) e
      ((tree : Typed) × (found ≡ Ok tree) × ((program : Program) × Means tree program × next program))
  of_program next found (Ok tree) is n = inr (refl, (tree, is, n))
  of_program next found (Err fault) is a = inl (Refused fault, refl, bare (Refused fault) a)

  of_assembly : (next : ImageParts → Type 0) (found r : Result ImageParts AsmFault) → found ≡ r →
      MatchResult r next (λ fault. answers (AsmRefused fault))
      → Taken (assembly_refusal r) e ((image : ImageParts) × (found ≡ Ok image) × next image)
  of_assembly next found (Ok image) is n = inr (refl, (image, is, n))
  of_assembly next found (Err fault) is a = inl (AsmRefused fault, refl, bare (AsmRefused fault) a)

  of_image : (next : ImageParts → Type 0) (found r : Result ImageParts ImageFault) → found ≡ r →
      MatchResult r next (λ fault. answers (BadImage fault))
      → Taken (image_refusal r) e ((image : ImageParts) × (found ≡ Ok image) × next image)
  of_image next found (Ok image) is n = inr (refl, (image, is, n))
  of_image next found (Err fault) is a = inl (BadImage fault, refl, bare (BadImage fault) a)

pub came : (order : Order) (old new : Outside) (e : Ended) → Does order old new e → Came order old new e
came (run file steps) old new e d =
    from_file e (Answered old new e) (λ o a. a.0) (old.file file) longest_text
    (λ bytes. text_refusal (typed_tree bytes))
    (λ bytes. WithProgram (Answered old new e) (RunsProgram steps old new e bytes) bytes)
    (Performed (run file steps) old new e)
    (λ bytes. of_program e (Answered old new e) (λ o a. a.0) (RunsProgram steps old new e bytes) (typed_tree bytes)
    (typed_tree bytes) refl) d
came (exec file steps) old new e d =
    from_file e (Answered old new e) (λ o a. a.0) (old.file file) longest_image (λ bytes. image_refusal (parsed bytes))
    (WithImage (Answered old new e) (Runs steps old new e)) (Performed (exec file steps) old new e)
    (λ bytes. of_image e (Answered old new e) (λ o a. a.0) (Runs steps old new e) (parsed bytes) (parsed bytes) refl) d
came (mean file units) old new e d =
    from_file e (Answered old new e) (λ o a. a.0) (old.file file) longest_text
    (λ bytes. text_refusal (typed_tree bytes))
    (WithProgram (Answered old new e) (MeansProgram units old new e)) (Performed (mean file units) old new e)
    (λ bytes. of_program e (Answered old new e) (λ o a. a.0) (MeansProgram units old new e) (typed_tree bytes)
    (typed_tree bytes) refl) d.1
came (build file path) old new e d =
    from_file e (Unsaved old.file new.file e) (λ o a. a.0) (old.file file) longest_text
    (λ bytes. text_refusal (typed_tree bytes))
    (λ bytes. WithProgram (Unsaved old.file new.file e) (SavesProgram path old.file new.file e bytes) bytes)
    (Performed (build file path) old new e)
    (λ bytes. of_program e (Unsaved old.file new.file e) (λ o a. a.0) (SavesProgram path old.file new.file e bytes)
    (typed_tree bytes) (typed_tree bytes) refl) d.1
came (asm file path) old new e d =
    from_file e (Unsaved old.file new.file e) (λ o a. a.0) (old.file file) longest_text
    (λ bytes. assembly_refusal (assembled bytes))
    (WithAssembled (Unsaved old.file new.file e) (SavesImage path old.file new.file e))
    (Performed (asm file path) old new e)
    (λ bytes. of_assembly e (Unsaved old.file new.file e) (λ o a. a.0) (SavesImage path old.file new.file e)
    (assembled bytes) (assembled bytes) refl) d.1
came (dis file) old new e d =
    from_file e (Unprinted old.taken new.taken e) (λ o a. a.0) (old.file file) longest_image
    (λ bytes. image_refusal (parsed bytes))
    (WithImage (Unprinted old.taken new.taken e) (PrintsText old.taken new.taken e)) (Performed (dis file) old new e)
    (λ bytes. of_image e (Unprinted old.taken new.taken e) (λ o a. a.0) (PrintsText old.taken new.taken e)
    (parsed bytes) (parsed bytes) refl) d.1
