-- The functions of an accepted text are such as the backend serves, and so the headline holds for its image.
use Rattle.std.proofs.Common.{◌≡◌, ℕ, ◌≤◌, List, length, Option, Some, None, Ok, Err, IfOk, refl, sym, ap, ◌∙◌, subst}
use Rattle.std.specs.Option.{option_map}
use Rattle.std.specs.declared.result.Result.{Result}
use Rattle.tick_tree.specs.declared.fault.Deny.{Deny}
use Rattle.tick_tree.specs.declared.fault.Deny.TheVariants as deny
use Rattle.tick_tree.specs.declared.fault.Fault.{Fault}
use Rattle.tick_tree.specs.Faults.{Checks}
use Rattle.wellformed.specs.declared.typed.Typed.{Typed}
use Rattle.wellformed.specs.Program.{IsWellFormed}
use Rattle.typed_tree.specs.View.{program_view}
use Rattle.meaning_state.specs.Rows.{numbered}
use Rattle.staged_meaning.specs.Source.{ticks_of}
use Rattle.typed_tree.specs.declared.expression.CaptureKind.{CaptureKind}
use Rattle.image_file.specs.Image.{ImageParts, IsImage}
use Rattle.accepted_programs.specs.Mains.{Main, IsOfWords, main_in}
use Rattle.accepted_programs.specs.Laws.{ProgramsMeetBackend, MeetsBackend}
use Rattle.static_image.specs.Served.{AreStatic, IsImaged}
use Rattle.static_image.specs.Laws.{ImagesKeepRules}
use Rattle.static_image_proof.specs.Laws.{HeadlineHolds}
use Rattle.known_closures_proof.specs.Laws.{ProgramsAreMeant}
use Rattle.static_image.specs.Headline.{Headline}
use Rattle.word32.specs.declared.map.TheConstants.{GLOBAL_BYTES}
use Rattle.tick_lower.specs.Sized.{AreSized}
use Rattle.static_backend.specs.Scanned.{HasMain, IsScanned}
use Rattle.source_commands.specs.Texts.{typed_tree, Builds, Refuses, Backs}
use Rattle.source_commands.proofs.Programs.{program_of, means_so}

-- main, where its number is known
pub record IsMain (tree : Typed) (n : ℕ) : Type 0 where
  pub main : Main
  pub is_main : main_in tree ≡ Some main
  pub number : main.number ≡ n

pub main_found : (tree : Typed) (n : ℕ) → Some n ≡ option_map (λ (m : Main). m.number) (main_in tree) → IsMain tree n
main_found tree n e = by (main_in tree) refl e
  where
    by : (o : Option Main) → main_in tree ≡ o → Some n ≡ option_map (λ (m : Main). m.number) o → IsMain tree n
    by None is e = absurd cc
    by (Some m) is e = record { main = m; is_main = is; number = cc }

module _ (law : ProgramsMeetBackend) (tree : Typed) (n : ℕ) (h : IsWellFormed tree) (words : IsOfWords tree)
    (e : Some n ≡ option_map (λ (m : Main). m.number) (main_in tree)) where
  found : IsMain tree n
  found = main_found tree n e

  meets : MeetsBackend tree h found.main
  meets = law tree found.main h words found.is_main

  pub are_static : (captures : List (List CaptureKind)) × AreStatic (program_view tree).functions captures (ticks_of tree)
  are_static = (h.program.captures, meets.static)

  pub are_sized : AreSized tree.ticks
  are_sized = meets.sized

  pub has_main : HasMain n (program_view tree).functions
  has_main = (
    found.main.function,
    subst (λ (k : ℕ). numbered k (program_view tree).functions ≡ Some found.main.function) found.number meets.main_is,
    meets.no_parameters,
  )

  pub bytes_fit : length tree.image ≤ GLOBAL_BYTES
  bytes_fit = meets.bytes_are_few

pub backs : (tree : Typed) (n : ℕ) (image : ImageParts) → Some n ≡ option_map (λ (m : Main). m.number) (main_in tree) →
    IsScanned tree.image (program_view tree).functions (ticks_of tree) n image
    → (main : Main) × (main_in tree ≡ Some main) ×
    IsScanned tree.image (program_view tree).functions (ticks_of tree) main.number image
backs tree n image e scanned =
    let f = main_found tree n e in (
      f.main,
      f.is_main,
      subst (λ (k : ℕ). IsScanned tree.image (program_view tree).functions (ticks_of tree) k image) (sym f.number)
          scanned,
    )

-- the image of a program that is accepted
builds_program : ProgramsMeetBackend → ProgramsAreMeant → HeadlineHolds → ImagesKeepRules →
    (text : List ℕ) (tree : Typed) (main : Main) (image : ImageParts)
    → IsWellFormed tree → IsOfWords tree → typed_tree text ≡ Ok tree → main_in tree ≡ Some main →
    IsScanned tree.image (program_view tree).functions (ticks_of tree) main.number image → Builds text image
builds_program law meant holds keep text tree main image h words is_tree is scanned =
    let program = program_of tree main in
    let meaning = meant tree program (means_so tree main is) in
    let meets = law tree main h words is in
    let imaged : (n : ℕ) → numbered n program.functions ≡ Some program.main → IsImaged program n =
    λ n main_is. record {
      main_is = main_is;
      no_parameters = meets.no_parameters;
      captures = h.program.captures;
      static = meets.static;
      each_byte_fits = meets.each_byte_fits;
      bytes_are_few = meets.bytes_are_few;
    } in
    record {
      program = program;
      accepted = record { tree = tree; is_typed = is_tree; means = means_so tree main is };
      lowering = record { tree = tree; is_typed = is_tree; main = main; is_main = is; scanned = scanned };
      rules = subst IsImage (sym scanned.same)
          (keep program main.number scanned.placed (imaged main.number meets.main_is) scanned.choice);
      headline = subst (Headline program) (sym scanned.same)
          (holds (program_view tree) h.program program main.number scanned.placed meaning
          (imaged main.number meets.main_is) refl scanned.choice);
      choices = λ n xs main_is choice.
          holds (program_view tree) h.program program n xs meaning (imaged n main_is) refl choice;
    }

pub builds : ProgramsMeetBackend → ProgramsAreMeant → HeadlineHolds → ImagesKeepRules →
    (text : List ℕ) (program : Typed) (r : Result ImageParts Deny)
    → IsWellFormed program → IsOfWords program → typed_tree text ≡ Ok program → Backs program r → IfOk r (Builds text)
builds law meant holds keep text program (Ok image) h words tree (m, is, scanned) =
    builds_program law meant holds keep text program m image h words tree is scanned
builds law meant holds keep text program (Err d) h words tree b = tt

pub refuses : (text : List ℕ) (program : Typed) (r : Result ImageParts Deny) → Backs program r →
    Refuses (typed_tree text) r
refuses text program (Ok image) b = tt
refuses text program (Err (deny.Refused fault)) b = absurd b
refuses text program (Err deny.NoMemory) b = tt

refuses_deny : (text : List ℕ) (d : Deny) → Checks {A = Typed} (Err d) (typed_tree text) →
    Refuses {A = ImageParts} (typed_tree text) (Err d)
refuses_deny text (deny.Refused fault) e = e
refuses_deny text deny.NoMemory e = tt

-- a text without a typed tree is refused for the same fault
pub refuses_text : (text : List ℕ) (d : Deny) (r : Result ImageParts Deny) →
    Checks {A = Typed} (Err d) (typed_tree text) → r ≡ Err d → Refuses {A = ImageParts} (typed_tree text) r
refuses_text text d r e is = subst (Refuses {A = ImageParts} (typed_tree text)) (sym is) (refuses_deny text d e)
