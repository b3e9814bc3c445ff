-- What a call of the service that finishes a function did, in each case.
use Rattle.std.proofs.Common.{ℕ, ◌+◌, ◌≡◌, ◌≤◌, inl, inr, Bool, false, List, Option, Some, None}
use Rattle.std.proofs.Common.{Result, Ok, Err, length, refl, sym, ap, subst, ◌∙◌}
use Rattle.std.specs.Prelude.{if◌then◌else◌, take}
use Rattle.std.proofs.lemmas.Option.{none-some}
use Rattle.code_arena.specs.Arena.{Arena}
use Rattle.icode_ir.specs.Build.{Build, finished}
use Rattle.icode_ir.specs.Building.{Building}
use Rattle.mips_model.specs.declared.bad_service.BadService.{BadService}
use Rattle.mips_model.specs.declared.bad_service.BadService.TheVariants as reason
use Rattle.mips_model.specs.Choices.{Choice, IsScanned}
use Rattle.mips_model.specs.CodeServices as services
use Rattle.mips_model.specs.CodeServices.{Generator, Rows, is_done, finish_refusal}
use Rattle.mips_model.proofs.Legal.{choices-are-legal}
use Rattle.icode_service.specs.Served.{Did, ChosenFor}
use Rattle.icode_service.specs.Held.{generator}
use Rattle.icode_service.specs.Made.{IsMade, IsBad}
use Rattle.icode_service.proofs.Outcomes.{refused, done, no_choice, chosen_none, finish_none, finish_early}
use Rattle.icode_service.proofs.Outcomes.{finish_short, finish_made}

-- a call that finishes, or is refused
abbrev pub Finished : (at most frame : ℕ) (g new : Generator) (before after : Arena) → Result ℕ BadService → Type 0
Finished at most frame g new before after result =
    (choice : Choice) × ChosenFor g.build at most frame choice ×
    ((r : Rows) → Did (services.finish choice at most frame g) g new before after r r result)

pub unbegun :
    (at most frame : ℕ) (g : Generator) (a : Arena) → g.build ≡ None →
    Finished at most frame g g a a (Err reason.NotBegun)
unbegun at most frame g a e = (
  no_choice,
  chosen_none g at most frame no_choice e,
  λ r. refused (services.finish no_choice at most frame g) reason.NotBegun
      (finish_none no_choice at most frame g e) g g a a r r refl refl refl,
)

chosen_some :
    (at most frame : ℕ) (g : Generator) (b : Build) (choice : Choice) → g.build ≡ Some b →
    ChosenFor (Some b) at most frame choice → ChosenFor g.build at most frame choice
chosen_some at most frame g b choice e h =
    subst (λ (o : Option Build). ChosenFor o at most frame choice) (sym e) h

-- linear scan's choice is legal
scanned_some :
    (at most frame : ℕ) (g : Generator) (b : Build) (choice : Choice) → g.build ≡ Some b →
    IsScanned (finished b) b.registers choice → ChosenFor g.build at most frame choice
scanned_some at most frame g b choice e h =
    chosen_some at most frame g b choice e (λ _. (h, choices-are-legal (finished b) b.registers choice h))

pub left_over :
    (b : Build) (at most frame : ℕ) → is_done b ≡ false → finish_refusal b at most frame ≡ Some reason.NotEmpty
left_over b at most frame h =
    ap (λ (t : Bool). if t
    then (if services.is_arena_range at most
    then (if services.is_frame frame b.registers then None else Some reason.BadFrame)
    else Some reason.OutsideArena)
    else Some reason.NotEmpty) h

pub bad :
    (at most frame : ℕ) (g new : Generator) (b : Build) (why : BadService) (before after : Arena) → g.build ≡ Some b →
    new ≡ g → after ≡ before → IsBad b at most frame why → Finished at most frame g new before after (Err why)
bad at most frame g new b why before after e p q (inl h) = (
  no_choice,
  chosen_some at most frame g b no_choice e (λ n. absurd (none-some why (sym n ∙ h))),
  λ r. refused (services.finish no_choice at most frame g) why
      (finish_early no_choice at most frame g b why e h) g new before after r r p q refl,
)
bad at most frame g new b why before after e p q (inr s) = (
  s.1.choice,
  scanned_some at most frame g b s.1.choice e s.1.scanned,
  λ r. refused (services.finish s.1.choice at most frame g) why
      (finish_short s.1.choice at most frame g b e s.1.taken s.1.short
      ∙ ap (λ (x : BadService). services.Refused x) (sym s.0))
      g new before after r r p q refl,
)

pub good :
    (at most frame : ℕ) (g new : Generator) (b : Build) (before after : Arena) (places : List ℕ) (spills words : ℕ) →
    g.build ≡ Some b → new ≡ record { build = None; choices = places; spills = g.spills + spills } →
    IsMade b at most frame before after places spills words → Finished at most frame g new before after (Ok words)
good at most frame g new b before after places spills words e p m =
    let made : List ℕ = services.words_of b m.choice at frame in
    let room : length made ≤ most = subst (λ (n : ℕ). n ≤ most) m.words_are m.room in
    let same : new ≡ services.finished_with m.choice g =
    p
    ∙ (ap (λ (xs : List ℕ). let y : Generator = record { build = None; choices = xs; spills = g.spills + spills } in y)
    m.places_are
    ∙ ap (λ (n : ℕ). let y : Generator =
    record { build = None; choices = m.choice.places; spills = g.spills + n } in y) m.spills_are) in (
      m.choice,
      scanned_some at most frame g b m.choice e m.scanned,
      λ r. subst
          (λ (n : ℕ). Did (services.finish m.choice at most frame g) g new before after r r (Ok n))
          (sym m.words_are)
          (done (services.finish m.choice at most frame g) (length made) (services.finished_with m.choice g)
          (services.written_from (services.arena_word at) made) (λ s. s)
          (finish_made m.choice at most frame g b e m.taken room) g new before after r r same m.written refl),
    )

-- the generator where a function was finished, part by part
pub counted_is :
    (x : Building) (n m : ℕ) (ys zs : List ℕ) (a k c s : ℕ) → n ≡ m → ys ≡ zs → a ≡ c → k ≡ s →
    generator false x n ys (a + k) ≡
    (let y : Generator = record { build = None; choices = take m zs; spills = c + s } in y)
counted_is x n m ys zs a k c s e p q r =
    ap (λ (i : ℕ). generator false x i ys (a + k)) e
    ∙ (ap (λ (xs : List ℕ). generator false x m xs (a + k)) p
    ∙ (ap (λ (i : ℕ). generator false x m zs (i + k)) q
    ∙ ap (λ (i : ℕ). generator false x m zs (c + i)) r))
