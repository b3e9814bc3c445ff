-- What each service does in each case, and that a call did it.
use Rattle.std.proofs.Common.{ℕ, ◌≡◌, ◌<◌, ◌≤◌, Bool, true, false, List, [], ◌∷◌, Option, Some, None}
use Rattle.std.proofs.Common.{Ok, Err, length, refl, sym, ap, subst, ◌∙◌}
use Rattle.std.specs.Prelude.{◌&&◌, is_some, nat_le, nat_lt, take, if◌then◌else◌}
use Rattle.std.proofs.lemmas.Bool.{lt-ltb, le-ltb, le-leb, lt-leb}
use Rattle.limits.specs.declared.program.TheConstants.{MOST_ARGUMENTS}
use Rattle.code_arena.specs.Arena.{Arena}
use Rattle.icode_ir.specs.declared.body.Body.{Body}
use Rattle.icode_ir.specs.Build.{Build}
use Rattle.icode_ir.specs.Building.{Building}
use Rattle.mips_model.specs.declared.bad_service.BadService.{BadService}
use Rattle.mips_model.specs.declared.bad_service.BadService.TheVariants as reason
use Rattle.mips_model.specs.Choices.{Choice}
use Rattle.mips_model.specs.CodeServices as services
use Rattle.mips_model.specs.CodeServices.{Generator, Rows, Outcome, Refused, Does, builds, unless, is_empty}
use Rattle.icode_service.specs.Served.{Did, ChosenFor}
use Rattle.icode_service.specs.Held.{building, generator}

-- ---- that a call did what a service does

pub refused :
    (o : Outcome) (why : BadService) → o ≡ Refused why →
    (old new : Generator) (a after : Arena) (r later : Rows) → new ≡ old → after ≡ a → later ≡ r →
    Did o old new a after r later (Err why)
refused o why e old new a after r later p q s =
    subst (λ (x : Outcome). Did x old new a after r later (Err why)) (sym e) (refl, p, q, s)

pub done :
    (o : Outcome) (answer : ℕ) (made : Generator) (change : Arena → Arena) (set : Rows → Rows) →
    o ≡ Does answer made change set → (old new : Generator) (a after : Arena) (r later : Rows) → new ≡ made →
    after ≡ change a → later ≡ set r → Did o old new a after r later (Ok answer)
done o answer made change set e old new a after r later p q s =
    subst (λ (x : Outcome). Did x old new a after r later (Ok answer)) (sym e) (refl, p, q, s)

-- ---- what is begun

pub build_some :
    (begun : Bool) (b : Building) (count : ℕ) (places : List ℕ) (spills : ℕ) (g : Generator) →
    generator begun b count places spills ≡ g → begun ≡ true → g.build ≡ Some b.build
build_some begun b count places spills g v e =
    sym (ap (λ (x : Generator). x.build) v) ∙ ap (λ (t : Bool). building t b) e

pub build_none :
    (begun : Bool) (b : Building) (count : ℕ) (places : List ℕ) (spills : ℕ) (g : Generator) →
    generator begun b count places spills ≡ g → begun ≡ false → g.build ≡ None
build_none begun b count places spills g v e =
    sym (ap (λ (x : Generator). x.build) v) ∙ ap (λ (t : Bool). building t b) e

-- a generator in which a function is begun
abbrev holding : ℕ → List ℕ → ℕ → Build → Generator
holding count places spills b = record { build = Some b; choices = take count places; spills = spills }

-- the builder holds the same function
pub unchanged :
    (begun : Bool) (b b' : Building) (count : ℕ) (places : List ℕ) (spills : ℕ) (g : Generator) →
    generator begun b count places spills ≡ g → b'.build ≡ b.build →
    generator begun b' count places spills ≡ g
unchanged true b b' count places spills g v m =
    ap (holding count places spills) m ∙ v
unchanged false b b' count places spills g v m = v

-- ---- begin

pub begin_twice : (p : ℕ) (g : Generator) (b : Build) → g.build ≡ Some b → services.begin p g ≡ Refused reason.Begun
begin_twice p g b e =
    ap (λ (o : Option Build). unless
    (if is_some o then Some reason.Begun else (if nat_lt MOST_ARGUMENTS p then Some reason.BadArgument else None))
    (builds (services.begun p g))) e

begin_test :
    (p : ℕ) (g : Generator) (t : Bool) → g.build ≡ None → nat_lt MOST_ARGUMENTS p ≡ t → services.begin p g
    ≡ unless (if t then Some reason.BadArgument else None) (builds (services.begun p g))
begin_test p g t e q =
    ap (λ (o : Option Build). unless
    (if is_some o then Some reason.Begun else (if nat_lt MOST_ARGUMENTS p then Some reason.BadArgument else None))
    (builds (services.begun p g))) e
    ∙ ap (λ (t : Bool). unless (if t then Some reason.BadArgument else None) (builds (services.begun p g))) q

pub begin_many :
    (p : ℕ) (g : Generator) → g.build ≡ None → MOST_ARGUMENTS < p → services.begin p g ≡ Refused reason.BadArgument
begin_many p g e h = begin_test p g true e (lt-ltb MOST_ARGUMENTS p h)

pub begin_new :
    (p : ℕ) (g : Generator) → g.build ≡ None → p ≤ MOST_ARGUMENTS → services.begin p g ≡ builds (services.begun p g)
begin_new p g e h = begin_test p g false e (le-ltb MOST_ARGUMENTS p h)

-- ---- finish

pub no_choice : Choice
no_choice = record { places = []; spills = 0 }

pub chosen_none :
    (g : Generator) (at most frame : ℕ) (choice : Choice) → g.build ≡ None → ChosenFor g.build at most frame choice
chosen_none g at most frame choice e =
    subst (λ (o : Option Build). ChosenFor o at most frame choice) (sym e) tt

pub finish_none :
    (choice : Choice) (at most frame : ℕ) (g : Generator) → g.build ≡ None →
    services.finish choice at most frame g ≡ Refused reason.NotBegun
finish_none choice at most frame g e = ap (λ (o : Option Build). services.finish_in o choice at most frame g) e

pub finish_early :
    (choice : Choice) (at most frame : ℕ) (g : Generator) (b : Build) (why : BadService) → g.build ≡ Some b →
    services.finish_refusal b at most frame ≡ Some why → services.finish choice at most frame g ≡ Refused why
finish_early choice at most frame g b why e h =
    ap (λ (o : Option Build). services.finish_in o choice at most frame g) e
    ∙ ap (λ (o : Option BadService).
    unless o (services.write (services.words_of b choice at frame) choice at most g)) h

finish_late :
    (choice : Choice) (at most frame : ℕ) (g : Generator) (b : Build) (t : Bool) → g.build ≡ Some b →
    services.finish_refusal b at most frame ≡ None →
    nat_le (length (services.words_of b choice at frame)) most ≡ t →
    services.finish choice at most frame g ≡
    (if t
    then Does (length (services.words_of b choice at frame)) (services.finished_with choice g)
    (services.written_from (services.arena_word at) (services.words_of b choice at frame)) (λ r. r)
    else Refused reason.Short)
finish_late choice at most frame g b t e h q =
    ap (λ (o : Option Build). services.finish_in o choice at most frame g) e
    ∙ (ap (λ (o : Option BadService).
    unless o (services.write (services.words_of b choice at frame) choice at most g)) h
    ∙ ap (λ (t : Bool).
    if t
    then Does (length (services.words_of b choice at frame)) (services.finished_with choice g)
    (services.written_from (services.arena_word at) (services.words_of b choice at frame)) (λ r. r)
    else Refused reason.Short) q)

pub finish_short :
    (choice : Choice) (at most frame : ℕ) (g : Generator) (b : Build) → g.build ≡ Some b →
    services.finish_refusal b at most frame ≡ None → most < length (services.words_of b choice at frame) →
    services.finish choice at most frame g ≡ Refused reason.Short
finish_short choice at most frame g b e h q =
    finish_late choice at most frame g b false e h (lt-leb (length (services.words_of b choice at frame)) most q)

pub finish_made :
    (choice : Choice) (at most frame : ℕ) (g : Generator) (b : Build) → g.build ≡ Some b →
    services.finish_refusal b at most frame ≡ None → length (services.words_of b choice at frame) ≤ most →
    services.finish choice at most frame g ≡
    Does (length (services.words_of b choice at frame)) (services.finished_with choice g)
    (services.written_from (services.arena_word at) (services.words_of b choice at frame)) (λ r. r)
finish_made choice at most frame g b e h q =
    finish_late choice at most frame g b true e h (le-leb (length (services.words_of b choice at frame)) most q)

-- what the builder says of operands and bodies that are left
pub is_left :
    (xs : List ℕ) (ys : List Body) → (xs ≡ [] → ys ≡ [] → ⊥) → (is_empty xs && is_empty ys) ≡ false
is_left [] [] h = absurd (h refl refl)
is_left [] (y ∷ ys) h = refl
is_left (x ∷ xs) ys h = refl

pub none_left : (xs : List ℕ) (ys : List Body) → xs ≡ [] → ys ≡ [] → (is_empty xs && is_empty ys) ≡ true
none_left xs ys e q =
    ap (λ (zs : List ℕ). is_empty zs && is_empty ys) e ∙ ap (λ (zs : List Body). is_empty zs) q
