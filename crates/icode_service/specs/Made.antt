-- What is known where the words of a finished function have been written, and where they haven't.
use Rattle.std.specs.Prelude.{ℕ, ◌≡◌, ◌<◌, ◌≤◌, ◌⊎◌, List, Some, None, length}
use Rattle.code_arena.specs.Arena.{Arena}
use Rattle.icode_ir.specs.Build.{Build, finished}
use Rattle.mips_model.specs.declared.bad_service.BadService.{BadService}
use Rattle.mips_model.specs.declared.bad_service.BadService.TheVariants.{Short}
use Rattle.mips_model.specs.Choices.{Choice, IsScanned}
use Rattle.mips_model.specs.CodeServices.{finish_refusal, words_of, written_from, arena_word}

-- the function has these places and so many spills, which are those of linear scan, and its words were written
pub record IsMade (b : Build) (at most frame : ℕ) (before after : Arena) (places : List ℕ) (spills words : ℕ) : Type 0
  where
    pub choice : Choice
    pub scanned : IsScanned (finished b) b.registers choice
    pub taken : finish_refusal b at most frame ≡ None
    pub places_are : places ≡ choice.places
    pub spills_are : spills ≡ choice.spills
    pub words_are : words ≡ length (words_of b choice at frame)
    pub room : words ≤ most
    pub written : after ≡ written_from (arena_word at) (words_of b choice at frame) before

-- the choice of linear scan has more words than there is room for
pub record IsShort (b : Build) (at most frame : ℕ) : Type 0 where
  pub choice : Choice
  pub scanned : IsScanned (finished b) b.registers choice
  pub taken : finish_refusal b at most frame ≡ None
  pub short : most < length (words_of b choice at frame)

-- why no words were written
abbrev pub IsBad : Build → (at most frame : ℕ) → BadService → Type 0
IsBad b at most frame why =
    (finish_refusal b at most frame ≡ Some why) ⊎ ((why ≡ Short) × IsShort b at most frame)
