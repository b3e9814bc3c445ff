-- What a call of a service leaves behind: what the service does by its definition, and what the call answers.
use Rattle.std.specs.Prelude.{ℕ, ◌≡◌, Option, Some, None, Result, Ok, Err}
use Rattle.code_arena.specs.Arena.{Arena}
use Rattle.icode_ir.specs.Build.{Build, finished}
use Rattle.icode_ops.specs.Places.{IsLegal}
use Rattle.mips_model.specs.declared.bad_service.BadService.{BadService}
use Rattle.mips_model.specs.Choices.{Choice, IsScanned}
use Rattle.mips_model.specs.CodeServices.{Generator, Rows, Outcome, Refused, Does, finish_refusal}

-- the service was refused and nothing has changed, or it did what it does
abbrev pub Did :
    Outcome → (old new : Generator) (arena arena_after : Arena) (rows rows_after : Rows) → Result ℕ BadService → Type 0
Did (Refused why) old new arena arena_after rows rows_after result =
    (result ≡ Err why) × (new ≡ old) × (arena_after ≡ arena) × (rows_after ≡ rows)
Did (Does answer made change set) old new arena arena_after rows rows_after result =
    (result ≡ Ok answer) × (new ≡ made) × (arena_after ≡ change arena) × (rows_after ≡ set rows)

-- the choice is that of linear scan, and legal, where the function that is begun gets as far as that
abbrev pub ChosenFor : Option Build → (at most frame : ℕ) → Choice → Type 0
ChosenFor None at most frame choice = Unit {0}
ChosenFor (Some b) at most frame choice =
    finish_refusal b at most frame ≡ None →
    IsScanned (finished b) b.registers choice × IsLegal (finished b) b.registers choice.places

-- the same, of the service of a number
abbrev pub IsChosen : (number first second third : ℕ) → Generator → Choice → Type 0
IsChosen number first second third g choice = number ≡ 66 → ChosenFor g.build first second third choice
