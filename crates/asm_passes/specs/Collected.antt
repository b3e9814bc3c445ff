-- What all lines of a text say together, and what they give, or the first fault. The fault of the first line that has
-- one counts. The rules are this project's own.
use Rattle.std.specs.Prelude.{ℕ, List, [], ◌∷◌, map, Result, Ok, Err}
use Rattle.asm_lines.specs.Lines.{line_of}
use Rattle.asm_passes.specs.declared.fault.AsmFault.{AsmFault}
use Rattle.asm_passes.specs.declared.item.Item.{Item}
use Rattle.asm_passes.specs.Cut.{lines}
use Rattle.asm_passes.specs.Positions.{Placed, placed, start, words}
use Rattle.asm_passes.specs.Labels.{labels}
use Rattle.asm_passes.specs.Instructions.{Read}
use Rattle.asm_passes.specs.Values.{Known, known_by, given}

-- The lines of a text with their positions.
abbrev pub placed_lines : List ℕ → List Placed
placed_lines text = placed start (map line_of (lines text))

-- What all lines of a text say together.
abbrev pub known : List Placed → Known
known ps = known_by (labels ps) (words ps)

-- ---- the first fault, or what all lines give

abbrev pub before : ℕ → Read Item → Result (List Item) AsmFault → Result (List Item) AsmFault
before line (Err k) later = Err (record { kind = k; line = line })
before line (Ok i) (Ok is) = Ok (i ∷ is)
before line (Ok i) (Err f) = Err f

abbrev pub collected : Known → List Placed → Result (List Item) AsmFault
collected k [] = Ok []
collected k (q ∷ qs) = before q.at.line (given k q.at q.line) (collected k qs)
