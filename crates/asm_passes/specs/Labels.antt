-- The labels of a text. A label stands for the address of the next word, also at the end of the text; where two lines
-- have the same label, the first one counts. The text of a program begins at 0x00400000. The rules are this project's
-- own.
use Rattle.std.specs.Prelude.{ℕ, ◌+◌, ◌*◌, if◌then◌else◌, List, [], ◌∷◌, Option, Some, None}
use Rattle.std.specs.List.{flat_map}
use Rattle.std.specs.Str.{bytes_eq}
use Rattle.asm_lines.specs.declared.line.Line.{Line}
use Rattle.asm_passes.specs.LabelPlace.{LabelPlace}
use Rattle.asm_passes.specs.declared.position.Position.{Position}
use Rattle.asm_passes.specs.Positions.{Placed}
use Rattle.word32.specs.declared.map.TheConstants.{TEXT}

-- Labels with their names, in an order.
abbrev pub Names : Type 0
Names = List (List ℕ × LabelPlace)

-- The label at a position.
abbrev pub label_at : Position → LabelPlace
label_at p = record { line = p.line; words = p.words }

abbrev pub name_at : Position → Option (List ℕ) → Names
name_at p None = []
name_at p (Some name) = (name, label_at p) ∷ []

abbrev pub label_in : Position → Option Line → Names
label_in p None = []
label_in p (Some l) = name_at p l.label

-- All labels of lines with their positions, in their order.
abbrev pub labels : List Placed → Names
labels ps = flat_map (λ q. label_in q.at q.line) ps

-- The first label with a name.
abbrev pub find : Names → List ℕ → Option LabelPlace
find [] name = None
find (e ∷ es) name = if bytes_eq name e.0 then Some e.1 else find es name

-- The address of a label.
abbrev pub address : LabelPlace → ℕ
address l = TEXT + 4 * l.words
