-- The lines of a text at their positions: how many words, functions and entries stand before each. A second `.entry`
-- has a wrong form, as a line that says nothing. The rules are this project's own.
use Rattle.std.specs.Prelude.{ℕ, ◌+◌, Bool, true, false, ◌&&◌, if◌then◌else◌, List, [], ◌∷◌, Option, Some, None}
use Rattle.std.specs.List.{count_by}
use Rattle.asm_lines.specs.declared.line.Line.{Line}
use Rattle.asm_lines.specs.declared.line.Statement.{Statement}
use Rattle.asm_lines.specs.declared.line.Statement.TheVariants as statement
use Rattle.asm_passes.specs.declared.position.Position.{Position}

abbrev pub is_entry : Statement → Bool
is_entry (statement.Entry t) = true
is_entry s = false

abbrev pub is_function : Statement → Bool
is_function (statement.Function t n) = true
is_function s = false

-- Whether a statement gives a word of the text.
abbrev pub is_word : Statement → Bool
is_word (statement.Word n) = true
is_word (statement.Instruction d) = true
is_word s = false

-- A line of another form, or a second `.entry`, says nothing.
abbrev pub counted : Position → Option Line → Option Line
counted p None = None
counted p (Some l) = if p.entered && is_entry l.statement then None else Some l

-- The position of the first line.
abbrev pub start : Position
start = record { line = 1; words = 0; functions = 0; entered = false }

-- The position behind a line.
abbrev pub behind_by : Position → Statement → Position
behind_by p s = record {
  line = p.line + 1;
  words = (if is_word s then p.words + 1 else p.words);
  functions = (if is_function s then p.functions + 1 else p.functions);
  entered = (if is_entry s then true else p.entered);
}

abbrev pub behind : Position → Option Line → Position
behind p None = record p { line = p.line + 1 }
behind p (Some l) = behind_by p l.statement

-- A line with its position.
pub record Placed : Type 0 where
  pub at : Position
  pub line : Option Line

-- Lines with their positions, where the first stands at `p`.
abbrev pub placed : Position → List (Option Line) → List Placed
placed p [] = []
placed p (l ∷ ls) = let m = counted p l in record { at = p; line = m } ∷ placed (behind p m) ls

abbrev pub gives_word_in : Option Line → Bool
gives_word_in None = false
gives_word_in (Some l) = is_word l.statement

-- How many words the lines give.
abbrev pub words : List Placed → ℕ
words ps = count_by (λ q. gives_word_in q.line) ps
