-- What a line gives to the image, or its fault. Every number has to fit its field, and an entry and a function have to
-- stand at words of the text. On one line the fault with the lower number counts. The rules are this project's own.
use Rattle.std.specs.Prelude.{ℕ, ◌+◌, Bool, true, ◌==◌, nat_lt, if◌then◌else◌, List, Option, Some, None, Ok, Err}
use Rattle.image_file.specs.Image.{is_in_text}
use Rattle.mips_encoder.specs.Table.{word_of}
use Rattle.asm_words.specs.declared.number.Number.{Number}
use Rattle.asm_words.specs.Numbers.{unsigned}
use Rattle.asm_lines.specs.declared.line.Line.{Line}
use Rattle.asm_lines.specs.declared.line.Statement.{Statement}
use Rattle.asm_lines.specs.declared.line.Statement.TheVariants as statement
use Rattle.asm_lines.specs.declared.operand.Target.{Target}
use Rattle.asm_passes.specs.declared.fault.AsmFaultKind.TheVariants.{BadLine, BadNumber, DoubleLabel}
use Rattle.asm_passes.specs.LabelPlace.{LabelPlace}
use Rattle.asm_passes.specs.declared.position.Position.{Position}
use Rattle.asm_passes.specs.declared.item.Item.{Item}
use Rattle.asm_passes.specs.declared.item.Item.TheVariants as item
use Rattle.asm_passes.specs.Labels.{Names, find}
use Rattle.asm_passes.specs.Instructions.{Find, Read, ◌>>=◌, pure, fitting, below, address_of, instruction_of}
use Rattle.limits.specs.declared.program.TheConstants.{MOST_ARGUMENTS, MOST_FUNCTIONS}

-- The labels of a text, and how many words it has.
pub record Known : Type 0 where
  pub find : Find
  pub words : ℕ

abbrev pub known_by : Names → ℕ → Known
known_by labels words = record { find = find labels; words = words }

-- An address of a word of the text.
abbrev pub text_address : Known → Target → Read ℕ
text_address k t = do
  a ← address_of k.find t
  if is_in_text k.words a then Ok a else Err BadNumber

-- The count of a function's arguments, at most 8; there are at most 65,535 functions.
abbrev pub argument_count : Position → Number → Read ℕ
argument_count p n = if nat_lt p.functions MOST_FUNCTIONS then below (MOST_ARGUMENTS + 1) n else Err BadNumber

-- What a statement gives.
abbrev pub item_of : Known → Position → Statement → Read Item
item_of k p statement.Nothing = Ok item.Nothing
item_of k p (statement.Entry t) = do
  a ← text_address k t
  pure (item.Entry a)
item_of k p (statement.Function t n) = do
  count ← argument_count p n
  a ← text_address k t
  pure (item.Function (record { address = a; count = count }))
item_of k p (statement.Data digits) = Ok (item.Data digits)
item_of k p (statement.Word n) = do
  w ← fitting (unsigned n)
  pure (item.Word w)
item_of k p (statement.Instruction d) = do
  i ← instruction_of k.find p.words d
  pure (item.Word (word_of i))

-- Whether an earlier line has the label.
abbrev pub is_first : ℕ → Option LabelPlace → Bool
is_first line None = true
is_first line (Some l) = l.line == line

abbrev pub has_own_label : Known → Position → Option (List ℕ) → Bool
has_own_label k p None = true
has_own_label k p (Some name) = is_first p.line (k.find name)

-- What a line gives.
unfoldable pub given : Known → Position → Option Line → Read Item
given k p None = Err BadLine
given k p (Some l) = do
  i ← item_of k p l.statement
  if has_own_label k p l.label then Ok i else Err DoubleLabel
