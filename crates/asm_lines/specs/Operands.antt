-- The operands of an instruction in assembly text, by the marks between them, and what each word says. A register is
-- `$` and its number or its usual name; a target is a number or a label. The form is this project's own.
use Rattle.std.specs.Prelude.{ℕ, ◌&&◌, if◌then◌else◌, List, [], ◌∷◌, Option, Some, None, option_and_then}
use Rattle.asm_words.specs.declared.number.Number.{Number}
use Rattle.asm_words.specs.Numbers.{number_of}
use Rattle.asm_words.specs.Names.{is_name}
use Rattle.asm_lines.specs.declared.piece.Piece.{Piece}
use Rattle.asm_lines.specs.declared.operand.Operands.{Operands}
use Rattle.asm_lines.specs.declared.operand.Operands.TheVariants.{Nothing, One, Two, Three, Based}
use Rattle.asm_lines.specs.declared.operand.Target.{Target}
use Rattle.asm_lines.specs.declared.operand.Target.TheVariants as target
use Rattle.asm_lines.specs.Pieces.{word_in, is_comma, is_open, is_close}

-- One reading after another, none where one fails.
infixl 10 ◌>>=◌
abbrev pub ◌>>=◌ : {A B : Type 0} → Option A → (A → Option B) → Option B
o >>= f = option_and_then f o

abbrev pub pure : {A : Type 0} → A → Option A
pure x = Some x

-- One word; two, with a comma between them; three, with commas; and two of which a third follows in parentheses.
abbrev pub one : Piece → Option Operands
one a = do
  x ← word_in a
  pure (One x)

abbrev pub two : Piece → Piece → Piece → Option Operands
two a comma b = do
  x ← word_in a
  y ← word_in b
  if is_comma comma then pure (Two x y) else None

abbrev pub three : Piece → Piece → Piece → Piece → Piece → Option Operands
three a comma b comma' c = do
  x ← word_in a
  y ← word_in b
  z ← word_in c
  if is_comma comma && is_comma comma' then pure (Three x y z) else None

abbrev pub based : Piece → Piece → Piece → Piece → Piece → Piece → Option Operands
based a comma b open' c close = do
  x ← word_in a
  y ← word_in b
  z ← word_in c
  if is_comma comma && is_open open' && is_close close then pure (Based x y z) else None

-- The operands that words and marks are.
abbrev pub operands_of : List Piece → Option Operands
operands_of [] = Some Nothing
operands_of (a ∷ []) = one a
operands_of (a ∷ m ∷ b ∷ []) = two a m b
operands_of (a ∷ m ∷ b ∷ n ∷ c ∷ []) = three a m b n c
operands_of (a ∷ m ∷ b ∷ n ∷ c ∷ k ∷ []) = based a m b n c k
operands_of z = None

-- The target that a word is.
abbrev pub target_by : List ℕ → Option Number → Option Target
target_by w (Some n) = Some (target.Number n)
target_by w None = if is_name w then Some (target.Label w) else None

abbrev pub target_of : List ℕ → Option Target
target_of w = target_by w (number_of w)
