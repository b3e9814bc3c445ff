-- What a line gives to the parts of an image.
use Rattle.std.specs.Prelude.{◌≡◌, ℕ, ◌+◌, ◌<◌, IsTrue, List, [], ◌∷◌, length, Option, Some, None}
use Rattle.image_file.specs.declared.image.FunctionEntry.{FunctionEntry}
use Rattle.image_file.specs.Image.{is_in_text, is_function_in}
use Rattle.asm_words.specs.Data.{bytes_of}
use Rattle.asm_passes.specs.declared.position.Position.{Position}
use Rattle.asm_passes.specs.declared.item.Item.{Item}
use Rattle.asm_passes.specs.declared.item.Item.TheVariants as item
use Rattle.limits.specs.declared.program.TheConstants.{MOST_FUNCTIONS}

abbrev pub entry_of : Item → Option ℕ
entry_of (item.Entry a) = Some a
entry_of i = None

abbrev pub words_of : Item → List ℕ
words_of (item.Word w) = w ∷ []
words_of i = []

abbrev pub data_of : Item → List ℕ
data_of (item.Data digits) = bytes_of digits
data_of i = []

abbrev pub functions_of : Item → List FunctionEntry
functions_of (item.Function f) = f ∷ []
functions_of i = []

-- How many digits of data it has.
abbrev pub digits_in : Item → ℕ
digits_in (item.Data digits) = length digits
digits_in i = 0

-- An entry and a function stand at words of the text, and few functions stand before a function.
abbrev pub IsGood : ℕ → Position → Item → Type 0
IsGood words p (item.Entry a) = IsTrue (is_in_text words a)
IsGood words p (item.Function f) = IsTrue (is_function_in words f) × (p.functions < MOST_FUNCTIONS)
IsGood words p i = Unit {0}

-- Positions count the words and the functions that lines give.
pub record Counts (p q : Position) (i : Item) : Type 0 where
  pub words : p.words + length (words_of i) ≡ q.words
  pub functions : p.functions + length (functions_of i) ≡ q.functions
