-- Bytes in hexadecimal: pairs of digits of either case, the high one first. The form is this project's own.
use Rattle.std.specs.Prelude.{ℕ, ◌+◌, ◌*◌, ◌%◌, Bool, ◌==◌, ◌&&◌, List, [], ◌∷◌, length}
use Rattle.asm_words.specs.declared.number.Base.TheVariants.{Hexadecimal}
use Rattle.asm_words.specs.Numbers.{are_digits, digit_value as value}

-- Whether a word is pairs of digits, at least one.
abbrev pub are_pairs : List ℕ → Bool
are_pairs w = are_digits Hexadecimal w && (length w % 2 == 0)

-- The bytes of pairs of digits.
abbrev pub bytes_of : List ℕ → List ℕ
bytes_of [] = []
bytes_of (high ∷ []) = []
bytes_of (high ∷ low ∷ z) = (value high * 16 + value low) ∷ bytes_of z
