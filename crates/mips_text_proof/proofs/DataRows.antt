-- A line of data, what it says and the bytes that it gives.
use Rattle.std.proofs.Common.{◌≡◌, ℕ, ◌+◌, ◌*◌, ◌/◌, ◌%◌, ◌<◌, ◌==◌, Bool, true, false, ◌&&◌, nat_lt, cond, List, []}
use Rattle.std.proofs.Common.{◌∷◌, ◌++◌, length, None, refl, ap, ◌∙◌, arith, codes, lt-ltb}
use Rattle.std.specs.Char.{is_ascii_hexdigit}
use Rattle.std.specs.List.{list_all, flat_map}
use Rattle.asm_print.specs.Numbers.{hex_digit, hex_byte}
use Rattle.asm_words.specs.declared.number.Base.TheVariants.{Hexadecimal}
use Rattle.asm_words.specs.Numbers.{are_digits, digit_value}
use Rattle.asm_words.specs.Data.{are_pairs, bytes_of}
use Rattle.asm_lines.specs.declared.line.Statement.TheVariants as statement
use Rattle.asm_lines.specs.declared.piece.Piece.TheVariants as piece
use Rattle.asm_lines.specs.Pieces.{pieces}
use Rattle.asm_lines.specs.Operands.{◌>>=◌, pure}
use Rattle.asm_lines.specs.Lines.{line_of, line_in, statement_of}
use Rattle.mips_text_proof.proofs.Feeds.{plain}
use Rattle.mips_text_proof.proofs.Hexadecimals.{hex_test, hex_value}
use Rattle.mips_text_proof.proofs.Wordy.{Wordy, wordy_nothing, wordy_hex, one_word}

abbrev pub hexes : List ℕ → List ℕ
hexes c = flat_map hex_byte c

pub both : (a b : Bool) → a ≡ true → b ≡ true → (a && b) ≡ true
both true b g h = h
both false b g h = g

hexes_all : (c : List ℕ) → list_all is_ascii_hexdigit (hexes c) ≡ true
hexes_all [] = refl
hexes_all (b ∷ c) =
    both (is_ascii_hexdigit (hex_digit (b / 16 % 16)))
    (is_ascii_hexdigit (hex_digit (b % 16)) && list_all is_ascii_hexdigit (hexes c))
    (hex_test (b / 16 % 16) (omega arith))
    (both (is_ascii_hexdigit (hex_digit (b % 16))) (list_all is_ascii_hexdigit (hexes c))
    (hex_test (b % 16) (omega arith)) (hexes_all c))

pub wordy_hexes : (c : List ℕ) → Wordy (hexes c)
wordy_hexes [] = wordy_nothing
wordy_hexes (b ∷ c) = wordy_hex (b / 16 % 16) (hex_digit (b % 16) ∷ hexes c)
    (wordy_hex (b % 16) (hexes c) (wordy_hexes c))

pub length_hexes : (c : List ℕ) → length (hexes c) ≡ 2 * length c
length_hexes [] = omega arith
length_hexes (b ∷ c) = let rest = length_hexes c in omega (arith, rest)

abbrev pub AreBytes : List ℕ → Type 0
AreBytes [] = Unit {0}
AreBytes (b ∷ c) = (b < 256) × AreBytes c

-- The bytes are read back.
pub bytes_again : (c : List ℕ) → AreBytes c → bytes_of (hexes c) ≡ c
bytes_again [] h = refl
bytes_again (b ∷ c) h =
    let v1 = hex_value (b / 16 % 16) (omega arith) in
    let v2 = hex_value (b % 16) (omega arith) in
    let small : b < 256 = h.0 in
    let e : digit_value (hex_digit (b / 16 % 16)) * 16 + digit_value (hex_digit (b % 16)) ≡ b =
    omega (arith, v1, v2, small) in
    ap (λ x. x ∷ bytes_of (hexes c)) e ∙ ap (λ z. b ∷ z) (bytes_again c h.1)

pairs : (c : List ℕ) → 0 < length c → are_pairs (hexes c) ≡ true
pairs c some =
    let len = length_hexes c in
    let long : 0 < length (hexes c) = omega (arith, len, some) in
    let even : length (hexes c) % 2 ≡ 0 = omega (arith, len) in
    both (are_digits Hexadecimal (hexes c)) (length (hexes c) % 2 == 0)
    (both (nat_lt 0 (length (hexes c))) (list_all is_ascii_hexdigit (hexes c)) (lt-ltb 0 (length (hexes c)) long)
    (hexes_all c))
    (ap (λ m. m == 0) even)

data_pieces : (z : List ℕ) → pieces (codes ".data " ++ z) ≡ piece.Word (codes ".data") ∷ pieces z
unfolding pieces
data_pieces z = refl

pub data_row : (c : List ℕ) → 0 < length c → line_of (codes ".data " ++ hexes c) ≡ plain (statement.Data (hexes c))
unfolding line_of statement_of
data_row c some =
    let len = length_hexes c in
    let long : 0 < length (hexes c) = omega (arith, len, some) in
    ap line_in (data_pieces (hexes c) ∙
    ap (λ ps. piece.Word (codes ".data") ∷ ps) (one_word (hexes c) (wordy_hexes c) long))
    ∙ ap (λ t. cond t (pure (statement.Data (hexes c))) None >>= (λ s. plain s)) (pairs c some)
