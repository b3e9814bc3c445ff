-- What the lines of the text of an image say.
use Rattle.std.proofs.Common.{◌≡◌, ℕ, ◌<◌, false, List, ◌∷◌, ◌++◌, length, Some, refl, ap, ◌∙◌, arith, codes}
use Rattle.std.specs.Prelude.{decimal}
use Rattle.asm_print.specs.Numbers.{prefixed_word}
use Rattle.asm_words.specs.declared.number.Number.{Number}
use Rattle.asm_words.specs.Numbers.{number_of}
use Rattle.asm_lines.specs.declared.line.Statement.TheVariants as statement
use Rattle.asm_lines.specs.declared.operand.Target.TheVariants as target
use Rattle.asm_lines.specs.declared.piece.Piece.TheVariants as piece
use Rattle.asm_lines.specs.Pieces.{pieces}
use Rattle.asm_lines.specs.Operands.{target_by, ◌>>=◌, pure}
use Rattle.asm_lines.specs.Lines.{line_of, line_in, statement_of}
use Rattle.mips_text_proof.proofs.Feeds.{plain}
use Rattle.mips_text_proof.proofs.Hexadecimals.{number_word}
use Rattle.mips_text_proof.proofs.Decimals.{number_decimal}
use Rattle.mips_text_proof.proofs.Wordy.{wordy_word, wordy_decimal, some_decimal, one_word, word_blank}

-- The number that stands for itself.
abbrev pub written : ℕ → Number
written n = record { negative = false; magnitude = Some n }

entry_pieces : (w : List ℕ) → pieces (codes ".entry " ++ w) ≡ piece.Word (codes ".entry") ∷ pieces w
unfolding pieces
entry_pieces w = refl

pub entry_row : (a : ℕ) → a < 4294967296 →
    line_of (codes ".entry " ++ prefixed_word a) ≡ plain (statement.Entry (target.Number (written a)))
unfolding line_of statement_of
entry_row a h =
    let w : List ℕ = prefixed_word a in
    let some : 0 < length w = omega arith in
    ap line_in (entry_pieces w ∙ ap (λ ps. piece.Word (codes ".entry") ∷ ps) (one_word w (wordy_word a) some))
    ∙ ap (λ o. target_by w o >>= (λ t. pure (statement.Entry t)) >>= (λ s. plain s)) (number_word a h)

function_pieces : (z : List ℕ) → pieces (codes ".fn " ++ z) ≡ piece.Word (codes ".fn") ∷ pieces z
unfolding pieces
function_pieces z = refl

pub function_row : (a c : ℕ) → a < 4294967296 → c < 4294967296 →
    line_of (codes ".fn " ++ (prefixed_word a ++ 32 ∷ decimal c)) ≡ plain
    (statement.Function (target.Number (written a)) (written c))
unfolding line_of statement_of
function_row a c h k =
    let w : List ℕ = prefixed_word a in
    let some : 0 < length w = omega arith in
    ap line_in
    (function_pieces (w ++ 32 ∷ decimal c)
    ∙ ap (λ ps. piece.Word (codes ".fn") ∷ ps)
    (word_blank w (decimal c) (wordy_word a) some ∙
    ap (λ ps. piece.Word w ∷ ps) (one_word (decimal c) (wordy_decimal c k) (some_decimal c k))))
    ∙ ap (λ o. target_by w o >>= (λ t. number_of (decimal c) >>= (λ n. pure (statement.Function t n))) >>=
    (λ s. plain s)) (number_word a h)
    ∙ ap (λ o. o >>= (λ n. pure (statement.Function (target.Number (written a)) n)) >>= (λ s. plain s))
    (number_decimal c k)

word_pieces : (z : List ℕ) → pieces (codes ".word " ++ z) ≡ piece.Word (codes ".word") ∷ pieces z
unfolding pieces
word_pieces z = refl

pub word_row : (n : ℕ) → n < 4294967296 →
    line_of (codes ".word " ++ prefixed_word n) ≡ plain (statement.Word (written n))
unfolding line_of statement_of
word_row n h =
    let w : List ℕ = prefixed_word n in
    let some : 0 < length w = omega arith in
    ap line_in (word_pieces w ∙ ap (λ ps. piece.Word (codes ".word") ∷ ps) (one_word w (wordy_word n) some))
    ∙ ap (λ o. o >>= (λ m. pure (statement.Word m)) >>= (λ s. plain s)) (number_word n h)
