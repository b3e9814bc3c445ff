-- No word is longer than its line, so the digits of data are not either.
use Rattle.std.proofs.Common.{◌≡◌, ℕ, suc, ◌≤◌, Bool, true, false, ◌==◌, ◌||◌, cond, List, [], ◌∷◌, length, Option}
use Rattle.std.proofs.Common.{Some, None, option_and_then, refl, arith, codes}
use Rattle.std.specs.Str.{bytes_eq}
use Rattle.asm_words.specs.declared.operation.Operation.{Operation}
use Rattle.asm_words.specs.Names.{is_name}
use Rattle.asm_words.specs.Data.{are_pairs}
use Rattle.asm_words.specs.Numbers.{number_of}
use Rattle.asm_words.specs.Operations.{operation_of}
use Rattle.asm_lines.specs.declared.piece.Piece.{Piece}
use Rattle.asm_lines.specs.declared.piece.Piece.TheVariants as piece
use Rattle.asm_lines.specs.declared.piece.Class.{Class}
use Rattle.asm_lines.specs.declared.piece.Class.TheVariants as class
use Rattle.asm_lines.specs.declared.line.Line.{Line}
use Rattle.asm_lines.specs.declared.line.Statement.{Statement}
use Rattle.asm_lines.specs.Pieces.{class_of, Split, closed_by, closed, split_by, split, pieces, word_in, is_colon}
use Rattle.asm_lines.specs.Operands.{operands_of, target_of}
use Rattle.asm_lines.specs.Drafts.{drafted}
use Rattle.asm_lines.specs.Lines.{entry, function, data_bytes, plain_word, instruction, statement_by, statement_of}
use Rattle.asm_lines.specs.Lines.{labelled, unlabelled, line_in, line_of, digits_of, HasDigits}

abbrev pub word_len : Piece → ℕ
word_len (piece.Word w) = length w
word_len p = 0

-- No word is longer than this.
abbrev pub Within : ℕ → List Piece → Type 0
Within n [] = Unit {0}
Within n (p ∷ ps) = (word_len p ≤ n) × Within n ps

within_more : (n m : ℕ) (ps : List Piece) → n ≤ m → Within n ps → Within m ps
within_more n m [] h w = tt
within_more n m (p ∷ ps) h w = let first = w.0 in (omega (arith, h, first), within_more n m ps h w.1)

closed_within : (n : ℕ) (w : List ℕ) (more : List Piece) → length w ≤ n → Within n more → Within n (closed_by w more)
closed_within n [] more h rest = rest
closed_within n (b ∷ w) more h rest = (h, rest)

abbrev class_len : Class → ℕ
class_len (class.Mark p) = word_len p
class_len c = 0

either : (t : Bool) (c d : Class) → class_len c ≡ 0 → class_len d ≡ 0 → class_len (cond t c d) ≡ 0
either true c d g h = g
either false c d g h = h

-- A mark is no word.
mark_len : (b : ℕ) → class_len (class_of b) ≡ 0
mark_len b =
    let close : Class = cond (b == 41) (class.Mark piece.Close) class.Part in
    let opens : Class = cond (b == 40) (class.Mark piece.Open) close in
    let colon : Class = cond (b == 58) (class.Mark piece.Colon) opens in
    let comma : Class = cond (b == 44) (class.Mark piece.Comma) colon in
    let comment : Class = cond (b == 35) class.Comment comma in
    either (b == 32 || (b == 9 || b == 13)) class.Blank comment refl
    (either (b == 35) class.Comment comma refl
    (either (b == 44) (class.Mark piece.Comma) colon refl
    (either (b == 58) (class.Mark piece.Colon) opens refl
    (either (b == 40) (class.Mark piece.Open) close refl
    (either (b == 41) (class.Mark piece.Close) class.Part refl refl)))))

-- The word at the front of a line and the pieces behind it.
abbrev Split-within : ℕ → Split → Type 0
Split-within n s = (length s.word ≤ n) × Within n s.more

split_by_within : (n b : ℕ) (c : Class) (s : Split) → class_len c ≡ 0 → Split-within n s →
    Split-within (suc n) (split_by b c s)
split_by_within n b class.Blank s e w =
    (omega arith, within_more n (suc n) (closed s) (omega arith) (closed_within n s.word s.more w.0 w.1))
split_by_within n b class.Comment s e w = (omega arith, tt)
split_by_within n b (class.Mark p) s e w = (
  omega arith,
  (
    omega (arith, e),
    within_more n (suc n) (closed s) (omega arith) (closed_within n s.word s.more w.0 w.1),
  ),
)
split_by_within n b class.Part s e w =
    let first = w.0 in
    (omega (arith, first), within_more n (suc n) s.more (omega arith) w.1)

split_within : (z : List ℕ) → Split-within (length z) (split z)
split_within [] = (omega arith, tt)
split_within (b ∷ z) = split_by_within (length z) b (class_of b) (split z) (mark_len b) (split_within z)

pieces_within : (z : List ℕ) → Within (length z) (pieces z)
unfolding pieces
pieces_within z = let w = split_within z in closed_within (length z) (split z).word (split z).more w.0 w.1

-- ---- statements

abbrev pub FewIn : ℕ → Option Statement → Type 0
FewIn n None = Unit {0}
FewIn n (Some s) = digits_of s ≤ n

pub record Few (n : ℕ) (o : Option Statement) : Type 0 where
  pub few : FewIn n o

few_if : (n : ℕ) (t : Bool) {x y : Option Statement} → Few n x → Few n y → Few n (cond t x y)
few_if n true f g = f
few_if n false f g = g

few_then : {A : Type 0} (n : ℕ) (o : Option A) {f : A → Option Statement} → ((x : A) → Few n (f x)) →
    Few n (option_and_then f o)
few_then n None h = record { few = tt }
few_then n (Some x) h = h x

none_few : (n : ℕ) → Few n None
none_few n = record { few = tt }

entry_few : (n : ℕ) (z : List Piece) → Few n (entry z)
entry_few n [] = none_few n
entry_few n (a ∷ []) = few_then n (word_in a) (λ w. few_then n (target_of w) (λ t. record { few = omega arith }))
entry_few n (a ∷ b ∷ z) = none_few n

function_few : (n : ℕ) (z : List Piece) → Few n (function z)
function_few n [] = none_few n
function_few n (a ∷ []) = none_few n
function_few n (a ∷ c ∷ []) =
    few_then n (word_in a)
    (λ w. few_then n (word_in c)
    (λ v. few_then n (target_of w)
    (λ t. few_then n (number_of v) (λ m. record { few = omega arith }))))
function_few n (a ∷ b ∷ c ∷ z) = none_few n

data_few : (n : ℕ) (z : List Piece) → Within n z → Few n (data_bytes z)
data_few n [] w = none_few n
data_few n (piece.Word d ∷ []) w = few_if n (are_pairs d) (record { few = w.0 }) (none_few n)
data_few n (piece.Comma ∷ []) w = none_few n
data_few n (piece.Colon ∷ []) w = none_few n
data_few n (piece.Open ∷ []) w = none_few n
data_few n (piece.Close ∷ []) w = none_few n
data_few n (a ∷ b ∷ z) w = none_few n

word_few : (n : ℕ) (z : List Piece) → Few n (plain_word z)
word_few n [] = none_few n
word_few n (a ∷ []) = few_then n (word_in a) (λ w. few_then n (number_of w) (λ m. record { few = omega arith }))
word_few n (a ∷ b ∷ z) = none_few n

instruction_few : (n : ℕ) (o : Option Operation) (z : List Piece) → Few n (instruction o z)
instruction_few n None z = none_few n
instruction_few n (Some op) z =
    few_then n (operands_of z) (λ os. few_then n (drafted op os) (λ d. record { few = omega arith }))

by_few : (n : ℕ) (w : List ℕ) (z : List Piece) → Within n z → Few n (statement_by w z)
by_few n w z h =
    few_if n (bytes_eq w (codes ".entry")) (entry_few n z)
    (few_if n (bytes_eq w (codes ".fn")) (function_few n z)
    (few_if n (bytes_eq w (codes ".data")) (data_few n z h)
    (few_if n (bytes_eq w (codes ".word")) (word_few n z)
    (instruction_few n (operation_of w) z))))

statement_few : (n : ℕ) (z : List Piece) → Within n z → Few n (statement_of z)
unfolding statement_of
statement_few n [] h = record { few = omega arith }
statement_few n (a ∷ z) h = few_then n (word_in a) (λ w. by_few n w z h.1)

-- ---- lines

pub record FewOn (n : ℕ) (o : Option Line) : Type 0 where
  pub few : HasDigits n o

line_then : {A : Type 0} (n : ℕ) (o : Option A) {f : A → Option Line} → ((x : A) → FewOn n (f x)) →
    FewOn n (option_and_then f o)
line_then n None h = record { few = tt }
line_then n (Some x) h = h x

line_if : (n : ℕ) (t : Bool) {x y : Option Line} → FewOn n x → FewOn n y → FewOn n (cond t x y)
line_if n true f g = f
line_if n false f g = g

with_statement : (n : ℕ) (o : Option Statement) {f : Statement → Option Line} → Few n o →
    ((s : Statement) → digits_of s ≤ n → FewOn n (f s)) → FewOn n (option_and_then f o)
with_statement n None few h = record { few = tt }
with_statement n (Some s) few h = h s few.few

unlabelled_few : (n : ℕ) (z : List Piece) → Within n z → FewOn n (unlabelled z)
unlabelled_few n z h = with_statement n (statement_of z) (statement_few n z h) (λ s few. record { few = few })

labelled_few : (n : ℕ) (a : Piece) (z : List Piece) → Within n z → FewOn n (labelled a z)
labelled_few n a z h =
    line_then n (word_in a)
    (λ w. with_statement n (statement_of z) (statement_few n z h)
    (λ s few. line_if n (is_name w) (record { few = few }) (record { few = tt })))

line_in_few : (n : ℕ) (z : List Piece) → Within n z → FewOn n (line_in z)
line_in_few n [] h = unlabelled_few n [] h
line_in_few n (a ∷ []) h = unlabelled_few n (a ∷ []) h
line_in_few n (a ∷ m ∷ z) h =
    line_if n (is_colon m) (labelled_few n a z h.1.1) (unlabelled_few n (a ∷ m ∷ z) h)

-- The digits of data are at most as many as the bytes of the line.
pub line_has_digits : (z : List ℕ) → HasDigits (length z) (line_of z)
unfolding line_of
line_has_digits z = (line_in_few (length z) (pieces z) (pieces_within z)).few
