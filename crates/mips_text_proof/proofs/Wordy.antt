-- Texts that are one word of a line.
use Rattle.std.proofs.Common.{◌≡◌, ◌≢◌, ℕ, ◌+◌, ◌/◌, ◌%◌, ◌<◌, ◌≤◌, ◌^◌, ◌==◌, Bool, true, false, not, ◌&&◌, ◌||◌, cond}
use Rattle.std.proofs.Common.{List, [], ◌∷◌, ◌++◌, length, refl, sym, ap, ◌∙◌, arith, inl, inr, lt-ltb}
use Rattle.std.specs.Prelude.{decimal}
use Rattle.std.specs.List.{list_all}
use Rattle.std.specs.Str.Parse as parse
use Rattle.std.proofs.lemmas.Bool.{ne_eqb, cases_lt, le-ltb}
use Rattle.std.proofs.lemmas.Bool.Decides.{nat_tests}
use Rattle.std.proofs.lemmas.List.{append-nil}
use Rattle.std.proofs.lemmas.Fmt.{decimal_is_IsNumeral}
use Rattle.std.proofs.lemmas.Str.Parse.{digit_from_value}
use Rattle.asm_print.specs.Numbers.{hex_digit, hex_word, prefixed_word}
use Rattle.asm_lines.specs.declared.piece.Piece.TheVariants as piece
use Rattle.asm_lines.specs.declared.piece.Class.TheVariants as class
use Rattle.asm_lines.specs.Pieces.{is_class_part, is_part, pieces}
use Rattle.asm_lines.proofs.Words.{pieces_front}
use Rattle.mips_text_proof.proofs.Feeds.{in_line}

-- Whether a byte is a part of a word, by the tests of its class.
abbrev by_tests : Bool → Bool → Bool → Bool → Bool → Bool → Bool → Bool → Bool
by_tests space tab return comment comma colon open' close =
    is_class_part
    (cond (space || (tab || return)) class.Blank
    (cond comment class.Comment
    (cond comma (class.Mark piece.Comma)
    (cond colon (class.Mark piece.Colon)
    (cond open' (class.Mark piece.Open)
    (cond close (class.Mark piece.Close) class.Part))))))

pub part_above : (b : ℕ) → 48 ≤ b → b ≢ 58 → is_part b ≡ true
part_above b low no_colon =
    let e1 : b == 32 ≡ false = ne_eqb b 32 (λ e. omega (arith, e, low)) in
    let e2 : b == 9 ≡ false = ne_eqb b 9 (λ e. omega (arith, e, low)) in
    let e3 : b == 13 ≡ false = ne_eqb b 13 (λ e. omega (arith, e, low)) in
    let e4 : b == 35 ≡ false = ne_eqb b 35 (λ e. omega (arith, e, low)) in
    let e5 : b == 44 ≡ false = ne_eqb b 44 (λ e. omega (arith, e, low)) in
    let e6 : b == 58 ≡ false = ne_eqb b 58 no_colon in
    let e7 : b == 40 ≡ false = ne_eqb b 40 (λ e. omega (arith, e, low)) in
    let e8 : b == 41 ≡ false = ne_eqb b 41 (λ e. omega (arith, e, low)) in
    ap (λ t. by_tests t (b == 9) (b == 13) (b == 35) (b == 44) (b == 58) (b == 40) (b == 41)) e1
    ∙ ap (λ t. by_tests false t (b == 13) (b == 35) (b == 44) (b == 58) (b == 40) (b == 41)) e2
    ∙ ap (λ t. by_tests false false t (b == 35) (b == 44) (b == 58) (b == 40) (b == 41)) e3
    ∙ ap (λ t. by_tests false false false t (b == 44) (b == 58) (b == 40) (b == 41)) e4
    ∙ ap (λ t. by_tests false false false false t (b == 58) (b == 40) (b == 41)) e5
    ∙ ap (λ t. by_tests false false false false false t (b == 40) (b == 41)) e6
    ∙ ap (λ t. by_tests false false false false false false t (b == 41)) e7
    ∙ ap (λ t. by_tests false false false false false false false t) e8

pub in_line_above : (b : ℕ) → 48 ≤ b → in_line b ≡ true
in_line_above b low = ap not (ne_eqb b 10 (λ e. omega (arith, e, low)))

both : (a b : Bool) → a ≡ true → b ≡ true → (a && b) ≡ true
both true b g h = h
both false b g h = g

-- A word of a line: parts of words, and no line feed.
pub record Wordy (w : List ℕ) : Type 0 where
  pub parts : list_all is_part w ≡ true
  pub feeds : list_all in_line w ≡ true

pub wordy_nothing : Wordy []
wordy_nothing = record { parts = refl; feeds = refl }

pub wordy_more : (b : ℕ) (w : List ℕ) → 48 ≤ b → b ≢ 58 → Wordy w → Wordy (b ∷ w)
wordy_more b w low no_colon h = record {
  parts = both (is_part b) (list_all is_part w) (part_above b low no_colon) h.parts;
  feeds = both (in_line b) (list_all in_line w) (in_line_above b low) h.feeds;
}

wordy_digits : (ds : List ℕ) → parse.AllDigits 10 ds → Wordy ds
wordy_digits [] h = wordy_nothing
wordy_digits (c ∷ cs) h =
    let r = digit_from_value c h.0 in
    let low : 48 ≤ c = r.0 in
    let high : c ≤ 57 = r.1 in
    wordy_more c cs low (λ e. omega (arith, e, high)) (wordy_digits cs h.1)

pub wordy_decimal : (n : ℕ) → n < 4294967296 → Wordy (decimal n)
wordy_decimal n h = let wide : n < 2 ^ 64 = omega arith in let d = decimal_is_IsNumeral n wide in
    wordy_digits (decimal n) d.0.1

pub some_decimal : (n : ℕ) → n < 4294967296 → 0 < length (decimal n)
some_decimal n h = let wide : n < 2 ^ 64 = omega arith in let d = decimal_is_IsNumeral n wide in d.0.0

hex_low : (d : ℕ) → 48 ≤ hex_digit d
hex_low d = grind (arith, nat_tests)

hex_no_colon : (d : ℕ) → hex_digit d ≢ 58
hex_no_colon d e =
    elim (cases_lt d 10) [
      | inl lt ↦ (let v : hex_digit d ≡ d + 48 = ap (λ t. cond t (d + 48) (d + 87)) (lt-ltb d 10 lt) in
          absurd (omega (arith, e, v, lt)))
      | inr le ↦ (let v : hex_digit d ≡ d + 87 = ap (λ t. cond t (d + 48) (d + 87)) (le-ltb d 10 le) in
          absurd (omega (arith, e, v, le)))
    ]

pub wordy_hex : (d : ℕ) (w : List ℕ) → Wordy w → Wordy (hex_digit d ∷ w)
wordy_hex d w h = wordy_more (hex_digit d) w (hex_low d) (hex_no_colon d) h

pub wordy_word : (n : ℕ) → Wordy (prefixed_word n)
wordy_word n =
    wordy_more 48 (120 ∷ hex_word n) (omega arith) (λ e. omega (arith, e))
    (wordy_more 120 (hex_word n) (omega arith) (λ e. omega (arith, e))
    (wordy_hex (n / 268435456 % 16) _ (wordy_hex (n / 16777216 % 16) _ (wordy_hex (n / 1048576 % 16) _
    (wordy_hex (n / 65536 % 16) _ (wordy_hex (n / 4096 % 16) _ (wordy_hex (n / 256 % 16) _
    (wordy_hex (n / 16 % 16) _ (wordy_hex (n % 16) [] wordy_nothing)))))))))

-- A line of one word.
pub one_word : (w : List ℕ) → Wordy w → 0 < length w → pieces w ≡ piece.Word w ∷ []
unfolding pieces
one_word w h some = ap pieces (sym (append-nil w)) ∙ pieces_front w [] h.parts some refl

-- A word before a blank, a comma and a parenthesis.
pub word_blank : (w z : List ℕ) → Wordy w → 0 < length w → pieces (w ++ 32 ∷ z) ≡ piece.Word w ∷ pieces z
unfolding pieces
word_blank w z h some = pieces_front w (32 ∷ z) h.parts some refl

pub word_comma : (w z : List ℕ) → Wordy w → 0 < length w → pieces (w ++ 44 ∷ z) ≡ piece.Word w ∷ piece.Comma ∷ pieces z
unfolding pieces
word_comma w z h some = pieces_front w (44 ∷ z) h.parts some refl

pub word_opens : (w z : List ℕ) → Wordy w → 0 < length w → pieces (w ++ 40 ∷ z) ≡ piece.Word w ∷ piece.Open ∷ pieces z
unfolding pieces
word_opens w z h some = pieces_front w (40 ∷ z) h.parts some refl

pub word_closes : (w z : List ℕ) → Wordy w → 0 < length w → pieces (w ++ 41 ∷ z) ≡ piece.Word w ∷ piece.Close ∷ pieces z
unfolding pieces
word_closes w z h some = pieces_front w (41 ∷ z) h.parts some refl

-- ---- the operands of an instruction behind its name

pub pieces_one : (name a : List ℕ) → Wordy name → 0 < length name → Wordy a → 0 < length a →
    pieces (name ++ 32 ∷ a) ≡ piece.Word name ∷ piece.Word a ∷ []
pieces_one name a n n' h h' = word_blank name a n n' ∙ ap (λ ps. piece.Word name ∷ ps) (one_word a h h')

pub pieces_two : (name a b : List ℕ) → Wordy name → 0 < length name → Wordy a → 0 < length a → Wordy b → 0 < length b →
    pieces (name ++ 32 ∷ (a ++ 44 ∷ b)) ≡ piece.Word name ∷ piece.Word a ∷ piece.Comma ∷ piece.Word b ∷ []
pieces_two name a b n n' h h' i i' =
    word_blank name (a ++ 44 ∷ b) n n'
    ∙ ap (λ ps. piece.Word name ∷ ps) (word_comma a b h h')
    ∙ ap (λ ps. piece.Word name ∷ piece.Word a ∷ piece.Comma ∷ ps) (one_word b i i')

pub pieces_three : (name a b c : List ℕ) → Wordy name → 0 < length name → Wordy a → 0 < length a → Wordy b →
    0 < length b →
    Wordy c → 0 < length c →
    pieces (name ++ 32 ∷ (a ++ 44 ∷ (b ++ 44 ∷ c)))
    ≡ piece.Word name ∷ piece.Word a ∷ piece.Comma ∷ piece.Word b ∷ piece.Comma ∷ piece.Word c ∷ []
pieces_three name a b c n n' h h' i i' j j' =
    word_blank name (a ++ 44 ∷ (b ++ 44 ∷ c)) n n'
    ∙ ap (λ ps. piece.Word name ∷ ps) (word_comma a (b ++ 44 ∷ c) h h')
    ∙ ap (λ ps. piece.Word name ∷ piece.Word a ∷ piece.Comma ∷ ps) (word_comma b c i i')
    ∙ ap (λ ps. piece.Word name ∷ piece.Word a ∷ piece.Comma ∷ piece.Word b ∷ piece.Comma ∷ ps) (one_word c j j')
