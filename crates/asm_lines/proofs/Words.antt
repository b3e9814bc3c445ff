-- The word at the front of a line: the bytes of a word, and then what is no part of it.
use Rattle.std.proofs.Common.{◌≡◌, ℕ, suc, ◌+◌, ◌<◌, ◌≤◌, Bool, true, false, ◌&&◌, cond, List, [], ◌∷◌, ◌++◌, length}
use Rattle.std.proofs.Common.{take, drop, get_or, refl, sym, ap, ◌∙◌, arith, take-append-drop}
use Rattle.std.specs.List.{prefix_len, list_all}
use Rattle.std.proofs.lemmas.List.{append-nil}
use Rattle.asm_lines.specs.declared.piece.Piece.{Piece}
use Rattle.asm_lines.specs.declared.piece.Piece.TheVariants as piece
use Rattle.asm_lines.specs.declared.piece.Class.{Class}
use Rattle.asm_lines.specs.declared.piece.Class.TheVariants as class
use Rattle.asm_lines.specs.Pieces.{class_of, is_class_part, is_part, closed_by, closed, split_by, split, pieces}

both_left : (a b : Bool) → (a && b) ≡ true → a ≡ true
both_left true b h = refl
both_left false b h = cc

both_right : (a b : Bool) → (a && b) ≡ true → b ≡ true
both_right true b h = h
both_right false b h = cc

part_class : (c : Class) → is_class_part c ≡ true → c ≡ class.Part
part_class class.Blank h = cc
part_class class.Comment h = cc
part_class (class.Mark p) h = cc
part_class class.Part h = refl

-- The bytes of a word stand before the word that follows them at once.
pub split_front : (w z : List ℕ) → list_all is_part w ≡ true →
    split (w ++ z) ≡ record { word = w ++ (split z).word; more = (split z).more }
split_front [] z h = refl
split_front (b ∷ w) z h =
    ap (λ c. split_by b c (split (w ++ z))) (part_class (class_of b) (both_left (is_part b) (list_all is_part w) h))
    ∙ ap (λ s. split_by b class.Part s) (split_front w z (both_right (is_part b) (list_all is_part w) h))

closed_some : (w : List ℕ) (more : List Piece) → 0 < length w → closed_by w more ≡ piece.Word w ∷ more
closed_some [] more h = absurd (omega (arith, h))
closed_some (b ∷ w) more h = refl

-- A word, and then what begins with no word.
pub pieces_front : (w z : List ℕ) → list_all is_part w ≡ true → 0 < length w → (split z).word ≡ [] →
    pieces (w ++ z) ≡ piece.Word w ∷ pieces z
unfolding pieces
pieces_front w z all some none =
    ap closed (split_front w z all)
    ∙ ap (λ x. closed_by (w ++ x) (split z).more) none
    ∙ ap (λ x. closed_by x (split z).more) (append-nil w)
    ∙ closed_some w (split z).more some
    ∙ ap (λ x. piece.Word w ∷ closed_by x (split z).more) (sym none)

-- ---- the front of a line as it stands

len_by : (b : ℕ) (z : List ℕ) (c : Class) → class_of b ≡ c →
    prefix_len is_part (b ∷ z) ≡ cond (is_class_part c) (1 + prefix_len is_part z) 0
len_by b z c e = ap (λ c. cond (is_class_part c) (1 + prefix_len is_part z) 0) e

-- A byte that is no part of a word.
no_word_here : (b : ℕ) (z : List ℕ) (c : Class) → class_of b ≡ c → is_class_part c ≡ false → (split (b ∷ z)).word ≡ []
no_word_here b z class.Blank e h = ap (λ c. (split_by b c (split z)).word) e
no_word_here b z class.Comment e h = ap (λ c. (split_by b c (split z)).word) e
no_word_here b z (class.Mark p) e h = ap (λ c. (split_by b c (split z)).word) e
no_word_here b z class.Part e h = cc

no_word_by : (b : ℕ) (z : List ℕ) (t : Bool) → is_part b ≡ t → (split (drop (prefix_len is_part z) z)).word ≡ [] →
    (split (drop (prefix_len is_part (b ∷ z)) (b ∷ z))).word ≡ []
no_word_by b z true e rest =
    let n : prefix_len is_part (b ∷ z) ≡ suc (prefix_len is_part z) =
    ap (λ t. cond t (1 + prefix_len is_part z) 0) e ∙ (omega arith) in
    ap (λ m. (split (drop m (b ∷ z))).word) n ∙ rest
no_word_by b z false e rest =
    let n : prefix_len is_part (b ∷ z) ≡ 0 = ap (λ t. cond t (1 + prefix_len is_part z) 0) e in
    ap (λ m. (split (drop m (b ∷ z))).word) n ∙ no_word_here b z (class_of b) refl e

-- Behind the word at the front no word goes on.
pub no_word : (z : List ℕ) → (split (drop (prefix_len is_part z) z)).word ≡ []
no_word [] = refl
no_word (b ∷ z) = no_word_by b z (is_part b) refl (no_word z)

all_parts_by : (b : ℕ) (z : List ℕ) (t : Bool) → is_part b ≡ t →
    list_all is_part (take (prefix_len is_part z) z) ≡ true →
    list_all is_part (take (prefix_len is_part (b ∷ z)) (b ∷ z)) ≡ true
all_parts_by b z true e rest =
    let n : prefix_len is_part (b ∷ z) ≡ suc (prefix_len is_part z) =
    ap (λ t. cond t (1 + prefix_len is_part z) 0) e ∙ (omega arith) in
    ap (λ m. list_all is_part (take m (b ∷ z))) n
    ∙ ap (λ t. t && list_all is_part (take (prefix_len is_part z) z)) e ∙ rest
all_parts_by b z false e rest =
    let n : prefix_len is_part (b ∷ z) ≡ 0 = ap (λ t. cond t (1 + prefix_len is_part z) 0) e in
    ap (λ m. list_all is_part (take m (b ∷ z))) n

pub all_parts : (z : List ℕ) → list_all is_part (take (prefix_len is_part z) z) ≡ true
all_parts [] = refl
all_parts (b ∷ z) = all_parts_by b z (is_part b) refl (all_parts z)

-- A line that begins with a part of a word.
pub some_parts : (z : List ℕ) → 0 < length z → class_of (get_or z 0 0) ≡ class.Part → 0 < prefix_len is_part z
some_parts [] h e = absurd (omega (arith, h))
some_parts (b ∷ z) h e =
    let n : prefix_len is_part (b ∷ z) ≡ 1 + prefix_len is_part z = len_by b z class.Part e in
    omega (arith, n)

-- A line that begins with a word.
pub pieces_word : (z : List ℕ) (n : ℕ) → n ≡ prefix_len is_part z → n ≤ length z → 0 < n →
    pieces z ≡ piece.Word (take n z) ∷ pieces (drop n z)
pieces_word z n e within some =
    let parts : list_all is_part (take n z) ≡ true = ap (λ m. list_all is_part (take m z)) e ∙ all_parts z in
    let none : (split (drop n z)).word ≡ [] = ap (λ m. (split (drop m z)).word) e ∙ no_word z in
    let len : 0 < length (take n z) = grind arith in
    ap pieces (sym (take-append-drop n z)) ∙ pieces_front (take n z) (drop n z) parts len none
