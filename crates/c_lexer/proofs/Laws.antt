-- Laws of the definitions: the bytes of a piece are passed, and what was found stands before what is still to come.
use Rattle.std.proofs.Common.{◌≡◌, ℕ, zero, suc, ◌+◌, ◌-◌, ◌<◌, ◌≤◌, cond, List, [], ◌∷◌, ◌++◌, length, drop}
use Rattle.std.proofs.Common.{length-drop, refl, sym, ap, ◌∙◌, arith, append_assoc, lt-ltb, true, false, ◌⊎◌, inl, inr}
use Rattle.std.specs.Prelude.{Ok, Err}
use Rattle.std.proofs.lemmas.List.{drop-drop, drop_all, length-append, append-nil}
use Rattle.std.specs.List.{prefix_len}
use Rattle.std.proofs.lemmas.Bool.{le-ltb, cases_Bool}
use Rattle.c_lexer.specs.declared.classes.Class.TheVariants as class
use Rattle.c_lexer.specs.Lex.{Text, is_in, past, tokens, lex, piece, Lexed, before, token_at, fault_at, by_piece}
use Rattle.c_lexer.specs.Lex.{max_tokens}
use Rattle.c_lexer.specs.declared.pieces.Piece.TheVariants.{Gap, Taken, Bad}
use Rattle.tick_tree.specs.declared.token.Token.{Token}
use Rattle.tick_tree.specs.declared.token.TokenKind.{TokenKind}
use Rattle.tick_tree.specs.declared.fault.FaultKind.{FaultKind}
use Rattle.tick_tree.specs.declared.fault.FaultKind.TheVariants.{TooManyTokens}

drop_pred : {X : Type 0} (n : ℕ) (b : X) (z : List X) → 1 ≤ n → drop (n - 1) z ≡ drop n (b ∷ z)
drop_pred zero b z h = absurd (omega arith)
drop_pred (suc n) b z h = let e : suc n - 1 ≡ n = omega arith in ap (λ k. drop k z) e

lex_passes : (text : Text) (at count n : ℕ) (z : Text) → lex text at count n z ≡ lex text (at + n) count 0 (drop n z)
lex_passes text at count zero z = let e : at ≡ at + 0 = omega arith in ap (λ k. lex text k count 0 z) e
lex_passes text at count (suc n) [] = refl
lex_passes text at count (suc n) (b ∷ z) =
    let e : at + 1 + n ≡ at + suc n = omega arith in
    lex_passes text (at + 1) count n z ∙ ap (λ k. lex text k count 0 (drop n z)) e

-- the bytes of a piece are passed
piece_passes : (text : Text) (at count n b : ℕ) (z : Text) → 1 ≤ n →
    lex text (at + 1) count (n - 1) z ≡ lex text (at + n) count 0 (drop n (b ∷ z))
piece_passes text at count n b z h =
    let e : at + 1 + (n - 1) ≡ at + n = omega arith in
    lex_passes text (at + 1) count (n - 1) z
    ∙ ap (λ k. lex text k count 0 (drop (n - 1) z)) e
    ∙ ap (λ y. lex text (at + n) count 0 y) (drop_pred n b z h)

lex_gap : (text : Text) (at count n : ℕ) (z : Text) → 0 < length z → piece z ≡ Gap n → 1 ≤ n →
    lex text at count 0 z ≡ lex text (at + n) count 0 (drop n z)
lex_gap text at count n [] some e h = absurd (omega (arith, some))
lex_gap text at count n (b ∷ z) some e h =
    ap (by_piece text count at (λ c left. lex text (at + 1) c left z)) e ∙ piece_passes text at count n b z h

lex_taken : (text : Text) (at count : ℕ) (k : TokenKind) (n : ℕ) (z : Text) → 0 < length z → piece z ≡ Taken k n →
    1 ≤ n → count < max_tokens →
    lex text at count 0 z ≡ before (token_at text k at n) (lex text (at + n) (count + 1) 0 (drop n z))
lex_taken text at count k n [] some e h few = absurd (omega (arith, some))
lex_taken text at count k n (b ∷ z) some e h few =
    ap (by_piece text count at (λ c left. lex text (at + 1) c left z)) e
    ∙ ap (λ t. cond t (before (token_at text k at n) (lex text (at + 1) (count + 1) (n - 1) z))
    (Err (fault_at text TooManyTokens at))) (lt-ltb count max_tokens few)
    ∙ ap (before (token_at text k at n)) (piece_passes text at (count + 1) n b z h)

lex_full : (text : Text) (at count : ℕ) (k : TokenKind) (n : ℕ) (z : Text) → 0 < length z → piece z ≡ Taken k n →
    max_tokens ≤ count → lex text at count 0 z ≡ Err (fault_at text TooManyTokens at)
lex_full text at count k n [] some e full = absurd (omega (arith, some))
lex_full text at count k n (b ∷ z) some e full =
    ap (by_piece text count at (λ c left. lex text (at + 1) c left z)) e
    ∙ ap (λ t. cond t (before (token_at text k at n) (lex text (at + 1) (count + 1) (n - 1) z))
    (Err (fault_at text TooManyTokens at))) (le-ltb count max_tokens full)

lex_bad : (text : Text) (at count : ℕ) (f : FaultKind) (z : Text) → 0 < length z → piece z ≡ Bad f →
    lex text at count 0 z ≡ Err (fault_at text f at)
lex_bad text at count f [] some e = absurd (omega (arith, some))
lex_bad text at count f (b ∷ z) some e = ap (by_piece text count at (λ c left. lex text (at + 1) c left z)) e

-- what was found, with what is still to come
abbrev pub after : List Token → Lexed → Lexed
after front (Ok ts) = Ok (front ++ ts)
after front (Err f) = Err f

after_before : (front : List Token) (t : Token) (r : Lexed) → after front (before t r) ≡ after (front ++ t ∷ []) r
after_before front t (Ok ts) = ap Ok (sym (append_assoc front (t ∷ []) ts))
after_before front t (Err f) = refl

abbrev pub to_come : Text → List Token → ℕ → Lexed
to_come text found at = after found (lex text at (length found) 0 (drop at text))

nonempty : (text : Text) (at : ℕ) → at < length text → 0 < length (drop at text)
nonempty text at h = omega (arith, length-drop at text)

pub comes_gap : (text : Text) (found : List Token) (at n : ℕ) → at < length text → piece (drop at text) ≡ Gap n →
    1 ≤ n → to_come text found (at + n) ≡ to_come text found at
comes_gap text found at n some e h =
    sym (ap (after found) (lex_gap text at (length found) n (drop at text) (nonempty text at some) e h ∙
    ap (λ y. lex text (at + n) (length found) 0 y) (drop-drop n at text)))

pub comes_taken : (text : Text) (found : List Token) (at : ℕ) (k : TokenKind) (n : ℕ) → at < length text →
    piece (drop at text) ≡ Taken k n → 1 ≤ n → length found < max_tokens →
    to_come text (found ++ token_at text k at n ∷ []) (at + n) ≡ to_come text found at
comes_taken text found at k n some e h few =
    let more : length found + 1 ≡ length (found ++ token_at text k at n ∷ []) =
    omega (arith, length-append found (token_at text k at n ∷ [])) in
    sym (ap (after found) (lex_taken text at (length found) k n (drop at text) (nonempty text at some) e h few)
    ∙ after_before found (token_at text k at n) (lex text (at + n) (length found + 1) 0 (drop n (drop at text)))
    ∙ ap (λ y. after (found ++ token_at text k at n ∷ []) (lex text (at + n) (length found + 1) 0 y))
    (drop-drop n at text)
    ∙ ap (λ m. after (found ++ token_at text k at n ∷ []) (lex text (at + n) m 0 (drop (at + n) text))) more)

pub comes_full : (text : Text) (found : List Token) (at : ℕ) (k : TokenKind) (n : ℕ) → at < length text →
    piece (drop at text) ≡ Taken k n → max_tokens ≤ length found →
    to_come text found at ≡ Err (fault_at text TooManyTokens at)
comes_full text found at k n some e full =
    ap (after found) (lex_full text at (length found) k n (drop at text) (nonempty text at some) e full)

pub comes_bad : (text : Text) (found : List Token) (at : ℕ) (f : FaultKind) → at < length text →
    piece (drop at text) ≡ Bad f → to_come text found at ≡ Err (fault_at text f at)
comes_bad text found at f some e =
    ap (after found) (lex_bad text at (length found) f (drop at text) (nonempty text at some) e)

pub comes_nothing : (text : Text) (found : List Token) (at : ℕ) → at ≡ length text → to_come text found at ≡ Ok found
comes_nothing text found at e =
    ap (λ y. after found (lex text at (length found) 0 y)) (drop_all at text (omega arith)) ∙ ap Ok (append-nil found)

-- ---- blanks

gap_at : (b : ℕ) (z : Text) → is_in class.Blank b ≡ true → piece (b ∷ z) ≡ Gap (past class.Blank (b ∷ z) 1)
unfolding piece
gap_at b z e = rw e refl

comes_blanks_by : (text : Text) (found : List Token) (at : ℕ) (z : Text) → drop at text ≡ z →
    to_come text found (at + prefix_len (is_in class.Blank) z) ≡ to_come text found at
comes_blanks_by text found at [] e = let same : at + 0 ≡ at = omega arith in ap (to_come text found) same
comes_blanks_by text found at (b ∷ z) e = by-case (cases_Bool (is_in class.Blank b))
  where
    by-case : (is_in class.Blank b ≡ true) ⊎ (is_in class.Blank b ≡ false) →
        to_come text found (at + prefix_len (is_in class.Blank) (b ∷ z)) ≡ to_come text found at
    by-case (inl t) =
        let count : prefix_len (is_in class.Blank) (b ∷ z) ≡ 1 + prefix_len (is_in class.Blank) z =
        ap (λ t. cond t (1 + prefix_len (is_in class.Blank) z) 0) t in
        let some : at < length text = omega (arith, length-drop at text, ap length e) in
        let here : piece (drop at text) ≡ Gap (1 + prefix_len (is_in class.Blank) z) = ap piece e ∙ gap_at b z t in
        ap (λ n. to_come text found (at + n)) count ∙
        comes_gap text found at (1 + prefix_len (is_in class.Blank) z) some here (omega arith)
    by-case (inr f) =
        let same : at + 0 ≡ at = omega arith in
        ap (λ t. to_come text found (at + cond t (1 + prefix_len (is_in class.Blank) z) 0)) f ∙
        ap (to_come text found) same

-- blanks are passed
pub comes_blanks : (text : Text) (found : List Token) (at : ℕ) →
    to_come text found (past class.Blank text at) ≡ to_come text found at
comes_blanks text found at = comes_blanks_by text found at (drop at text) refl

after_nothing : (r : Lexed) → after [] r ≡ r
after_nothing (Ok ts) = refl
after_nothing (Err f) = refl

-- at the start, blanks are passed
pub comes_all : (text : Text) → to_come text [] (past class.Blank text 0) ≡ tokens text
comes_all text = comes_blanks text [] 0 ∙ after_nothing (lex text 0 0 0 text)
