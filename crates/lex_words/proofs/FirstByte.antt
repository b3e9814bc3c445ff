-- A word is one of the keywords that begin with its first byte, or none.
use Rattle.std.proofs.Common.{◌≡◌, [], ◌∷◌, refl, sym, subst, false}
use Rattle.std.specs.Prelude.{◌==◌, slice_index, None}
use Rattle.lex_words.specs.Words.{Text, spelt, keywords}
use Rattle.lex_words.specs.declared.keywords.Keyword.TheVariants as word

pub at_v : (w : Text) → slice_index w 0 ≡ 118 → spelt (word.Void ∷ word.Vspec ∷ []) w ≡ spelt keywords w
at_v [] e = refl
at_v (b ∷ w) e = subst (λ a. spelt (word.Void ∷ word.Vspec ∷ []) (a ∷ w) ≡ spelt keywords (a ∷ w)) (sym e) refl

pub at_c : (w : Text) → slice_index w 0 ≡ 99 →
    spelt (word.Char ∷ word.Case ∷ word.Continue ∷ word.Cspec ∷ word.Compile ∷ []) w ≡ spelt keywords w
at_c [] e = refl
at_c (b ∷ w) e = subst (λ a. spelt (word.Char ∷ word.Case ∷ word.Continue ∷ word.Cspec ∷ word.Compile ∷ []) (a ∷ w) ≡
    spelt keywords (a ∷ w)) (sym e) refl

pub at_s : (w : Text) → slice_index w 0 ≡ 115 →
    spelt (word.Short ∷ word.Signed ∷ word.Switch ∷ word.Sizeof ∷ []) w ≡ spelt keywords w
at_s [] e = refl
at_s (b ∷ w) e = subst (λ a. spelt (word.Short ∷ word.Signed ∷ word.Switch ∷ word.Sizeof ∷ []) (a ∷ w) ≡ spelt keywords
    (a ∷ w)) (sym e) refl

pub at_i : (w : Text) → slice_index w 0 ≡ 105 → spelt (word.Int ∷ word.If ∷ []) w ≡ spelt keywords w
at_i [] e = refl
at_i (b ∷ w) e = subst (λ a. spelt (word.Int ∷ word.If ∷ []) (a ∷ w) ≡ spelt keywords (a ∷ w)) (sym e) refl

pub at_l : (w : Text) → slice_index w 0 ≡ 108 → spelt (word.Long ∷ word.Local ∷ []) w ≡ spelt keywords w
at_l [] e = refl
at_l (b ∷ w) e = subst (λ a. spelt (word.Long ∷ word.Local ∷ []) (a ∷ w) ≡ spelt keywords (a ∷ w)) (sym e) refl

pub at_u : (w : Text) → slice_index w 0 ≡ 117 → spelt (word.Unsigned ∷ []) w ≡ spelt keywords w
at_u [] e = refl
at_u (b ∷ w) e = subst (λ a. spelt (word.Unsigned ∷ []) (a ∷ w) ≡ spelt keywords (a ∷ w)) (sym e) refl

pub at_e : (w : Text) → slice_index w 0 ≡ 101 → spelt (word.Else ∷ []) w ≡ spelt keywords w
at_e [] e = refl
at_e (b ∷ w) e = subst (λ a. spelt (word.Else ∷ []) (a ∷ w) ≡ spelt keywords (a ∷ w)) (sym e) refl

pub at_w : (w : Text) → slice_index w 0 ≡ 119 → spelt (word.While ∷ []) w ≡ spelt keywords w
at_w [] e = refl
at_w (b ∷ w) e = subst (λ a. spelt (word.While ∷ []) (a ∷ w) ≡ spelt keywords (a ∷ w)) (sym e) refl

pub at_d : (w : Text) → slice_index w 0 ≡ 100 → spelt (word.Do ∷ word.Default ∷ []) w ≡ spelt keywords w
at_d [] e = refl
at_d (b ∷ w) e = subst (λ a. spelt (word.Do ∷ word.Default ∷ []) (a ∷ w) ≡ spelt keywords (a ∷ w)) (sym e) refl

pub at_f : (w : Text) → slice_index w 0 ≡ 102 → spelt (word.For ∷ []) w ≡ spelt keywords w
at_f [] e = refl
at_f (b ∷ w) e = subst (λ a. spelt (word.For ∷ []) (a ∷ w) ≡ spelt keywords (a ∷ w)) (sym e) refl

pub at_b : (w : Text) → slice_index w 0 ≡ 98 → spelt (word.Break ∷ []) w ≡ spelt keywords w
at_b [] e = refl
at_b (b ∷ w) e = subst (λ a. spelt (word.Break ∷ []) (a ∷ w) ≡ spelt keywords (a ∷ w)) (sym e) refl

pub at_r : (w : Text) → slice_index w 0 ≡ 114 → spelt (word.Return ∷ []) w ≡ spelt keywords w
at_r [] e = refl
at_r (b ∷ w) e = subst (λ a. spelt (word.Return ∷ []) (a ∷ w) ≡ spelt keywords (a ∷ w)) (sym e) refl

pub at_p : (w : Text) → slice_index w 0 ≡ 112 → spelt (word.Param ∷ []) w ≡ spelt keywords w
at_p [] e = refl
at_p (b ∷ w) e = subst (λ a. spelt (word.Param ∷ []) (a ∷ w) ≡ spelt keywords (a ∷ w)) (sym e) refl

pub elsewhere : (w : Text)
    → (slice_index w 0 == 118) ≡ false
    → (slice_index w 0 == 99) ≡ false
    → (slice_index w 0 == 115) ≡ false
    → (slice_index w 0 == 105) ≡ false
    → (slice_index w 0 == 108) ≡ false
    → (slice_index w 0 == 117) ≡ false
    → (slice_index w 0 == 101) ≡ false
    → (slice_index w 0 == 119) ≡ false
    → (slice_index w 0 == 100) ≡ false
    → (slice_index w 0 == 102) ≡ false
    → (slice_index w 0 == 98) ≡ false
    → (slice_index w 0 == 114) ≡ false
    → (slice_index w 0 == 112) ≡ false
    → None ≡ spelt keywords w
elsewhere [] e0 e1 e2 e3 e4 e5 e6 e7 e8 e9 e10 e11 e12 = refl
elsewhere (b ∷ w) e0 e1 e2 e3 e4 e5 e6 e7 e8 e9 e10 e11 e12 =
    rw (e0, e1, e2, e3, e4, e5, e6, e7, e8, e9, e10, e11, e12) refl
