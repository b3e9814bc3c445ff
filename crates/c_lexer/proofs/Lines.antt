-- The lines of a text: a word has no line feed, so the place behind it is on its line.
use Rattle.std.proofs.Common.{◌≡◌, ℕ, ◌+◌, suc, true, false, ◌⊎◌, inl, inr, [], ◌∷◌, take, drop, refl, subst, ap, ◌∙◌}
use Rattle.std.proofs.Common.{arith, cond}
use Rattle.std.specs.Prelude.{◌==◌}
use Rattle.std.specs.List.{prefix_len, count_by}
use Rattle.std.proofs.Math.Seq.{take-add}
use Rattle.std.proofs.lemmas.List.Sums.{sum_by-append, sum_by-cons}
use Rattle.std.proofs.lemmas.Bool.{ne_eqb, cases_Bool}
use Rattle.c_lexer.specs.Lex.{Text, is_in, line_at}
use Rattle.c_lexer.specs.declared.classes.Class.TheVariants as class

-- a line feed goes on no name
not_a_feed : (b : ℕ) → is_in class.Name b ≡ true → (b == 10) ≡ false
not_a_feed b h = ne_eqb b 10 (λ e.
    let f : is_in class.Name 10 ≡ true = subst (λ b. is_in class.Name b ≡ true) e h in
    let q : false ≡ true = f in
    let r : ⊥ = cc in r)

pub word_is_flat : (z : Text) → count_by (λ b. b == 10) (take (prefix_len (is_in class.Name) z) z) ≡ 0
word_is_flat [] = refl
word_is_flat (b ∷ z) = by-case (word_is_flat z) (cases_Bool (is_in class.Name b))
  where
    by-case : count_by (λ b. b == 10) (take (prefix_len (is_in class.Name) z) z) ≡ 0
        → (is_in class.Name b ≡ true) ⊎ (is_in class.Name b ≡ false)
        → count_by (λ b. b == 10) (take (prefix_len (is_in class.Name) (b ∷ z)) (b ∷ z)) ≡ 0
    by-case rest (inl e) =
        let one : 1 + prefix_len (is_in class.Name) z ≡ suc (prefix_len (is_in class.Name) z) = omega arith in
        let count : prefix_len (is_in class.Name) (b ∷ z) ≡ suc (prefix_len (is_in class.Name) z) =
        ap (λ t. cond t (1 + prefix_len (is_in class.Name) z) 0) e ∙ one in
        let step : count_by (λ b. b == 10) (take (prefix_len (is_in class.Name) (b ∷ z)) (b ∷ z)) ≡ cond (b == 10) 1 0 +
        count_by (λ b. b == 10) (take (prefix_len (is_in class.Name) z) z) =
        ap (λ n. count_by (λ b. b == 10) (take n (b ∷ z))) count
        ∙ sum_by-cons (λ b. cond (b == 10) 1 0) b (take (prefix_len (is_in class.Name) z) z) in
        let none : ◌≡◌ {A = ℕ} (cond {A = ℕ} (b == 10) 1 0) 0 = ap (λ t. cond {A = ℕ} t 1 0) (not_a_feed b e) in
        omega (arith, step, none, rest)
    by-case rest (inr e) = ap
        (λ t. count_by (λ b. b == 10) (take (cond t (1 + prefix_len (is_in class.Name) z) 0) (b ∷ z))) e

-- what has no line feed is on one line
pub flat_goes : (text : Text) (at n : ℕ) → count_by (λ b. b == 10) (take n (drop at text)) ≡ 0 →
    line_at text (at + n) ≡ line_at text at
flat_goes text at n h =
    let whole : count_by (λ b. b == 10) (take (at + n) text) ≡ count_by (λ b. b == 10) (take at text) + count_by
    (λ b. b == 10) (take n (drop at text)) =
    ap (count_by (λ b. b == 10)) (take-add at n text) ∙
    sum_by-append (λ b. cond (b == 10) 1 0) (take at text) (take n (drop at text)) in
    omega (arith, whole, h)
