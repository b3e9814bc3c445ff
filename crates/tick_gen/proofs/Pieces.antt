-- Pieces of a text, one behind the other.
use Rattle.std.proofs.Common.{rules, ◌≡◌, ℕ, zero, suc, ◌+◌, List, ◌++◌, Result, Ok, Err, sym, ap, ◌∙◌}
use Rattle.std.proofs.Common.{append_assoc, append-nil, arith, OnOk, if◌then◌else◌}
use Rattle.std.specs.Prelude.{is_ok}
use Rattle.std.specs.List.{flat_map, range_with_len}

-- what an addition that succeeded gives
pub added : {A E : Type 0} (r : Result A E) (now old piece wanted : List ℕ) →
    now ≡ (if is_ok r then old ++ piece else old) → old ++ piece ≡ wanted → OnOk r (now ≡ wanted)
added (Ok x) now old piece wanted is e = is ∙ e
added (Err x) now old piece wanted is e = tt

-- two pieces with a number behind each, and an end
pub joined : (a b c d e n first second third : List ℕ) → second ≡ first ++ a ++ b → third ≡ second ++ c ++ d →
    third ++ (e ++ n) ≡ first ++ ((a ++ b ++ c ++ d ++ e) ++ n)
joined a b c d e n first second third p q =
    ap (λ t. t ++ (e ++ n)) (q ∙ ap (λ t. t ++ c ++ d) p) ∙ search (rules, append_assoc)

-- the lines of the numbers from a on, and one more
last : (f : ℕ → List ℕ) (a n k : ℕ) → a + n ≡ k →
    flat_map f (range_with_len a (suc n)) ≡ flat_map f (range_with_len a n) ++ f k
last f a zero k e = append-nil (f a) ∙ ap f (omega (arith, e))
last f a (suc n) k e =
    ap (λ l. f a ++ l) (last f (a + 1) n k (omega (arith, e)))
    ∙ sym (append_assoc (f a) (flat_map f (range_with_len (a + 1) n)) (f k))

pub one_more : (f : ℕ → List ℕ) (k : ℕ) (first now later : List ℕ) → now ≡ first ++ flat_map f (range_with_len 0 k) →
    later ≡ now ++ f k → later ≡ first ++ flat_map f (range_with_len 0 (k + 1))
one_more f k first now later is e =
    let suc_is : k + 1 ≡ suc k = omega arith in
    e ∙ ap (λ l. l ++ f k) is ∙ append_assoc first (flat_map f (range_with_len 0 k)) (f k)
    ∙ ap (λ l. first ++ l) (sym (last f 0 k k (omega arith)) ∙ ap (λ m. flat_map f (range_with_len 0 m)) (sym suc_is))
