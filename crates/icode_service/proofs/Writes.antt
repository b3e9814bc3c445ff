-- Words that are written one by one, and spills that are counted one by one.
use Rattle.std.proofs.Common.{ℕ, zero, suc, ◌+◌, ◌≡◌, ◌<◌, ◌≤◌, List, [], ◌∷◌, length, drop}
use Rattle.std.proofs.Common.{get_or, drop-cons, sym, ap, ◌∙◌, arith}
use Rattle.std.specs.Prelude.{slice_index}
use Rattle.std.proofs.lemmas.List.{drop_all}
use Rattle.code_arena.specs.Arena.{Arena, written}
use Rattle.icode_ops.specs.declared.interval.Interval.{Interval}
use Rattle.icode_ops.specs.Live.{Each}
use Rattle.mips_model.specs.Choices.{one_spill, spilled}
use Rattle.mips_model.specs.CodeServices.{written_from}

-- the rest of a list begins with its next item
rest_is : {X : Type 0} → (xs : List X) (i : ℕ) (d : X) → i < length xs → drop i xs ≡ get_or xs i d ∷ drop (i + 1) xs
rest_is xs i d h =
    let e : i + 1 ≡ suc i = omega arith in
    rw e (drop-cons xs i d h)

-- one word more
pub write_step :
    (at i : ℕ) (ws : List ℕ) (w : ℕ) (a after whole : Arena) → i < length ws → w ≡ get_or ws i 0 →
    after ≡ written at w a → written_from at (drop i ws) a ≡ whole →
    written_from (at + 1) (drop (i + 1) ws) after ≡ whole
write_step at i ws w a after whole h e p q =
    let n : at + 1 ≡ suc at = omega arith in
    let front : drop i ws ≡ w ∷ drop (i + 1) ws =
    rest_is ws i 0 h ∙ ap (λ (x : ℕ). x ∷ drop (i + 1) ws) (sym e) in
    ap (λ (m : ℕ). written_from m (drop (i + 1) ws) after) n
    ∙ (ap (λ (x : Arena). written_from (suc at) (drop (i + 1) ws) x) p
    ∙ (sym (ap (λ (xs : List ℕ). written_from at xs a) front) ∙ q))

-- no word is left
pub write_end :
    (at i : ℕ) (ws : List ℕ) (a whole : Arena) → length ws ≤ i → written_from at (drop i ws) a ≡ whole → a ≡ whole
write_end at i ws a whole h q = sym (ap (λ (xs : List ℕ). written_from at xs a) (drop_all i ws h)) ∙ q

-- ---- spills

pub each_at :
    (P : Interval → Type 0) (xs : List Interval) (i : ℕ) (d : Interval) → Each P xs → i < length xs → P (get_or xs i d)
each_at P [] i d e h = absurd (omega arith)
each_at P (x ∷ xs) zero d e h = e.0
each_at P (x ∷ xs) (suc i) d e h = each_at P xs i d e.1 (omega arith)

sum_step :
    (count n one rest front whole : ℕ) → n ≡ one → front ≡ one + rest → count + front ≡ whole →
    (count + n) + rest ≡ whole
sum_step count n one rest front whole a b c = omega arith

-- one interval more
pub spill_step :
    (places : List ℕ) (xs : List Interval) (i : ℕ) (d : Interval) (count n whole : ℕ) → i < length xs →
    n ≡ one_spill (slice_index places (get_or xs i d).reg) → count + spilled places (drop i xs) ≡ whole →
    (count + n) + spilled places (drop (i + 1) xs) ≡ whole
spill_step places xs i d count n whole h e q =
    sum_step count n (one_spill (slice_index places (get_or xs i d).reg)) (spilled places (drop (i + 1) xs))
    (spilled places (drop i xs)) whole e (ap (spilled places) (rest_is xs i d h)) q

-- no interval is left
pub spill_end :
    (places : List ℕ) (xs : List Interval) (i count whole : ℕ) → length xs ≤ i →
    count + spilled places (drop i xs) ≡ whole → count ≡ whole
spill_end places xs i count whole h q =
    let e : spilled places (drop i xs) ≡ 0 = ap (spilled places) (drop_all i xs h) in
    omega (arith, e, q)
