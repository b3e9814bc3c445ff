-- A vector that was written as a slice.
use Rattle.std.proofs.Common.{◌≡◌, ℕ, ◌+◌, ◌-◌, ◌≤◌, List, ◌++◌, length, take, drop, ap, sym, ◌∙◌, arith}
use Rattle.std.proofs.lemmas.List.{drop_all, append-nil, length-append, length-drop, length-take-le, take_all}
use Rattle.std.proofs.Math.Seq.{take-length, take-append_seam, take-append-add}

pub whole : {A : Type 0} (new old : List A) (n : ℕ) → length new ≡ length old → n ≡ length old →
    take n (new ++ drop (length new) old) ≡ new
whole new old n same all =
    let past : length old ≤ length new = omega (arith, same) in
    ap (λ z. take n (new ++ z)) (drop_all (length new) old past) ∙ ap (take n) (append-nil new)
    ∙ ap (λ m. take m new) (all ∙ sym same) ∙ take-length new

-- a vector whose elements from one on were written as a slice
pub tail_written : {A : Type 0} (v ws : List A) (i n : ℕ) → n ≡ length v → i + length ws ≡ n →
    take n ((take i v ++ (ws ++ drop (length ws) (drop i v)))
    ++ drop (length (take i v ++ (ws ++ drop (length ws) (drop i v)))) v) ≡ take i v ++ ws
tail_written v ws i n all long =
    let new = take i v ++ ws in
    let gone = drop_all (length ws) (drop i v) (omega (arith, all, long, length-drop i v)) in
    let same : take i v ++ (ws ++ drop (length ws) (drop i v)) ≡ new =
    ap (λ z. take i v ++ (ws ++ z)) gone ∙ ap (λ z. take i v ++ z) (append-nil ws) in
    let low : i ≤ length v = omega (arith, all, long) in
    ap (λ zs. take n (zs ++ drop (length zs) v)) same
    ∙ whole new v n (omega (arith, length-append (take i v) ws, length-take-le i v low, all, long)) all

-- a vector that was filled up, written behind what it had, and cut behind that
pub grown : {A : Type 0} (old pad v own rest : List A) (n len i k : ℕ) → v ≡ take n old ++ pad → len ≡ n
    → i ≡ length old → i ≤ len → k ≡ length own → take (i + k) (take i v ++ (own ++ rest)) ≡ old ++ own
grown old pad v own rest n len i k filled same at low many =
    let all : take n old ≡ old = take_all n old (omega (arith, same, at, low)) in
    let front : take i v ≡ old =
    ap (λ z. take i z) (filled ∙ ap (λ z. z ++ pad) all) ∙ ap (λ j. take j (old ++ pad)) at
    ∙ take-append_seam old pad in
    ap (λ z. take (i + k) (z ++ (own ++ rest))) front
    ∙ ap (λ j. take (j + k) (old ++ (own ++ rest))) at
    ∙ take-append-add old (own ++ rest) k
    ∙ ap (λ z. old ++ z) (ap (λ j. take j (own ++ rest)) many ∙ take-append_seam own rest)

-- a vector over whose elements from one on others were written
pub rewritten : (v out w own : List ℕ) (q first n : ℕ) → n ≡ length v → q ≡ first → first ≤ n
    → out ≡ take (n - q) (drop q v) → w ≡ own ++ drop (length own) out → length own ≤ length out
    → take n ((take q v ++ (w ++ drop (length w) (drop q v)))
    ++ drop (length (take q v ++ (w ++ drop (length w) (drop q v)))) v)
    ≡ take first v ++ (own ++ drop (length own) (drop first v))
rewritten v out w own q first n all at low out_is w_is fits =
    let dropped = length-drop q v in
    let past : length (drop q v) ≤ n - q = omega (arith, dropped, all) in
    let whole_out : out ≡ drop q v = out_is ∙ take_all (n - q) (drop q v) past in
    let long : q + length w ≡ n =
    omega (
      arith,
      ap length w_is,
      length-append own (drop (length own) out),
      length-drop (length own) out,
      fits,
      ap length whole_out,
      dropped,
      all,
      at,
      low,
    ) in
    tail_written v w q n all long
    ∙ ap (λ z. take q v ++ z) (w_is ∙ ap (λ z. own ++ drop (length own) z) whole_out)
    ∙ ap (λ j. take j v ++ (own ++ drop (length own) (drop j v))) at
