-- The first line of a text.
use Rattle.std.proofs.Common.{◌≡◌, ℕ, suc, ◌+◌, ◌<◌, Bool, true, false, not, ◌==◌, cond, List, [], ◌∷◌, length, take}
use Rattle.std.proofs.Common.{drop, refl, sym, ap, ◌∙◌, arith}
use Rattle.std.specs.List.{prefix_len}
use Rattle.asm_passes.specs.Cut.{front, lines}

-- The bytes of a line, and whether one is no line feed.
abbrev pub in_line : ℕ → Bool
in_line b = not (b == 10)

-- The lines of a text that is not empty, by the length of the first one.
abbrev pub Cuts : List ℕ → ℕ → Type 0
Cuts z n = lines z ≡ take n z ∷ lines (drop (n + 1) z)

cuts_front : (b : ℕ) (z : List ℕ) → b == 10 ≡ false → 0 < length z → Cuts z (prefix_len in_line z) →
    Cuts (b ∷ z) (prefix_len in_line (b ∷ z))
cuts_front b z e some rest =
    let n : prefix_len in_line (b ∷ z) ≡ suc (prefix_len in_line z) =
    ap (λ t. cond (not t) (1 + prefix_len in_line z) 0) e ∙ (omega arith) in
    let m : suc (prefix_len in_line z) + 1 ≡ suc (prefix_len in_line z + 1) = omega arith in
    ap (λ t. cond t ([] ∷ lines z) (front b (lines z))) e
    ∙ ap (front b) rest
    ∙ sym (ap (λ k. take k (b ∷ z) ∷ lines (drop (k + 1) (b ∷ z))) n
    ∙ ap (λ k. (b ∷ take (prefix_len in_line z) z) ∷ lines (drop k (b ∷ z))) m)

cuts_last : (b : ℕ) → b == 10 ≡ false → Cuts (b ∷ []) (prefix_len in_line (b ∷ []))
cuts_last b e =
    let n : prefix_len in_line (b ∷ []) ≡ 1 = ap (λ t. cond (not t) 1 0) e in
    ap (λ t. cond t ([] ∷ []) ((b ∷ []) ∷ [])) e
    ∙ sym (ap (λ k. take k (b ∷ []) ∷ lines (drop (k + 1) (b ∷ []))) n)

cuts_feed : (b : ℕ) (z : List ℕ) → b == 10 ≡ true → Cuts (b ∷ z) (prefix_len in_line (b ∷ z))
cuts_feed b z e =
    let n : prefix_len in_line (b ∷ z) ≡ 0 = ap (λ t. cond (not t) (1 + prefix_len in_line z) 0) e in
    ap (λ t. cond t ([] ∷ lines z) (front b (lines z))) e
    ∙ sym (ap (λ k. take k (b ∷ z) ∷ lines (drop (k + 1) (b ∷ z))) n)

cuts_by : (b : ℕ) (z : List ℕ) (t : Bool) → b == 10 ≡ t → (0 < length z → Cuts z (prefix_len in_line z)) →
    Cuts (b ∷ z) (prefix_len in_line (b ∷ z))
cuts_by b z true e rest = cuts_feed b z e
cuts_by b [] false e rest = cuts_last b e
cuts_by b (d ∷ z) false e rest =
    let some : 0 < length (d ∷ z) = omega arith in
    cuts_front b (d ∷ z) e some (rest some)

-- The first line ends before the first line feed, or with the text.
pub cuts : (z : List ℕ) → 0 < length z → Cuts z (prefix_len in_line z)
cuts [] h = absurd (omega (arith, h))
cuts (b ∷ z) h = cuts_by b z (b == 10) refl (cuts z)
