-- Words written behind words that were written.
use Rattle.std.proofs.Common.{ℕ, ◌≡◌, ◌+◌, ◌≤◌, List, [], ◌++◌, length, take, drop, refl, ap, sym, ◌∙◌, arith}
use Rattle.std.proofs.Common.{append_assoc, length-append, add_assoc, zero-add}
use Rattle.std.proofs.Math.Seq.{take-append_seam, drop-append-add}
use Rattle.std.proofs.lemmas.List.{length-take-le, drop-drop, take-append-drop}
use Rattle.icode_expand.specs.Labels.{spliced}

behind : (X R t : List ℕ) (m : ℕ) → m ≡ length X → spliced (X ++ R) m t ≡ X ++ (t ++ drop (length t) R)
behind X R t m e = rw (e, take-append_seam X R, drop-append-add X R (length t)) refl

pub spliced_more : (d : List ℕ) (n : ℕ) (s t : List ℕ) (m : ℕ) → n ≤ length d → m ≡ n + length s
    → spliced (spliced d n s) m t ≡ spliced d n (s ++ t)
spliced_more d n s t m h e =
    let R : List ℕ = drop (n + length s) d in
    let X : List ℕ = take n d ++ s in
    let long : m ≡ length X = rw (length-append (take n d) s, length-take-le n d h) e in
    ap (λ (z : List ℕ). spliced z m t) (sym (append_assoc (take n d) s R))
    ∙ (behind X R t m long
    ∙ rw (drop-drop (length t) (n + length s) d, length-append s t, add_assoc n (length s) (length t))
    (simp append_assoc))

pub spliced_none : (d : List ℕ) (n : ℕ) → spliced d n [] ≡ d
spliced_none d n = let z : n + 0 ≡ n = omega arith in rw z (take-append-drop n d)

pub spliced_front : (d s : List ℕ) → spliced d 0 s ≡ s ++ drop (length s) d
spliced_front d s = rw (zero-add (length s)) refl
