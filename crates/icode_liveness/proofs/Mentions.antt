-- What one mention more makes of the first and the last places.
use Rattle.std.proofs.Common.{ℕ, ◌+◌, ◌*◌, ◌/◌, ◌≡◌, ◌≢◌, ◌<◌, ◌≤◌, inl, inr, Bool, true, false, eqb}
use Rattle.std.proofs.Common.{List, Option, Some, None, length, get_or, set, refl, sym, ◌∙◌, ap, subst, arith}
use Rattle.std.proofs.Common.{get_or-set_other, get_or-set_same}
use Rattle.std.proofs.Math.ListN.{length-set}
use Rattle.std.proofs.lemmas.Bool.Decides.{nat_tests}
use Rattle.icode_ops.specs.declared.op.Op.{Op}
use Rattle.icode_ops.specs.Flow.{defined, first_use, second_use, op_at}
use Rattle.icode_ops.specs.Finished.{Below, InRange}
use Rattle.icode_ranges.specs.Tables.{MentionedAt, Spanned, AreSpans, marked, with_low}
use Rattle.icode_liveness.proofs.Filling.{Or, Mentioned, mentioned-to, mentioned-from}

pub length-marked : (o : Option ℕ) (word : ℕ) (words : List ℕ) → length (marked o word words) ≡ length words
length-marked None word words = refl
length-marked (Some r) word words = length-set words r word

pub length-low : (o : Option ℕ) (place : ℕ) (lows highs : List ℕ) → length (with_low o place lows highs) ≡ length lows
length-low None place lows highs = refl
length-low (Some r) place lows highs = by-case (eqb (get_or highs r 0) 0) refl
  where
    by-case : (b : Bool) → eqb (get_or highs r 0) 0 ≡ b → length (with_low (Some r) place lows highs) ≡ length lows
    by-case true e = rw e (length-set lows r place)
    by-case false e = rw e refl

same-spanned : (P Q : ℕ → ℕ → Type 0) (v low high : ℕ) → ((p : ℕ) → P v p → Q v p) → ((p : ℕ) → Q v p → P v p)
    → Spanned P v low high → Spanned Q v low high
same-spanned P Q v low high f g (inl h) = inl (h.0, λ p q. h.1 p (g p q))
same-spanned P Q v low high f g (inr h) = inr (h.0, h.1, f low h.2, f h.0 h.3, λ p q. h.4 p (g p q))

pub spans-start : (ops : List Op) (registers : ℕ) (lows highs : List ℕ)
    → ((v : ℕ) → v < registers → get_or highs v 0 ≡ 0) → AreSpans (MentionedAt ops 0) registers lows highs
spans-start ops registers lows highs zeros v l = inl (zeros v l, λ p h. absurd (omega (arith, h.0)))

-- one mention more, of a place that is no lower than those before
pub spans-one : (P : ℕ → ℕ → Type 0) (registers slot place : ℕ) (o : Option ℕ) (lows highs : List ℕ)
    → slot / 3 ≡ place → ((v q : ℕ) → P v q → q ≤ place) → Below registers o
    → registers ≤ length lows → registers ≤ length highs → AreSpans P registers lows highs
    → AreSpans (Or P o slot) registers (with_low o place lows highs) (marked o (place + 1) highs)
spans-one P registers slot place None lows highs s top b rl rh a v l =
    same-spanned P (Or P None slot) v _ _ (λ p h. inl h) (λ p h. back p h) (a v l)
  where
    back : (p : ℕ) → Or P None slot v p → P v p
    back p (inl h) = h
    back p (inr h) = absurd (cc)
spans-one P registers slot place (Some r) lows highs s top b rl rh a v l = by-case (eqb v r) refl
  where
    new : List ℕ
    new = with_low (Some r) place lows highs

    at-r : r ≡ v → Spanned P r (get_or lows r 0) (get_or highs r 0)
        → Spanned (Or P (Some r) slot) r (get_or new r 0) (get_or (set highs r (place + 1)) r 0)
    at-r e (inl h) =
        let z : eqb (get_or highs r 0) 0 ≡ true = grind (arith, nat_tests, h.0) in
        let low : get_or new r 0 ≡ place = rw z (get_or-set_same lows r place 0 (omega arith)) in
        inr (
          place,
          get_or-set_same highs r (place + 1) 0 (omega arith) ∙ omega arith,
          inr (refl, low ∙ sym s),
          inr (refl, sym s),
          λ p k. only p low k,
        )
      where
        only : (p : ℕ) → get_or new r 0 ≡ place → Or P (Some r) slot r p → (get_or new r 0 ≤ p) × (p ≤ place)
        only p low (inl k) = absurd (h.1 p k)
        only p low (inr k) = (omega (arith, low, k.1), omega (arith, k.1))
    at-r e (inr h) =
        let z : eqb (get_or highs r 0) 0 ≡ false = grind (arith, nat_tests, h.1) in
        let low : get_or new r 0 ≡ get_or lows r 0 = rw z refl in
        inr (
          place,
          get_or-set_same highs r (place + 1) 0 (omega arith) ∙ omega arith,
          inl (subst (P r) (sym low) h.2),
          inr (refl, sym s),
          λ p k. only p low k,
        )
      where
        only : (p : ℕ) → get_or new r 0 ≡ get_or lows r 0 → Or P (Some r) slot r p
            → (get_or new r 0 ≤ p) × (p ≤ place)
        only p low (inl k) = (omega (arith, low, (h.4 p k).0), top r p k)
        only p low (inr k) =
            let t = top r (get_or lows r 0) h.2 in (omega (arith, low, k.1, t), omega (arith, k.1))

    low-other : v ≢ r → get_or new v 0 ≡ get_or lows v 0
    low-other n = here (eqb (get_or highs r 0) 0) refl
      where
        here : (t : Bool) → eqb (get_or highs r 0) 0 ≡ t → get_or new v 0 ≡ get_or lows v 0
        here true e = rw e (get_or-set_other lows r v place 0 n)
        here false e = rw e refl

    back : v ≢ r → (p : ℕ) → Or P (Some r) slot v p → P v p
    back n p (inl h) = h
    back n p (inr h) = let e : v ≡ r = cc in absurd (n e)

    by-case : (t : Bool) → eqb v r ≡ t
        → Spanned (Or P (Some r) slot) v (get_or new v 0) (get_or (set highs r (place + 1)) v 0)
    by-case true e =
        let same : r ≡ v = grind (arith, nat_tests) in
        subst
        (λ z. Spanned (Or P (Some r) slot) z (get_or new z 0) (get_or (set highs r (place + 1)) z 0)) same
        (at-r same (a r b))
    by-case false e =
        let other : v ≢ r = λ q. grind (arith, nat_tests) in
        let old : Spanned (Or P (Some r) slot) v (get_or lows v 0) (get_or highs v 0) =
        same-spanned P (Or P (Some r) slot) v _ _ (λ p h. inl h) (back other) (a v l) in
        subst (λ z. Spanned (Or P (Some r) slot) v z (get_or (set highs r (place + 1)) v 0)) (sym (low-other other))
        (subst (λ z. Spanned (Or P (Some r) slot) v (get_or lows v 0) z)
        (sym (get_or-set_other highs r v (place + 1) 0 other)) old)

-- the mentions of one op more
pub spans-more : (ops : List Op) (n registers : ℕ) (lows highs : List ℕ) → InRange registers (op_at ops n)
    → registers ≤ length lows → registers ≤ length highs → AreSpans (MentionedAt ops n) registers lows highs
    → AreSpans (MentionedAt ops (n + 1)) registers
    (with_low (second_use (op_at ops n)) n
    (with_low (first_use (op_at ops n)) n (with_low (defined (op_at ops n)) n lows highs)
    (marked (defined (op_at ops n)) (n + 1) highs))
    (marked (first_use (op_at ops n)) (n + 1) (marked (defined (op_at ops n)) (n + 1) highs)))
    (marked (second_use (op_at ops n)) (n + 1)
    (marked (first_use (op_at ops n)) (n + 1) (marked (defined (op_at ops n)) (n + 1) highs)))
spans-more ops n registers lows highs range rl rh a v l =
    let d = defined (op_at ops n) in
    let f = first_use (op_at ops n) in
    let s = second_use (op_at ops n) in
    let l1 = with_low d n lows highs in
    let h1 = marked d (n + 1) highs in
    let l2 = with_low f n l1 h1 in
    let h2 = marked f (n + 1) h1 in
    let el1 = length-low d n lows highs in
    let eh1 = length-marked d (n + 1) highs in
    let el2 = length-low f n l1 h1 in
    let eh2 = length-marked f (n + 1) h1 in
    let P0 = MentionedAt ops n in
    let P1 = Or P0 d (3 * n) in
    let P2 = Or P1 f (3 * n + 1) in
    let a1 = spans-one P0 registers (3 * n) n d lows highs (omega arith) (λ u q h. omega (arith, h.0)) range.0 rl rh a
    in
    let a2 = spans-one P1 registers (3 * n + 1) n f l1 h1 (omega arith) top1 range.1 (omega (arith, el1))
    (omega (arith, eh1)) a1 in
    let a3 = spans-one P2 registers (3 * n + 2) n s l2 h2 (omega arith) top2 range.2 (omega (arith, el1, el2))
    (omega (arith, eh1, eh2)) a2 in
    same-spanned (Mentioned ops n) (MentionedAt ops (n + 1)) v _ _ (λ p h. mentioned-to ops n v p h)
    (λ p h. mentioned-from ops n v p h) (a3 v l)
  where
    top1 : (u q : ℕ) → Or (MentionedAt ops n) (defined (op_at ops n)) (3 * n) u q → q ≤ n
    top1 u q (inl h) = omega (arith, h.0)
    top1 u q (inr h) = omega (arith, h.1)

    top2 : (u q : ℕ)
        → Or (Or (MentionedAt ops n) (defined (op_at ops n)) (3 * n)) (first_use (op_at ops n)) (3 * n + 1) u q → q ≤ n
    top2 u q (inl h) = top1 u q h
    top2 u q (inr h) = omega (arith, h.1)

-- the same, of what code has written
pub spans-written : (ops : List Op) (n registers : ℕ) (lows highs l1 h1 l2 h2 l3 h3 : List ℕ) (d f s : Option ℕ)
    → InRange registers (op_at ops n) → registers ≤ length lows → registers ≤ length highs
    → d ≡ defined (op_at ops n) → f ≡ first_use (op_at ops n) → s ≡ second_use (op_at ops n)
    → l1 ≡ with_low d n lows highs → h1 ≡ marked d (n + 1) highs
    → l2 ≡ with_low f n l1 h1 → h2 ≡ marked f (n + 1) h1
    → l3 ≡ with_low s n l2 h2 → h3 ≡ marked s (n + 1) h2
    → AreSpans (MentionedAt ops n) registers lows highs → AreSpans (MentionedAt ops (n + 1)) registers l3 h3
spans-written ops n registers lows highs l1 h1 l2 h2 l3 h3 d f s range rl rh ed ef es el1 eh1 el2 eh2 el3 eh3 a =
    subst (λ z. AreSpans (MentionedAt ops (n + 1)) registers z h3) (sym L3)
    (subst (λ z. AreSpans (MentionedAt ops (n + 1)) registers
    (with_low (second_use op) n
    (with_low (first_use op) n (with_low (defined op) n lows highs) (marked (defined op) (n + 1) highs))
    (marked (first_use op) (n + 1) (marked (defined op) (n + 1) highs))) z) (sym H3)
    (spans-more ops n registers lows highs range rl rh a))
  where
    op : Op
    op = op_at ops n

    L1 : l1 ≡ with_low (defined (op_at ops n)) n lows highs
    L1 = el1 ∙ ap (λ o. with_low o n lows highs) ed

    H1 : h1 ≡ marked (defined (op_at ops n)) (n + 1) highs
    H1 = eh1 ∙ ap (λ o. marked o (n + 1) highs) ed

    L2 : l2 ≡ with_low (first_use (op_at ops n)) n (with_low (defined (op_at ops n)) n lows highs)
        (marked (defined (op_at ops n)) (n + 1) highs)
    L2 =
        el2 ∙ (ap (λ o. with_low o n l1 h1) ef ∙ (ap (λ z. with_low (first_use (op_at ops n)) n z h1) L1
        ∙ ap (λ z. with_low (first_use (op_at ops n)) n (with_low (defined (op_at ops n)) n lows highs) z) H1))

    H2 : h2 ≡ marked (first_use (op_at ops n)) (n + 1) (marked (defined (op_at ops n)) (n + 1) highs)
    H2 = eh2 ∙ (ap (λ o. marked o (n + 1) h1) ef ∙ ap (λ z. marked (first_use (op_at ops n)) (n + 1) z) H1)

    L3 : l3 ≡ with_low (second_use (op_at ops n)) n
        (with_low (first_use (op_at ops n)) n (with_low (defined (op_at ops n)) n lows highs)
        (marked (defined (op_at ops n)) (n + 1) highs))
        (marked (first_use (op_at ops n)) (n + 1) (marked (defined (op_at ops n)) (n + 1) highs))
    L3 =
        el3 ∙ (ap (λ o. with_low o n l2 h2) es ∙ (ap (λ z. with_low (second_use (op_at ops n)) n z h2) L2
        ∙ ap (λ z. with_low (second_use (op_at ops n)) n
        (with_low (first_use (op_at ops n)) n (with_low (defined (op_at ops n)) n lows highs)
        (marked (defined (op_at ops n)) (n + 1) highs)) z) H2))

    H3 : h3 ≡ marked (second_use (op_at ops n)) (n + 1)
        (marked (first_use (op_at ops n)) (n + 1) (marked (defined (op_at ops n)) (n + 1) highs))
    H3 = eh3 ∙ (ap (λ o. marked o (n + 1) h2) es ∙ ap (λ z. marked (second_use (op_at ops n)) (n + 1) z) H2)
