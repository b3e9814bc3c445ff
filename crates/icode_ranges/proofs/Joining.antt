-- What blocks say of liveness.
use Rattle.std.proofs.Common.{ℕ, zero, suc, ◌+◌, ◌-◌, ◌≡◌, ◌≢◌, ◌<◌, ◌≤◌, ◌⊎◌, ◌&&◌, inl, inr, Bool, true, false}
use Rattle.std.proofs.Common.{List, [], ◌∷◌, Option, Some, None}
use Rattle.std.proofs.Common.{length, get_or, refl, sym, ◌∙◌, ap, subst, arith}
use Rattle.std.proofs.lemmas.List.{get_or_past}
use Rattle.std.proofs.lemmas.Bool.{cases_lt}
use Rattle.icode_ops.specs.declared.op.Op.{Op}
use Rattle.icode_ops.specs.declared.op.Op.TheVariants.{ReturnZero}
use Rattle.icode_ops.specs.Flow.{op_at, uses, defines, falls, goes_to, label_of, Follows}
use Rattle.icode_ops.specs.Live.{Live, Used, Passes, IsAt}
use Rattle.icode_ranges.specs.Blocks.{is_none, joins, block_of, Clear, DefinedIn, Exposed, LiveAfter}

record Joined (before op : Op) : Type 0 where
  falls : falls before ≡ true
  goes : goes_to before ≡ None
  label : label_of op ≡ None

joined : (a b : Op) → joins a b ≡ true → Joined a b
joined a b e = by-case (falls a) (goes_to a) (label_of b) refl refl refl e
  where
    by-case : (f : Bool) (g l : Option ℕ) → falls a ≡ f → goes_to a ≡ g → label_of b ≡ l
        → (f && (is_none g && is_none l)) ≡ true → Joined a b
    by-case true None None x y z h = record { falls = x; goes = y; label = z }
    by-case true None (Some k) x y z h = absurd (cc)
    by-case true (Some k) l x y z h = absurd (cc)
    by-case false g l x y z h = absurd (cc)

-- an op is the first of its block or joins the one before
abbrev Or : List Op → ℕ → Type 0
Or ops p = (block_of ops p ≡ p)
    ⊎ ((q : ℕ) × (p ≡ suc q) × (block_of ops p ≡ block_of ops q) × Joined (op_at ops q) (op_at ops p))

which : (ops : List Op) (p : ℕ) → Or ops p
which ops zero = inl refl
which ops (suc q) = by-case (joins (op_at ops q) (op_at ops (suc q))) refl
  where
    by-case : (b : Bool) → joins (op_at ops q) (op_at ops (suc q)) ≡ b → Or ops (suc q)
    by-case true e = inr (q, refl, rw e refl, joined (op_at ops q) (op_at ops (suc q)) e)
    by-case false e = inl (rw e refl)

-- the first op of a block comes no later
pub block_low : (ops : List Op) (p : ℕ) → block_of ops p ≤ p
block_low ops zero = omega arith
block_low ops (suc q) = by-case (which ops (suc q)) (block_low ops q)
  where
    by-case : Or ops (suc q) → block_of ops q ≤ q → block_of ops (suc q) ≤ suc q
    by-case (inl e) low = omega (arith, e)
    by-case (inr h) low =
        let r : h.0 ≡ q = omega (arith, h.1) in
        omega (arith, h.2, ap (block_of ops) r, low)

-- ops between the first of a block and one of its ops are of the block, and each joins the one before
record Between (ops : List Op) (d j : ℕ) : Type 0 where
  same : block_of ops j ≡ block_of ops d
  joins : j < d → Joined (op_at ops j) (op_at ops (suc j)) × (block_of ops (suc j) ≡ block_of ops d)

between : (ops : List Op) (d j : ℕ) → block_of ops d ≤ j → j ≤ d → Between ops d j
between ops zero j l h = let e : j ≡ zero = omega arith in
    record { same = ap (block_of ops) e; joins = λ k. absurd (omega arith) }
between ops (suc q) j l h =
    by-case (which ops (suc q)) (cases_lt j (suc q)) (λ low high. between ops q j low high)
  where
    by-case : Or ops (suc q) → (j < suc q) ⊎ (suc q ≤ j) → (block_of ops q ≤ j → j ≤ q → Between ops q j)
        → Between ops (suc q) j
    by-case o (inr ge) before =
        let e : j ≡ suc q = omega arith in
        record { same = ap (block_of ops) e; joins = λ k. absurd (omega arith) }
    by-case (inl e) (inl lt) before = absurd (omega (arith, e))
    by-case (inr w) (inl lt) before =
        let r : q ≡ w.0 = omega (arith, w.1) in
        let same : block_of ops (suc q) ≡ block_of ops q = w.2 ∙ ap (block_of ops) (sym r) in
        let b = before (omega (arith, same)) (omega arith) in
        record {
          same = b.same ∙ sym same;
          joins = λ k. here b same (subst (λ z. Joined (op_at ops z) (op_at ops (suc q))) (sym r) w.3) (cases_lt j q);
        }
      where
        here : Between ops q j → block_of ops (suc q) ≡ block_of ops q
            → Joined (op_at ops q) (op_at ops (suc q)) → (j < q) ⊎ (q ≤ j)
            → Joined (op_at ops j) (op_at ops (suc j)) × (block_of ops (suc j) ≡ block_of ops (suc q))
        here b same jo (inl k) = let x = b.joins k in (x.0, x.1 ∙ sym same)
        here b same jo (inr k) =
            let e : q ≡ j = omega arith in
            subst (λ z. Joined (op_at ops z) (op_at ops (suc z)) × (block_of ops (suc z) ≡ block_of ops (suc q))) e
            (jo, refl)

-- control that comes to an op comes to the first of a block, or from the op before in its block
pub inside : (ops : List Op) (p q : ℕ) → Follows ops p q
    → (block_of ops q ≡ q) ⊎ ((q ≡ suc p) × (block_of ops q ≡ block_of ops p))
inside ops p q f = by-case (which ops q)
  where
    by-case : Or ops q → (block_of ops q ≡ q) ⊎ ((q ≡ suc p) × (block_of ops q ≡ block_of ops p))
    by-case (inl e) = inl e
    by-case (inr w) = come f.2
      where
        come : ((falls (op_at ops p) ≡ true) × (q ≡ p + 1))
            ⊎ ((l : ℕ) × (goes_to (op_at ops p) ≡ Some l) × (label_of (op_at ops q) ≡ Some l))
            → (block_of ops q ≡ q) ⊎ ((q ≡ suc p) × (block_of ops q ≡ block_of ops p))
        come (inl h) =
            let e : w.0 ≡ p = omega (arith, w.1, h.1) in
            inr (omega (arith, h.1), w.2 ∙ ap (block_of ops) e)
        come (inr h) = let g = w.3.label in absurd (cc (g, h.2))

-- an op from which control goes to the first of a block is the last of its own
pub last : (ops : List Op) (p q d : ℕ) → Follows ops p q → block_of ops q ≡ q
    → block_of ops d ≡ block_of ops p → d ≤ p
last ops p q d f e s = by-case (cases_lt p d)
  where
    by-case : (p < d) ⊎ (d ≤ p) → d ≤ p
    by-case (inr h) = h
    by-case (inl h) =
        let x = (between ops d p (omega (arith, s, block_low ops p)) (omega arith)).joins h in
        come x.0 x.1 f.2
      where
        come : Joined (op_at ops p) (op_at ops (suc p)) → block_of ops (suc p) ≡ block_of ops d
            → ((falls (op_at ops p) ≡ true) × (q ≡ p + 1))
            ⊎ ((l : ℕ) × (goes_to (op_at ops p) ≡ Some l) × (label_of (op_at ops q) ≡ Some l))
            → d ≤ p
        come j b (inl g) =
            let r : q ≡ suc p = omega (arith, g.1) in
            let t : block_of ops q ≡ block_of ops d = ap (block_of ops) r ∙ b in
            absurd (omega (arith, e, t, r, s, block_low ops p))
        come j b (inr g) = let n = j.goes in absurd (cc (n, g.1))

-- a place before which v is live is a place of the ops
pub live-within : (ops : List Op) (v p : ℕ) → Live ops v p → p < length ops
live-within ops v p (Used q u) = by-case (cases_lt q (length ops))
  where
    by-case : (q < length ops) ⊎ (length ops ≤ q) → q < length ops
    by-case (inl l) = l
    by-case (inr h) =
        let r : uses v ReturnZero ≡ true = subst (λ o. uses v o ≡ true)
        (get_or_past ops q ReturnZero h) u in
        absurd (cc)
live-within ops v p (Passes q t f d l) = f.0

-- what is live before an op with nothing in its block before it that defines it is live before the block
pub live-first : (ops : List Op) (v p : ℕ) → Live ops v p → Clear ops v (block_of ops p) p
    → Live ops v (block_of ops p)
live-first ops v zero l c = l
live-first ops v (suc q) l c = by-case (which ops (suc q)) (λ m d. live-first ops v q m d)
  where
    by-case : Or ops (suc q) → (Live ops v q → Clear ops v (block_of ops q) q → Live ops v (block_of ops q))
        → Live ops v (block_of ops (suc q))
    by-case (inl e) before = subst (Live ops v) (sym e) l
    by-case (inr w) before =
        let r : w.0 ≡ q = omega (arith, w.1) in
        let same : block_of ops (suc q) ≡ block_of ops q = w.2 ∙ ap (block_of ops) r in
        let j : Joined (op_at ops q) (op_at ops (suc q)) =
        subst (λ z. Joined (op_at ops z) (op_at ops (suc q))) r w.3 in
        let n = live-within ops v (suc q) l in
        let low = block_low ops q in
        let pass : Live ops v q =
        Passes q (suc q) (omega (arith, n), n, inl (j.falls, omega arith))
        (c q (omega (arith, same, low)) (omega arith)) l in
        subst (Live ops v) (sym same)
        (before pass (λ d a b. c d (omega (arith, same, a)) (omega arith)))

-- what is live after an op is live before it or defined by it
pub at-after : (ops : List Op) (v p : ℕ) → LiveAfter ops v p → IsAt ops v p
at-after ops v p a = by-case (defines v (op_at ops p)) refl
  where
    by-case : (b : Bool) → defines v (op_at ops p) ≡ b → IsAt ops v p
    by-case true e = inr e
    by-case false e = inl (Passes p a.0 a.1 e a.2)

-- what is live after an op whose block doesn't define it is live before that block
pub live-through : (ops : List Op) (v p : ℕ) → LiveAfter ops v p → (DefinedIn ops v (block_of ops p) → ⊥)
    → Live ops v (block_of ops p)
live-through ops v p a none =
    live-first ops v p (Passes p a.0 a.1 (clear p (block_low ops p) (omega arith)) a.2)
    (λ d l h. clear d l (omega arith))
  where
    clear : (d : ℕ) → block_of ops p ≤ d → d ≤ p → defines v (op_at ops d) ≡ false
    clear d l h = by-case (defines v (op_at ops d)) refl
      where
        by-case : (b : Bool) → defines v (op_at ops d) ≡ b → defines v (op_at ops d) ≡ false
        by-case false e = e
        by-case true e = absurd (none (d, (between ops p d l h).same, e))

-- an exposed use is live before its block
pub live-exposed : (ops : List Op) (v p : ℕ) → Exposed ops v p → Live ops v (block_of ops p)
live-exposed ops v p h = live-first ops v p (Used p h.0) h.1

-- v is live before its use or after a passage, so it has a use
pub live-used : (ops : List Op) (v p : ℕ) → Live ops v p → (q : ℕ) × (uses v (op_at ops q) ≡ true)
live-used ops v p (Used q u) = (q, u)
live-used ops v p (Passes q t f d l) = live-used ops v t l

joined-suc : (ops : List Op) (q : ℕ) → joins (op_at ops q) (op_at ops (suc q)) ≡ true
    → block_of ops (suc q) ≡ block_of ops q
joined-suc ops q e = rw e refl

apart-suc : (ops : List Op) (q : ℕ) → joins (op_at ops q) (op_at ops (suc q)) ≡ false → block_of ops (suc q) ≡ suc q
apart-suc ops q e = rw e refl

pub block-joined : (ops : List Op) (p : ℕ) → p ≢ 0 → joins (op_at ops (p - 1)) (op_at ops p) ≡ true
    → block_of ops p ≡ block_of ops (p - 1)
block-joined ops zero n e = absurd (n refl)
block-joined ops (suc q) n e =
    let s : suc q - 1 ≡ q = omega arith in
    joined-suc ops q (subst (λ z. joins (op_at ops z) (op_at ops (suc q)) ≡ true) s e) ∙ ap (block_of ops) (sym s)

pub block-apart : (ops : List Op) (p : ℕ) → p ≢ 0 → joins (op_at ops (p - 1)) (op_at ops p) ≡ false
    → block_of ops p ≡ p
block-apart ops zero n e = refl
block-apart ops (suc q) n e =
    let s : suc q - 1 ≡ q = omega arith in
    apart-suc ops q (subst (λ z. joins (op_at ops z) (op_at ops (suc q)) ≡ false) s e)
