-- What the search has found when no block is left to look at.
use Rattle.std.proofs.Common.{ℕ, zero, suc, ◌+◌, ◌/◌, ◌≡◌, ◌<◌, ◌≤◌, ◌⊎◌, ◌||◌, inl, inr, Bool, true, false, List, []}
use Rattle.std.proofs.Common.{◌∷◌}
use Rattle.std.proofs.Common.{Option, Some, None, length, get_or, refl, sym, ◌∙◌, ap, subst, arith, length-append}
use Rattle.std.proofs.lemmas.List.{get_or_append_left, get_or_past}
use Rattle.std.proofs.lemmas.Bool.{cases_lt}
use Rattle.collections.specs.Members.{is_in}
use Rattle.icode_ops.specs.declared.op.Op.{Op}
use Rattle.icode_ops.specs.declared.op.Op.TheVariants.{ReturnZero}
use Rattle.icode_ops.specs.declared.interval.Interval.{Interval}
use Rattle.icode_ops.specs.Flow.{op_at, uses, defines, Follows}
use Rattle.icode_ops.specs.Live.{Live, Used, Passes, IsAt, IsInterval}
use Rattle.icode_ranges.specs.Lists.{In, Each, Extends}
use Rattle.icode_ranges.specs.Blocks.{block_of, Clear, DefinedIn, Exposed}
use Rattle.icode_ranges.specs.Tables.{mentions, MentionedAt, DefinedAt, ExposedAt, IsTable, IsSpanOf}
use Rattle.icode_ranges.specs.Search.{AreDefining, Taken, BlockOf, BlockIn, Wider, Grown, IsIntervalOf}
use Rattle.icode_ranges.proofs.Lists.{Each-weaker, Each-In, Each-append, In-get_or, position, extends-In}
use Rattle.icode_ranges.proofs.Joining.{inside, last, block_low, live-within, live-through, live-exposed, live-used}
use Rattle.icode_ranges.proofs.Joining.{at-after}
use Rattle.icode_ranges.proofs.Walking.{In-member, member-In}

-- how far the search has come: each block that was found is right, those with a use that shows are found, and what
-- leads to one of the first i is taken; the range holds the mentions and the first i blocks
pub record Reaching (ops : List Op) (v : ℕ) (defining found : List ℕ) (i : ℕ) (x : Interval) : Type 0 where
  pub reg : x.reg ≡ v
  pub start : IsAt ops v x.start
  pub end : IsAt ops v x.end
  pub mentioned : (p : ℕ) → MentionedAt ops (length ops) v p → (x.start ≤ p) × (p ≤ x.end)
  pub sound : Each (Live ops v) found
  pub seeds : (p : ℕ) → Exposed ops v p → In (block_of ops p) found
  pub low : (j : ℕ) → j < i → x.start ≤ get_or found j 0
  pub closed : (j : ℕ) → j < i → (p : ℕ) → Follows ops p (get_or found j 0) → Taken ops defining found x p

-- a mention is of an op of the list
pub at-op : (ops : List Op) (v p : ℕ) → mentions v (op_at ops p) ≡ true → MentionedAt ops (length ops) v p
at-op ops v p h = by-case (cases_lt p (length ops))
  where
    by-case : (p < length ops) ⊎ (length ops ≤ p) → MentionedAt ops (length ops) v p
    by-case (inl l) = (l, h)
    by-case (inr g) =
        let r : mentions v ReturnZero ≡ true = subst (λ o. mentions v o ≡ true)
        (get_or_past ops p ReturnZero g) h in
        absurd (cc)

pub used-mention : (ops : List Op) (v p : ℕ) → uses v (op_at ops p) ≡ true → mentions v (op_at ops p) ≡ true
used-mention ops v p u = by-case (defines v (op_at ops p))
  where
    by-case : (b : Bool) → (b || uses v (op_at ops p)) ≡ true
    by-case true = refl
    by-case false = u

pub defined-mention : (ops : List Op) (v p : ℕ) → defines v (op_at ops p) ≡ true → mentions v (op_at ops p) ≡ true
defined-mention ops v p d = rw d refl

-- a register that is at an op is mentioned
pub at-mention : (ops : List Op) (v p : ℕ) → IsAt ops v p → (q : ℕ) × MentionedAt ops (length ops) v q
at-mention ops v p (inl l) = let u = live-used ops v p l in (u.0, at-op ops v u.0 (used-mention ops v u.0 u.1))
at-mention ops v p (inr d) = (p, at-op ops v p (defined-mention ops v p d))

-- an op of some that defines v, or none does
defined-or-clear : (ops : List Op) (v a n : ℕ)
    → ((d : ℕ) × (d < n) × (defines v (op_at ops d) ≡ true) × (a ≤ d)) ⊎ Clear ops v a n
defined-or-clear ops v a zero = inr (λ d l h. absurd (omega arith))
defined-or-clear ops v a (suc n) = by-case (defined-or-clear ops v a n) (defines v (op_at ops n)) refl (cases_lt n a)
  where
    by-case : ((d : ℕ) × (d < n) × (defines v (op_at ops d) ≡ true) × (a ≤ d)) ⊎ Clear ops v a n
        → (b : Bool) → defines v (op_at ops n) ≡ b → (n < a) ⊎ (a ≤ n)
        → ((d : ℕ) × (d < suc n) × (defines v (op_at ops d) ≡ true) × (a ≤ d)) ⊎ Clear ops v a (suc n)
    by-case (inl h) b e s = inl (h.0, omega (arith, h.1), h.2, h.3)
    by-case (inr c) true e (inr s) = inl (n, omega arith, e, s)
    by-case (inr c) true e (inl s) = inr (λ d l h. absurd (omega arith))
    by-case (inr c) false e s = inr (λ d l h. more c e d l h (cases_lt d n))
      where
        more : Clear ops v a n → defines v (op_at ops n) ≡ false → (d : ℕ) → a ≤ d → d < suc n
            → (d < n) ⊎ (n ≤ d) → defines v (op_at ops d) ≡ false
        more c e d l h (inl k) = c d l k
        more c e d l h (inr k) =
            let r : n ≡ d = omega arith in
            subst (λ z. defines v (op_at ops z) ≡ false) r e

module _ (ops : List Op) (v : ℕ) (defining found : List ℕ) (x : Interval)
    (r : Reaching ops v defining found (length found) x)
    (known : (b : ℕ) → In b found → AreDefining ops v defining) where
  -- what follows on an op that is found is taken
  taken : (p q : ℕ) → Follows ops p q → In q found → Taken ops defining found x p
  taken p q f i =
      let k = position q found i in
      r.closed k.0 k.1 p (subst (λ z. Follows ops p z) (sym k.2) f)

  -- each block that v is live into is found
  into : (p : ℕ) → Live ops v p → Clear ops v (block_of ops p) p → In (block_of ops p) found
  into p (Used q u) c = r.seeds q (u, c)
  into p (Passes q t f d l) c = by-case (inside ops q t f) (λ k. into t l k)
    where
      by-case : (block_of ops t ≡ t) ⊎ ((t ≡ suc q) × (block_of ops t ≡ block_of ops q))
          → (Clear ops v (block_of ops t) t → In (block_of ops t) found) → In (block_of ops q) found
      by-case (inr h) before =
          subst (λ z. In z found) h.1
          (before (λ e low high. clear e (omega (arith, h.1, low)) (omega (arith, h.0, high))))
        where
          clear : (e : ℕ) → block_of ops q ≤ e → e ≤ q → defines v (op_at ops e) ≡ false
          clear e low high = here (cases_lt e q)
            where
              here : (e < q) ⊎ (q ≤ e) → defines v (op_at ops e) ≡ false
              here (inl k) = c e low k
              here (inr k) =
                  let s : q ≡ e = omega arith in
                  subst (λ z. defines v (op_at ops z) ≡ false) s d
      by-case (inl h) before =
          let i = before (λ e low high. absurd (omega (arith, h, low))) in
          let w = taken q t f (subst (λ z. In z found) h i) in
          w.1 (none (known (block_of ops t) i) (is_in (block_of ops q) defining) refl)
        where
          none : AreDefining ops v defining → (b : Bool) → is_in (block_of ops q) defining ≡ b
              → is_in (block_of ops q) defining ≡ false
          none a false e = e
          none a true e =
              let k = a.sound (block_of ops q) e in
              let low : k.0 ≤ q = last ops q t k.0 f h k.1 in
              let start : block_of ops q ≤ k.0 = omega (arith, k.1, block_low ops k.0) in
              absurd (at k.0 k.2 start low (cases_lt k.0 q))
            where
              at : (e : ℕ) → defines v (op_at ops e) ≡ true → block_of ops q ≤ e → e ≤ q
                  → (e < q) ⊎ (q ≤ e) → ⊥
              at e y low high (inl k) = let n = c e low k in absurd (cc (n, y))
              at e y low high (inr k) =
                  let s : e ≡ q = omega arith in
                  let n : defines v (op_at ops q) ≡ true = subst (λ z. defines v (op_at ops z) ≡ true) s y in
                  absurd (cc (n, d))

  low-live : (p : ℕ) → Live ops v p → x.start ≤ p
  low-live p l = by-case (defined-or-clear ops v (block_of ops p) p)
    where
      by-case : ((d : ℕ) × (d < p) × (defines v (op_at ops d) ≡ true) × (block_of ops p ≤ d))
          ⊎ Clear ops v (block_of ops p) p → x.start ≤ p
      by-case (inl d) =
          let m = r.mentioned d.0 (at-op ops v d.0 (defined-mention ops v d.0 d.2)) in
          omega (arith, m.0, d.1)
      by-case (inr c) =
          let k = position (block_of ops p) found (into p l c) in
          omega (arith, r.low k.0 k.1, k.2, block_low ops p)

  high-live : (p : ℕ) → Live ops v p → p ≤ x.end
  high-live p (Used q u) = (r.mentioned q (at-op ops v q (used-mention ops v q u))).1
  high-live p (Passes q t f d l) = by-case (inside ops q t f) (high-live t l)
    where
      by-case : (block_of ops t ≡ t) ⊎ ((t ≡ suc q) × (block_of ops t ≡ block_of ops q)) → t ≤ x.end → q ≤ x.end
      by-case (inr h) later = omega (arith, h.0, later)
      by-case (inl h) later =
          let i : In (block_of ops t) found = into t l (λ e low high. absurd (omega (arith, h, low))) in
          (taken q t f (subst (λ z. In z found) h i)).0

  -- the range is the interval
  reached : IsIntervalOf ops v (Some x)
  reached = (r.reg, record { first = r.start; last = r.end; whole = λ p a. whole p a })
    where
      whole : (p : ℕ) → IsAt ops v p → (x.start ≤ p) × (p ≤ x.end)
      whole p (inl l) = (low-live p l, high-live p l)
      whole p (inr d) = r.mentioned p (at-op ops v p (defined-mention ops v p d))

pub exact : (ops : List Op) (v : ℕ) (defining found : List ℕ) (i : ℕ) (x : Interval)
    → Reaching ops v defining found i x → ((b : ℕ) → In b found → AreDefining ops v defining) → length found ≤ i
    → IsIntervalOf ops v (Some x)
exact ops v defining found i x r known h =
    reached ops v defining found x
    (record {
      reg = r.reg;
      start = r.start;
      end = r.end;
      mentioned = r.mentioned;
      sound = r.sound;
      seeds = r.seeds;
      low = λ j l. r.low j (omega arith);
      closed = λ j l. r.closed j (omega arith);
    })
    known

-- one more block is looked at
pub reaching-more : (ops : List Op) (v : ℕ) (defining found more : List ℕ) (i b : ℕ) (x w new : Interval)
    → i < length found → b ≡ get_or found i 0
    → Reaching ops v defining found i x → AreDefining ops v defining
    → Wider (λ p. p ≡ b) x w → w.start ≤ b
    → Grown (λ p. Follows ops p b) ops defining w new found more
    → ((p : ℕ) → Follows ops p b → Taken ops defining more new p)
    → Reaching ops v defining more (i + 1) new
reaching-more ops v defining found more i b x w new lt at r known wide below grown all =
    record {
      reg = g.reg ∙ (wide.reg ∙ r.reg);
      start = start g.start wide.start;
      end = end g.end wide.end;
      mentioned = λ p m. let k = r.mentioned p m in
          (omega (arith, k.0, wide.low, g.low), omega (arith, k.1, wide.high, g.high));
      sound = subst (Each (Live ops v)) (sym grown.blocks.joined)
          (Each-append (Live ops v) found grown.blocks.more r.sound
          (Each-weaker (BlockOf (λ p. Follows ops p b) ops defining) (Live ops v) (λ c h. into c h)
          grown.blocks.more grown.blocks.each));
      seeds = λ p e. kept (block_of ops p) (r.seeds p e);
      low = λ j l. low j l (cases_lt j i);
      closed = λ j l p f. closed j l p f (cases_lt j i);
    }
  where
    g : Wider (λ p. Follows ops p b) w new
    g = grown.range

    live : Live ops v b
    live = Each-In (Live ops v) found r.sound b (subst (λ z. In z found) (sym at) (In-get_or found i lt))

    start : (new.start ≡ w.start) ⊎ Follows ops new.start b → (w.start ≡ x.start) ⊎ (w.start ≡ b) → IsAt ops v new.start
    start (inl e) (inl d) = subst (IsAt ops v) (sym (e ∙ d)) r.start
    start (inl e) (inr d) = subst (IsAt ops v) (sym (e ∙ d)) (inl live)
    start (inr f) s = at-after ops v new.start (b, f, live)

    end : (new.end ≡ w.end) ⊎ Follows ops new.end b → (w.end ≡ x.end) ⊎ (w.end ≡ b) → IsAt ops v new.end
    end (inl e) (inl d) = subst (IsAt ops v) (sym (e ∙ d)) r.end
    end (inl e) (inr d) = subst (IsAt ops v) (sym (e ∙ d)) (inl live)
    end (inr f) s = at-after ops v new.end (b, f, live)

    into : (c : ℕ) → BlockOf (λ p. Follows ops p b) ops defining c → Live ops v c
    into c h =
        subst (Live ops v) h.2
        (live-through ops v h.0 (b, h.1, live)
        (λ d. let y = known.complete (block_of ops h.0) d in
        let n : is_in (block_of ops h.0) defining ≡ false = subst (λ z. is_in z defining ≡ false) (sym h.2) h.3 in
        absurd (cc (y, n))))

    kept : (c : ℕ) → In c found → In c more
    kept c h = extends-In _ found more grown.blocks c h

    same : (j : ℕ) → j < length found → get_or more j 0 ≡ get_or found j 0
    same j l = ap (λ zs. get_or zs j 0) grown.blocks.joined ∙ get_or_append_left found grown.blocks.more 0 j l

    low : (j : ℕ) → j < i + 1 → (j < i) ⊎ (i ≤ j) → new.start ≤ get_or more j 0
    low j l (inl k) =
        let jl : j < length found = omega arith in
        omega (arith, same j jl, r.low j k, wide.low, g.low)
    low j l (inr k) =
        let ji : j ≡ i = omega arith in
        let jl : j < length found = omega arith in
        let e : get_or more j 0 ≡ b = same j jl ∙ (ap (λ z. get_or found z 0) ji ∙ sym at) in
        omega (arith, e, below, g.low)

    closed : (j : ℕ) → j < i + 1 → (p : ℕ) → Follows ops p (get_or more j 0) → (j < i) ⊎ (i ≤ j)
        → Taken ops defining more new p
    closed j l p f (inl k) =
        let jl : j < length found = omega arith in
        let t = r.closed j k p (subst (λ z. Follows ops p z) (same j jl) f) in
        (omega (arith, t.0, wide.high, g.high), λ n. kept (block_of ops p) (t.1 n))
    closed j l p f (inr k) =
        let ji : j ≡ i = omega arith in
        let jl : j < length found = omega arith in
        all p
        (subst (λ z. Follows ops p z) (same j jl ∙ (ap (λ z. get_or found z 0) ji ∙ sym at)) f)

-- the slots of a register's uses that show, or of its definitions, are of ops
pub slots-within : (P : ℕ → ℕ → Type 0) (n v : ℕ) (bs : List (List ℕ)) → ((b p : ℕ) → P b p → p < n) → IsTable P bs
    → Each (λ slot. slot / 3 < n) (get_or bs v [])
slots-within P n v bs f t = Each-weaker _ (λ s. s / 3 < n) (λ s h. f v (s / 3) h) (get_or bs v []) (t.sound v)

-- the blocks of the ops that define v
pub defining-are : (ops : List Op) (v : ℕ) (bs : List (List ℕ)) (members : List ℕ)
    → IsTable (DefinedAt ops (length ops)) bs → v < length bs
    → Each (λ slot. In (block_of ops (slot / 3)) members) (get_or bs v [])
    → Extends (BlockIn ops (get_or bs v [])) [] members
    → AreDefining ops v members
defining-are ops v bs members t l all e =
    record {
      sound = λ b h.
          let w = Each-In (BlockIn ops (get_or bs v [])) members each b (In-member b members h) in
          (w.0 / 3, w.2, (Each-In _ (get_or bs v []) (t.sound v) w.0 w.1).1);
      complete = λ b d.
          let s = t.complete v d.0 l
          ((at-op ops v d.0 (defined-mention ops v d.0 d.2)).0, d.2) in
          member-In b members
          (subst (λ z. In z members) (ap (block_of ops) s.2 ∙ d.1)
          (Each-In _ (get_or bs v []) all s.0 s.1));
    }
  where
    each : Each (BlockIn ops (get_or bs v [])) members
    each = subst (Each (BlockIn ops (get_or bs v []))) (sym e.joined) e.each

-- the search begins with the blocks of the uses that show
pub reaching-start : (ops : List Op) (v : ℕ) (bs : List (List ℕ)) (defining found : List ℕ) (x : Interval)
    → IsTable (ExposedAt ops (length ops)) bs → v < length bs → IsSpanOf ops v (Some x)
    → Each (λ slot. In (block_of ops (slot / 3)) found) (get_or bs v [])
    → Extends (BlockIn ops (get_or bs v [])) [] found
    → Reaching ops v defining found 0 x
reaching-start ops v bs defining found x t l span all e =
    record {
      reg = span.0;
      start = mentioned-at x.start span.1;
      end = mentioned-at x.end span.2;
      mentioned = span.3;
      sound = subst (Each (Live ops v)) (sym e.joined)
          (Each-weaker (BlockIn ops (get_or bs v [])) (Live ops v) (λ b w. into b w) e.more e.each);
      seeds = λ p h.
          let s = t.complete v p l ((at-op ops v p (used-mention ops v p h.0)).0, h) in
          subst (λ z. In z found) (ap (block_of ops) s.2) (Each-In _ (get_or bs v []) all s.0 s.1);
      low = λ j k. absurd (omega arith);
      closed = λ j k. absurd (omega arith);
    }
  where
    into : (b : ℕ) → BlockIn ops (get_or bs v []) b → Live ops v b
    into b w =
        subst (Live ops v) w.2
        (live-exposed ops v (w.0 / 3) (Each-In _ (get_or bs v []) (t.sound v) w.0 w.1).1)

    mentioned-at : (p : ℕ) → MentionedAt ops (length ops) v p → IsAt ops v p
    mentioned-at p m = by-case (defines v (op_at ops p)) refl m.1
      where
        by-case : (b : Bool) → defines v (op_at ops p) ≡ b → (defines v (op_at ops p) || uses v (op_at ops p)) ≡ true
            → IsAt ops v p
        by-case true e h = inr e
        by-case false e h = inl (Used p (rw e at h))

-- where no use shows, the ops that mention the register are all
pub local : (ops : List Op) (v : ℕ) (bs : List (List ℕ)) (x : Interval)
    → IsTable (ExposedAt ops (length ops)) bs → v < length bs → IsSpanOf ops v (Some x)
    → get_or bs v [] ≡ [] → IsIntervalOf ops v (Some x)
local ops v bs x t l span none =
    exact ops v [] [] 0 x
    (reaching-start ops v bs [] [] x t l span (subst (Each (λ slot. In (block_of ops (slot / 3)) [])) (sym none) tt)
    (record { more = []; joined = refl; each = tt }))
    (λ b i. absurd i) (omega arith)

-- a register that no op mentions is at none
pub nowhere : (ops : List Op) (v : ℕ) → IsSpanOf ops v None → IsIntervalOf ops v None
nowhere ops v none p a = let m = at-mention ops v p a in none m.0 m.1

-- a block that was found is of the ops
pub found-within : (ops : List Op) (v : ℕ) (defining found : List ℕ) (i b : ℕ) (x : Interval) → i < length found
    → b ≡ get_or found i 0 → Reaching ops v defining found i x → b < length ops
found-within ops v defining found i b x lt at r =
    live-within ops v b
    (Each-In (Live ops v) found r.sound b (subst (λ z. In z found) (sym at) (In-get_or found i lt)))
