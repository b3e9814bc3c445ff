-- What one op more makes of the table of the uses that show, and of the last definitions.
use Rattle.std.proofs.Common.{ℕ, zero, suc, ◌+◌, ◌*◌, ◌≡◌, ◌≢◌, ◌<◌, ◌≤◌, ◌⊎◌, ◌||◌, inl, inr, Bool, true, false}
use Rattle.std.proofs.Common.{eqb, List, Option, Some, None, length, get_or, set, refl, sym, ◌∙◌, ap, subst}
use Rattle.std.proofs.Common.{arith}
use Rattle.std.proofs.Common.{get_or-set_other, get_or-set_same}
use Rattle.std.proofs.lemmas.Bool.Decides.{nat_tests}
use Rattle.std.proofs.lemmas.Bool.{cases_lt, le-leb, leb-true}
use Rattle.std.specs.Prelude.{nat_le}
use Rattle.icode_ops.specs.declared.op.Op.{Op}
use Rattle.icode_ops.specs.Flow.{defined, first_use, second_use, defines, uses, holds, op_at}
use Rattle.icode_ops.specs.Finished.{Below, InRange}
use Rattle.icode_ranges.specs.Blocks.{block_of, Clear, Exposed}
use Rattle.icode_ranges.specs.Tables.{ExposedAt, IsTable, AreLasts, listed, shown, with_shown, marked}
use Rattle.icode_liveness.proofs.Filling.{Or, table-same, table-listed, length-listed, within, holds-some, holds-itself}
use Rattle.icode_liveness.proofs.Filling.{either}

shown-is : (lasts : List ℕ) (block b : ℕ) (o : Option ℕ) → shown lasts block o ≡ Some b
    → (o ≡ Some b) × (get_or lasts b 0 ≤ block)
shown-is lasts block b None h = absurd (cc)
shown-is lasts block b (Some r) h = by-case (nat_le (get_or lasts r 0) block) refl h
  where
    by-case : (t : Bool) → nat_le (get_or lasts r 0) block ≡ t → shown lasts block (Some r) ≡ Some b
        → (Some r ≡ Some b) × (get_or lasts b 0 ≤ block)
    by-case true e h =
        let s : Some r ≡ Some b = rw e at h in
        let rb : r ≡ b = cc in
        (s, subst (λ z. get_or lasts z 0 ≤ block) rb (leb-true (get_or lasts r 0) block e))
    by-case false e h = let n : None ≡ Some b = rw e at h in absurd (cc)

shown-yes : (lasts : List ℕ) (block b : ℕ) (o : Option ℕ) → o ≡ Some b → get_or lasts b 0 ≤ block
    → shown lasts block o ≡ Some b
shown-yes lasts block b o e h =
    let t = le-leb (get_or lasts b 0) block h in subst (λ z. shown lasts block z ≡ Some b) (sym e) (rw t refl)

pub shown-below : (lasts : List ℕ) (block n : ℕ) (o : Option ℕ) → Below n o → Below n (shown lasts block o)
shown-below lasts block n None h = tt
shown-below lasts block n (Some r) h = by-case (nat_le (get_or lasts r 0) block) refl
  where
    by-case : (t : Bool) → nat_le (get_or lasts r 0) block ≡ t → Below n (shown lasts block (Some r))
    by-case true e = rw e h
    by-case false e = rw e tt

pub length-shown : (first second : Option ℕ) (lasts : List ℕ) (block slot : ℕ) (bs : List (List ℕ))
    → length (with_shown first second lasts block slot bs) ≡ length bs
length-shown first second lasts block slot bs =
    length-listed (shown lasts block second) (slot + 2) (listed (shown lasts block first) (slot + 1) bs)
    ∙ length-listed (shown lasts block first) (slot + 1) bs

below-some : (n b : ℕ) (o : Option ℕ) → o ≡ Some b → Below n o → b < n
below-some n b o e h = subst (Below n) e h

pub exposed-more : (ops : List Op) (n registers : ℕ) (lasts : List ℕ) (bs : List (List ℕ)) → length bs ≡ registers
    → InRange registers (op_at ops n) → AreLasts ops n registers lasts → IsTable (ExposedAt ops n) bs
    → IsTable (ExposedAt ops (n + 1))
    (with_shown (first_use (op_at ops n)) (second_use (op_at ops n)) lasts (block_of ops n) (3 * n) bs)
exposed-more ops n registers lasts bs same range last t =
    table-same (Or (Or (ExposedAt ops n) (show (first_use op)) (3 * n + 1)) (show (second_use op)) (3 * n + 2))
    (ExposedAt ops (n + 1)) (with_shown (first_use op) (second_use op) lasts (block_of ops n) (3 * n) bs) to
    (λ b p h. from b p h (cases_lt p n))
    (table-listed _ (listed (show (first_use op)) (3 * n + 1) bs) (show (second_use op)) (3 * n + 2)
    (within _ registers (show (second_use op)) (length-listed (show (first_use op)) (3 * n + 1) bs ∙ same)
    (shown-below lasts (block_of ops n) registers (second_use op) range.2))
    (table-listed (ExposedAt ops n) bs (show (first_use op)) (3 * n + 1)
    (within _ registers (show (first_use op)) same
    (shown-below lasts (block_of ops n) registers (first_use op) range.1)) t))
  where
    op : Op
    op = op_at ops n

    show : Option ℕ → Option ℕ
    show o = shown lasts (block_of ops n) o

    clear : (b : ℕ) → b < registers → get_or lasts b 0 ≤ block_of ops n → Clear ops b (block_of ops n) n
    clear b l h d low high = by-case (defines b (op_at ops d)) refl
      where
        by-case : (t : Bool) → defines b (op_at ops d) ≡ t → defines b (op_at ops d) ≡ false
        by-case false e = e
        by-case true e = absurd (omega (arith, last.above b d l high e, low, h))

    at-n : (b p : ℕ) → p ≡ n → (uses b (op_at ops n) ≡ true) → b < registers → get_or lasts b 0 ≤ block_of ops n
        → ExposedAt ops (n + 1) b p
    at-n b p e u l h = (omega arith, subst (Exposed ops b) (sym e) (u, clear b l h))

    first : (b : ℕ) → first_use (op_at ops n) ≡ Some b → uses b (op_at ops n) ≡ true
    first b e = let t = holds-itself b (first_use (op_at ops n)) e in rw t refl

    second : (b : ℕ) → second_use (op_at ops n) ≡ Some b → uses b (op_at ops n) ≡ true
    second b e = by-case (holds b (first_use (op_at ops n))) (holds-itself b (second_use (op_at ops n)) e)
      where
        by-case : (t : Bool) → holds b (second_use (op_at ops n)) ≡ true
            → (t || holds b (second_use (op_at ops n))) ≡ true
        by-case true h = refl
        by-case false h = h

    to : (b p : ℕ)
        → Or (Or (ExposedAt ops n) (shown lasts (block_of ops n) (first_use (op_at ops n))) (3 * n + 1))
        (shown lasts (block_of ops n) (second_use (op_at ops n))) (3 * n + 2) b p
        → ExposedAt ops (n + 1) b p
    to b p (inl (inl h)) = (omega (arith, h.0), h.1)
    to b p (inl (inr h)) =
        let s = shown-is lasts (block_of ops n) b (first_use (op_at ops n)) h.0 in
        at-n b p (omega (arith, h.1)) (first b s.0) (below-some registers b (first_use (op_at ops n)) s.0 range.1) s.1
    to b p (inr h) =
        let s = shown-is lasts (block_of ops n) b (second_use (op_at ops n)) h.0 in
        at-n b p (omega (arith, h.1)) (second b s.0) (below-some registers b (second_use (op_at ops n)) s.0 range.2) s.1

    low : (b : ℕ) → b < registers → Clear ops b (block_of ops n) n → get_or lasts b 0 ≤ block_of ops n
    low b l c = by-case (get_or lasts b 0) refl
      where
        by-case : (k : ℕ) → get_or lasts b 0 ≡ k → get_or lasts b 0 ≤ block_of ops n
        by-case zero e = omega (arith, e)
        by-case (suc q) e = here (last.is b q l e) (cases_lt q (block_of ops n))
          where
            here : (q < n) × (defines b (op_at ops q) ≡ true) → (q < block_of ops n) ⊎ (block_of ops n ≤ q)
                → get_or lasts b 0 ≤ block_of ops n
            here d (inl k) = omega (arith, e)
            here d (inr k) = let f = c q k d.0 in let g = d.1 in absurd (cc (f, g))

    named : (b p : ℕ) → p ≡ n → Clear ops b (block_of ops n) n
        → (holds b (first_use (op_at ops n)) ≡ true) ⊎ (holds b (second_use (op_at ops n)) ≡ true)
        → Or (Or (ExposedAt ops n) (shown lasts (block_of ops n) (first_use (op_at ops n))) (3 * n + 1))
        (shown lasts (block_of ops n) (second_use (op_at ops n))) (3 * n + 2) b p
    named b p e c (inl g) =
        let s = holds-some b (first_use (op_at ops n)) g in
        let l = low b (below-some registers b (first_use (op_at ops n)) s range.1) c in
        inl (inr (shown-yes lasts (block_of ops n) b (first_use (op_at ops n)) s l, omega arith))
    named b p e c (inr g) =
        let s = holds-some b (second_use (op_at ops n)) g in
        let l = low b (below-some registers b (second_use (op_at ops n)) s range.2) c in
        inr (shown-yes lasts (block_of ops n) b (second_use (op_at ops n)) s l, omega arith)

    from : (b p : ℕ) → ExposedAt ops (n + 1) b p → (p < n) ⊎ (n ≤ p)
        → Or (Or (ExposedAt ops n) (shown lasts (block_of ops n) (first_use (op_at ops n))) (3 * n + 1))
        (shown lasts (block_of ops n) (second_use (op_at ops n))) (3 * n + 2) b p
    from b p h (inl l) = inl (inl (l, h.1))
    from b p h (inr l) =
        let e : p ≡ n = omega (arith, h.0) in
        let x : Exposed ops b n = subst (Exposed ops b) e h.1 in
        named b p e x.1 (either (holds b (first_use (op_at ops n))) (holds b (second_use (op_at ops n))) x.0)

-- at first nothing is defined
pub lasts-start : (ops : List Op) (registers : ℕ) (lasts : List ℕ) → ((v : ℕ) → v < registers → get_or lasts v 0 ≡ 0)
    → AreLasts ops 0 registers lasts
lasts-start ops registers lasts zeros =
    record {
      above = λ v p l h. absurd (omega arith);
      is = λ v q l e. let z = zeros v l in absurd (omega (arith, z, e));
    }

pub lasts-more : (ops : List Op) (n registers : ℕ) (lasts : List ℕ) → Below registers (defined (op_at ops n))
    → registers ≤ length lasts → AreLasts ops n registers lasts
    → AreLasts ops (n + 1) registers (marked (defined (op_at ops n)) (n + 1) lasts)
lasts-more ops n registers lasts below room a = by-case (defined (op_at ops n)) refl below
  where
    by-case : (o : Option ℕ) → defined (op_at ops n) ≡ o → Below registers o
        → AreLasts ops (n + 1) registers (marked o (n + 1) lasts)
    by-case None e b =
        record {
          above = λ v p l h d. above v p l h d (cases_lt p n);
          is = λ v q l s. let k = a.is v q l s in (omega (arith, k.0), k.1);
        }
      where
        above : (v p : ℕ) → v < registers → p < n + 1 → defines v (op_at ops p) ≡ true → (p < n) ⊎ (n ≤ p)
            → p < get_or lasts v 0
        above v p l h d (inl k) = a.above v p l k d
        above v p l h d (inr k) =
            let s : p ≡ n = omega arith in
            let t : defines v (op_at ops n) ≡ true = subst (λ z. defines v (op_at ops z) ≡ true) s d in
            let u : holds v None ≡ true = subst (λ z. holds v z ≡ true) e t in
            absurd (cc)
    by-case (Some r) e b =
        record {
          above = λ v p l h d. above v p l h d (eqb v r) refl (cases_lt p n);
          is = λ v q l s. is v q l s (eqb v r) refl;
        }
      where
        set-same : get_or (set lasts r (n + 1)) r 0 ≡ n + 1
        set-same = get_or-set_same lasts r (n + 1) 0 (omega arith)

        above : (v p : ℕ) → v < registers → p < n + 1 → defines v (op_at ops p) ≡ true → (t : Bool) → eqb v r ≡ t
            → (p < n) ⊎ (n ≤ p) → p < get_or (set lasts r (n + 1)) v 0
        above v p l h d true q k =
            let same : r ≡ v = grind (arith, nat_tests) in
            subst (λ z. p < get_or (set lasts r (n + 1)) z 0) same (omega (arith, set-same))
        above v p l h d false q (inl k) =
            let other : v ≢ r = λ s. grind (arith, nat_tests) in
            subst (λ z. p < z) (sym (get_or-set_other lasts r v (n + 1) 0 other)) (a.above v p l k d)
        above v p l h d false q (inr k) =
            let s : p ≡ n = omega arith in
            let t : defines v (op_at ops n) ≡ true = subst (λ z. defines v (op_at ops z) ≡ true) s d in
            let u : holds v (Some r) ≡ true = subst (λ z. holds v z ≡ true) e t in
            let w : false ≡ true = sym q ∙ u in
            absurd (cc)

        is : (v q : ℕ) → v < registers → get_or (set lasts r (n + 1)) v 0 ≡ suc q → (t : Bool) → eqb v r ≡ t
            → (q < n + 1) × (defines v (op_at ops q) ≡ true)
        is v q l s true w =
            let same : r ≡ v = grind (arith, nat_tests) in
            let c : get_or (set lasts r (n + 1)) v 0 ≡ n + 1 =
            subst (λ z. get_or (set lasts r (n + 1)) z 0 ≡ n + 1) same set-same in
            let qn : n ≡ q = omega (arith, c, s) in (
              omega arith,
              subst (λ z. defines v (op_at ops z) ≡ true) qn
                  (holds-itself v (defined (op_at ops n)) (e ∙ ap Some same)),
            )
        is v q l s false w =
            let other : v ≢ r = λ z. grind (arith, nat_tests) in
            let k = a.is v q l (sym (get_or-set_other lasts r v (n + 1) 0 other) ∙ s) in
            (omega (arith, k.0), k.1)
