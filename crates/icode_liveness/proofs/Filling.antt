-- What one op more makes of the tables of the ops.
use Rattle.std.proofs.Common.{ℕ, zero, suc, ◌+◌, ◌*◌, ◌/◌, ◌≡◌, ◌≢◌, ◌<◌, ◌≤◌, ◌⊎◌, ◌||◌, inl, inr, Bool, true, false}
use Rattle.std.proofs.Common.{eqb, List, [], ◌∷◌, Option, Some, None, length, get_or, refl, sym, ap, subst, arith}
use Rattle.std.proofs.Common.{get_or-set_other, get_or-set_same}
use Rattle.std.proofs.Math.ListN.{length-set}
use Rattle.std.proofs.lemmas.Bool.Decides.{nat_tests}
use Rattle.std.proofs.lemmas.Bool.{cases_lt}
use Rattle.std.proofs.lemmas.List.{get_or_past}
use Rattle.icode_ops.specs.declared.op.Op.{Op}
use Rattle.icode_ops.specs.declared.op.Op.TheVariants.{ReturnZero}
use Rattle.icode_ops.specs.Flow.{defined, first_use, second_use, defines, uses, holds, goes_to, label_of, op_at}
use Rattle.icode_ops.specs.Finished.{Below}
use Rattle.collections.specs.Contents.{with_slot, empty_buckets}
use Rattle.icode_ranges.specs.Lists.{In, Each}
use Rattle.icode_ranges.specs.Tables.{mentions, MentionedAt, DefinedAt, GoesFrom, IsTable, KnowsLabels, listed}
use Rattle.icode_ranges.proofs.Lists.{Each-weaker}

pub table-same : (P Q : ℕ → ℕ → Type 0) (bs : List (List ℕ)) → ((b p : ℕ) → P b p → Q b p)
    → ((b p : ℕ) → Q b p → P b p) → IsTable P bs → IsTable Q bs
table-same P Q bs to from t =
    record {
      sound = λ b. Each-weaker (λ s. P b (s / 3)) (λ s. Q b (s / 3)) (λ s h. to b (s / 3) h)
          (get_or bs b []) (t.sound b);
      complete = λ b p l h. t.complete b p l (from b p h);
    }

-- joined so far, or by the slot in bucket r
abbrev pub Or : (ℕ → ℕ → Type 0) → Option ℕ → ℕ → ℕ → ℕ → Type 0
Or P o slot b p = P b p ⊎ ((o ≡ Some b) × (p ≡ slot / 3))

pub table-slot : (P : ℕ → ℕ → Type 0) (bs : List (List ℕ)) (r slot : ℕ) → r < length bs
    → IsTable P bs
    → IsTable (Or P (Some r) slot) (with_slot r slot bs)
table-slot P bs r slot lt t =
    record {
      sound = λ b. sound b (eqb b r) refl;
      complete = λ b p l h. complete b p (simp length-set at l) h;
    }
  where
    here : get_or (with_slot r slot bs) r [] ≡ slot ∷ get_or bs r []
    here = get_or-set_same bs r (slot ∷ get_or bs r []) [] lt

    sound : (b : ℕ) (e : Bool) → eqb b r ≡ e
        → Each (λ s. Or P (Some r) slot b (s / 3)) (get_or (with_slot r slot bs) b [])
    sound b true e =
        let same : r ≡ b = grind (arith, nat_tests) in
        let old : Each (λ s. P b (s / 3)) (get_or bs r []) =
        subst (λ z. Each (λ s. P b (s / 3)) (get_or bs z [])) (sym same) (t.sound b) in
        subst (λ z. Each (λ s. Or P (Some r) slot b (s / 3)) (get_or (with_slot r slot bs) z []))
        same
        (subst (λ zs. Each (λ s. Or P (Some r) slot b (s / 3)) zs) (sym here)
        (inr (ap Some same, refl), Each-weaker _ _ (λ s h. inl h) (get_or bs r []) old))
    sound b false e =
        let other : b ≢ r = λ q. grind (arith, nat_tests) in
        subst (λ zs. Each (λ s. Or P (Some r) slot b (s / 3)) zs)
        (sym (get_or-set_other bs r b (slot ∷ get_or bs r []) [] other))
        (Each-weaker (λ s. P b (s / 3)) _ (λ s h. inl h) (get_or bs b []) (t.sound b))

    kept : (b s : ℕ) (e : Bool) → eqb b r ≡ e → In s (get_or bs b [])
        → In s (get_or (with_slot r slot bs) b [])
    kept b s true e i =
        let same : r ≡ b = grind (arith, nat_tests) in
        subst (λ z. In s (get_or (with_slot r slot bs) z [])) same
        (subst (λ zs. In s zs) (sym here) (inr (subst (λ z. In s (get_or bs z [])) (sym same) i)))
    kept b s false e i =
        let other : b ≢ r = λ q. grind (arith, nat_tests) in
        subst (λ zs. In s zs) (sym (get_or-set_other bs r b (slot ∷ get_or bs r []) [] other)) i

    complete : (b p : ℕ) → b < length bs → Or P (Some r) slot b p
        → (s : ℕ) × In s (get_or (with_slot r slot bs) b []) × (s / 3 ≡ p)
    complete b p l (inl h) =
        let s = t.complete b p l h in (s.0, kept b s.0 (eqb b r) refl s.1, s.2)
    complete b p l (inr h) =
        let same : r ≡ b = cc in (
          slot,
          subst (λ z. In slot (get_or (with_slot r slot bs) z [])) same
              (subst (λ zs. In slot zs) (sym here) (inl refl)),
          sym h.1,
        )

pub length-listed : (o : Option ℕ) (slot : ℕ) (bs : List (List ℕ)) → length (listed o slot bs)
    ≡ length bs
length-listed None slot bs = refl
length-listed (Some r) slot bs = length-set bs r (slot ∷ get_or bs r [])

pub table-listed : (P : ℕ → ℕ → Type 0) (bs : List (List ℕ)) (o : Option ℕ) (slot : ℕ)
    → Below (length bs) o → IsTable P bs → IsTable (Or P o slot) (listed o slot bs)
table-listed P bs None slot l t = table-same P (Or P None slot) bs (λ b p h. inl h) from t
  where
    from : (b p : ℕ) → Or P None slot b p → P b p
    from b p (inl h) = h
    from b p (inr h) = absurd (cc)
table-listed P bs (Some r) slot l t = table-slot P bs r slot l t

pub holds-some : (b : ℕ) (o : Option ℕ) → holds b o ≡ true → o ≡ Some b
holds-some b None h = absurd (cc)
holds-some b (Some r) h = let same : r ≡ b = grind (arith, nat_tests) in ap Some same

pub holds-itself : (b : ℕ) (o : Option ℕ) → o ≡ Some b → holds b o ≡ true
holds-itself b o e = subst (λ z. holds b z ≡ true) (sym e) (grind (arith, nat_tests))

pub either : (x y : Bool) → (x || y) ≡ true → (x ≡ true) ⊎ (y ≡ true)
either true y h = inl refl
either false y h = inr h

pub within : (m n : ℕ) (o : Option ℕ) → m ≡ n → Below n o → Below m o
within m n None e h = tt
within m n (Some r) e h = omega arith

pub any-of : (x y z : Bool) → (x ≡ true) ⊎ ((y ≡ true) ⊎ (z ≡ true)) → (x || (y || z)) ≡ true
any-of true y z h = refl
any-of false y z (inl h) = absurd (cc)
any-of false true z (inr h) = refl
any-of false false z (inr (inl h)) = absurd (cc)
any-of false false z (inr (inr h)) = h

-- mentioned before op n or by one of its three slots
abbrev pub Mentioned : List Op → ℕ → ℕ → ℕ → Type 0
Mentioned ops n =
    Or (Or (Or (MentionedAt ops n) (defined (op_at ops n)) (3 * n)) (first_use (op_at ops n)) (3 * n + 1))
    (second_use (op_at ops n)) (3 * n + 2)

module _ (ops : List Op) (n : ℕ) where
  mentioned : (b : ℕ) → (defined (op_at ops n) ≡ Some b)
      ⊎ ((first_use (op_at ops n) ≡ Some b) ⊎ (second_use (op_at ops n) ≡ Some b))
      → mentions b (op_at ops n) ≡ true
  mentioned b (inl e) =
      any-of (holds b (defined (op_at ops n))) (holds b (first_use (op_at ops n)))
      (holds b (second_use (op_at ops n)))
      (inl (holds-itself b (defined (op_at ops n)) e))
  mentioned b (inr (inl e)) =
      any-of (holds b (defined (op_at ops n))) (holds b (first_use (op_at ops n)))
      (holds b (second_use (op_at ops n)))
      (inr (inl (holds-itself b (first_use (op_at ops n)) e)))
  mentioned b (inr (inr e)) =
      any-of (holds b (defined (op_at ops n))) (holds b (first_use (op_at ops n)))
      (holds b (second_use (op_at ops n)))
      (inr (inr (holds-itself b (second_use (op_at ops n)) e)))

  at-n : (b p : ℕ) → p ≡ n → mentions b (op_at ops n) ≡ true → MentionedAt ops (n + 1) b p
  at-n b p e h = (omega arith, subst (λ z. mentions b (op_at ops z) ≡ true) (sym e) h)

  pub mentioned-to : (b p : ℕ) → Mentioned ops n b p → MentionedAt ops (n + 1) b p
  mentioned-to b p (inl (inl (inl h))) = (omega (arith, h.0), h.1)
  mentioned-to b p (inl (inl (inr h))) = at-n b p (omega (arith, h.1)) (mentioned b (inl h.0))
  mentioned-to b p (inl (inr h)) = at-n b p (omega (arith, h.1)) (mentioned b (inr (inl h.0)))
  mentioned-to b p (inr h) = at-n b p (omega (arith, h.1)) (mentioned b (inr (inr h.0)))

  parts : (b p : ℕ) → p ≡ n → (defines b (op_at ops n) ≡ true) ⊎ (uses b (op_at ops n) ≡ true)
      → Mentioned ops n b p
  parts b p e (inl h) = inl (inl (inr (holds-some b (defined (op_at ops n)) h, omega arith)))
  parts b p e (inr h) =
      named (either (holds b (first_use (op_at ops n))) (holds b (second_use (op_at ops n))) h)
    where
      named : (holds b (first_use (op_at ops n)) ≡ true)
          ⊎ (holds b (second_use (op_at ops n)) ≡ true)
          → Mentioned ops n b p
      named (inl g) = inl (inr (holds-some b (first_use (op_at ops n)) g, omega arith))
      named (inr g) = inr (holds-some b (second_use (op_at ops n)) g, omega arith)

  from : (b p : ℕ) → MentionedAt ops (n + 1) b p → (p < n) ⊎ (n ≤ p)
      → Mentioned ops n b p
  from b p h (inl l) = inl (inl (inl (l, h.1)))
  from b p h (inr l) =
      let e : p ≡ n = omega (arith, h.0) in
      let m : mentions b (op_at ops n) ≡ true = subst (λ z. mentions b (op_at ops z) ≡ true) e h.1
      in
      parts b p e (either (defines b (op_at ops n)) (uses b (op_at ops n)) m)

  pub mentioned-from : (b p : ℕ) → MentionedAt ops (n + 1) b p → Mentioned ops n b p
  mentioned-from b p h = from b p h (cases_lt p n)

pub jumps-more : (ops : List Op) (n : ℕ) (bs : List (List ℕ))
    → Below (length bs) (goes_to (op_at ops n))
    → IsTable (GoesFrom ops n) bs → IsTable (GoesFrom ops (n + 1))
    (listed (goes_to (op_at ops n)) (3 * n) bs)
jumps-more ops n bs range t =
    table-same _ (GoesFrom ops (n + 1)) (listed (goes_to (op_at ops n)) (3 * n) bs) to
    (λ b p h. from b p h (cases_lt p n))
    (table-listed (GoesFrom ops n) bs (goes_to (op_at ops n)) (3 * n) range t)
  where
    to : (b p : ℕ) → Or (GoesFrom ops n) (goes_to (op_at ops n)) (3 * n) b p
        → GoesFrom ops (n + 1) b p
    to b p (inl h) = (omega (arith, h.0), h.1)
    to b p (inr h) =
        let e : p ≡ n = omega (arith, h.1) in
        (omega arith, subst (λ z. goes_to (op_at ops z) ≡ Some b) (sym e) h.0)

    from : (b p : ℕ) → GoesFrom ops (n + 1) b p → (p < n) ⊎ (n ≤ p)
        → Or (GoesFrom ops n) (goes_to (op_at ops n)) (3 * n) b p
    from b p h (inl l) = inl (l, h.1)
    from b p h (inr l) =
        let e : p ≡ n = omega (arith, h.0) in
        inr (subst (λ z. goes_to (op_at ops z) ≡ Some b) e h.1, omega arith)

pub definitions-more : (ops : List Op) (n : ℕ) (bs : List (List ℕ)) → Below (length bs) (defined (op_at ops n))
    → IsTable (DefinedAt ops n) bs → IsTable (DefinedAt ops (n + 1)) (listed (defined (op_at ops n)) (3 * n) bs)
definitions-more ops n bs range t =
    table-same _ (DefinedAt ops (n + 1)) (listed (defined (op_at ops n)) (3 * n) bs) to
    (λ b p h. from b p h (cases_lt p n))
    (table-listed (DefinedAt ops n) bs (defined (op_at ops n)) (3 * n) range t)
  where
    to : (b p : ℕ) → Or (DefinedAt ops n) (defined (op_at ops n)) (3 * n) b p → DefinedAt ops (n + 1) b p
    to b p (inl h) = (omega (arith, h.0), h.1)
    to b p (inr h) =
        let e : p ≡ n = omega (arith, h.1) in (
          omega arith,
          subst (λ z. defines b (op_at ops z) ≡ true) (sym e) (holds-itself b (defined (op_at ops n)) h.0),
        )

    from : (b p : ℕ) → DefinedAt ops (n + 1) b p → (p < n) ⊎ (n ≤ p)
        → Or (DefinedAt ops n) (defined (op_at ops n)) (3 * n) b p
    from b p h (inl l) = inl (l, h.1)
    from b p h (inr l) =
        let e : p ≡ n = omega (arith, h.0) in
        let d : defines b (op_at ops n) ≡ true = subst (λ z. defines b (op_at ops z) ≡ true) e h.1 in
        inr (holds-some b (defined (op_at ops n)) d, omega arith)

-- empty buckets are the table of no ops
pub empty-at : (n b : ℕ) → get_or (empty_buckets n) b [] ≡ []
empty-at zero b = refl
empty-at (suc n) zero = refl
empty-at (suc n) (suc b) = empty-at n b

pub length-empty : (n : ℕ) → length (empty_buckets n) ≡ n
length-empty zero = refl
length-empty (suc n) = omega (arith, length-empty n)

pub table-empty : (P : ℕ → ℕ → Type 0) (n : ℕ) → ((b p : ℕ) → P b p → ⊥)
    → IsTable P (empty_buckets n)
table-empty P n none =
    record {
      sound = λ b. subst (λ zs. Each (λ s. P b (s / 3)) zs) (sym (empty-at n b)) tt;
      complete = λ b p l h. absurd (none b p h);
    }

-- past the end no label stands
past : (ops : List Op) (p : ℕ) → length ops ≤ p → op_at ops p ≡ ReturnZero
past ops p h = get_or_past ops p ReturnZero h

-- the labels at the first n ops are below the count
abbrev pub KnowsBelow : List Op → ℕ → ℕ → Type 0
KnowsBelow ops n count = (p l : ℕ) → p < n → label_of (op_at ops p) ≡ Some l → l < count

pub knows-more : (ops : List Op) (n old new : ℕ) → KnowsBelow ops n old → old ≤ new
    → Below new (label_of (op_at ops n)) → KnowsBelow ops (n + 1) new
knows-more ops n old new k le b p l h e = by-case (cases_lt p n)
  where
    by-case : (p < n) ⊎ (n ≤ p) → l < new
    by-case (inl lt) = omega (arith, k p l lt e)
    by-case (inr ge) =
        let pn : p ≡ n = omega arith in
        let o : label_of (op_at ops n) ≡ Some l = subst (λ z. label_of (op_at ops z) ≡ Some l) pn e
        in
        subst (λ o. Below new o) o b

pub knows-all : (ops : List Op) (count : ℕ) → KnowsBelow ops (length ops) count
    → KnowsLabels ops count
knows-all ops count k p l e = by-case (cases_lt p (length ops))
  where
    by-case : (p < length ops) ⊎ (length ops ≤ p) → l < count
    by-case (inl lt) = k p l lt e
    by-case (inr ge) =
        let r : label_of ReturnZero ≡ Some l = subst (λ o. label_of o ≡ Some l) (past ops p ge) e in
        absurd (cc)
