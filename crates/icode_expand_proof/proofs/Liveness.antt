-- Where registers are live, along the steps of the staged machine.
use Rattle.std.proofs.Common.{◌≡◌, inl, inr, ℕ, zero, suc, ◌<◌, ◌≤◌, Bool, true, false, List, [], ◌∷◌, length}
use Rattle.std.proofs.Common.{Option, Some, None, refl, sym, ap, ◌∙◌, subst, arith, slice_get, if◌then◌else◌}
use Rattle.std.proofs.lemmas.Bool.{cases_lt}
use Rattle.std.proofs.lemmas.Bool.Decides.{nat_tests}
use Rattle.icode_ops.specs.declared.op.Op.{Op}
use Rattle.icode_ops.specs.declared.op.Op.TheVariants.{ReturnZero}
use Rattle.icode_ops.specs.Flow.{op_at, Follows, falls, goes_to, label_of, holds, uses, defines}
use Rattle.icode_ops.specs.Finished.{Below}
use Rattle.icode_ops.specs.Live.{Live, Used, Passes}
use Rattle.icode_ops.specs.Labels.{label_index}

pub record Found (ops : List Op) (i : ℕ) (o : Op) : Type 0 where
  pub is : op_at ops i ≡ o
  pub inside : i < length ops

pub op_found : (ops : List Op) (i : ℕ) (o : Op) → slice_get ops i ≡ Some o → Found ops i o
op_found [] i o h = absurd cc
op_found (p ∷ ops) zero o h = record { is = cc; inside = omega arith }
op_found (p ∷ ops) (suc i) o h = let f = op_found ops i o h in record { is = f.is; inside = omega (arith, f.inside) }

past_end : (ops : List Op) (i : ℕ) → length ops ≤ i → op_at ops i ≡ ReturnZero
past_end [] i h = refl
past_end (p ∷ ops) zero h = absurd (omega (arith, h))
past_end (p ∷ ops) (suc i) h = past_end ops i (omega (arith, h))

-- nothing is live past the last op
pub live_inside : (ops : List Op) (v i : ℕ) → Live ops v i → i < length ops
live_inside ops v i (Used p u) = elim (cases_lt p (length ops)) [
  | inl l ↦ l
  | inr g ↦ let e : false ≡ true = sym (ap (uses v) (past_end ops p g)) ∙ u in absurd cc
]
live_inside ops v i (Passes p q f d l) = f.0

pub label_stands : (ops : List Op) (l : ℕ) → label_index l ops < length ops → label_of (op_at ops (label_index l ops))
    ≡ Some l
label_stands [] l h = absurd (omega (arith, h))
label_stands (o ∷ ops) l h = by (holds l (label_of o)) refl (label_stands ops l)
  where
    held : (x : Option ℕ) → holds l x ≡ true → x ≡ Some l
    held None e = absurd cc
    held (Some r) e = let q : l ≡ r = grind (arith, nat_tests, e) in ap Some (sym q)

    by : (b : Bool) → holds l (label_of o) ≡ b
        → (label_index l ops < length ops → label_of (op_at ops (label_index l ops)) ≡ Some l)
        → label_of (op_at (o ∷ ops) (if holds l (label_of o) then 0 else suc (label_index l ops))) ≡ Some l
    by true e ih = rw e (held (label_of o) e)
    by false e ih =
        let n : (if holds l (label_of o) then 0 else suc (label_index l ops)) ≡ suc (label_index l ops) =
        ap (λ (b : Bool). if b then 0 else suc (label_index l ops)) e in
        let less : suc (label_index l ops) < length (o ∷ ops) = subst (λ k. k < length (o ∷ ops)) n h in
        rw e (ih (omega (arith, less)))

-- control goes on to the next op, and to a label
pub next_follows : (ops : List Op) (v i : ℕ) (o : Op) → slice_get ops i ≡ Some o → falls o ≡ true → Live ops v (suc i)
    → Follows ops i (suc i)
next_follows ops v i o h f l =
    let found = op_found ops i o h in
    (found.inside, live_inside ops v (suc i) l, inl (ap falls found.is ∙ f, omega arith))

pub label_follows : (ops : List Op) (v i label : ℕ) (o : Op) → slice_get ops i ≡ Some o → goes_to o ≡ Some label
    → Live ops v (label_index label ops) → Follows ops i (label_index label ops)
label_follows ops v i label o h g l =
    let found = op_found ops i o h in
    let inside = live_inside ops v (label_index label ops) l in
    (found.inside, inside, inr (label, ap goes_to found.is ∙ g, label_stands ops label inside))

-- what is live behind an op that doesn't define it is live before
pub live_before : (ops : List Op) (v i j : ℕ) (o : Op) → slice_get ops i ≡ Some o → Follows ops i j
    → defines v o ≡ false → Live ops v j → Live ops v i
live_before ops v i j o h f d l = Passes i j f (ap (defines v) (op_found ops i o h).is ∙ d) l

pub live_use : (ops : List Op) (v i : ℕ) (o : Op) → slice_get ops i ≡ Some o → uses v o ≡ true → Live ops v i
live_use ops v i o h u = Used i (ap (uses v) (op_found ops i o h).is ∙ u)

-- what an op names lies below the number of registers
pub below_some : (n : ℕ) (o : Option ℕ) (r : ℕ) → o ≡ Some r → Below n o → r < n
below_some n o r e b = subst (Below n) e b
