-- Where registers live, their intervals, and which places are legal, are the same wherever the functions stand that are
-- called.
use Rattle.std.proofs.Common.{◌≡◌, ℕ, zero, suc, ◌<◌, ◌||◌, ⊎_elim, inl, inr, List, [], ◌∷◌, length, map, refl, sym, ap}
use Rattle.std.proofs.Common.{◌∙◌, subst, Option}
use Rattle.icode_ops.specs.declared.op.Op.{Op}
use Rattle.icode_ops.specs.declared.op.Op.TheVariants as op
use Rattle.icode_ops.specs.Flow.{defined, first_use, second_use, holds, uses, falls, goes_to, label_of, op_at}
use Rattle.icode_ops.specs.Flow.{Follows}
use Rattle.icode_ops.specs.declared.interval.Interval.{Interval}
use Rattle.icode_ops.specs.Live.{Live, Used, Passes, IsAt, IsInterval, Each, AreIntervals}
use Rattle.icode_ops.specs.Places.{IsLegal}
use Rattle.typed_tree.specs.Nodes.{Function}
use Rattle.tick_lower_spec.specs.Lower.{Addresses}
use Rattle.tick_lower_proof.specs.Laws.{code_of, registers_of}
use Rattle.static_image.specs.Layout.{Placed, ops_of, IsLegalChoice}
use Rattle.static_image.proofs.Unaddressed.{aimless_op, code_same, registers_same}

-- two ops define, use and go alike
pub record AreSame (o q : Op) : Type 0 where
  pub definition : defined o ≡ defined q
  pub first : first_use o ≡ first_use q
  pub second : second_use o ≡ second_use q
  pub falling : falls o ≡ falls q
  pub aim : goes_to o ≡ goes_to q
  pub label : label_of o ≡ label_of q

-- and so do two lists of as many
pub record AreAlike (xs ys : List Op) : Type 0 where
  pub long : length xs ≡ length ys
  pub at : (p : ℕ) → AreSame (op_at xs p) (op_at ys p)

same_back : (o q : Op) → AreSame o q → AreSame q o
same_back o q h = record {
  definition = sym h.definition;
  first = sym h.first;
  second = sym h.second;
  falling = sym h.falling;
  aim = sym h.aim;
  label = sym h.label;
}

pub alike_back : (xs ys : List Op) → AreAlike xs ys → AreAlike ys xs
alike_back xs ys h = record { long = sym h.long; at = λ p. same_back (op_at xs p) (op_at ys p) (h.at p) }

-- an op goes on alike whatever it calls or makes
aimless_same : (o : Op) → AreSame (aimless_op o) o
aimless_same (op.Call address) =
    record { definition = refl; first = refl; second = refl; falling = refl; aim = refl; label = refl }
aimless_same (op.Const to word) =
    record { definition = refl; first = refl; second = refl; falling = refl; aim = refl; label = refl }
aimless_same (op.New to address kind captures) =
    record { definition = refl; first = refl; second = refl; falling = refl; aim = refl; label = refl }
aimless_same o =
    record { definition = refl; first = refl; second = refl; falling = refl; aim = refl; label = refl }

aimless_at : (xs : List Op) (p : ℕ) → op_at (map aimless_op xs) p ≡ aimless_op (op_at xs p)
aimless_at [] p = refl
aimless_at (x ∷ xs) zero = refl
aimless_at (x ∷ xs) (suc p) = aimless_at xs p

aimless_long : (xs : List Op) → length (map aimless_op xs) ≡ length xs
aimless_long [] = refl
aimless_long (x ∷ xs) = ap suc (aimless_long xs)

pub aimless_alike : (xs : List Op) → AreAlike (map aimless_op xs) xs
aimless_alike xs = record {
  long = aimless_long xs;
  at = λ p. subst (λ (o : Op). AreSame o (op_at xs p)) (sym (aimless_at xs p)) (aimless_same (op_at xs p));
}

pub alike_through : (xs ys zs : List Op) → AreAlike xs ys → AreAlike ys zs → AreAlike xs zs
alike_through xs ys zs h g = record {
  long = h.long ∙ g.long;
  at = λ p. record {
    definition = (h.at p).definition ∙ (g.at p).definition;
    first = (h.at p).first ∙ (g.at p).first;
    second = (h.at p).second ∙ (g.at p).second;
    falling = (h.at p).falling ∙ (g.at p).falling;
    aim = (h.at p).aim ∙ (g.at p).aim;
    label = (h.at p).label ∙ (g.at p).label;
  };
}

module _ (xs ys : List Op) (alike : AreAlike xs ys) where
  follows_alike : (p q : ℕ) → Follows xs p q → Follows ys p q
  follows_alike p q f = (
    subst (λ (n : ℕ). p < n) alike.long f.0,
    subst (λ (n : ℕ). q < n) alike.long f.1,
    ⊎_elim (λ x. inl (sym (alike.at p).falling ∙ x.0, x.1))
        (λ x. inr (x.0, sym (alike.at p).aim ∙ x.1, sym (alike.at q).label ∙ x.2)) f.2,
  )

  uses_alike : (v p : ℕ) → uses v (op_at xs p) ≡ uses v (op_at ys p)
  uses_alike v p =
      ap (λ (o : Option ℕ). holds v o || holds v (second_use (op_at xs p))) (alike.at p).first
      ∙ ap (λ (o : Option ℕ). holds v (first_use (op_at ys p)) || holds v o) (alike.at p).second

  live_alike : (v p : ℕ) → Live xs v p → Live ys v p
  live_alike v p (Used q u) = Used q (sym (uses_alike v q) ∙ u)
  live_alike v p (Passes q t f d l) =
      Passes q t (follows_alike q t f) (sym (ap (holds v) (alike.at q).definition) ∙ d) (live_alike v t l)

  at_alike : (v p : ℕ) → IsAt xs v p → IsAt ys v p
  at_alike v p h =
      ⊎_elim (λ l. inl (live_alike v p l)) (λ d. inr (sym (ap (holds v) (alike.at p).definition) ∙ d)) h

interval_alike : (xs ys : List Op) → AreAlike xs ys → (v start end : ℕ) → IsInterval xs v start end →
    IsInterval ys v start end
interval_alike xs ys alike v start end h = record {
  first = at_alike xs ys alike v start h.first;
  last = at_alike xs ys alike v end h.last;
  whole = λ p i. h.whole p (at_alike ys xs (alike_back xs ys alike) v p i);
}

each_alike : (xs ys : List Op) → AreAlike xs ys → (is : List Interval) →
    Each (λ i. IsInterval xs i.reg i.start i.end) is → Each (λ i. IsInterval ys i.reg i.start i.end) is
each_alike xs ys alike [] h = tt
each_alike xs ys alike (i ∷ is) h =
    (interval_alike xs ys alike i.reg i.start i.end h.0, each_alike xs ys alike is h.1)

legal_alike : (xs ys : List Op) → AreAlike xs ys → (n : ℕ) (places : List ℕ) → IsLegal xs n places → IsLegal ys n places
legal_alike xs ys alike n places h =
    let back = alike_back xs ys alike in
    record {
      one_each = h.one_each;
      low = h.low;
      kept = λ p v w d low ne after. h.kept p v w ((alike.at p).definition ∙ d) low ne
          (after.0, follows_alike ys xs back p after.0 after.1, live_alike ys xs back w after.0 after.2);
      entry = λ v w ne low lv lw. h.entry v w ne low (live_alike ys xs back v 0 lv) (live_alike ys xs back w 0 lw);
    }

-- the code of a function under two lists of addresses
pub code_alike : (d e : Addresses) (f : Function) → AreAlike (code_of d f) (code_of e f)
code_alike d e f =
    let xs = code_of d f in
    let ys = code_of e f in
    let front = alike_back (map aimless_op xs) xs (aimless_alike xs) in
    let back = subst (λ (zs : List Op). AreAlike zs ys) (sym (code_same d e f)) (aimless_alike ys) in
    alike_through xs (map aimless_op xs) ys front back

pub legal_anywhere : (d e : Addresses) (x : Placed) → IsLegalChoice d x → IsLegalChoice e x
legal_anywhere d e x legal =
    let f = x.function in
    subst (λ (n : ℕ). IsLegal (code_of e f) n x.places) (registers_same d e f)
    (legal_alike (code_of d f) (code_of e f) (code_alike d e f) (registers_of d f) x.places legal)

pub intervals_anywhere : (d e : Addresses) (x : Placed) (is : List Interval) → AreIntervals (ops_of d x) is →
    AreIntervals (ops_of e x) is
intervals_anywhere d e x is h =
    let alike = code_alike d e x.function in
    record {
      sorted = h.sorted;
      each = each_alike (ops_of d x) (ops_of e x) alike is h.each;
      all = λ v p i. h.all v p (at_alike (ops_of e x) (ops_of d x) (alike_back (ops_of d x) (ops_of e x) alike) v p i);
    }
