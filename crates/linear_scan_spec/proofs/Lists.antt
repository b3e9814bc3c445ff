-- The list of places: its length, and what stands where.
use Rattle.std.proofs.Common.{ℕ, zero, suc, ◌≡◌, ◌<◌, ◌≤◌, ◌⊎◌, inl, inr, List, [], ◌∷◌, ◌++◌, length, get_or, refl}
use Rattle.std.proofs.Common.{sym, ◌∙◌, ap, subst, arith, length-append}
use Rattle.std.proofs.Math.ListN.{get_or-append}
use Rattle.std.proofs.Math.Seq.{get_or-append_seam}
use Rattle.std.proofs.lemmas.List.{get_or_past}
use Rattle.std.proofs.lemmas.Bool.{cases_lt}
use Rattle.std.proofs.lemmas.Grind.{same_number_lists}
use Rattle.icode_ops.specs.declared.interval.Interval.{Interval}
use Rattle.linear_scan_spec.specs.Scan.{scan, place, places_of}

pub length-places_of : (n : ℕ) (xs : List Interval) → length (places_of n xs) ≡ n
unfolding places_of
length-places_of zero xs = refl
length-places_of (suc n) xs =
    length-append (places_of n xs) (place n (scan xs) ∷ []) ∙ omega (arith, length-places_of n xs)

pub get-places_of : (n : ℕ) (xs : List Interval) (r d : ℕ) → r < n → get_or (places_of n xs) r d
    ≡ place r (scan xs)
unfolding places_of
get-places_of zero xs r d h = absurd (omega arith)
get-places_of (suc n) xs r d h = by-case (cases_lt r n) (get-places_of n xs r d)
  where
    by-case : (r < n) ⊎ (n ≤ r) → (r < n → get_or (places_of n xs) r d ≡ place r (scan xs)) →
        get_or (places_of n xs ++ place n (scan xs) ∷ []) r d ≡ place r (scan xs)
    by-case (inl l) f =
        let lt : r < length (places_of n xs) = omega (arith, length-places_of n xs) in
        get_or-append (places_of n xs) (place n (scan xs) ∷ []) d r lt ∙ f l
    by-case (inr l) _ =
        let e : length (places_of n xs) ≡ r = omega (arith, length-places_of n xs) in
        let f : n ≡ r = omega arith in
        subst (λ m. get_or (places_of n xs ++ place n (scan xs) ∷ []) m d ≡ place n (scan xs)) e
        (get_or-append_seam (places_of n xs) (place n (scan xs)) [] d)
        ∙ ap (λ m. place m (scan xs)) f

pub past-places_of : (n : ℕ) (xs : List Interval) (r d : ℕ) → n ≤ r → get_or (places_of n xs) r d
    ≡ d
past-places_of n xs r d h = get_or_past (places_of n xs) r d (omega (arith, length-places_of n xs))

-- a list whose items are the places is that of the places
pub are-places_of : (places : List ℕ) (xs : List Interval) →
    ((r : ℕ) → r < length places → get_or places r 0 ≡ place r (scan xs)) → places ≡ places_of
    (length places) xs
are-places_of places xs h =
    same_number_lists places (places_of (length places) xs)
    (sym (length-places_of (length places) xs))
    (λ r l. h r l ∙ sym (get-places_of (length places) xs r 0 l))
