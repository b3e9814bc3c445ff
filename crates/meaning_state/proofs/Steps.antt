-- Bodies hold ranges that have no word in common, as one is made or freed.
use Rattle.std.proofs.Common.{◌≡◌, ◌≢◌, ℕ, zero, suc, ◌+◌, ◌<◌, Bool, true, false, List, [], ◌∷◌, ◌++◌}
use Rattle.std.proofs.Common.{arith, refl, nat_le, nat_lt, nat_eq, if◌then◌else◌, sym, ap, ◌∙◌, subst, Some, None}
use Rattle.std.proofs.lemmas.Bool.{leb-true, eq-eqb, ne_eqb}
use Rattle.history.specs.Syntax.{Syntax}
use Rattle.free_ranges.specs.Ranges.{AreRanges, first_fit, with_range, range_at}
use Rattle.meaning_state.specs.Bodies.{Body, held, held_with, new_body, freed, NoneBeginsAt, BeginApart}
use Rattle.meaning_state.specs.Bodies.{StepsKeepHeld}
use Rattle.free_ranges.proofs.Stays.{ranges_stay, fit_from}
use Rattle.meaning_state.proofs.Held.{with_body, comes_last, held_by_each}

none_below : (v from total : ℕ) (rs : List (ℕ × ℕ)) → AreRanges from total rs → v < from → range_at v rs ≡ None
none_below v from total [] a l = refl
none_below v from total (r ∷ rs) a l = (let x = a.0 in
    ap (λ c. if c then Some r.1 else range_at v rs) (ne_eqb r.0 v (λ e. omega (arith, e, x, l)))
    ∙ none_below v (r.0 + r.1) total rs a.2 (omega (arith, x, l)))

-- where first fit finds room no range begins
fit_free : (count from total w : ℕ) (rs : List (ℕ × ℕ)) → 0 < count → AreRanges from total rs
    → first_fit count from total rs ≡ Some w → range_at w rs ≡ None
fit_free count from total w [] some a e = refl
fit_free count from total w (r ∷ rs) some a e =
    by (λ h. fit_free count (r.0 + r.1) total w rs some a.2 h) (nat_le (from + count) r.0) refl e
  where
    by : (first_fit count (r.0 + r.1) total rs ≡ Some w → range_at w rs ≡ None) → (b : Bool)
        → nat_le (from + count) r.0 ≡ b
        → (if b then Some from else first_fit count (r.0 + r.1) total rs) ≡ Some w → range_at w (r ∷ rs) ≡ None
    by ih true t h = (let x : from ≡ w = cc in let l = leb-true (from + count) r.0 t in
        ap (λ c. if c then Some r.1 else range_at w rs) (ne_eqb r.0 w (λ q. omega (arith, q, x, l, some)))
        ∙ none_below w (r.0 + r.1) total rs a.2 (omega (arith, x, l, some)))
    by ih false t h = (let l = fit_from count (r.0 + r.1) total w rs a.2 h in let p = a.1 in
        ap (λ c. if c then Some r.1 else range_at w rs) (ne_eqb r.0 w (λ q. omega (arith, q, l, p))) ∙ ih h)

-- a range that was put in begins where it begins
is_there : (f c : ℕ) (l : List (ℕ × ℕ)) → range_at f (with_range (f, c) l) ≢ None
is_there f c [] e = (let h = ap (λ b. if b then Some c else None) (sym (eq-eqb f f refl)) ∙ e in absurd cc)
is_there f c (r ∷ rs) e = by (λ h. is_there f c rs h) (nat_lt f r.0) (nat_eq r.0 f) refl e
  where
    by : (range_at f (with_range (f, c) rs) ≡ None → ⊥) → (b n : Bool) → nat_eq r.0 f ≡ n
        → range_at f (if b then (f, c) ∷ r ∷ rs else r ∷ with_range (f, c) rs) ≡ None → ⊥
    by ih true n t h = (let z = ap (λ b. if b then Some c else range_at f (r ∷ rs)) (sym (eq-eqb f f refl)) ∙ h in
        absurd cc)
    by ih false true t h = (let z = ap (λ b. if b then Some r.1 else range_at f (with_range (f, c) rs)) (sym t) ∙ h in
        absurd cc)
    by ih false false t h = ih (ap (λ b. if b then Some r.1 else range_at f (with_range (f, c) rs)) (sym t) ∙ h)

none_begins : (f : ℕ) (others : List (ℕ × ℕ)) (bs : List Body) → BeginApart bs
    → range_at f (held_with others bs) ≡ None → NoneBeginsAt f bs
none_begins f others [] a e = record {}
none_begins f others (b ∷ bs) a e = (
  λ live same. (let last = comes_last (b.first, b.count) others bs (a.0 live) in
      let now : held_with (with_body b others) bs ≡ with_range (b.first, b.count) (held_with others bs) =
      ap (λ x. held_with (if x then with_range (b.first, b.count) others else others) bs) live ∙ last in
      is_there b.first b.count (held_with others bs) (ap (range_at b.first) (sym now)
      ∙ ap (λ x. range_at x (held_with (with_body b others) bs)) same ∙ e)),
  none_begins f (with_body b others) bs a.1 e,
)

none_more : (syntax : Syntax) (f w count : ℕ) (bs : List Body) → w ≢ f → NoneBeginsAt f bs
    → NoneBeginsAt f (bs ++ new_body syntax w count ∷ [])
none_more syntax f w count [] ne n = (λ l. ne, record {})
none_more syntax f w count (b ∷ bs) ne n = (n.0, none_more syntax f w count bs ne n.1)

apart_more : (syntax : Syntax) (w count : ℕ) (bs : List Body) → BeginApart bs → NoneBeginsAt w bs
    → BeginApart (bs ++ new_body syntax w count ∷ [])
apart_more syntax w count [] a n = (λ l. record {}, record {})
apart_more syntax w count (b ∷ bs) a n =
    (λ l. none_more syntax b.first w count bs (λ e. n.0 l (sym e)) (a.0 l), apart_more syntax w count bs a.1 n.1)

none_less : (f i : ℕ) (bs : List Body) → NoneBeginsAt f bs → NoneBeginsAt f (freed i bs)
none_less f i [] n = n
none_less f zero (b ∷ bs) n = ((λ l. absurd cc), n.1)
none_less f (suc i) (b ∷ bs) n = (n.0, none_less f i bs n.1)

apart_less : (i : ℕ) (bs : List Body) → BeginApart bs → BeginApart (freed i bs)
apart_less i [] a = a
apart_less zero (b ∷ bs) a = ((λ l. absurd cc), a.1)
apart_less (suc i) (b ∷ bs) a = (λ l. none_less b.first i bs (a.0 l), apart_less i bs a.1)

pub steps_keep_held : StepsKeepHeld
steps_keep_held total bodies h = (
  λ syntax count word some e. record {
    ranges = subst (AreRanges 0 total) (sym ((held_by_each bodies).0 syntax word count))
        ((ranges_stay 0 total (held bodies) h.ranges).0 count word some e);
    apart = apart_more syntax word count bodies h.apart (none_begins word [] bodies h.apart
        (fit_free count 0 total word (held bodies) some h.ranges e));
  },
  λ i b at live. record {
    ranges = subst (AreRanges 0 total) (sym ((held_by_each bodies).1 i b h.apart at live))
        ((ranges_stay 0 total (held bodies) h.ranges).1 b.first);
    apart = apart_less i bodies h.apart;
  },
)
