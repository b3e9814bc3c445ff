-- The four promises follow from the one claim.
use Rattle.std.proofs.Common.{◌≡◌, ℕ, zero, suc, ◌+◌, ◌*◌, ◌-◌, ◌/◌, ◌<◌, ◌≤◌, Option, Some, None, refl, sym, ap, ◌∙◌}
use Rattle.std.proofs.Common.{subst}
use Rattle.std.proofs.Common.{⊎_elim, arith}
use Rattle.std.proofs.lemmas.Bool.{cases_lt}
use Rattle.pace.specs.Pace.{Seen, IsPrefix, EndsAs, Always, FourParts}
use Rattle.pace.specs.Claims.{Grows, FollowsAtPace, FollowsWithin, IsCovered}
use Rattle.pace.proofs.Runs.{later_prefix, later_same, one_end, to_prefix}

by_ending : {End : Type 0} (P : Type 0) (o : Option End) → (o ≡ None → P) → ((e : End) → o ≡ Some e → P) → P
by_ending P None f g = f refl
by_ending P (Some e) f g = g e refl

none_some : {A End : Type 0} (o : Option End) (e : End) → o ≡ None → o ≡ Some e → A
none_some o e p q = absurd cc

at_least : (each m : ℕ) → 0 < each → m ≤ each * m
at_least zero m positive = absurd (omega (arith, positive))
at_least (suc k) m positive = omega arith

module _ {Item End : Type 0} (each besides : ℕ) (meaning run : ℕ → Seen Item End) (positive : 0 < each)
    (grows : Grows run) (units : ℕ) (claim : FollowsWithin units each besides meaning run) where
  follows : (n : ℕ) → n ≤ units → IsPrefix (run n).history (meaning n).history
  follows n le_n =
      by_ending
      (IsPrefix (run n).history (meaning n).history)
      (meaning n).ending
      (λ none.
      let a = claim.goes_on n le_n none in
      subst (λ h. IsPrefix (run n).history h) (sym a.4) (later_prefix run grows n a.0 a.1))
      (λ e is.
      let a = claim.ends n e le_n is in
      ⊎_elim
      (λ lt. subst (λ h. IsPrefix (run n).history h) (sym a.3) (later_prefix run grows n a.0 (omega arith)))
      (λ le.
      to_prefix (run n).history (meaning n).history
      (ap (λ s. s.history) (later_same run grows a.0 n e le a.2) ∙ sym a.3))
      (cases_lt n a.0))

  keeps_pace : (n : ℕ) → n ≤ units → besides ≤ n → IsPrefix (meaning ((n - besides) / each)).history (run n).history
  keeps_pace n le_n le =
      let m = (n - besides) / each in
      let small : each * m + besides ≤ n = omega (arith, below (n - besides)) in
      let few : m ≤ units = omega (arith, fewer (n - besides), le_n) in
      by_ending
      (IsPrefix (meaning m).history (run n).history)
      (meaning m).ending
      (λ none.
      let a = claim.goes_on m few none in
      subst (λ h. IsPrefix h (run n).history) (sym a.4) (later_prefix run grows a.0 n (omega (arith, a.2))))
      (λ e is.
      let a = claim.ends m e few is in
      subst (λ h. IsPrefix h (run n).history) (sym a.3) (later_prefix run grows a.0 n (omega (arith, a.1))))
    where
      below : (k : ℕ) → each * (k / each) ≤ k
      below k = omega (arith, positive)

      fewer : (k : ℕ) → k / each ≤ k
      fewer k = (let more = at_least each (k / each) positive in
          let some = below k in omega (arith, more, some))

  ends_in_time : (m : ℕ) (e : End) → m ≤ units → (meaning m).ending ≡ Some e →
      EndsAs e (run (each * m + besides)) (meaning m)
  ends_in_time m e le_m is =
      let a = claim.ends m e le_m is in
      let same = later_same run grows a.0 (each * m + besides) e a.1 a.2 in
      record { ending = ap (λ s. s.ending) same ∙ a.2; history = ap (λ s. s.history) same ∙ sym a.3 }

  ends_only_so : (n : ℕ) (e : End) → n ≤ units → (run n).ending ≡ Some e → EndsAs e (meaning n) (run n)
  ends_only_so n e le_n is =
      by_ending
      (EndsAs e (meaning n) (run n))
      (meaning n).ending
      (λ none.
      let a = claim.goes_on n le_n none in
      let same = later_same run grows n a.0 e a.1 is in
      none_some (run n).ending e (sym (ap (λ s. s.ending) same) ∙ a.3) is)
      (λ e' is'.
      let a = claim.ends n e' le_n is' in
      let same = one_end run grows a.0 n e' e a.2 is in
      record {
        ending = is' ∙ sym a.2 ∙ ap (λ s. s.ending) same ∙ is;
        history = a.3 ∙ ap (λ s. s.history) same;
      })

-- the claim for all units is the one for each number of them
pub within : {Item End : Type 0} (each besides : ℕ) (meaning run : ℕ → Seen Item End)
    → FollowsAtPace each besides meaning run → (units : ℕ) → FollowsWithin units each besides meaning run
within each besides meaning run claim units = record {
  goes_on = λ m le none. claim.goes_on m none;
  ends = λ m e le is. claim.ends m e is;
}

module _ {Item End : Type 0} (each besides : ℕ) (meaning run : ℕ → Seen Item End) (positive : 0 < each)
    (grows : Grows run) (claim : FollowsAtPace each besides meaning run) where
  pub four_parts : FourParts Always meaning run each besides
  four_parts = record {
    follows = λ n d. follows each besides meaning run positive grows n (within each besides meaning run claim n) n
        (omega arith);
    keeps_pace = λ n d le. keeps_pace each besides meaning run positive grows n
        (within each besides meaning run claim n) n (omega arith) le;
    ends_in_time = λ m e d is. ends_in_time each besides meaning run positive grows m
        (within each besides meaning run claim m) m e (omega arith) is;
    ends_only_so = λ n e d is. ends_only_so each besides meaning run positive grows n
        (within each besides meaning run claim n) n e (omega arith) is;
  }

-- what holds of a run that follows for n units holds, up to n, of one that does the same there
module _ {Item End : Type 0} (each besides : ℕ) (meaning run : ℕ → Seen Item End) (Defined : ℕ → Type 0)
    (positive : 0 < each) (covered : (n : ℕ) → Defined n → IsCovered each besides meaning run n) where
  pub four_parts_where_defined : FourParts Defined meaning run each besides
  four_parts_where_defined = record {
    follows = λ n d.
        let c = covered n d in
        subst (λ s. IsPrefix s.history (meaning n).history) c.same
        (follows each besides meaning c.other positive c.grows n c.follows n (omega arith));
    keeps_pace = λ n d le.
        let c = covered n d in
        subst (λ s. IsPrefix (meaning ((n - besides) / each)).history s.history) c.same
        (keeps_pace each besides meaning c.other positive c.grows n c.follows n (omega arith) le);
    ends_in_time = λ m e d is.
        let c = covered (each * m + besides) d in
        subst (λ s. EndsAs e s (meaning m)) c.same
        (ends_in_time each besides meaning c.other positive c.grows (each * m + besides) c.follows m e
        (omega (arith, at_least each m positive)) is);
    ends_only_so = λ n e d is.
        let c = covered n d in
        subst (λ s. EndsAs e (meaning n) s) c.same
        (ends_only_so each besides meaning c.other positive c.grows n c.follows n e (omega arith)
        (ap (λ s. s.ending) c.same ∙ is));
  }
