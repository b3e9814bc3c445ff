-- How the claims of two seams compose, and how a relation that each step keeps gives the lower one.
use Rattle.std.proofs.Common.{◌≡◌, ℕ, zero, suc, ◌+◌, ◌*◌, ◌-◌, ◌<◌, ◌≤◌, Option, Some, None, refl, sym, ap, ◌∙◌, subst}
use Rattle.std.proofs.Common.{arith}
use Rattle.std.specs.Fn.{iterate}
use Rattle.pace.specs.Pace.{Seen}
use Rattle.pace.specs.Claims.{FollowsAtPace, FollowsAtCost, FollowsWithin, PaysFor, PaysWithin, SimulatesStep}
use Rattle.pace.proofs.Runs.{iterate_add}

-- two seams make one
pub through : {Item End : Type 0} (each besides start : ℕ) (meaning upper run : ℕ → Seen Item End) (least most : ℕ → ℕ)
    → FollowsAtCost each besides meaning upper least most → PaysFor start upper least most run
    → FollowsAtPace each (besides + start) meaning run
through each besides start meaning upper run least most f p = record {
  goes_on = λ m none.
      let a = f.goes_on m none in
      let b = p.goes_on a.0 a.3 in
      (b.0, omega (arith, a.1, b.1), omega (arith, a.2, b.2), b.3, a.4 ∙ b.4);
  ends = λ m e is.
      let a = f.ends m e is in
      let b = p.ends a.0 e a.2 in
      (b.0, omega (arith, a.1, b.1), b.2, a.3 ∙ b.3);
}

-- A lower machine that simulates an upper one step by step pays for what its steps cost. The premises: related
-- states look alike, an ended upper state stays, and each step of a running one is simulated.
module _ {Upper Lower Item End : Type 0} (upper_step : Upper → Upper) (lower_step : Lower → Lower)
    (least most : Upper → ℕ) (see : Upper → Seen Item End) (look : Lower → Seen Item End)
    (Related : Upper → Lower → Type 0) (same : (a : Upper) (b : Lower) → Related a b → see a ≡ look b)
    (halts : (a : Upper) (e : End) → (see a).ending ≡ Some e → upper_step a ≡ a)
    (simulates : (a : Upper) (b : Lower) → (see a).ending ≡ None → Related a b →
    SimulatesStep upper_step lower_step least most Related a b) (start : ℕ) where
  record IsPaid (a : Upper) (b : Lower) (done : ℕ) : Type 0 where
    count : ℕ
    from : least a ≤ done + count
    to : done + count ≤ most a + start
    related : Related a (iterate lower_step count b)

  by_step : (a : Upper) (b : Lower) (o : Option End) → (see a).ending ≡ o → Related a b →
      SimulatesStep upper_step lower_step least most Related a b
  by_step a b None e r = simulates a b e r
  by_step a b (Some x) e r =
      let h = halts a x e in
      record {
        count = 0;
        from = rw h (omega arith);
        to = rw h (omega arith);
        related =
            subst (λ z. Related z b) (sym h) r;
      }

  pays : (i : ℕ) (a : Upper) (b : Lower) (done : ℕ) → least a ≤ done → done ≤ most a + start → Related a b →
      IsPaid (iterate upper_step i a) b done
  pays zero a b done low high r = record { count = 0; from = omega arith; to = omega arith; related = r }
  pays (suc i) a b done low high r =
      let f = by_step a b (see a).ending refl r in
      let p = pays i (upper_step a) (iterate lower_step f.count b) (done + f.count) (omega (arith, f.from))
      (omega (arith, f.to)) f.related in
      record {
        count = f.count + p.count;
        from = omega (arith, p.from);
        to = omega (arith, p.to);
        related = subst (Related (iterate upper_step i (upper_step a))) (sym (iterate_add lower_step f.count p.count b))
            p.related;
      }

  -- from states that are related once the lower machine has made its first steps
  pub pays_for : (a : Upper) (b : Lower) (first : ℕ) → Related a (iterate lower_step first b) → least a ≤ first →
      first ≤ most a + start
      → PaysFor start (λ i. see (iterate upper_step i a)) (λ i. least (iterate upper_step i a))
      (λ i. most (iterate upper_step i a)) (λ n. look (iterate lower_step n b))
  pays_for a b first r low high = record {
    goes_on = λ i running.
        let p = pays i a (iterate lower_step first b) first low high r in
        let is = same _ _ p.related in
        let stands = iterate_add lower_step first p.count b in (
          first + p.count,
          p.from,
          p.to,
          ap (λ z. (look z).ending) stands ∙ sym (ap (λ z. z.ending) is) ∙ running,
          ap (λ z. z.history) is ∙ sym (ap (λ z. (look z).history) stands),
        );
    ends = λ i e ended.
        let p = pays i a (iterate lower_step first b) first low high r in
        let is = same _ _ p.related in
        let stands = iterate_add lower_step first p.count b in (
          first + p.count,
          p.to,
          ap (λ z. (look z).ending) stands ∙ sym (ap (λ z. z.ending) is) ∙ ended,
          ap (λ z. z.history) is ∙ sym (ap (λ z. (look z).history) stands),
        );
  }

-- two seams make one where the machine is defined for as many instructions as the units may take
pub through_within : {Item End : Type 0} (units each besides start : ℕ) (meaning upper run : ℕ → Seen Item End)
    (least most : ℕ → ℕ) → FollowsAtCost each besides meaning upper least most
    → PaysWithin (each * units + (besides + start)) start upper least most run
    → FollowsWithin units each (besides + start) meaning run
through_within units each besides start meaning upper run least most f p = record {
  goes_on = λ m le none.
      let a = f.goes_on m none in
      let up = times_up each m units le in
      let b = p.goes_on a.0 (omega (arith, a.2, up)) a.3 in
      (b.0, omega (arith, a.1, b.1), omega (arith, a.2, b.2), b.3, a.4 ∙ b.4);
  ends = λ m e le is.
      let a = f.ends m e is in
      let up = times_up each m units le in
      let b = p.ends a.0 e (omega (arith, a.1, up)) a.2 in
      (b.0, omega (arith, a.1, b.1), b.2, a.3 ∙ b.3);
}
  where
    times_up : (each m units : ℕ) → m ≤ units → each * m ≤ each * units
    times_up zero m units le = omega arith
    times_up (suc k) m units le = let rest = times_up k m units le in omega (arith, rest, le)

-- A step of the upper machine is simulated where the lower one is fine (each choice that it meets is a legal one) for
-- as many instructions as the step may cost at most.
module _ {Upper Lower Item End : Type 0} (upper_step : Upper → Upper) (lower_step : Lower → Lower)
    (least most : Upper → ℕ) (see : Upper → Seen Item End) (look : Lower → Seen Item End)
    (Related : Upper → Lower → Type 0) (same : (a : Upper) (b : Lower) → Related a b → see a ≡ look b)
    (Fine : Lower → Type 0)
    (halts : (a : Upper) (e : End) → (see a).ending ≡ Some e → upper_step a ≡ a)
    (rises : (a : Upper) → most a ≤ most (upper_step a))
    (simulates : (a : Upper) (b : Lower) → (see a).ending ≡ None → Related a b
    → ((k : ℕ) → k < most (upper_step a) - most a → Fine (iterate lower_step k b))
    → SimulatesStep upper_step lower_step least most Related a b)
    (start bound : ℕ) (a0 : Upper) (b0 : Lower) (fine : (k : ℕ) → k < bound → Fine (iterate lower_step k b0)) where
  record IsPaidAt (a : Upper) : Type 0 where
    count : ℕ
    from : least a ≤ count
    to : count ≤ most a + start
    related : Related a (iterate lower_step count b0)

  paid_step : (a : Upper) → most (upper_step a) + start ≤ bound → IsPaidAt a → (o : Option End) → (see a).ending ≡ o
      → IsPaidAt (upper_step a)
  paid_step a le p None none =
      let more = rises a in
      let s = simulates a (iterate lower_step p.count b0) none p.related
      (λ k l. subst Fine (iterate_add lower_step p.count k b0)
      (fine (p.count + k) (let to = p.to in omega (arith, l, to, le, more)))) in
      let from = s.from in
      let to = s.to in
      let low = p.from in
      let high = p.to in
      record {
        count = p.count + s.count;
        from = omega (arith, from, low);
        to = omega (arith, to, high);
        related = subst (Related (upper_step a)) (sym (iterate_add lower_step p.count s.count b0)) s.related;
      }
  paid_step a le p (Some e) is = subst IsPaidAt (sym (halts a e is)) p

  last : (i : ℕ) (a : Upper) → iterate upper_step (suc i) a ≡ upper_step (iterate upper_step i a)
  last zero a = refl
  last (suc i) a = last i (upper_step a)

  paid : (i : ℕ) → IsPaidAt a0 → most (iterate upper_step i a0) + start ≤ bound → IsPaidAt (iterate upper_step i a0)
  paid zero first le = first
  paid (suc i) first le =
      let e = last i a0 in
      let a = iterate upper_step i a0 in
      let le' : most (upper_step a) + start ≤ bound = subst (λ (x : Upper). most x + start ≤ bound) e le in
      let more = rises a in
      subst IsPaidAt (sym e) (paid_step a le' (paid i first (omega (arith, le', more))) (see a).ending refl)

  pub pays_within : (first : ℕ) → Related a0 (iterate lower_step first b0) → least a0 ≤ first → first ≤ most a0 + start
      → PaysWithin bound start (λ i. see (iterate upper_step i a0)) (λ i. least (iterate upper_step i a0))
      (λ i. most (iterate upper_step i a0)) (λ n. look (iterate lower_step n b0))
  pays_within first r low high =
      let begin : IsPaidAt a0 = record { count = first; from = low; to = high; related = r } in
      record {
        goes_on = λ i le running.
            let p = paid i begin le in
            let is = same _ _ p.related in
            (p.count, p.from, p.to, sym (ap (λ z. z.ending) is) ∙ running, ap (λ z. z.history) is);
        ends = λ i e le ended.
            let p = paid i begin le in
            let is = same _ _ p.related in
            (p.count, p.to, sym (ap (λ z. z.ending) is) ∙ ended, ap (λ z. z.history) is);
      }
