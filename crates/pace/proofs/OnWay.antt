-- What holds before each instruction of the lower machine on the way, where the steps of a simulation have it.
use Rattle.std.proofs.Common.{◌≡◌, inl, inr, ℕ, zero, suc, ◌+◌, ◌*◌, ◌-◌, ◌<◌, ◌≤◌, Option, Some, None, refl, sym, ap}
use Rattle.std.proofs.Common.{◌∙◌}
use Rattle.std.proofs.Common.{subst, arith}
use Rattle.std.specs.Fn.{iterate}
use Rattle.std.proofs.lemmas.Bool.{cases_lt}
use Rattle.pace.specs.Pace.{Seen}
use Rattle.pace.specs.Claims.{FollowsAtCost, SimulatesStep}
use Rattle.pace.proofs.Runs.{iterate_add}

-- before each of so many instructions this holds
abbrev pub AllWay : {Lower : Type 0} → (Lower → Lower) → (Lower → Type 0) → (count : ℕ) → Lower → Type 0
AllWay {Lower} lower_step Holds count b = (j : ℕ) → j < count → Holds (iterate lower_step j b)

pub way_on : {Lower : Type 0} (lower_step : Lower → Lower) (Holds : Lower → Type 0) (m n : ℕ) (b : Lower)
    → AllWay lower_step Holds m b → AllWay lower_step Holds n (iterate lower_step m b)
    → AllWay lower_step Holds (m + n) b
way_on lower_step Holds m n b first second j l = elim (cases_lt j m) [
  | inl less ↦ first j less
  | inr more ↦ (let e : m + (j - m) ≡ j = omega (arith, more) in
      subst (λ k. Holds (iterate lower_step k b)) e
      (subst Holds (sym (iterate_add lower_step m (j - m) b)) (second (j - m) (omega (arith, l, more)))))
]

-- A simulation as `pays_within` has it, in each step of which this holds before each instruction; it holds of what has
-- ended too, which stays.
module _ {Upper Lower Item End : Type 0} (upper_step : Upper → Upper) (lower_step : Lower → Lower)
    (least most : Upper → ℕ) (see : Upper → Seen Item End) (look : Lower → Seen Item End)
    (Related : Upper → Lower → Type 0) (same : (a : Upper) (b : Lower) → Related a b → see a ≡ look b)
    (Fine : Lower → Type 0) (Holds : Lower → Type 0)
    (halts : (a : Upper) (e : End) → (see a).ending ≡ Some e → upper_step a ≡ a)
    (rises : (a : Upper) → most a ≤ most (upper_step a))
    (simulates : (a : Upper) (b : Lower) → (see a).ending ≡ None → Related a b
    → ((k : ℕ) → k < most (upper_step a) - most a → Fine (iterate lower_step k b))
    → (s : SimulatesStep upper_step lower_step least most Related a b) × AllWay lower_step Holds s.count b)
    (ended : (n : ℕ) (b : Lower) (e : End) → (look b).ending ≡ Some e → AllWay lower_step Holds n b)
    (start bound : ℕ) (a0 : Upper) (b0 : Lower) (fine : (k : ℕ) → k < bound → Fine (iterate lower_step k b0)) where
  record IsHeld (a : Upper) : Type 0 where
    count : ℕ
    from : least a ≤ count
    to : count ≤ most a + start
    related : Related a (iterate lower_step count b0)
    holds : AllWay lower_step Holds count b0

  held_step : (a : Upper) → most (upper_step a) + start ≤ bound → IsHeld a → (o : Option End) → (see a).ending ≡ o
      → IsHeld (upper_step a)
  held_step a le p None none =
      let more = rises a in
      let r = simulates a (iterate lower_step p.count b0) none p.related
      (λ k l. subst Fine (iterate_add lower_step p.count k b0)
      (fine (p.count + k) (let to = p.to in omega (arith, l, to, le, more)))) in
      let s = r.0 in
      let from = s.from in
      let to = s.to in
      let low = p.from in
      let high = p.to in
      record {
        count = p.count + s.count;
        from = omega (arith, from, low);
        to = omega (arith, to, high);
        related = subst (Related (upper_step a)) (sym (iterate_add lower_step p.count s.count b0)) s.related;
        holds = way_on lower_step Holds p.count s.count b0 p.holds r.1;
      }
  held_step a le p (Some e) is = subst IsHeld (sym (halts a e is)) p

  last : (i : ℕ) (a : Upper) → iterate upper_step (suc i) a ≡ upper_step (iterate upper_step i a)
  last zero a = refl
  last (suc i) a = last i (upper_step a)

  held : (i : ℕ) → IsHeld a0 → most (iterate upper_step i a0) + start ≤ bound → IsHeld (iterate upper_step i a0)
  held zero first le = first
  held (suc i) first le =
      let e = last i a0 in
      let a = iterate upper_step i a0 in
      let le' : most (upper_step a) + start ≤ bound = subst (λ (x : Upper). most x + start ≤ bound) e le in
      let more = rises a in
      subst IsHeld (sym e) (held_step a le' (held i first (omega (arith, le', more))) (see a).ending refl)

  -- So before each of as many instructions as there are units this holds, where the machine is fine for as many as the
  -- units may take.
  pub holds_within : (units each besides : ℕ) (meaning : ℕ → Seen Item End)
      → FollowsAtCost each besides meaning (λ i. see (iterate upper_step i a0)) (λ i. least (iterate upper_step i a0))
      (λ i. most (iterate upper_step i a0)) → each * units + (besides + start) ≤ bound
      → (first : ℕ) → Related a0 (iterate lower_step first b0) → least a0 ≤ first → first ≤ most a0 + start
      → AllWay lower_step Holds first b0 → AllWay lower_step Holds units b0
  holds_within units each besides meaning f enough first r low high there =
      by (meaning units).ending refl
    where
      begin : IsHeld a0
      begin = record { count = first; from = low; to = high; related = r; holds = there }

      fewer : (m : ℕ) → units ≤ m → AllWay lower_step Holds m b0 → AllWay lower_step Holds units b0
      fewer m le way j l = way j (omega (arith, l, le))

      by : (o : Option End) → (meaning units).ending ≡ o → AllWay lower_step Holds units b0
      by None none =
          let a = f.goes_on units none in
          let p = held a.0 begin (omega (arith, a.2, enough)) in
          let from = p.from in
          fewer p.count (omega (arith, from, a.1)) p.holds
      by (Some e) is =
          let a = f.ends units e is in
          let p = held a.0 begin (omega (arith, a.1, enough)) in
          let s = same _ _ p.related in
          let over : (look (iterate lower_step p.count b0)).ending ≡ Some e =
          sym (ap (λ (z : Seen Item End). z.ending) s) ∙ a.2 in
          fewer (p.count + units) (omega arith)
          (way_on lower_step Holds p.count units b0 p.holds (ended units (iterate lower_step p.count b0) e over))
