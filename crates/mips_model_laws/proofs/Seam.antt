-- The second seam, where each of its steps flushes no unwritten word, gives that none of the first instructions does.
use Rattle.std.proofs.Common.{◌≡◌, ℕ, zero, suc, ◌+◌, ◌*◌, ◌-◌, ◌<◌, ◌≤◌, false, Option, Some, None, refl, sym, ap, ◌∙◌}
use Rattle.std.proofs.Common.{subst}
use Rattle.std.proofs.Common.{arith, is_some}
use Rattle.std.specs.Fn.{iterate}
use Rattle.pace.specs.Pace.{Seen}
use Rattle.pace.specs.Claims.{FollowsAtCost, SimulatesStep}
use Rattle.pace.proofs.OnWay.{AllWay, holds_within}
use Rattle.history.specs.Events.{End}
use Rattle.mips_model.specs.State.{World}
use Rattle.mips_model.specs.Steps.{step}
use Rattle.mips_model.specs.Run.{IsWellChosen, IsFine}
use Rattle.mips_model.specs.Told.{Told}
use Rattle.mips_model_laws.specs.Clean.{spoils, IsUnspoiled}
use Rattle.mips_model_laws.specs.Tales.{Tale, tell, see_tale, IsCalm}
use Rattle.mips_model_laws.proofs.Unspoiled.{ended_unspoiled}

-- a tale's world is that of the run
pub world_of_tale : (n : ℕ) (t : Tale) → (iterate tell n t).world ≡ iterate step n t.world
world_of_tale zero t = refl
world_of_tale (suc n) t = world_of_tale n (tell t)

pub tale_unspoiled : (n : ℕ) (t : Tale) → AllWay tell IsCalm n t → IsUnspoiled n t.world
tale_unspoiled n t way j l = subst (λ (w : World). spoils w ≡ false) (world_of_tale j t) (way j l)

pub unspoiled_tale : (n : ℕ) (t : Tale) → IsUnspoiled n t.world → AllWay tell IsCalm n t
unspoiled_tale n t fine j l = subst (λ (w : World). spoils w ≡ false) (sym (world_of_tale j t)) (fine j l)

ended_calm : (n : ℕ) (t : Tale) (e : End) → (see_tale t).ending ≡ Some e → AllWay tell IsCalm n t
ended_calm n t e is = unspoiled_tale n t (ended_unspoiled n t.world (ap (λ (o : Option End). is_some o) is))

module _ {Upper : Type 0} (upper_step : Upper → Upper) (least most : Upper → ℕ) (see : Upper → Seen Told End)
    (Related : Upper → Tale → Type 0) (same : (a : Upper) (t : Tale) → Related a t → see a ≡ see_tale t)
    (halts : (a : Upper) (e : End) → (see a).ending ≡ Some e → upper_step a ≡ a)
    (rises : (a : Upper) → most a ≤ most (upper_step a))
    (simulates : (a : Upper) (t : Tale) → (see a).ending ≡ None → Related a t
    → ((k : ℕ) → k < most (upper_step a) - most a → IsWellChosen (iterate tell k t).world)
    → (s : SimulatesStep upper_step tell least most Related a t) × AllWay tell IsCalm s.count t)
    (start : ℕ) (a0 : Upper) (t0 : Tale) where
  -- the premise of `clean`, for a run that is defined for as many instructions as n units may take
  pub seam_unspoiled : (n each besides : ℕ) (meaning : ℕ → Seen Told End)
      → FollowsAtCost each besides meaning (λ i. see (iterate upper_step i a0)) (λ i. least (iterate upper_step i a0))
      (λ i. most (iterate upper_step i a0))
      → (first : ℕ) → Related a0 (iterate tell first t0) → least a0 ≤ first → first ≤ most a0 + start
      → IsUnspoiled first t0.world → IsFine (each * n + (besides + start)) t0.world → IsUnspoiled n t0.world
  seam_unspoiled n each besides meaning f first r low high begin fine =
      tale_unspoiled n t0
      (holds_within upper_step tell least most see see_tale Related same (λ t. IsWellChosen t.world) IsCalm halts rises
      simulates ended_calm start (each * n + (besides + start)) a0 t0
      (λ k l. subst IsWellChosen (sym (world_of_tale k t0)) (fine k l))
      n each besides meaning f (omega arith) first r low high (unspoiled_tale first t0 begin))
