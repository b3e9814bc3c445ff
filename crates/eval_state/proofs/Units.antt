-- Several units are spent one after another: all of them, where so many are left; else the run stops.
use Rattle.std.proofs.Common.{◌≡◌, ℕ, zero, suc, ◌-◌, ◌<◌, ◌≤◌, refl, ap, ◌∙◌, arith}
use Rattle.staged_meaning.specs.World.{World, Gives, Stops, Normal, spend_all}

pub all_spent : (n u : ℕ) (w : World) → n ≤ u
    → spend_all n (record w { units = u }) ≡ Gives Normal (record w { units = u - n })
all_spent zero u w h =
    let same : u ≡ u - 0 = omega arith in
    ap (λ k. Gives Normal (record w { units = k })) same
all_spent (suc n) zero w h = absurd (omega (arith, h))
all_spent (suc n) (suc u) w h =
    let same : u - n ≡ suc u - suc n = omega arith in
    all_spent n u w (omega (arith, h)) ∙ ap (λ k. Gives Normal (record w { units = k })) same

pub too_few : (n u : ℕ) (w : World) → u < n → spend_all n (record w { units = u }) ≡ Stops w.shared
too_few zero u w h = absurd (omega (arith, h))
too_few (suc n) zero w h = refl
too_few (suc n) (suc u) w h = too_few n u w (omega (arith, h))
