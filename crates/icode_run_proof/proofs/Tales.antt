-- What a tale tells is what the run tells; and a run on whose way nothing is told yet.
use Rattle.std.proofs.Common.{◌≡◌, ℕ, zero, suc, ◌+◌, ◌-◌, ◌≤◌, Bool, true, List, [], ◌∷◌, ◌++◌, map}
use Rattle.std.proofs.Common.{Option, Some, None, refl, sym, ap, ◌∙◌, arith, append_assoc, append-nil, is_some}
use Rattle.std.proofs.Common.{if◌then◌else◌}
use Rattle.std.specs.Fn.{iterate}
use Rattle.pace.proofs.Runs.{iterate_add}
use Rattle.history.specs.Events.{End}
use Rattle.mips_model.specs.State.{State, World}
use Rattle.mips_model.specs.Steps.{step, going, execute, fetch}
use Rattle.mips_model.specs.Told.{Told, Passed, entered, said, made, told}
use Rattle.mips_model_laws.specs.Tales.{Tale, tell}
use Rattle.mips_model_laws.proofs.Seam.{world_of_tale}

-- what one instruction tells
abbrev pub tells_now : World → List Told
tells_now w = entered w ++ (map Passed (said w) ++ made w)

told_first : (n : ℕ) (w : World) → told (suc n) w ≡ tells_now w ++ told n (step w)
told_first n w =
    ap (λ (xs : List Told). entered w ++ xs) (sym (append_assoc (map Passed (said w)) (made w) (told n (step w))))
    ∙ sym (append_assoc (entered w) (map Passed (said w) ++ made w) (told n (step w)))

pub tale_told : (n : ℕ) (t : Tale) → (iterate tell n t).told ≡ t.told ++ told n t.world
tale_told zero t = sym (append-nil t.told)
tale_told (suc n) t =
    tale_told n (tell t)
    ∙ append_assoc t.told (tells_now t.world) (told n (step t.world))
    ∙ ap (λ (xs : List Told). t.told ++ xs) (sym (told_first n t.world))

pub told_add : (m n : ℕ) (w : World) → told (m + n) w ≡ told m w ++ told n (iterate step m w)
told_add zero n w = ap (λ k. told k w) (let e : 0 + n ≡ n = omega arith in e)
told_add (suc m) n w =
    ap (λ k. told k w) (let e : suc m + n ≡ suc (m + n) = omega arith in e)
    ∙ told_first (m + n) w
    ∙ ap (λ (xs : List Told). tells_now w ++ xs) (told_add m n (step w))
    ∙ sym (append_assoc (tells_now w) (told m (step w)) (told n (iterate step m (step w))))
    ∙ ap (λ (xs : List Told). xs ++ told n (iterate step m (step w))) (sym (told_first m w))

front_empty : (xs ys : List Told) → xs ++ ys ≡ [] → xs ≡ []
front_empty [] ys e = refl
front_empty (x ∷ xs) ys e = absurd cc

-- nothing told in so many instructions, so nothing in fewer
pub quiet_before : (k m : ℕ) (w : World) → told m w ≡ [] → k ≤ m → told k w ≡ []
quiet_before k m w e le =
    let same : k + (m - k) ≡ m = omega (arith, le) in
    front_empty (told k w) (told (m - k) (iterate step k w))
    (sym (told_add k (m - k) w) ∙ ap (λ n. told n w) same ∙ e)

ended_on : (n : ℕ) (w : World) → is_some w.ending ≡ true → iterate step n w ≡ w
ended_on zero w e = refl
ended_on (suc n) w e =
    ap (iterate step n) (ap (λ (b : Bool). if b then w else execute (fetch w.state.code w.state.pc) w.state) e)
    ∙ ended_on n w e

-- a run that goes on had not ended before
pub going_before : (k m : ℕ) (w : World) (s : State) → iterate step m w ≡ going s → k ≤ m
    → (iterate step k w).ending ≡ None
going_before k m w s goes le = by (iterate step k w).ending refl
  where
    way : iterate step (m - k) (iterate step k w) ≡ going s
    way = sym (iterate_add step k (m - k) w)
        ∙ ap (λ n. iterate step n w) (let e : k + (m - k) ≡ m = omega (arith, le) in e) ∙ goes

    by : (o : Option End) → (iterate step k w).ending ≡ o → (iterate step k w).ending ≡ None
    by None e = e
    by (Some f) e =
        let stays = ended_on (m - k) (iterate step k w) (ap (λ (o : Option End). is_some o) e) in
        let none : (iterate step k w).ending ≡ None = ap (λ (v : World). v.ending) (sym stays ∙ way) in
        none

-- so on the way to a place behind which something is told the tale is as it was
pub on_way : (k m n : ℕ) (t : Tale) (s : State) → iterate step (m + n) t.world ≡ going s → told m t.world ≡ []
    → k ≤ m → ((iterate tell k t).world.ending ≡ None) × ((iterate tell k t).told ≡ t.told)
on_way k m n t s goes quiet le = (
  ap (λ (w : World). w.ending) (world_of_tale k t)
      ∙ going_before k (m + n) t.world s goes (omega (arith, le)),
  tale_told k t ∙ ap (λ (xs : List Told). t.told ++ xs) (quiet_before k m t.world quiet le) ∙ append-nil t.told,
)
