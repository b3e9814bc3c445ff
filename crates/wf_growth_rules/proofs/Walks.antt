-- Growths come together over steps.
use Rattle.std.proofs.Common.{◌≡◌, ℕ, ◌+◌, ◌≤◌, refl, ap, subst, Ok, Err, arith}
use Rattle.tick_tree.specs.Faults.{Checked, ◌>>=◌ as ◌>>>=◌}
use Rattle.check_rules.specs.declared.state.State.{State}
use Rattle.check_rules.specs.Walks.{Rule, ◌>>=◌, pure, lift}
use Rattle.wf_growth_rules.specs.Light.{Light, After, Bounded}

pub light_refl : (w : ℕ) (s : State) → Light w s s
light_refl w s = record { captures = omega arith; inner = omega arith; homes = omega arith; ticks = omega arith }

pub light_more : (v w : ℕ) (s t new : State) → Light v s t → Light w t new → Light (v + w) s new
light_more v w s t new p q =
    record { captures = omega arith; inner = omega arith; homes = omega arith; ticks = omega arith }

pub light_weak : (v w : ℕ) (s new : State) → Light v s new → v ≤ w → Light w s new
light_weak v w s new p h =
    record { captures = omega arith; inner = omega arith; homes = omega arith; ticks = omega arith }

-- ---- steps

pub weak : {A : Type 0} {v : ℕ} {r : Rule State A} (w : ℕ) → Bounded v r → v ≤ w → Bounded w r
weak {v = v} w b h = record { light = λ s new x e. light_weak v w s new (b.light s new x e) h }

pub ok_same : {A : Type 0} (x y : A) → ◌≡◌ {A = Checked A} (Ok x) (Ok y) → x ≡ y
ok_same x y e = cc

after_light : {A : Type 0} (w : ℕ) (s new : State) (x : A) (r : Checked (A × State)) → After w s r → r ≡ Ok (x, new) →
    Light w s new
after_light w s new x (Ok y) l e = subst (λ z. Light w s z) (ap (λ r. r.1) (ok_same y (x, new) e)) l
after_light w s new x (Err f) l e = cc

-- by what comes of the step
pub by_after : {A : Type 0} {w : ℕ} {r : Rule State A} → ((s : State) → After w s (r s)) → Bounded w r
by_after {w = w} {r = r} h = record { light = λ s new x e. after_light w s new x (r s) (h s) e }

light_after : {A : Type 0} (w : ℕ) (s : State) (r : Checked (A × State)) →
    ((new : State) (x : A) → r ≡ Ok (x, new) → Light w s new) → After w s r
light_after w s (Ok x) h = h x.1 x.0 refl
light_after w s (Err f) h = tt

-- what comes of a step
pub after : {A : Type 0} {w : ℕ} {r : Rule State A} → Bounded w r → (s : State) → After w s (r s)
after {w = w} {r = r} b s = light_after w s (r s) (λ new x e. b.light s new x e)

-- from a state that grew from another one, or was made smaller
after_front : {A : Type 0} (v w : ℕ) (s t : State) (r : Checked (A × State)) → Light v s t → After w t r →
    After (v + w) s r
after_front v w s t (Ok x) l h = light_more v w s t x.1 l h
after_front v w s t (Err f) l h = tt

pub light_first : {A : Type 0} {v w : ℕ} {r : Rule State A} (f : State → State) → ((s : State) → Light v s (f s)) →
    Bounded w r → Bounded (v + w) (λ s. r (f s))
light_first {v = v} {w = w} {r = r} f l b = by_after (λ s. after_front v w s (f s) (r (f s)) (l s) (after b (f s)))

pub pure_light : {A : Type 0} (x : A) → Bounded 0 (pure {S = State} x)
pure_light x = by_after (λ s. light_refl 0 s)

pub lift_after : {A : Type 0} (r : Checked A) (s : State) → After 0 s (lift r s)
lift_after (Ok x) s = light_refl 0 s
lift_after (Err k) s = tt

pub lift_light : {A : Type 0} (r : Checked A) → Bounded 0 (lift {S = State} r)
lift_light r = by_after (λ s. lift_after r s)

-- what is read off the state
pub read_light : {A : Type 0} (r : State → Checked A) → Bounded 0 (λ s. lift {S = State} (r s) s)
read_light r = by_after (λ s. lift_after (r s) s)

bind_after : {A B : Type 0} (v w : ℕ) (f : A → Rule State B) (s : State) (r : Checked (A × State)) → After v s r →
    ((x : A) → Bounded w (f x)) → After (v + w) s (r >>>= (λ x. f x.0 x.1))
bind_after v w f s (Ok x) h k = after_front v w s x.1 (f x.0 x.1) h (after (k x.0) x.1)
bind_after v w f s (Err k) h l = tt

pub bind_light : {A B : Type 0} {v w : ℕ} {p : Rule State A} {f : A → Rule State B} → Bounded v p →
    ((x : A) → Bounded w (f x)) → Bounded (v + w) (p >>= f)
bind_light {v = v} {w = w} {p = p} {f = f} h k = by_after (λ s. bind_after v w f s (p s) (after h s) k)
