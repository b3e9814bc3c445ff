-- Steps once more come together.
use Rattle.std.proofs.Common.{◌≡◌, [], refl, ap, ◌∙◌, Ok, Err, arith}
use Rattle.tick_tree.specs.Faults.{Checked, ◌>>=◌ as ◌>>>=◌}
use Rattle.check_rules.specs.declared.state.State.{State}
use Rattle.check_rules.specs.Walks.{Rule, ◌>>=◌, pure, lift}
use Rattle.walk_again.specs.Again.{Found, told, Kept, Silent, After, Again}

pub kept_refl : (s : State) → Kept s s
kept_refl s = record { objects = refl; strings = omega arith; prototypes = omega arith }

pub kept_more : (s t new : State) → Kept s t → Kept t new → Kept s new
kept_more s t new p q = record {
  objects = q.objects ∙ p.objects;
  strings = omega (arith, p.strings, q.strings);
  prototypes = omega (arith, p.prototypes, q.prototypes);
}

-- where a step and the next one add nothing together, neither does
silent_first : (s t new : State) → Kept s t → Kept t new → Silent s new → Silent s t
silent_first s t new p q z = record {
  strings = omega (arith, p.strings, q.strings, z.strings);
  prototypes = omega (arith, p.prototypes, q.prototypes, z.prototypes);
}

silent_next : (s t new : State) → Kept s t → Kept t new → Silent s new → Silent t new
silent_next s t new p q z = record {
  strings = omega (arith, p.strings, q.strings, z.strings);
  prototypes = omega (arith, p.prototypes, q.prototypes, z.prototypes);
}

-- where objects and strings stay, whatever else changes
pub same_kept : (s new : State) → new.frame.objects ≡ s.frame.objects → new.image.strings ≡ s.image.strings →
    new.functions.prototypes ≡ s.functions.prototypes → Kept s new
same_kept s new o e p = record { objects = o; strings = rw e (omega arith); prototypes = rw p (omega arith) }

pub by_after : {A : Type 0} {k : Found} {r : Rule State A} →
    ((s : State) → s.frame.objects ≡ [] → After k s (r s) (r (told k s))) → Again k r
by_after h = record { at = h }

pub after : {A : Type 0} {k : Found} {r : Rule State A} → Again k r → (s : State) → s.frame.objects ≡ [] →
    After k s (r s) (r (told k s))
after a s e = a.at s e

pub pure_again : {A : Type 0} {k : Found} (x : A) → Again k (pure {S = State} x)
pure_again x = by_after (λ s e. (kept_refl s, λ z. refl))

pub lift_after : {A : Type 0} (k : Found) (r : Checked A) (s : State) → After k s (lift r s) (lift r (told k s))
lift_after k (Ok x) s = (kept_refl s, λ z. refl)
lift_after k (Err f) s = tt

pub lift_again : {A : Type 0} {k : Found} (r : Checked A) → Again k (lift {S = State} r)
lift_again {k = k} r = by_after (λ s e. lift_after k r s)

-- what is read off the state, where both walks read the same
pub read_again : {A : Type 0} {k : Found} (r : State → Checked A) → ((s : State) → r (told k s) ≡ r s) →
    Again k (λ s. lift {S = State} (r s) s)
read_again {k = k} r h = by_after (λ s e. rw (h s) (lift_after k (r s) s))

-- a step behind k one that only changes the state
front_after : {A : Type 0} (k : Found) (s t : State) (r q : Checked (A × State)) → Kept s t →
    After k t r q → After k s r q
front_after k s t (Ok x) q l h =
    (kept_more s t x.1 l h.0, λ z. h.1 (silent_next s t x.1 l h.0 z))
front_after k s t (Err f) q l h = tt

pub again_first : {A : Type 0} {k : Found} {r : Rule State A} (f : State → State) →
    ((s : State) → Kept s (f s)) → ((s : State) → f (told k s) ≡ told k (f s)) → Again k r →
    Again k (λ s. r (f s))
again_first {k = k} {r = r} f l c a = by_after (λ s o. rw (c s)
    (front_after k s (f s) (r (f s)) (r (told k (f s))) (l s) (a.at (f s) ((l s).objects ∙ o))))

-- one step behind k another
behind : {A B : Type 0} (k : Found) (f : A → Rule State B) (s t : State) (x : A) (q : Checked (A × State))
    (r : Checked (B × State)) → Kept s t → (Silent s t → q ≡ Ok (x, told k t)) → After k t r (f x (told k t)) →
    After k s r (q >>>= (λ y. f y.0 y.1))
behind k f s t x q (Ok y) l h g = (
  kept_more s t y.1 l g.0,
  λ z. ap (λ p. p >>>= (λ y. f y.0 y.1)) (h (silent_first s t y.1 l g.0 z)) ∙
      g.1 (silent_next s t y.1 l g.0 z),
)
behind k f s t x q (Err e) l h g = tt

bind_after : {A B : Type 0} (k : Found) (f : A → Rule State B) (s : State) (r q : Checked (A × State)) →
    s.frame.objects ≡ [] → After k s r q → ((x : A) → Again k (f x)) →
    After k s (r >>>= (λ y. f y.0 y.1)) (q >>>= (λ y. f y.0 y.1))
bind_after k f s (Ok x) q o h g =
    behind k f s x.1 x.0 q (f x.0 x.1) h.0 h.1 ((g x.0).at x.1 (h.0.objects ∙ o))
bind_after k f s (Err e) q o h g = tt

pub bind_again : {A B : Type 0} {k : Found} {p : Rule State A} {f : A → Rule State B} → Again k p →
    ((x : A) → Again k (f x)) → Again k (p >>= f)
bind_again {k = k} {p = p} {f = f} h g = by_after (λ s o. bind_after k f s (p s) (p (told k s)) o (h.at s o) g)
