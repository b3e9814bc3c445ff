-- The parts of a step that gave an answer: a `>>=` that gives one has both its parts give one.
use Rattle.std.proofs.Common.{◌≡◌, List, ◌++◌, refl, ap, sym, ◌∙◌, append_assoc, Ok, Err}
use Rattle.tick_tree.specs.Faults.{Checked, ◌>>=◌ as ◌>>>=◌}
use Rattle.check_rules.specs.Walks.{Rule, ◌>>=◌, lift}
use Rattle.wf_walk.specs.Kept.{Starts}
use Rattle.wf_walk.proofs.Walks.{pure_same, pure_value}

pub record Parts {S A B : Type 0} (p : Rule S A) (f : A → Rule S B) (s new : S) (x : B) : Type 0 where
  pub answer : A
  pub between : S
  pub first : p s ≡ Ok (answer, between)
  pub second : f answer between ≡ Ok (x, new)

parts_by : {S A B : Type 0} (p : Rule S A) (f : A → Rule S B) (s new : S) (x : B) (r : Checked (A × S)) → p s ≡ r
    → (r >>>= (λ z. f z.0 z.1)) ≡ Ok (x, new) → Parts p f s new x
parts_by p f s new x (Ok r) e is = record { answer = r.0; between = r.1; first = e; second = is }
parts_by p f s new x (Err k) e is = absurd (cc)

pub parts : {S A B : Type 0} (p : Rule S A) (f : A → Rule S B) (s new : S) (x : B) → (p >>= f) s ≡ Ok (x, new) →
    Parts p f s new x
parts p f s new x is = parts_by p f s new x (p s) refl is

-- a step that only its own rule decides
pub record Lifted {S A : Type 0} (r : Checked A) (s new : S) (x : A) : Type 0 where
  pub same : new ≡ s
  pub gave : r ≡ Ok x

pub lifted : {S A : Type 0} (r : Checked A) (s new : S) (x : A) → lift r s ≡ Ok (x, new) → Lifted r s new x
lifted (Ok y) s new x is = record { same = sym (pure_same y x s new is); gave = ap Ok (pure_value y x s new is) }
lifted (Err k) s new x is = absurd (cc)

-- both parts of a choice of two checked steps
pub record Then {A B : Type 0} (p : Checked A) (f : A → Checked B) (x : B) : Type 0 where
  pub answer : A
  pub first : p ≡ Ok answer
  pub second : f answer ≡ Ok x

pub then_by : {A B : Type 0} (p : Checked A) (f : A → Checked B) (x : B) → (p >>>= f) ≡ Ok x → Then p f x
then_by (Ok a) f x is = record { answer = a; first = refl; second = is }
then_by (Err k) f x is = absurd (cc)

-- ---- lists that begin with others

pub starts_more : {A : Type 0} (xs ys more : List A) → ys ≡ xs ++ more → Starts xs ys
starts_more xs ys more is = record { rest = more; is = is }

pub starts_trans : {A : Type 0} (xs ys zs : List A) → Starts xs ys → Starts ys zs → Starts xs zs
starts_trans xs ys zs a b =
    record { rest = a.rest ++ b.rest; is = b.is ∙ ap (λ l. l ++ b.rest) a.is ∙ append_assoc xs a.rest b.rest }
