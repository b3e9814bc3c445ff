-- A step of the walk that gives an answer, taken apart into the steps that it is made of.
use Rattle.std.proofs.Common.{◌≡◌, refl, ap, Ok, Err}
use Rattle.tick_tree.specs.Faults.{Checked, ◌>>=◌ as ◌>>>=◌}
use Rattle.check_rules.specs.Walks.{Rule, ◌>>=◌, lift}

-- the first step's answer and the state behind it, and what the next one did
pub record Ran {S A B : Type 0} (p : Rule S A) (f : A → Rule S B) (s : S) (y : B) (new : S) : Type 0 where
  pub value : A
  pub state : S
  pub first : p s ≡ Ok (value, state)
  pub next : f value state ≡ Ok (y, new)

ran_by : {S A B : Type 0} (p : Rule S A) (f : A → Rule S B) (s : S) (y : B) (new : S) (r : Checked (A × S)) → p s ≡ r →
    (r >>>= (λ x. f x.0 x.1)) ≡ Ok (y, new) → Ran p f s y new
ran_by p f s y new (Ok x) h e = record { value = x.0; state = x.1; first = h; next = e }
ran_by p f s y new (Err k) h e = cc

pub ran : {S A B : Type 0} (p : Rule S A) (f : A → Rule S B) (s : S) (y : B) (new : S) → (p >>= f) s ≡ Ok (y, new) →
    Ran p f s y new
ran p f s y new e = ran_by p f s y new (p s) refl e

pub ok_same : {A : Type 0} (x y : A) → ◌≡◌ {A = Checked A} (Ok x) (Ok y) → x ≡ y
ok_same x y e = cc

-- a step that changes nothing
pub pure_same : {S A : Type 0} (x y : A) (s new : S) → ◌≡◌ {A = Checked (A × S)} (Ok (x, s)) (Ok (y, new)) → s ≡ new
pure_same x y s new e = ap (λ r. r.1) (ok_same (x, s) (y, new) e)

pub pure_value : {S A : Type 0} (x y : A) (s new : S) → ◌≡◌ {A = Checked (A × S)} (Ok (x, s)) (Ok (y, new)) → x ≡ y
pure_value x y s new e = ap (λ r. r.0) (ok_same (x, s) (y, new) e)

-- a step that only its own rule decides
pub record Lifted {S A : Type 0} (r : Checked A) (s : S) (x : A) (new : S) : Type 0 where
  pub value : r ≡ Ok x
  pub state : s ≡ new

pub lifted : {S A : Type 0} (r : Checked A) (s : S) (x : A) (new : S) → lift r s ≡ Ok (x, new) → Lifted r s x new
lifted (Ok y) s x new e = record { value = ap Ok (pure_value y x s new e); state = pure_same y x s new e }
lifted (Err k) s x new e = cc
