-- A function changed at one place.
use Rattle.std.proofs.Common.{◌≡◌, ◌≢◌, ℕ, true, false, refl, nat_eq}
use Rattle.std.proofs.lemmas.Bool.{ne_eqb, eq-eqb}
use Rattle.word32.specs.Space.{update}

pub update_same : (k v : ℕ) (f : ℕ → ℕ) → update k v f k ≡ v
update_same k v f = let e : nat_eq k k ≡ true = eq-eqb k k refl in rw e

pub update_other : (k v : ℕ) (f : ℕ → ℕ) (x : ℕ) → x ≢ k → update k v f x ≡ f x
update_other k v f x h = let e : nat_eq x k ≡ false = ne_eqb x k h in rw e
