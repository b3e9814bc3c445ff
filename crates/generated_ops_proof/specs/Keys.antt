-- The keys that a builder has mentioned, and the parameters that it hasn't.
use Rattle.std.specs.Prelude.{◌≡◌, ℕ, zero, suc, List, [], ◌∷◌, Option, Some, None}
use Rattle.icode_ir.specs.Build.{find}
pub use Rattle.tick_lower_spec.specs.Keys.{zeroes, told, firsts, AreDistinct, one_low, low_keys, IsNone, AreOnce}
pub use Rattle.tick_lower_spec.specs.Keys.{SetsKeys}

-- the numbers from k on, so many
abbrev pub upto : (k count : ℕ) → List ℕ
upto k zero = []
upto k (suc n) = k ∷ upto (suc k) n

-- one more, where the key has no register
abbrev pub if_none : Option ℕ → ℕ → List ℕ → List ℕ
if_none None k ks = k ∷ ks
if_none (Some r) k ks = ks

-- those of the parameters that no op mentions
abbrev pub unmentioned : List (ℕ × ℕ) → List ℕ → List ℕ
unmentioned keys [] = []
unmentioned keys (k ∷ ks) = if_none (find k keys) k (unmentioned keys ks)

-- a key that was mentioned
pub record HasKey (key : ℕ) (keys : List (ℕ × ℕ)) : Type 0 where
  pub register : ℕ
  pub found : find key keys ≡ Some register
