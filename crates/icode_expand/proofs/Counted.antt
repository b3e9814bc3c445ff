-- How many instructions bring a value to where it stands, or from there.
use Rattle.std.proofs.Common.{ℕ, ◌≡◌, Bool, true, false, cond, length, refl}
use Rattle.icode_templates.specs.Layout.{InSlot}
use Rattle.icode_templates.specs.Templates.{load_code, out_code}

-- one where the slot is near, and else three
pub loaded : (t : ℕ) (far : Bool) (offset : ℕ) → length (load_code t (InSlot far offset)) ≡ cond far 3 1
loaded t true offset = refl
loaded t false offset = refl

pub stored : (far : Bool) (offset : ℕ) → length (out_code (InSlot far offset)) ≡ cond far 3 1
stored true offset = refl
stored false offset = refl
