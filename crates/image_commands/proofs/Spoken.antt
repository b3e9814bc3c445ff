-- What is said where a test holds; where it doesn't, nothing is.
use Rattle.std.proofs.Common.{◌≡◌, Bool, true, false, ℕ, List, [], Option, Result, OnOk, OnErr, if◌then◌else◌}
use Rattle.std.specs.Io.KnownBytes.{Appends}
use Rattle.std.proofs.KnownBytes.{Appends-nil}
use Rattle.host_edge.specs.Moves.{TakesFront}

module _ {T E : Type 0} (r : Result T E) (b : Bool) (line : List ℕ) (taken told : Option (List ℕ)) (is : b ≡ true) where
  pub said_whole : OnOk r (Appends taken told line) → OnOk r (Appends taken told (if b then line else []))
  said_whole h = rw is h

  pub said_front : OnErr r (TakesFront taken told line) → OnErr r (TakesFront taken told (if b then line else []))
  said_front h = rw is h

pub said_nothing : (b : Bool) (line : List ℕ) (taken : Option (List ℕ)) → b ≡ false →
    Appends taken taken (if b then line else [])
said_nothing b line taken is = rw is (Appends-nil taken)
