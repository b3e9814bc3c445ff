-- What the store, the source and the sink tell, and how often each has failed, before and after a call.
use Rattle.std.specs.Prelude.{◌≡◌, ◌≢◌, ℕ, List, Option}
use Rattle.std.specs.Io.KnownBytes.{Keeps}

-- what a store tells of each path: nothing, that no file is there, or its bytes
abbrev pub Files : Type 0
Files = List ℕ → Option (Option (List ℕ))

-- what they tell of what they hold
pub record Outside : Type 0 where
  pub file : Files
  pub left : Option (List ℕ)
  pub taken : Option (List ℕ)

abbrev pub outside : Files → Option (List ℕ) → Option (List ℕ) → Outside
outside file left taken = record { file = file; left = left; taken = taken }

-- how often each has failed
pub record Failures : Type 0 where
  pub store : ℕ
  pub input : ℕ
  pub out : ℕ

abbrev pub failures : ℕ → ℕ → ℕ → Failures
failures store input out = record { store = store; input = input; out = out }

-- no file is another than before
abbrev pub SameFiles : Files → Files → Type 0
SameFiles old new = (q : List ℕ) → new q ≡ old q

-- no file but this one is another than before
abbrev pub SameOtherFiles : List ℕ → Files → Files → Type 0
SameOtherFiles path old new = (q : List ℕ) → q ≢ path → new q ≡ old q

-- nothing was read or written
pub record Still (old new : Outside) : Type 0 where
  pub left : Keeps old.left new.left
  pub taken : Keeps old.taken new.taken

-- nothing was read, written or saved
pub record Silent (old new : Outside) : Type 0 where
  pub files : SameFiles old.file new.file
  pub left : Keeps old.left new.left
  pub taken : Keeps old.taken new.taken

-- nothing was written or saved
pub record Unwritten (old new : Outside) : Type 0 where
  pub files : SameFiles old.file new.file
  pub taken : Keeps old.taken new.taken
