-- The files of a store in memory, path by path. A map from paths to bytes is what the store stands for; it is
-- seen as a function, so that "no other path changes" is said of every path.
use Rattle.std.specs.Prelude.{ℕ, List, Option, Bool, ◌||◌, is_none}
use Rattle.std.specs.Option.{option_map}
use Rattle.std.specs.BTreeMap.{get_by_text}
use Rattle.memory_edge.specs.declared.memory_store.MemStore.{MemStore}
use Rattle.memory_edge.specs.Memory.{next_fails}

-- the file at a path
abbrev pub file_at : MemStore → List ℕ → Option (List ℕ)
file_at s path = option_map (λ v. v.items) (get_by_text s.files path)

-- a load of this path fails: it is listed, or no file is there
abbrev pub load_fails : MemStore → List ℕ → Bool
load_fails s path = next_fails s.calls || is_none (file_at s path)
