-- What a table of the places below 12 that are used stands for.
use Rattle.std.specs.Prelude.{ℕ, Bool, false, List, slice_index_or}
use Rattle.std.specs.List.{filter}
use Rattle.icode_saves.specs.Places.{register_places}

-- the places that are marked, in rising order
unfoldable pub marked : List Bool → List ℕ
marked table = filter (λ p. slice_index_or table p false) register_places
