-- What the first pass finds, of its structs.
use Rattle.std.specs.Prelude.{◌≡◌, ℕ, ◌+◌, ◌*◌, ◌≤◌, List, [], length, map, slice_index, slice_index_or}
use Rattle.word32.specs.declared.map.TheConstants.{FUNCTIONS}
use Rattle.typed_tree.specs.Nodes.{Function}
use Rattle.staged_meaning.specs.Program.{Tick}
use Rattle.tick_lower_spec.specs.Lower.{Addresses, listed}
use Rattle.static_image.specs.Layout.{Placed, words_of}
use Rattle.static_backend.specs.declared.plan.Plan.{Plan}
use Rattle.static_backend.specs.declared.plan.Draft.{Draft}
use Rattle.static_backend.specs.Scanned.{IsPlan}
use Rattle.static_backend.specs.Drafted.{IsDraft}

-- the places of each function
abbrev pub places_in : Plan → List (List ℕ)
places_in plan = map (λ p. p.items) plan.places.items

abbrev pub IsPlanOf : List Placed → Plan → Type 0
IsPlanOf placed plan = IsPlan placed plan.starts.items (places_in plan) plan.end

pub record IsDraftOf (ticks : List Tick) (placed : List Placed) (draft : Draft) : Type 0 where
  pub plan : IsPlanOf placed draft.plan
  pub words : IsDraft ticks placed draft.plan.made.items draft.words.items
  pub many : length draft.plan.made.items ≡ length placed

-- all addresses, once those of the functions of ticks are known too
abbrev pub all_at : Plan → (generators : List ℕ) → List Tick → Addresses
all_at plan generators ticks = listed plan.starts.items generators ticks

-- the words of the function of an index, counted from 0, under these addresses
abbrev pub own_words : Addresses → Plan → (index : ℕ) → Function → List ℕ
own_words addresses plan index function =
    words_of addresses (slice_index plan.starts.items index) (record {
      function = function;
      places = slice_index_or (places_in plan) index [];
    })

-- where they begin among words that have room for them
abbrev pub BeginAt : Addresses → Plan → (index : ℕ) → Function → (words : List ℕ) → (first : ℕ) → Type 0
BeginAt addresses plan index function words first =
    (slice_index plan.starts.items index ≡ FUNCTIONS + 4 * first)
    × (first + length (own_words addresses plan index function) ≤ length words)
