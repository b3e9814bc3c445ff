-- What the code keeps for the services, and the generator that this stands for.
use Rattle.std.specs.Prelude.{ℕ, ◌+◌, ◌*◌, ◌≡◌, ◌≤◌, Bool, true, false, List, Option, Some, None, length, take}
use Rattle.limits.specs.declared.ops.TheConstants.{MOST_REGISTERS, MOST_LABELS, MOST_OPS, OP_WORDS, FRAME_WORDS}
use Rattle.icode_ir.specs.declared.builder.Phase.TheVariants.{Begun}
use Rattle.icode_ir.specs.Build.{Build}
use Rattle.icode_ir.specs.Building.{Building}
use Rattle.icode_ops.specs.declared.interval.Interval.{Interval}
use Rattle.mips_model.specs.CodeServices.{Generator}

-- the builder's function, where one is begun
abbrev pub building : Bool → Building → Option Build
building true b = Some b.build
building false b = None

-- whether a function is begun, the builder, how many places the newest function has, which stand in front of this list,
-- and how many spills there were
abbrev pub generator : Bool → Building → ℕ → List ℕ → ℕ → Generator
generator is_begun b count places spills =
    record { build = building is_begun b; choices = take count places; spills = spills }

-- the builder takes ops where a function is begun, and there is room for the places of the largest function, twice
pub record IsService (is_begun : Bool) (b : Building) (count : ℕ) (places next : List ℕ) : Type 0 where
  pub taking : is_begun ≡ true → b.phase ≡ Begun
  pub places_room : MOST_REGISTERS ≤ length places
  pub next_room : MOST_REGISTERS ≤ length next
  pub few : count ≤ MOST_REGISTERS

-- room for the intervals, the labels and the words of the largest function
pub record HasRooms (intervals : List Interval) (labels words : List ℕ) : Type 0 where
  pub intervals_room : MOST_REGISTERS ≤ length intervals
  pub labels_room : MOST_LABELS ≤ length labels
  pub words_room : OP_WORDS * MOST_OPS + FRAME_WORDS ≤ length words
