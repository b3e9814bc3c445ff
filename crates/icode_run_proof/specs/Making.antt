-- What of memory says how far the specification of a tick has come: none is made; its sizes are added up; or its
-- closure stands, and still gets captured words. The rules are this project's own.
use Rattle.std.specs.Prelude.{◌≡◌, ℕ, ◌≤◌, List, None}
use Rattle.word32.specs.declared.map.TheConstants.{NEXT_CLOSURE_CELL, SPEC_COUNT_CELL, SIZE_CELL, PARAMETERS_CELL}
use Rattle.word32.specs.declared.map.TheConstants.{CLOSURE_CELL}
use Rattle.limits.specs.declared.program.TheConstants.{SIZE_LIMIT}
use Rattle.mips_model.specs.State.{Data}
use Rattle.meaning_state.specs.Shared.{Shared}
use Rattle.meaning_state.specs.Rows.{closure_trap}
use Rattle.icode_templates_proof.specs.Closures.{Head, appended, word_at, size_so_far, parameters_so_far}
use Rattle.closures_proof.specs.Relation.{Text, HasSpecifications}
use Rattle.closures_proof.specs.Laws.{puts, AreWordsIn}

-- how far: `Filling` has the closure's head, how many captured words it is to get, and those that it got
pub data Draft : Type 0 where
  Nothing : Draft
  Summing : (size parameters : ℕ) → Draft
  Filling : Head → (captures : ℕ) → (words : List ℕ) → Draft

-- closures, rows and cells of closures are as in other data; what else there is may have changed
pub record SameRows (d after : Data) : Type 0 where
  pub global : after.registers 28 ≡ d.registers 28
  pub closures : after.closures ≡ d.closures
  pub spec_rows : after.spec_rows ≡ d.spec_rows
  pub count : word_at after.cells SPEC_COUNT_CELL ≡ word_at d.cells SPEC_COUNT_CELL
  pub next : word_at after.cells NEXT_CLOSURE_CELL ≡ word_at d.cells NEXT_CLOSURE_CELL
  pub newest : word_at after.cells CLOSURE_CELL ≡ word_at d.cells CLOSURE_CELL
  pub size : word_at after.cells SIZE_CELL ≡ word_at d.cells SIZE_CELL
  pub parameters : word_at after.cells PARAMETERS_CELL ≡ word_at d.cells PARAMETERS_CELL

-- data are those behind New and behind the words that were put, but for what no closure is about
pub record Filled (text : Text) (shared : Shared) (head : Head) (captures : ℕ) (words : List ℕ) (d : Data) : Type 0
  where
    pub before : Data
    pub specifications : HasSpecifications text shared before
    pub room : closure_trap captures shared ≡ None
    pub small : head.size ≤ SIZE_LIMIT
    pub values : AreWordsIn words
    pub rows : SameRows (puts 0 words (appended head captures before)) d

-- the memory of specifications agrees
abbrev pub DraftAgrees : Text → Draft → Shared → Data → Type 0
DraftAgrees text Nothing shared d = HasSpecifications text shared d
DraftAgrees text (Summing size parameters) shared d =
    HasSpecifications text shared d × (size_so_far d ≡ size) × (parameters_so_far d ≡ parameters)
DraftAgrees text (Filling head captures words) shared d = Filled text shared head captures words d
