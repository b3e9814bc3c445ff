-- How far the specification of a tick has come, as the staged machine has it and as it stands in memory.
use Rattle.std.specs.Prelude.{◌≡◌, ℕ, ◌<◌, ◌≤◌, Bool, List, length, slice_get, Option, Some}
use Rattle.limits.specs.declared.ops.TheConstants.{MOST_CAPTURES}
use Rattle.typed_tree.specs.declared.expression.CaptureKind.{CaptureKind}
use Rattle.mips_model.specs.State.{Data}
use Rattle.meaning_state.specs.Shared.{Shared}
use Rattle.staged_meaning.specs.Program.{is_expression}
use Rattle.icode_ops.specs.Kinds.{closure_number}
use Rattle.icode_ops.specs.declared.kind.ClosureKind.{ClosureKind}
use Rattle.icode_templates_proof.specs.Closures.{Head}
use Rattle.icode_meaning.specs.State as staged
use Rattle.closures_proof.specs.Relation.{Text}
use Rattle.closures_proof.specs.Laws.{kind_of_tick}
use Rattle.icode_run_proof.specs.Making.{Draft, Summing, Filling, DraftAgrees}

-- what is constant: the text, the kinds of each tick's captures, and which tick's code the function at an address makes
pub record Ticks : Type 0 where
  pub text : Text
  pub kinds : (tick : ℕ) → List CaptureKind
  pub tick_at : (address : ℕ) → Option ℕ

pub record AreTicks (b : Ticks) : Type 0 where
  pub at : (address tick : ℕ) → b.tick_at address ≡ Some tick → address ≡ b.text.generator_at tick
  pub low : (tick : ℕ) → b.text.generator_at tick < 4294967296
  pub few : (tick : ℕ) → length (b.kinds tick) ≤ MOST_CAPTURES

abbrev pub is_value : Ticks → (tick : ℕ) → Bool
is_value b tick = is_expression (slice_get b.text.program.ticks tick)

-- the first words of a closure of which this was added up
abbrev pub head_of : (address : ℕ) → ClosureKind → (size parameters : ℕ) → Head
head_of address kind size parameters =
    record { first = address; kind = closure_number kind; size = size; parameters = parameters }

abbrev pub draft_of : Ticks → staged.Draft → Draft
draft_of b (staged.Summing size parameters) = Summing size parameters
draft_of b (staged.Filling tick size parameters words) =
    Filling (head_of (b.text.generator_at tick) (kind_of_tick (is_value b tick)) size parameters)
    (length (b.kinds tick)) words

-- a closure that is being filled still gets a word
abbrev pub IsShort : Ticks → staged.Draft → Type 0
IsShort b (staged.Summing size parameters) = Unit {0}
IsShort b (staged.Filling tick size parameters words) = length words < length (b.kinds tick)

pub record PartAgrees (b : Ticks) (part : staged.Draft) (shared : Shared) (d : Data) : Type 0 where
  pub agrees : DraftAgrees b.text (draft_of b part) shared d
  pub short : IsShort b part
