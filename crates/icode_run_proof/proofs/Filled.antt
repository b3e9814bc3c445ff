-- Behind its last word a closure is a specification of the meaning: so the last Put, or a New without captures, is a
-- step to a call that goes on.
use Rattle.std.proofs.Common.{◌≡◌, ℕ, ◌<◌, List, length, None, refl, ap, ◌∙◌}
use Rattle.std.proofs.Common.{subst, arith, slice_get}
use Rattle.history.specs.Syntax.{Syntax, Ticked}
use Rattle.typed_tree.specs.declared.expression.CaptureKind.{CaptureKind}
use Rattle.mips_model.specs.State as machine
use Rattle.mips_model.specs.State.{Data}
use Rattle.meaning_state.specs.Shared.{Shared}
use Rattle.meaning_state.specs.Rows.{specified, parameters_of}
use Rattle.staged_meaning.specs.Program.{is_expression, syntax_size}
use Rattle.staged_meaning.specs.Specifications.{captures_trap, captures_of, specification_of}
use Rattle.icode_ops.specs.declared.kind.ClosureKind.{ClosureKind}
use Rattle.icode_meaning.specs.State.{Frame, Log, nothing}
use Rattle.icode_meaning.specs.Steps.{sharing}
use Rattle.icode_expand_proof.specs.Settings.{Setting, Standing}
use Rattle.closures_proof.specs.Relation.{Text, HasSpecifications, syntax_head}
use Rattle.closures_proof.specs.Laws.{TicksStandFor, kind_of_tick}
use Rattle.icode_run_proof.specs.Making.{Filling, Filled, DraftAgrees}
use Rattle.icode_run_proof.proofs.Steps.{SameCalls, SameLeft, with_made, standing_with, holds_made}
use Rattle.icode_run_proof.proofs.PutPays.{PaysTo}
use Rattle.icode_run_proof.proofs.Arena.{told_arena}
use Rattle.icode_run_proof.proofs.NewPays.{filled_stands}
use Rattle.icode_run_proof.specs.Ticking.{head_of}
use Rattle.icode_run_proof.proofs.VariablePays.{specified_left}

all_same : (d : Data) → SameCalls d d
all_same d = record {
  registers = λ r k. refl;
  stack = refl;
  objects = refl;
  table = refl;
  outside = refl;
  heap = refl;
  active = refl;
}

-- what calls aren't about may be told of the data in another way
pub pays_told : (s : Setting) → Standing s → (w : Frame) (waiting : List Frame) (log1 log2 log : Log)
    (from : machine.State) (A B : Data → Type 0) → SameLeft log1.shared log2.shared → log2.active ≡ log1.active
    → log2.least ≡ log1.least → log2.most ≡ log1.most → log2.shared.bodies ≡ log1.shared.bodies
    → ((e : Data) → A e → B e)
    → PaysTo s w waiting log1 log from A → PaysTo s w waiting log2 log from B
pays_told s st w waiting log1 log2 log from A B left active e1 e2 e3 tell p =
    let lo = p.low in
    let hi = p.high in
    record {
      count = p.count;
      low = omega (arith, lo, e1);
      high = omega (arith, hi, e2);
      written = p.written;
      d = p.d;
      holds = holds_made (with_made p.written log1.shared s) (standing_with p.written log1.shared s st) w nothing None
          waiting log1 log2 p.d p.written p.d left active (all_same p.d) p.holds.memory.written p.holds;
      also = tell p.written p.also;
      arena = told_arena p.arena e3;
      is = p.is;
    }

-- the syntax of a tick with these captured words
abbrev pub syntax_of : (tick : ℕ) → List CaptureKind → (words : List ℕ) → Shared → Syntax
syntax_of tick kinds words shared = Ticked tick (captures_of shared.specifications kinds words)

-- What was checked and put is what the meaning has.
pub record IsRight (text : Text) (tick : ℕ) (kinds : List CaptureKind) (words : List ℕ) (shared : Shared)
    (address : ℕ) (kind : ClosureKind) (size parameters : ℕ) : Type 0 where
  pub fit : captures_trap shared.specifications kinds words ≡ None
  pub count : length kinds ≡ length words
  pub address_is : address ≡ text.generator_at tick
  pub low : text.generator_at tick < 4294967296
  pub kind_is : kind ≡ kind_of_tick (is_expression (slice_get text.program.ticks tick))
  pub size_is : size ≡ syntax_size text.program (syntax_of tick kinds words shared)
  pub parameters_is : parameters ≡ parameters_of (syntax_of tick kinds words shared)

head_is : (text : Text) (tick : ℕ) (kinds : List CaptureKind) (words : List ℕ) (shared : Shared) (address : ℕ)
    (kind : ClosureKind) (size parameters : ℕ) → IsRight text tick kinds words shared address kind size parameters
    → head_of address kind size parameters
    ≡ syntax_head text (kind_of_tick (is_expression (slice_get text.program.ticks tick)))
    (syntax_of tick kinds words shared)
head_is text tick kinds words shared address kind size parameters r =
    let kind' = kind_of_tick (is_expression (slice_get text.program.ticks tick)) in
    let address' = text.generator_at tick in
    let size' = syntax_size text.program (syntax_of tick kinds words shared) in
    ap (λ n. head_of n kind size parameters) r.address_is
    ∙ ap (λ k. head_of address' k size parameters) r.kind_is
    ∙ ap (λ n. head_of address' kind' n parameters) r.size_is
    ∙ ap (head_of address' kind' size') r.parameters_is

-- the specification of a tick
abbrev pub with_tick : Text → (tick : ℕ) → List CaptureKind → (words : List ℕ) → Shared → Shared
with_tick text tick kinds words shared =
    specified (specification_of (is_expression (slice_get text.program.ticks tick))
    (syntax_of tick kinds words shared)) (length words) shared

pub is_there : TicksStandFor → (text : Text) (tick : ℕ) (kinds : List CaptureKind) (words : List ℕ)
    (shared : Shared) (address : ℕ) (kind : ClosureKind) (size parameters : ℕ) (e : Data)
    → IsRight text tick kinds words shared address kind size parameters
    → DraftAgrees text (Filling (head_of address kind size parameters) (length words) words) shared e
    → HasSpecifications text (with_tick text tick kinds words shared) e
is_there law text tick kinds words shared address kind size parameters e r h =
    filled_stands law text shared tick kinds words e r.fit r.count r.low
    (subst (λ k. Filled text shared k (length words) words e)
    (head_is text tick kinds words shared address kind size parameters r) h)

-- so a step that puts the last word gives the specification
pub pays_there : TicksStandFor → (s : Setting) → Standing s → (w : Frame) (waiting : List Frame) (log1 log : Log)
    (from : machine.State) (text : Text) (tick : ℕ) (kinds : List CaptureKind) (words : List ℕ) (address : ℕ)
    (kind : ClosureKind) (size parameters : ℕ)
    → IsRight text tick kinds words log1.shared address kind size parameters
    → PaysTo s w waiting log1 log from
    (DraftAgrees text (Filling (head_of address kind size parameters) (length words) words) log1.shared)
    → PaysTo s w waiting (sharing (with_tick text tick kinds words log1.shared) log1) log from
    (HasSpecifications text (with_tick text tick kinds words log1.shared))
pays_there law s st w waiting log1 log from text tick kinds words address kind size parameters r p =
    pays_told s st w waiting log1 (sharing (with_tick text tick kinds words log1.shared) log1) log from
    (DraftAgrees text (Filling (head_of address kind size parameters) (length words) words) log1.shared)
    (HasSpecifications text (with_tick text tick kinds words log1.shared))
    (specified_left (specification_of (is_expression (slice_get text.program.ticks tick))
    (syntax_of tick kinds words log1.shared)) (length words) log1.shared) refl refl refl refl
    (λ e. is_there law text tick kinds words log1.shared address kind size parameters e r) p
