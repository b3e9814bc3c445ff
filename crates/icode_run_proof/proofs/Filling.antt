-- The memory of specifications, through steps of any kind and through a Put.
use Rattle.std.proofs.Common.{◌≡◌, ℕ, suc, ◌%◌, List}
use Rattle.std.proofs.Common.{length, sym, ap, ◌∙◌, subst, arith}
use Rattle.word32.specs.Space.{AreWords}
use Rattle.word32.specs.declared.map.TheConstants.{CLOSURE_CELL}
use Rattle.word32.specs.declared.map.TheConstants.{NEXT_CLOSURE_CELL, SPEC_COUNT_CELL, SIZE_CELL, PARAMETERS_CELL}
use Rattle.mips_model.specs.State.{Data}
use Rattle.meaning_state.specs.Shared.{Shared}
use Rattle.icode_templates_proof.specs.Spots.{KeepsSpots}
use Rattle.icode_templates_proof.specs.Closures.{Closure, Stands, HasClosures, word_at, closure_at, closure_of}
use Rattle.icode_templates_proof.specs.Closures.{row_place}
use Rattle.closures_proof.specs.Relation.{Text, HasSpecifications}
use Rattle.icode_run_proof.specs.Making.{Draft, Nothing, Summing, Filling, SameRows, DraftAgrees}

-- ---- what keeps the rows

pub same_rows : {d after : Data} → after.registers 28 ≡ d.registers 28 → after.closures ≡ d.closures
    → after.spec_rows ≡ d.spec_rows → after.cells ≡ d.cells → SameRows d after
same_rows global closures rows cells = record {
  global = global;
  closures = closures;
  spec_rows = rows;
  count = ap (λ (f : ℕ → ℕ). word_at f SPEC_COUNT_CELL) cells;
  next = ap (λ (f : ℕ → ℕ). word_at f NEXT_CLOSURE_CELL) cells;
  newest = ap (λ (f : ℕ → ℕ). word_at f CLOSURE_CELL) cells;
  size = ap (λ (f : ℕ → ℕ). word_at f SIZE_CELL) cells;
  parameters = ap (λ (f : ℕ → ℕ). word_at f PARAMETERS_CELL) cells;
}

pub keeps_rows : {d after : Data} → KeepsSpots d after → SameRows d after
keeps_rows k = same_rows (k.registers 28 (omega arith, omega arith, omega arith)) k.world.closures k.world.spec_rows
    k.world.cells

pub then_rows : {d e f : Data} → SameRows d e → SameRows e f → SameRows d f
then_rows a b = record {
  global = b.global ∙ a.global;
  closures = b.closures ∙ a.closures;
  spec_rows = b.spec_rows ∙ a.spec_rows;
  count = b.count ∙ a.count;
  next = b.next ∙ a.next;
  newest = b.newest ∙ a.newest;
  size = b.size ∙ a.size;
  parameters = b.parameters ∙ a.parameters;
}

-- ---- closures stand on

stands_same : (number : ℕ) (k : Closure) (d e : Data) → SameRows d e → Stands d number k → Stands e number k
stands_same number k d e q s =
    let at : closure_of e number ≡ closure_of d number =
    ap (λ (f : ℕ → ℕ). word_at f (row_place number)) q.spec_rows in
    let next = q.next in
    let from = s.from in
    let to = s.to in
    record {
      from = omega (arith, at, from);
      to = omega (arith, at, next, to);
      even = ap (λ n. n % 4) at ∙ s.even;
      reads = ap (λ (f : ℕ → ℕ). closure_at f (closure_of e number) (length k.captured)) q.closures
          ∙ ap (λ n. closure_at d.closures n (length k.captured)) at ∙ s.reads;
    }

pub closures_same : (ks : List Closure) (d e : Data) → SameRows d e → HasClosures ks d → HasClosures ks e
closures_same ks d e q has = record {
  global = q.global ∙ has.global;
  count = q.count ∙ has.count;
  next = q.next ∙ has.next;
  within = has.within;
  stand = λ n k is. stands_same (suc n) k d e q (has.stand n k is);
  words = subst AreWords (sym q.closures) has.words;
}

pub specifications_same : (text : Text) (shared : Shared) (d e : Data) → SameRows d e
    → HasSpecifications text shared d → HasSpecifications text shared e
specifications_same text shared d e q h = record {
  closures = h.closures;
  memory = closures_same h.closures d e q h.memory;
  stand_for = h.stand_for;
  bytes = h.bytes;
}

-- so any step that keeps the rows keeps the draft: no op but those of ticks and variables writes what they are about
pub draft_same : (text : Text) (draft : Draft) (shared : Shared) (d e : Data) → SameRows d e
    → DraftAgrees text draft shared d → DraftAgrees text draft shared e
draft_same text Nothing shared d e q h = specifications_same text shared d e q h
draft_same text (Summing size parameters) shared d e q h =
    (specifications_same text shared d e q h.0, q.size ∙ h.1, q.parameters ∙ h.2)
draft_same text (Filling head captures words) shared d e q h = record {
  before = h.before;
  specifications = h.specifications;
  room = h.room;
  small = h.small;
  values = h.values;
  rows = then_rows h.rows q;
}
