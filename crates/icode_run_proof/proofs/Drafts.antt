-- What a setting says of the memory of specifications is so of the data of a call that it holds; and what a setting
-- says holds on behind what was made.
use Rattle.std.proofs.Common.{◌≡◌, ℕ, suc, ◌+◌, ◌-◌, ◌*◌, ◌/◌, ◌≤◌, slice_get, List, length, Option, Some, None, sym}
use Rattle.std.proofs.Common.{ap, ◌∙◌, subst, arith}
use Rattle.std.proofs.Common.{nat_le}
use Rattle.std.proofs.Common.{if◌then◌else◌}
use Rattle.word32.specs.declared.map.TheConstants.{NEXT_CLOSURE_CELL, SPEC_COUNT_CELL, SIZE_CELL, PARAMETERS_CELL}
use Rattle.word32.specs.declared.map.TheConstants.{CLOSURE_CELL, CLOSURE_BYTES, GLOBAL_POINTER, ARENA, ARENA_WORDS}
use Rattle.word32.specs.declared.map.TheConstants.{NEXT_FUNCTION_CELL, NEXT_ARENA_CELL}
use Rattle.host_edge.specs.declared.ending.TrapKind.{TrapKind}
use Rattle.host_edge.specs.declared.ending.TrapKind.TheVariants.{SpecLimit}
use Rattle.mips_model.specs.State.{Code, Data}
use Rattle.mips_model_laws.specs.Laws.{only}
use Rattle.meaning_state.specs.Bodies.{Body, charged, AreSummed}
use Rattle.meaning_state.specs.Shared.{Shared, Specification}
use Rattle.meaning_state.specs.Rows.{closure_bytes, numbered}
use Rattle.icode_meaning.specs.State.{Frame, Log}
use Rattle.icode_expand_proof.specs.Settings.{Setting}
use Rattle.icode_expand_proof.specs.Relation.{Holds, SameWritten, SameMade}
use Rattle.closures_proof.specs.Relation.{Text, AllStandFor, HasSpecifications}
use Rattle.compile_routine.specs.Laws.{HasArena}
use Rattle.icode_run_proof.specs.Making.{Draft, Nothing, Summing, Filling, DraftAgrees, SameRows}
use Rattle.icode_run_proof.specs.Ticking.{Ticks, PartAgrees, draft_of}
use Rattle.icode_meaning.specs.State as staged
use Rattle.icode_run_proof.specs.Relation.{Base, functions_of, is_inside, HasBody, Stood}
use Rattle.icode_run_proof.proofs.Arena.{SameArena}
use Rattle.icode_run_proof.proofs.Filling.{draft_same}
use Rattle.icode_run_proof.proofs.Puts.{puts_registers}
use Rattle.icode_run_proof.proofs.Steps.{with_made, standing_with}

-- ---- of the data of a call

-- what is said of specifications is said of two members of what is shared
specifications_as : (text : Text) (shared shared' : Shared) (d : Data)
    → shared'.specifications ≡ shared.specifications → shared'.closures ≡ shared.closures
    → HasSpecifications text shared d → HasSpecifications text shared' d
specifications_as text shared shared' d e1 e2 h = record {
  closures = h.closures;
  memory = h.memory;
  stand_for = subst (λ (r : List Specification). AllStandFor text r h.closures) (sym e1) h.stand_for;
  bytes = e2 ∙ h.bytes;
}

abbrev closure_room : (bytes captures : ℕ) → Option TrapKind
closure_room bytes captures = if nat_le (bytes + closure_bytes captures) CLOSURE_BYTES then None else Some SpecLimit

draft_as : (text : Text) (draft : Draft) (shared shared' : Shared) (d : Data)
    → shared'.specifications ≡ shared.specifications → shared'.closures ≡ shared.closures
    → DraftAgrees text draft shared d → DraftAgrees text draft shared' d
draft_as text Nothing shared shared' d e1 e2 h = specifications_as text shared shared' d e1 e2 h
draft_as text (Summing size parameters) shared shared' d e1 e2 h =
    (specifications_as text shared shared' d e1 e2 h.0, h.1, h.2)
draft_as text (Filling head captures words) shared shared' d e1 e2 h = record {
  before = h.before;
  specifications = specifications_as text shared shared' h.before e1 e2 h.specifications;
  room = ap (λ n. closure_room n captures) e2 ∙ h.room;
  small = h.small;
  values = h.values;
  rows = h.rows;
}

draft_global : (text : Text) (draft : Draft) (shared : Shared) (d : Data) → DraftAgrees text draft shared d
    → d.registers 28 ≡ GLOBAL_POINTER
draft_global text Nothing shared d h = h.memory.global
draft_global text (Summing size parameters) shared d h = h.0.memory.global
draft_global text (Filling head captures words) shared d h =
    h.rows.global ∙ ap (λ (f : ℕ → ℕ). f 28) (puts_registers 0 words _) ∙ h.specifications.memory.global

written_rows : {d after : Data} → d.registers 28 ≡ GLOBAL_POINTER → after.registers 28 ≡ GLOBAL_POINTER
    → SameWritten d after → SameRows d after
written_rows e1 e2 w = record {
  global = e2 ∙ sym e1;
  closures = w.closures;
  spec_rows = w.spec_rows;
  count = w.cells (SPEC_COUNT_CELL / 4) (omega arith) (omega arith);
  next = w.cells (NEXT_CLOSURE_CELL / 4) (omega arith) (omega arith);
  newest = w.cells (CLOSURE_CELL / 4) (omega arith) (omega arith);
  size = w.cells (SIZE_CELL / 4) (omega arith) (omega arith);
  parameters = w.cells (PARAMETERS_CELL / 4) (omega arith) (omega arith);
}

pub draft_now : (text : Text) (draft : Draft) (s : Setting) (w : Frame) (arguments : ℕ → Option ℕ)
    (answer : Option ℕ) (waiting : List Frame) (log : Log) (d : Data)
    → Holds s w arguments answer waiting log d → DraftAgrees text draft s.made s.written
    → DraftAgrees text draft log.shared d
draft_now text draft s w arguments answer waiting log d h a =
    draft_as text draft s.made log.shared d h.memory.made.specifications h.memory.made.closures
    (draft_same text draft s.made s.written d
    (written_rows (draft_global text draft s.made s.written a) h.ready.global h.memory.written) a)

pub part_now : (b : Ticks) (part : staged.Draft) (s : Setting) (w : Frame) (arguments : ℕ → Option ℕ)
    (answer : Option ℕ) (waiting : List Frame) (log : Log) (d : Data)
    → Holds s w arguments answer waiting log d → PartAgrees b part s.made s.written
    → PartAgrees b part log.shared d
part_now b part s w arguments answer waiting log d h a = record {
  agrees = draft_now b.text (draft_of b part) s w arguments answer waiting log d h a.agrees;
  short = a.short;
}

-- ---- behind what was made

-- what was compiled, and its cells, are of data of a call as of the setting
pub arena_now : (functions : ℕ) (s : Setting) (shared : Shared) (d : Data) → SameWritten s.written d
    → SameMade s.made shared → HasArena functions s.made s.written → HasArena functions shared d
arena_now functions s shared d same made h = record {
  function = same.cells (NEXT_FUNCTION_CELL / 4) (omega arith) (omega arith) ∙ h.function
      ∙ ap (λ (l : List Body). suc (functions + length l)) (sym made.bodies);
  next = same.cells (NEXT_ARENA_CELL / 4) (omega arith) (omega arith) ∙ h.next
      ∙ ap (λ (l : List Body). ARENA + 4 * charged l) (sym made.bodies);
  within = subst (λ (l : List Body). charged l ≤ ARENA_WORDS) (sym made.bodies) h.within;
  summed = subst (AreSummed ARENA_WORDS) (sym made.bodies) h.summed;
}

-- and of what was written since, where nothing was compiled
pub arena_on : (functions : ℕ) (s : Setting) (shared shared' : Shared) (d after : Data) → SameWritten s.written d
    → SameMade s.made shared → SameArena shared shared' d after → HasArena functions s.made s.written
    → HasArena functions shared' after
arena_on functions s shared shared' d after same made kept h =
    let now = arena_now functions s shared d same made h in
    record {
      function = kept.function ∙ now.function ∙ ap (λ (l : List Body). suc (functions + length l)) (sym kept.bodies);
      next = kept.next ∙ now.next ∙ ap (λ (l : List Body). ARENA + 4 * charged l) (sym kept.bodies);
      within = subst (λ (l : List Body). charged l ≤ ARENA_WORDS) (sym kept.bodies) now.within;
      summed = subst (AreSummed ARENA_WORDS) (sym kept.bodies) now.summed;
    }

module _ (b : Base) (c : Code) (s : Setting) (d : Data) (shared : Shared) (same : shared.bodies ≡ s.made.bodies)
    (arena : HasArena (functions_of b) shared d) (h : Stood b c s) where
  abbrev s' : Setting
  s' = with_made d shared s

  row_in : (k : ℕ) (x : Body) → slice_get shared.bodies k ≡ Some x → slice_get s.made.bodies k ≡ Some x
  row_in k x e = ap (λ (l : List Body). slice_get l k) (sym same) ∙ e

  body_with : (k : ℕ) (x : Body) → HasBody b c s k x → HasBody b c s' k x
  body_with k x y = record {
    known = y.known;
    row = y.row;
    stands = y.stands;
    within = y.within;
    some = y.some;
    entry = ap (λ (l : List Body). is_inside l x.first) same ∙ y.entry;
    plain = y.plain;
  }

  pub stood_with : Stood b c s'
  stood_with = record {
    code_is = h.code_is ∙ ap (λ (l : List Body). only (is_inside l) c) (sym same);
    standing = standing_with d shared s h.standing;
    extends = record {
      functions = h.extends.functions;
      rows = h.extends.rows;
      others = λ n over none. h.extends.others n over
          (ap (λ (l : List Body). numbered (n - functions_of b) l) (sym same) ∙ none);
    };
    serving = record { ops = h.serving.ops };
    routines = h.routines;
    variables = record { local = h.variables.local; parameter = h.variables.parameter };
    compiler = record { routine = h.compiler.routine; generators = h.compiler.generators };
    present = record {
      each = λ k x e live. body_with k x (h.present.each k x (row_in k x e) live);
      gone = λ k x e dead. h.present.gone k x (row_in k x e) dead;
      known = λ a f is t. (let y = h.present.known a f is t in
          (y.0, y.1, ap (λ (l : List Body). slice_get l y.0) same ∙ y.2, y.3, y.4));
      low = h.present.low;
      rows = h.present.rows;
    };
    arena = arena;
    idle = h.idle;
  }
