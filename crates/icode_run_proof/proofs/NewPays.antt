-- A New, as a step that pays; and a specification that has all its words.
use Rattle.std.proofs.Common.{◌≡◌, ◌≢◌, inl, inr, ℕ, suc, ◌+◌, ◌/◌, ◌<◌, ◌≤◌, Bool, List, []}
use Rattle.std.proofs.Common.{length, Option, Some, None, refl, sym, ap, ◌∙◌, arith, slice_get, nat_le}
use Rattle.std.proofs.Common.{if◌then◌else◌}
use Rattle.std.proofs.lemmas.Bool.{cases_Bool}
use Rattle.std.proofs.lemmas.Bool.Decides.{nat_tests}
use Rattle.host_edge.specs.declared.ending.TrapKind.TheVariants.{SizeLimit}
use Rattle.limits.specs.declared.ops.TheConstants.{MOST_CAPTURES}
use Rattle.limits.specs.declared.program.TheConstants.{SIZE_LIMIT}
use Rattle.host_edge.specs.declared.ending.TrapKind.{TrapKind}
use Rattle.word32.specs.Space.{update}
use Rattle.word32.specs.declared.map.TheConstants.{SEGMENT_BYTES, CLOSURE_CELL, NEXT_CLOSURE_CELL, SPEC_COUNT_CELL}
use Rattle.word32.specs.declared.map.TheConstants.{NEXT_HEAP_CELL, ACTIVE_CALLS_CELL}
use Rattle.mips_model.specs.State.{Data}
use Rattle.mips_model.specs.Laws.{at, HasAt}
use Rattle.history.specs.Syntax.{Ticked}
use Rattle.typed_tree.specs.declared.expression.CaptureKind.{CaptureKind}
use Rattle.meaning_state.specs.Shared.{Shared}
use Rattle.meaning_state.specs.Rows.{closure_bytes, closure_trap, next_number, specified, size_trap}
use Rattle.staged_meaning.specs.Program.{is_expression}
use Rattle.staged_meaning.specs.Specifications.{captures_trap, captures_of, specification_of}
use Rattle.icode_ops.specs.declared.op.Op.{Op}
use Rattle.icode_ops.specs.declared.op.Op.TheVariants.{New}
use Rattle.icode_ops.specs.declared.kind.ClosureKind.{ClosureKind}
use Rattle.icode_templates.specs.Templates.{new_address}
use Rattle.icode_meaning.specs.State.{Function, Frame, Log, nothing}
use Rattle.icode_meaning.specs.Steps.{paid, set}
use Rattle.icode_templates_proof.specs.MallocLaws.{linked}
use Rattle.icode_templates_proof.specs.Closures.{Head, appended, next_closure, row_count, size_so_far}
use Rattle.icode_templates_proof.specs.Routines.{new_code}
use Rattle.icode_templates_proof.specs.RoutineLaws.{new_trap, first_trap}
use Rattle.icode_templates_proof.proofs.Leaves.{runs_to}
use Rattle.icode_templates_proof.proofs.Memory.{update_other}
use Rattle.icode_expand_proof.specs.Relation.{Holds}
use Rattle.icode_expand_proof.specs.Settings.{Setting, places_of, Standing}
use Rattle.icode_expand_proof.specs.Standing.{layout_of, op_stands_at, OpsStand}
use Rattle.icode_expand_proof.proofs.Codes.{one_stands, next_at}
use Rattle.icode_expand_proof.proofs.Frames.{spots}
use Rattle.icode_expand_proof.proofs.Writes.{defined_inside, holds_set}
use Rattle.closures_proof.specs.Ops.{new_return_address, tick_head}
use Rattle.closures_proof.specs.OpLaws.{NewIsCalled}
use Rattle.closures_proof.specs.Relation.{Text, HasSpecifications, syntax_head}
use Rattle.closures_proof.specs.Laws.{TicksStandFor, RowsAreThere, kind_of_tick}
use Rattle.icode_run_proof.specs.Making.{Filled}
use Rattle.icode_run_proof.proofs.Arena.{appended_arena}
use Rattle.icode_run_proof.proofs.Filling.{same_rows, specifications_same}
use Rattle.icode_run_proof.proofs.Steps.{SameCalls, left_as_it_is, with_made, standing_with, written_as_it_is}
use Rattle.icode_run_proof.proofs.Steps.{holds_made}
use Rattle.icode_run_proof.proofs.PutPays.{PaysTo}

-- ---- New

cells_apart : (k : Head) (captures n : ℕ) (d : Data) → n ≢ CLOSURE_CELL / 4 → n ≢ NEXT_CLOSURE_CELL / 4
    → n ≢ SPEC_COUNT_CELL / 4 → (appended k captures d).cells n ≡ d.cells n
cells_apart k captures n d a b c =
    let c1 = update (SPEC_COUNT_CELL / 4) (suc (row_count d)) d.cells in
    let c2 = update (NEXT_CLOSURE_CELL / 4) (next_closure d + closure_bytes captures) c1 in
    update_other (CLOSURE_CELL / 4) (next_closure d) c2 n a
    ∙ update_other (NEXT_CLOSURE_CELL / 4) (next_closure d + closure_bytes captures) c1 n b
    ∙ update_other (SPEC_COUNT_CELL / 4) (suc (row_count d)) d.cells n c

pub appended_calls : (k : Head) (captures to : ℕ) (d : Data) → SameCalls d (appended k captures (linked to d))
appended_calls k captures to d = record {
  registers = λ r c. update_other 31 to d.registers r c.1;
  stack = refl;
  objects = refl;
  table = refl;
  outside = refl;
  heap = cells_apart k captures (NEXT_HEAP_CELL / 4) (linked to d) (omega arith) (omega arith) (omega arith);
  active = cells_apart k captures (ACTIVE_CALLS_CELL / 4) (linked to d) (omega arith) (omega arith) (omega arith);
}

pub trap_room : (a b : Option TrapKind) → first_trap a b ≡ None → b ≡ None
trap_room None b e = e
trap_room (Some k) b e = absurd cc

trap_first : (a b : Option TrapKind) → first_trap a b ≡ None → a ≡ None
trap_first None b e = refl
trap_first (Some k) b e = absurd cc

size_small : (n : ℕ) → size_trap n ≡ None → n ≤ SIZE_LIMIT
size_small n e = elim (cases_Bool (nat_le n SIZE_LIMIT)) [
  | inl t ↦ grind (arith, nat_tests, t)
  | inr t ↦ let z : Some SizeLimit ≡ None =
      sym (ap (λ (b : Bool). let k : Option TrapKind = if b then None else Some SizeLimit in k) t) ∙ e in absurd cc
]

module _ (law : NewIsCalled) (rows : RowsAreThere) (s : Setting) (st : Standing s) (w : Frame)
    (arguments : ℕ → Option ℕ) (answer : Option ℕ) (waiting : List Frame) (log : Log) (d : Data)
    (h : Holds s w arguments answer waiting log d) (routine : HasAt s.code new_address new_code) where
  abbrev f : Function
  f = w.function

  abbrev places : List ℕ
  places = places_of s f

  abbrev a : ℕ
  a = op_stands_at f places w.index

  stands : OpsStand s.code f places
  stands = (st.functions f.address f h.known).1

  pub new_pays : (text : Text) (to address : ℕ) (kind : ClosureKind) (captures : ℕ)
      → slice_get f.ops w.index ≡ Some (New to address kind captures) → HasSpecifications text log.shared d
      → new_return_address a < SEGMENT_BYTES → captures ≤ MOST_CAPTURES → next_number log.shared < 4294967296
      → new_trap (size_so_far d) captures log.shared ≡ None
      → PaysTo s (set to (next_number log.shared) w) waiting (paid (New to address kind captures) log) log
      (at s.code a 0 d) (Filled text log.shared (tick_head address kind d) captures [])
  new_pays text to address kind captures i has low few word none =
      let o : Op = New to address kind captures in
      let spot = (layout_of f places).spot to in
      let inside = defined_inside s st w o to h.known i refl in
      let usable = spots f places to stands.suits inside in
      let head = tick_head address kind d in
      let back = new_return_address a in
      let z = appended head captures (linked back d) in
      let called = law s.code a f.charge address kind captures log.shared d spot low h.ready.framed usable
      (rows text log.shared d has) few none routine (one_stands s.code f places stands w.index o i) in
      let s' = with_made z log.shared s in
      let st' = standing_with z log.shared s st in
      let held = holds_made s st w arguments answer waiting log log d z z (left_as_it_is log.shared) refl
      (appended_calls head captures back d) (written_as_it_is z) h in
      let comes = runs_to (sym (next_at f places w.index o i)) called.runs in
      let over = comes.over in
      let under = comes.under in
      record {
        count = comes.count;
        low = omega (arith, over);
        high = omega (arith, under);
        written = z;
        d = called.after;
        holds = holds_set s' st' w nothing None waiting log o to (next_number log.shared) z called.after i refl refl
            word
            held called.puts;
        also = record {
          before = linked back d;
          specifications = specifications_same text log.shared d (linked back d)
              (same_rows (update_other 31 back d.registers 28 (omega arith)) refl refl refl) has;
          room = trap_room (size_trap (size_so_far d)) (closure_trap captures log.shared) none;
          small = size_small (size_so_far d)
              (trap_first (size_trap (size_so_far d)) (closure_trap captures log.shared) none);
          values = tt;
          rows = same_rows refl refl refl refl;
        };
        arena = appended_arena head captures back log.shared log.shared d refl;
        is = comes.reaches.by;
      }

-- ---- a specification that has all its words is one of the meaning's
pub filled_stands : TicksStandFor → (text : Text) (shared : Shared) (tick : ℕ) (kinds : List CaptureKind)
    (words : List ℕ) (d : Data) → captures_trap shared.specifications kinds words ≡ None
    → length kinds ≡ length words → text.generator_at tick < 4294967296
    → let syntax = Ticked tick (captures_of shared.specifications kinds words) in
    let is_value = is_expression (slice_get text.program.ticks tick) in
    Filled text shared (syntax_head text (kind_of_tick is_value) syntax) (length words) words d
    → HasSpecifications text (specified (specification_of is_value syntax) (length words) shared) d
filled_stands law text shared tick kinds words d fits same low h =
    let syntax = Ticked tick (captures_of shared.specifications kinds words) in
    let is_value = is_expression (slice_get text.program.ticks tick) in
    specifications_same text (specified (specification_of is_value syntax) (length words) shared) _ d h.rows
    (law text shared tick kinds words h.before h.specifications fits same h.values low h.small h.room)
