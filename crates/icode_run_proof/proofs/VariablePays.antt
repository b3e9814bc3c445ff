-- The ops that make a variable of generated code, as steps that pay; and their traps, in the order of the meaning.
use Rattle.std.proofs.Common.{◌≡◌, inl, inr, ℕ, ◌<◌, Bool, true, List}
use Rattle.std.proofs.Common.{if◌then◌else◌, Option, Some, None, refl, sym, ap, ◌∙◌, subst, arith}
use Rattle.std.proofs.Common.{slice_get, nat_le}
use Rattle.std.proofs.lemmas.Bool.{cases_Bool}
use Rattle.std.proofs.lemmas.Bool.Decides.{nat_tests}
use Rattle.host_edge.specs.declared.ending.Ending.TheVariants.{Trap}
use Rattle.host_edge.specs.declared.ending.TrapKind.{TrapKind}
use Rattle.host_edge.specs.declared.ending.TrapKind.TheVariants.{BadParam}
use Rattle.history.specs.Events.{Ended}
use Rattle.mips_model.specs.State.{Data}
use Rattle.mips_model.specs.Laws.{at, HasAt}
use Rattle.icode_ops.specs.Kinds.{run_number}
use Rattle.icode_ops.specs.declared.op.Op.{Op}
use Rattle.icode_ops.specs.declared.op.Op.TheVariants.{Run}
use Rattle.icode_ops.specs.declared.kind.RunKind.TheVariants as run
use Rattle.meaning_state.specs.Shared.{Shared, Specification, Local, Param}
use Rattle.meaning_state.specs.Rows.{closure_trap, index_trap, next_number, specified}
use Rattle.icode_templates.specs.Templates.{out_code, routine_address}
use Rattle.icode_meaning.specs.State.{Function, Frame, Log, Halted}
use Rattle.icode_meaning.specs.Steps.{uses_on, paid, set, sharing}
use Rattle.icode_templates_proof.specs.Spots.{value}
use Rattle.icode_templates_proof.specs.Moves.{EndsIn}
use Rattle.icode_templates_proof.specs.MallocLaws.{linked, return_address}
use Rattle.icode_templates_proof.specs.Closures.{local_head, parameter_head, appended}
use Rattle.icode_templates_proof.specs.Routines.{local_code, parameter_code}
use Rattle.icode_templates_proof.specs.RoutineLaws.{HasRows, LocalIsCalled, ParameterIsCalled, parameter_trap}
use Rattle.icode_templates_proof.specs.RoutineLaws.{first_trap}
use Rattle.icode_expand_proof.specs.Relation.{Holds, Pays}
use Rattle.icode_expand_proof.specs.Settings.{Setting, places_of, Standing}
use Rattle.icode_expand_proof.specs.Standing.{layout_of, op_stands_at}
use Rattle.icode_expand_proof.proofs.Codes.{one_stands}
use Rattle.icode_expand_proof.proofs.Operators.{end_pays}
use Rattle.closures_proof.specs.OpLaws.{LocalOpTraps, ParameterOpTraps}
use Rattle.closures_proof.specs.Relation.{Text, HasSpecifications}
use Rattle.closures_proof.specs.Laws.{RowsAreThere, LocalsStandFor, ParametersStandFor}
use Rattle.icode_run_proof.specs.Steps.{Unless}
use Rattle.icode_run_proof.proofs.Filling.{specifications_same}
use Rattle.icode_run_proof.proofs.Steps.{SameLeft}
use Rattle.icode_run_proof.proofs.PutPays.{PaysTo}
use Rattle.icode_run_proof.proofs.Arena.{appended_arena}
use Rattle.icode_run_proof.proofs.NewPays.{appended_calls}
use Rattle.icode_run_proof.proofs.Called.{linked_rows, op_stands, run_low, operand_of, usable_operand}
use Rattle.icode_run_proof.proofs.Called.{usable_result, called_pays}

-- the rows of specifications are few: the number of the next one is a word
pub next_is_word : (shared : Shared) (d : Data) → HasRows shared d → next_number shared < 4294967296
next_is_word shared d rows = omega (arith, rows.few, rows.within)

-- a specification more changes nothing that calls are about
pub specified_left : (r : Specification) (captures : ℕ) (shared : Shared)
    → SameLeft shared (specified r captures shared)
specified_left r captures shared = record {
  history = refl;
  input = refl;
  objects = refl;
  heap = refl;
  used = refl;
  frames = refl;
}

module _ (s : Setting) (st : Standing s) (w : Frame) (arguments : ℕ → Option ℕ) (answer : Option ℕ)
    (waiting : List Frame) (log : Log) (d : Data) (h : Holds s w arguments answer waiting log d) where
  abbrev f : Function
  f = w.function

  abbrev a : ℕ
  a = op_stands_at f (places_of s f) w.index

  module _ (text : Text) (rows : RowsAreThere) (to from : ℕ) (has : HasSpecifications text log.shared d) where
    module _ (i : slice_get f.ops w.index ≡ Some (Run run.Local to from))
        (u : uses_on (Run run.Local to from) w.on ≡ true)
        (routine : HasAt s.code (routine_address (run_number run.Local)) local_code) where
      abbrev o : Op
      o = Run run.Local to from

      pub local_pays : LocalIsCalled → LocalsStandFor → closure_trap 0 log.shared ≡ None
          → PaysTo s (set to (next_number log.shared) w) waiting
          (sharing (specified Local 0 log.shared) (paid o log)) log (at s.code a 0 d)
          (HasSpecifications text (specified Local 0 log.shared))
      local_pays law stand room =
          let x = operand_of s st w arguments answer waiting log d h run.Local to from i u in
          let spot = (layout_of f (places_of s f)).spot in
          let back = return_address a (spot from) in
          let number = next_number log.shared in
          let mid = appended (local_head number) 0 (linked back d) in
          let there = rows text log.shared d has in
          let made = stand text log.shared (linked back d)
          (specifications_same text log.shared d (linked back d) (linked_rows back d) has) room in
          called_pays s st w arguments answer waiting log d h (sharing (specified Local 0 log.shared) log) o to number
          36 41 mid (HasSpecifications text (specified Local 0 log.shared)) i refl refl
          (next_is_word log.shared d there) (specified_left Local 0 log.shared) refl refl refl
          (appended_calls (local_head number) 0 back d)
          (appended_arena (local_head number) 0 back log.shared (specified Local 0 log.shared) d refl)
          (omega arith) (omega arith)
          made
          (law s.code a f.charge log.shared d (spot to) (spot from)
          (run_low s st w arguments answer waiting log d h run.Local to from i) h.ready.framed
          (usable_result s st w arguments answer waiting log d h o to i refl)
          (usable_operand s st w arguments answer waiting log d h from x) x.word there room routine
          (one_stands s.code f (places_of s f) (op_stands s st w arguments answer waiting log d h) w.index o i))

      pub local_ends : LocalOpTraps → (kind : TrapKind) → closure_trap 0 log.shared ≡ Some kind
          → EndsIn 19 22 (Ended (Trap kind)) (at s.code a 0 d) s.code d.outside
      local_ends law kind none =
          let x = operand_of s st w arguments answer waiting log d h run.Local to from i u in
          let spot = (layout_of f (places_of s f)).spot in
          law s.code a f.charge log.shared d (spot from) (out_code (spot to)) kind
          (run_low s st w arguments answer waiting log d h run.Local to from i) h.ready.framed
          (usable_operand s st w arguments answer waiting log d h from x) x.word (rows text log.shared d has) none
          routine
          (one_stands s.code f (places_of s f) (op_stands s st w arguments answer waiting log d h) w.index o i)

      pub local_step : LocalIsCalled → LocalsStandFor → LocalOpTraps
          → Unless s (closure_trap 0 log.shared) (paid o log) log (at s.code a 0 d)
          (PaysTo s (set to (next_number log.shared) w) waiting
          (sharing (specified Local 0 log.shared) (paid o log)) log (at s.code a 0 d)
          (HasSpecifications text (specified Local 0 log.shared)))
      local_step law stand traps = by (closure_trap 0 log.shared) refl
        where
          by : (t : Option TrapKind) → closure_trap 0 log.shared ≡ t
              → Unless s t (paid o log) log (at s.code a 0 d)
              (PaysTo s (set to (next_number log.shared) w) waiting
              (sharing (specified Local 0 log.shared) (paid o log)) log (at s.code a 0 d)
              (HasSpecifications text (specified Local 0 log.shared)))
          by None e = local_pays law stand e
          by (Some kind) e =
              end_pays s log (paid o log) (at s.code a 0 d) 19 22 (Ended (Trap kind)) d.outside (omega arith)
              (omega arith) h.memory.history h.memory.making tt (local_ends traps kind e)

    module _ (i : slice_get f.ops w.index ≡ Some (Run run.Parameter to from))
        (u : uses_on (Run run.Parameter to from) w.on ≡ true)
        (routine : HasAt s.code (routine_address (run_number run.Parameter)) parameter_code) where
      abbrev o1 : Op
      o1 = Run run.Parameter to from

      abbrev index : ℕ
      index = w.values from

      index_small : (n : ℕ) → index_trap n ≡ None → n < 8
      index_small n e = elim (cases_Bool (nat_le n 7)) [
        | inl t ↦ grind (arith, nat_tests, t)
        | inr t ↦ let z : Some BadParam ≡ None =
            sym (ap (λ (b : Bool). let k : Option TrapKind = if b then None else Some BadParam in k) t) ∙ e in absurd cc
      ]

      pub parameter_pays : ParameterIsCalled → ParametersStandFor → index_trap index ≡ None
          → closure_trap 0 log.shared ≡ None
          → PaysTo s (set to (next_number log.shared) w) waiting
          (sharing (specified (Param index) 0 log.shared) (paid o1 log)) log (at s.code a 0 d)
          (HasSpecifications text (specified (Param index) 0 log.shared))
      parameter_pays law stand small room =
          let x = operand_of s st w arguments answer waiting log d h run.Parameter to from i u in
          let spot = (layout_of f (places_of s f)).spot in
          let back = return_address a (spot from) in
          let number = next_number log.shared in
          let v = value d (spot from) in
          let mid = appended (parameter_head v) 0 (linked back d) in
          let there = rows text log.shared d has in
          let made : HasSpecifications text (specified (Param index) 0 log.shared) mid =
          subst (λ n. HasSpecifications text (specified (Param index) 0 log.shared)
          (appended (parameter_head n) 0 (linked back d))) (sym x.value_is)
          (stand text log.shared index (linked back d)
          (specifications_same text log.shared d (linked back d) (linked_rows back d) has) (index_small index small)
          room) in
          let none : parameter_trap v log.shared ≡ None =
          ap (λ n. parameter_trap n log.shared) x.value_is
          ∙ ap (λ t. first_trap t (closure_trap 0 log.shared)) small ∙ room in
          called_pays s st w arguments answer waiting log d h (sharing (specified (Param index) 0 log.shared) log) o1 to
          number 37 42 mid (HasSpecifications text (specified (Param index) 0 log.shared)) i refl refl
          (next_is_word log.shared d there) (specified_left (Param index) 0 log.shared) refl refl refl
          (appended_calls (parameter_head v) 0 back d)
          (appended_arena (parameter_head v) 0 back log.shared (specified (Param index) 0 log.shared) d refl)
          (omega arith) (omega arith)
          made
          (law s.code a f.charge log.shared d (spot to) (spot from)
          (run_low s st w arguments answer waiting log d h run.Parameter to from i) h.ready.framed
          (usable_result s st w arguments answer waiting log d h o1 to i refl)
          (usable_operand s st w arguments answer waiting log d h from x) x.word there none routine
          (one_stands s.code f (places_of s f) (op_stands s st w arguments answer waiting log d h) w.index o1 i))

      pub parameter_ends : ParameterOpTraps → (kind : TrapKind) → parameter_trap index log.shared ≡ Some kind
          → EndsIn 8 23 (Ended (Trap kind)) (at s.code a 0 d) s.code d.outside
      parameter_ends law kind none =
          let x = operand_of s st w arguments answer waiting log d h run.Parameter to from i u in
          let spot = (layout_of f (places_of s f)).spot in
          law s.code a f.charge log.shared d (spot from) (out_code (spot to)) kind
          (run_low s st w arguments answer waiting log d h run.Parameter to from i) h.ready.framed
          (usable_operand s st w arguments answer waiting log d h from x) x.word (rows text log.shared d has)
          (ap (λ n. parameter_trap n log.shared) x.value_is ∙ none) routine
          (one_stands s.code f (places_of s f) (op_stands s st w arguments answer waiting log d h) w.index o1 i)

      pub parameter_step : ParameterIsCalled → ParametersStandFor → ParameterOpTraps
          → Unless s (index_trap index) (paid o1 log) log (at s.code a 0 d)
          (Unless s (closure_trap 0 log.shared) (paid o1 log) log (at s.code a 0 d)
          (PaysTo s (set to (next_number log.shared) w) waiting
          (sharing (specified (Param index) 0 log.shared) (paid o1 log)) log (at s.code a 0 d)
          (HasSpecifications text (specified (Param index) 0 log.shared))))
      parameter_step law stand traps =
          by (index_trap index) (closure_trap 0 log.shared) refl refl
        where
          ended : (kind : TrapKind) → parameter_trap index log.shared ≡ Some kind
              → Pays s (Halted (Ended (Trap kind)) (paid o1 log)) log (at s.code a 0 d)
          ended kind e =
              end_pays s log (paid o1 log) (at s.code a 0 d) 8 23 (Ended (Trap kind)) d.outside (omega arith)
              (omega arith) h.memory.history h.memory.making tt (parameter_ends traps kind e)

          by : (t r : Option TrapKind) → index_trap index ≡ t → closure_trap 0 log.shared ≡ r
              → Unless s t (paid o1 log) log (at s.code a 0 d)
              (Unless s r (paid o1 log) log (at s.code a 0 d)
              (PaysTo s (set to (next_number log.shared) w) waiting
              (sharing (specified (Param index) 0 log.shared) (paid o1 log)) log (at s.code a 0 d)
              (HasSpecifications text (specified (Param index) 0 log.shared))))
          by (Some kind) r e1 e2 = ended kind (ap (λ t. first_trap t (closure_trap 0 log.shared)) e1)
          by None (Some kind) e1 e2 = ended kind (ap (λ t. first_trap t (closure_trap 0 log.shared)) e1 ∙ e2)
          by None None e1 e2 = parameter_pays law stand e1 e2
