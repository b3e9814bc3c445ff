-- The ops of a call that runs by which specifications are begun and made, as the staged machine has them.
use Rattle.std.proofs.Common.{◌≡◌, ℕ, true, List, Option, Some}
use Rattle.std.proofs.Common.{refl, slice_get}
use Rattle.mips_model.specs.State as machine
use Rattle.mips_model.specs.State.{Data}
use Rattle.mips_model.specs.Laws.{at}
use Rattle.meaning_state.specs.Shared.{Specification, Local, Param}
use Rattle.meaning_state.specs.Rows.{closure_trap, index_trap, next_number, specified}
use Rattle.icode_ops.specs.declared.op.Op.{Op}
use Rattle.icode_ops.specs.declared.op.Op.TheVariants.{Run}
use Rattle.icode_ops.specs.declared.kind.RunKind.TheVariants as run
use Rattle.icode_meaning.specs.State as staged
use Rattle.icode_meaning.specs.State.{Function, Frame, Log}
use Rattle.icode_meaning.specs.Steps.{uses_on, paid, set, sharing, act, specifies, goes_on}
use Rattle.icode_templates_proof.specs.RoutineLaws.{BeginIsCalled, LocalIsCalled, ParameterIsCalled}
use Rattle.icode_expand_proof.specs.Relation.{Holds}
use Rattle.icode_expand_proof.specs.Settings.{Setting, places_of, Standing}
use Rattle.icode_expand_proof.specs.Standing.{op_stands_at}
use Rattle.closures_proof.specs.OpLaws.{LocalOpTraps, ParameterOpTraps}
use Rattle.closures_proof.specs.Relation.{HasSpecifications}
use Rattle.closures_proof.specs.Laws.{SpecificationsStayWithSums, RowsAreThere, LocalsStandFor, ParametersStandFor}
use Rattle.closures_proof.specs.Ticks.{HasRoutines}
use Rattle.icode_run_proof.specs.Making.{Summing, DraftAgrees}
use Rattle.icode_run_proof.specs.Steps.{Unless}
use Rattle.icode_run_proof.proofs.Steps.{left_as_it_is}
use Rattle.icode_run_proof.proofs.PutPays.{PaysTo}
use Rattle.icode_run_proof.proofs.Called.{begin_pays}
use Rattle.icode_run_proof.proofs.VariablePays.{local_step, parameter_step}
use Rattle.icode_run_proof.proofs.Filled.{pays_told}
use Rattle.icode_run_proof.proofs.Ticking.{PaysState, unless_pays}
use Rattle.icode_run_proof.specs.Ticking.{PartAgrees}
use Rattle.icode_run_proof.specs.Relation.{Base, text_of, ticks_of, HasVariableRoutines}

pub record StartLaws : Type 0 where
  pub begin : BeginIsCalled
  pub sums : SpecificationsStayWithSums
  pub rows : RowsAreThere
  pub make_local : LocalIsCalled
  pub no_local : LocalOpTraps
  pub locals : LocalsStandFor
  pub make_parameter : ParameterIsCalled
  pub no_parameter : ParameterOpTraps
  pub parameters : ParametersStandFor

module _ (laws : StartLaws) (b : Base) (s : Setting) (st : Standing s) (routines : HasRoutines s.code)
    (of_variables : HasVariableRoutines s) (w : Frame) (arguments : ℕ → Option ℕ) (answer : Option ℕ)
    (waiting : List Frame) (log : Log) (d : Data) (h : Holds s w arguments answer waiting log d)
    (has : HasSpecifications (text_of b) log.shared d) where
  abbrev f : Function
  f = w.function

  abbrev from_state : machine.State
  from_state = at s.code (op_stands_at f (places_of s f) w.index) 0 d

  abbrev Pay : Op → Type 0
  Pay o = PaysState b s log from_state (act b.program o w arguments answer waiting log)

  pub begin_advances : (to from : ℕ) → slice_get f.ops w.index ≡ Some (Run run.Begin to from)
      → uses_on (Run run.Begin to from) w.on ≡ true → Pay (Run run.Begin to from)
  begin_advances to from i u =
      let log' = paid (Run run.Begin to from) log in
      pays_told s st (set to 0 w) waiting log' log' log from_state
      (DraftAgrees (text_of b) (Summing (w.values from) 0) log.shared)
      (PartAgrees (ticks_of b) (staged.Summing (w.values from) 0) log.shared) (left_as_it_is log.shared) refl refl refl
      refl (λ e a. record { agrees = a; short = tt })
      (begin_pays s st w arguments answer waiting log d h laws.begin laws.sums (text_of b) to from i u has
      routines.begin)

  -- a variable is made
  made : (r : Specification) (to : ℕ) (o : Op)
      → PaysTo s (set to (next_number log.shared) w) waiting (sharing (specified r 0 log.shared) (paid o log)) log
      from_state (HasSpecifications (text_of b) (specified r 0 log.shared))
      → PaysState b s log from_state (goes_on (set to (next_number log.shared) w) waiting
      (sharing (specified r 0 log.shared) (paid o log)))
  made r to o p = (refl, refl, p)

  pub local_advances : (to from : ℕ) → slice_get f.ops w.index ≡ Some (Run run.Local to from)
      → uses_on (Run run.Local to from) w.on ≡ true → Pay (Run run.Local to from)
  local_advances to from i u =
      let o : Op = Run run.Local to from in
      let log' = sharing (specified Local 0 log.shared) (paid o log) in
      let w' = set to (next_number log.shared) w in
      unless_pays b s log (paid o log) from_state (closure_trap 0 log.shared)
      (PaysTo s w' waiting log' log from_state (HasSpecifications (text_of b) log'.shared)) (goes_on w' waiting log')
      (made Local to o)
      (local_step s st w arguments answer waiting log d h (text_of b) laws.rows to from has i u of_variables.local
      laws.make_local laws.locals laws.no_local)

  pub parameter_advances : (to from : ℕ) → slice_get f.ops w.index ≡ Some (Run run.Parameter to from)
      → uses_on (Run run.Parameter to from) w.on ≡ true → Pay (Run run.Parameter to from)
  parameter_advances to from i u =
      let o : Op = Run run.Parameter to from in
      let r = Param (w.values from) in
      let log' = sharing (specified r 0 log.shared) (paid o log) in
      let w' = set to (next_number log.shared) w in
      let A : Type 0 = PaysTo s w' waiting log' log from_state (HasSpecifications (text_of b) log'.shared) in
      unless_pays b s log (paid o log) from_state (index_trap (w.values from))
      (Unless s (closure_trap 0 log.shared) (paid o log) log from_state A) (specifies r to w waiting (paid o log))
      (λ q. unless_pays b s log (paid o log) from_state (closure_trap 0 log.shared) A (goes_on w' waiting log')
      (made r to o) q)
      (parameter_step s st w arguments answer waiting log d h (text_of b) laws.rows to from has i u
      of_variables.parameter laws.make_parameter laws.parameters laws.no_parameter)
