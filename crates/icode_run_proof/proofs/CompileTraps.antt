-- The op that compiles: it traps as the meaning says, or a compile begins, which costs nothing yet.
use Rattle.std.proofs.Common.{◌≡◌, ℕ, Bool, true, false, List, Option, Some, None, refl, sym, ap}
use Rattle.std.proofs.Common.{◌∙◌, subst, arith, slice_get}
use Rattle.host_edge.specs.declared.ending.Ending.TheVariants.{Trap}
use Rattle.host_edge.specs.declared.ending.TrapKind.{TrapKind}
use Rattle.host_edge.specs.declared.ending.TrapKind.TheVariants.{BadSpec}
use Rattle.history.specs.Events.{Ended}
use Rattle.history.specs.Syntax.{Syntax}
use Rattle.mips_model.specs.State.{Code, World}
use Rattle.mips_model.specs.Steps.{going}
use Rattle.mips_model.specs.Laws.{at}
use Rattle.mips_model_laws.specs.Laws.{with_code}
use Rattle.mips_model_laws.specs.Tales.{Tale}
use Rattle.meaning_state.specs.Shared.{Specification, Expression, Statement, Local, Param}
use Rattle.meaning_state.specs.Rows.{specification_at, table_trap, arena_trap, next_function}
use Rattle.staged_meaning.specs.Program.{syntax_size}
use Rattle.icode_ops.specs.declared.op.Op.{Op}
use Rattle.icode_ops.specs.declared.op.Op.TheVariants.{Run}
use Rattle.icode_ops.specs.declared.kind.RunKind.TheVariants as run
use Rattle.icode_templates.specs.Templates.{out_code}
use Rattle.icode_templates_proof.specs.Moves.{EndsIn, behind}
use Rattle.icode_templates_proof.specs.RoutineLaws.{first_trap}
use Rattle.icode_meaning.specs.State.{Function, Frame, Log, State, Running, Compiling, Halted}
use Rattle.icode_meaning.specs.Steps.{act, uses_on, paid, unless, compile_row}
use Rattle.icode_expand_proof.specs.Settings.{Setting, places_of}
use Rattle.icode_expand_proof.specs.Standing.{layout_of, op_stands_at}
use Rattle.icode_expand_proof.specs.Relation.{StandsAt}
use Rattle.icode_expand_proof.proofs.Codes.{one_stands}
use Rattle.icode_expand_proof.proofs.Operators.{end_pays}
use Rattle.icode_expand_proof.proofs.Recent.{IsGentle, at_any}
use Rattle.closures_proof.specs.Relation.{HasSpecifications}
use Rattle.compile_routine.specs.Laws.{IsTickOf, compile_trap, size_traps}
use Rattle.compile_routine.proofs.Ops.{compile_op_ends}
use Rattle.icode_run_proof.specs.Making.{Nothing}
use Rattle.icode_run_proof.specs.Relation.{Base, text_of, ticks_of, functions_of, Stood, StandsFor, Related}
use Rattle.icode_run_proof.specs.Ticking.{AreTicks}
use Rattle.icode_run_proof.proofs.Called.{op_stands, run_low, operand_of, usable_operand}
use Rattle.icode_run_proof.proofs.Drafts.{draft_now, arena_now}
use Rattle.icode_run_proof.proofs.Stepping.{Stepped, stepped}

module _ (b : Base) (are : AreTicks (ticks_of b)) (c : Code) (s : Setting) (stood : Stood b c s)
    (has : HasSpecifications (text_of b) s.made s.written) (w : Frame) (arguments : ℕ → Option ℕ) (answer : Option ℕ)
    (waiting : List Frame) (log : Log) (x : World) (z : StandsAt s w arguments answer waiting log x) (t : Tale)
    (stands : StandsFor b c (Running w arguments answer waiting log) x t) (to from : ℕ)
    (i : slice_get w.function.ops w.index ≡ Some (Run run.Compile to from))
    (u : uses_on (Run run.Compile to from) w.on ≡ true) where
  abbrev o : Op
  o = Run run.Compile to from

  abbrev f : Function
  f = w.function

  abbrev places : List ℕ
  places = places_of s f

  abbrev a : ℕ
  a = op_stands_at f places w.index

  -- the row of the number
  abbrev row : Option Specification
  row = specification_at (w.values from) log.shared

  abbrev function : ℕ
  function = next_function (functions_of b) log.shared

  ends : (kind : TrapKind) → compile_trap b.program.source function row log.shared ≡ Some kind
      → EndsIn 10 33 (Ended (Trap kind)) (at s.code a 0 z.d) s.code z.d.outside
  ends kind e =
      let y = operand_of s stood.standing w arguments answer waiting log z.d z.holds run.Compile to from i u in
      let spot = (layout_of f places).spot in
      compile_op_ends (text_of b) (functions_of b) s.code a f.charge log.shared z.d (spot from) (out_code (spot to))
      kind
      (run_low s stood.standing w arguments answer waiting log z.d z.holds run.Compile to from i) z.holds.ready.framed
      (usable_operand s stood.standing w arguments answer waiting log z.d z.holds from y) y.word
      (draft_now (text_of b) Nothing s w arguments answer waiting log z.d z.holds has)
      (arena_now (functions_of b) s log.shared z.d z.holds.memory.written z.holds.memory.made stood.arena)
      (ap (λ n. compile_trap b.program.source function (specification_at n log.shared) log.shared) y.value_is ∙ e)
      stood.compiler.routine
      (one_stands s.code f places (op_stands s stood.standing w arguments answer waiting log z.d z.holds) w.index o i)

  at_z : t.world ≡ going (behind c a z.recent z.d)
  at_z = stands.world_is ∙ ap (λ (v : World). let r : World = record v { state = with_code c v.state } in r) z.is

  -- the op has its operand first, so it does the same where HI or LO was read
  module _ (gentle : IsGentle s.code a z.d) where
    traps : (kind : TrapKind) → compile_trap b.program.source function row log.shared ≡ Some kind
        → Stepped b log (Halted (Ended (Trap kind)) (paid o log)) t
    traps kind e =
        let state : State = Halted (Ended (Trap kind)) (paid o log) in
        stepped b are c s stood t log a z.recent z.d z.holds.memory at_z stands.told_is has state
        (at_any s z.recent state log a z.d z.few gentle (omega arith)
        (end_pays s log (paid o log) (at s.code a 0 z.d) 10 33 (Ended (Trap kind)) z.d.outside (omega arith)
        (omega arith) z.holds.memory.history z.holds.memory.making tt (ends kind e)))

    -- a compile begins where there is no trap
    abbrev Begins : Type 0
    Begins =
        (value : Bool) (syntax : Syntax) → IsTickOf value syntax row → table_trap function ≡ None
        → arena_trap (syntax_size b.program.source syntax) log.shared ≡ None
        → Related b (Compiling (syntax_size b.program.source syntax) syntax to w waiting log) t

    of_size : (size : ℕ) (syntax : Syntax)
        → ((kind : TrapKind) → size_traps function size log.shared ≡ Some kind
        → Stepped b log (Halted (Ended (Trap kind)) (paid o log)) t)
        → (table_trap function ≡ None → arena_trap size log.shared ≡ None
        → Related b (Compiling size syntax to w waiting log) t)
        → Stepped b log (unless (table_trap function) (paid o log) (unless (arena_trap size log.shared) (paid o log)
        (Compiling size syntax to w waiting log))) t
    of_size size syntax trapped begins = by (table_trap function) (arena_trap size log.shared) refl refl
      where
        by : (x y : Option TrapKind) → table_trap function ≡ x → arena_trap size log.shared ≡ y
            → Stepped b log (unless x (paid o log) (unless y (paid o log) (Compiling size syntax to w waiting log))) t
        by (Some kind) y e1 e2 = trapped kind (ap (λ r. first_trap r (arena_trap size log.shared)) e1)
        by None (Some kind) e1 e2 = trapped kind (ap (λ r. first_trap r (arena_trap size log.shared)) e1 ∙ e2)
        by None None e1 e2 = record {
          count = 0;
          low = omega arith;
          high = omega arith;
          related = begins e1 e2;
          calm = λ j l. absurd (omega (arith, l));
        }

    of_row : (r : Option Specification) → row ≡ r → Begins
        → Stepped b log (compile_row b.program o to r w waiting log) t
    of_row (Some (Expression syntax)) e begins =
        of_size (syntax_size b.program.source syntax) syntax
        (λ kind k. traps kind (ap (λ r. compile_trap b.program.source function r log.shared) e ∙ k))
        (begins true syntax (subst (IsTickOf true syntax) (sym e) refl))
    of_row (Some (Statement syntax)) e begins =
        of_size (syntax_size b.program.source syntax) syntax
        (λ kind k. traps kind (ap (λ r. compile_trap b.program.source function r log.shared) e ∙ k))
        (begins false syntax (subst (IsTickOf false syntax) (sym e) refl))
    of_row (Some Local) e begins = traps BadSpec (ap (λ r. compile_trap b.program.source function r log.shared) e)
    of_row (Some (Param index)) e begins =
        traps BadSpec (ap (λ r. compile_trap b.program.source function r log.shared) e)
    of_row None e begins = traps BadSpec (ap (λ r. compile_trap b.program.source function r log.shared) e)

    pub compile_by : Begins → Stepped b log (act b.program o w arguments answer waiting log) t
    compile_by begins = of_row row refl begins
