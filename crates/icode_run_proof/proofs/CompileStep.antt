-- The op that compiles, as a step of a tale.
use Rattle.std.proofs.Common.{◌≡◌, ℕ, Bool, Option, Some, None, ◌++◌, refl, subst, append_assoc}
use Rattle.history.specs.Syntax.{Syntax}
use Rattle.mips_model.specs.Laws.{HasAt}
use Rattle.meaning_state.specs.Rows.{arena_trap, place_trap, next_place, arena_words, specification_at, table_trap}
use Rattle.meaning_state.specs.Rows.{next_function}
use Rattle.staged_meaning.specs.Program.{syntax_size}
use Rattle.icode_ops.specs.declared.op.Op.TheVariants.{Run}
use Rattle.icode_ops.specs.declared.kind.RunKind.TheVariants as run
use Rattle.icode_templates.specs.Templates.{load_code, wait_code, routine_code, out_code}
use Rattle.icode_expand_proof.specs.Settings.{places_of}
use Rattle.icode_expand_proof.specs.Standing.{layout_of, op_stands_at}
use Rattle.icode_expand_proof.proofs.Codes.{one_stands}
use Rattle.icode_expand_proof.proofs.Recent.{load_gentle}
use Rattle.compile_routine.specs.Below.{GeneratorsAreLow}
use Rattle.compile_routine.specs.Laws.{IsTickOf}
use Rattle.compile_routine.specs.Ops.{compile_number}
use Rattle.icode_run_proof.specs.Relation.{Base, CompilesAt, functions_of, text_of, ticks_of, tick_count}
use Rattle.icode_run_proof.specs.Ticking.{AreTicks}
use Rattle.icode_run_proof.proofs.Called.{op_stands, operand_of, usable_operand}
use Rattle.icode_run_proof.proofs.CompileGoes.{goes}
use Rattle.icode_run_proof.proofs.CompileTraps.{compile_by}
use Rattle.icode_run_proof.proofs.Compiles.{CompilesStep}

pub compile_step : (b : Base) → AreTicks (ticks_of b) → GeneratorsAreLow (text_of b) b.pieces (tick_count b)
    → CompilesStep b
compile_step b are low c s stood has w arguments answer waiting log x z t stands all to from i u =
    let f = w.function in
    let places = places_of s f in
    let spot = (layout_of f places).spot in
    let rest = routine_code compile_number ++ out_code (spot to) in
    let operand = operand_of s stood.standing w arguments answer waiting log z.d z.holds run.Compile to from i u in
    let code = one_stands s.code f places (op_stands s stood.standing w arguments answer waiting log z.d z.holds)
    w.index
    (Run run.Compile to from) i in
    let gentle = load_gentle s.code (op_stands_at f places w.index) f.charge z.d (spot from)
    (wait_code (spot from) ++ rest) z.holds.ready.framed
    (usable_operand s stood.standing w arguments answer waiting log z.d z.holds from operand)
    (subst (HasAt s.code (op_stands_at f places w.index))
    (append_assoc (load_code 24 (spot from)) (wait_code (spot from)) rest) code) in
    compile_by b are c s stood has w arguments answer waiting log x z t stands to from i u gentle begins
  where
    begins : (value : Bool) (syntax : Syntax) → IsTickOf value syntax (specification_at (w.values from) log.shared)
        → table_trap (next_function (functions_of b) log.shared) ≡ None
        → arena_trap (syntax_size b.program.source syntax) log.shared ≡ None
        → CompilesAt b (syntax_size b.program.source syntax) syntax to w waiting log t
    begins value syntax tick_is table none =
        by (next_place (arena_words (syntax_size b.program.source syntax)) log.shared) refl none
      where
        by : (o : Option ℕ) → next_place (arena_words (syntax_size b.program.source syntax)) log.shared ≡ o
            → place_trap o ≡ None → CompilesAt b (syntax_size b.program.source syntax) syntax to w waiting log t
        by None is e = absurd cc
        by (Some place) is e =
            goes b low c s stood has w arguments answer waiting log x z t stands to from i u value syntax tick_is table
            (all (w.values from) value syntax tick_is) place is
