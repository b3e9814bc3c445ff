use Rattle.std.proofs.Common.{rules, ◌∙◌}
use Rattle.asm_print.specs.Text as spec
use Rattle.asm_print.proofs.Fronts.{front_turn, whole_turn, at_error}
use Rattle.asm_print.proofs.disassembler.write_functions.Goals as goal

pub returns-in_err-write_whole-clause-front : goal.returns-in_err-write_whole-clause-front
returns-in_err-write_whole-clause-front g c =
    at_error c.from_residual.result
    (front_turn _ _ _ spec.function_line c.args.functions.now c.loop-function.function-index _ c.as_bytes.result.now
    (search rules)
    c.loop-function.invariant.taken (c.as_bytes.ensures ∙ c.function_line.ensures) c.in_err-write_whole.ensures.front)

pub loop-function-preserved : goal.loop-function-preserved
loop-function-preserved g c = record {
  taken =
      whole_turn _ _ _ spec.function_line c.args.functions.now c.loop-function.function-index _ c.as_bytes.result.now
      (search rules)
      c.loop-function.invariant.taken (c.as_bytes.ensures ∙ c.function_line.ensures) c.in_ok-write_whole.ensures.whole;
  faults = c.in_ok-write_whole.ensures.cause.ok ∙ c.loop-function.invariant.faults;
}
