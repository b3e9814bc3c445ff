use Rattle.std.proofs.Common.{rules, subst, sym}
use Rattle.tick_lower.specs.Sized.{AreSized}
use Rattle.text_reports.proofs.Ready.{Static, static, sized}
use Rattle.text_reports.proofs.lowered.report_built.Goals as goal

pub report_functions-requires : goal.report_functions-requires
report_functions-requires c =
    subst Static (sym c.functions-functions.ensures)
    (static c.programs_meet_backend.ensures c.args.program.now c.main_of-main.result c.keeps_law.ensures
    c.main_of-main.ensures.words (search rules))

pub invariant_of-addresses : goal.invariant_of-addresses
invariant_of-addresses c = record {
  sized =
      subst AreSized (sym c.ticks-ticks.ensures)
      (sized c.programs_meet_backend.ensures c.args.program.now c.main_of-main.result c.keeps_law.ensures
      c.main_of-main.ensures.words (search rules));
}
