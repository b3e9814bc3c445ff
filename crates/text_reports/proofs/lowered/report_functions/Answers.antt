use Rattle.std.proofs.Common.{rules, map, ap}
use Rattle.typed_tree.specs.View.{function_view}
use Rattle.static_backend.proofs.Loops.{next_static}
use Rattle.text_reports.proofs.lowered.report_functions.Goals as goal

pub build_ops-requires : goal.build_ops-requires
build_ops-requires c =
    let fs = c.args.functions.now in
    let gs = map function_view fs in
    let f = c.index-functions-number.result in
    let captures = c.requires.0 in (
      gs,
      captures,
      (next_static gs captures c.loop-number.number fs f (search rules) (search rules) c.requires.2.each).ready,
    )

pub ops-requires : goal.ops-requires
ops-requires c = ap (λ b. b.phase) c.in_ok-build_ops.ensures
