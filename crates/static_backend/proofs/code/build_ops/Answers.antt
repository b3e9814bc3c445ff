use Rattle.std.proofs.Common.{◌≡◌, ap, ◌∙◌}
use Rattle.icode_ir.specs.Build.{empty}
use Rattle.icode_ir.specs.Runs.{run_ops}
use Rattle.tick_lower.specs.Viewed.{addresses_view}
use Rattle.tick_lower_spec.specs.Lower.{function_ops}
use Rattle.typed_tree.specs.View.{function_view}
use Rattle.static_backend.proofs.code.build_ops.Goals as goal

pub unreachable-requires : goal.unreachable-requires
unreachable-requires c =
    let function = function_view c.args.function.now in
    let d = addresses_view c.args.addresses.now in
    let accepted = c.lowering_is_accepted.ensures d function c.requires.2.ready in
    let built : c.lower.new.builder.build ≡ run_ops (function_ops d function) (empty function.parameters) =
    c.in_ok-lower.ensures.taken ∙ ap (λ b. run_ops (function_ops d function) b.build) c.begin.ensures in
    c.in-Err.ensures.0 (ap (λ b. b.operands) built ∙ accepted.no_operands)
    (ap (λ b. b.bodies) built ∙ accepted.no_bodies)
