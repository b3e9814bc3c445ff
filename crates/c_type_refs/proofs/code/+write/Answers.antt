use Rattle.std.proofs.Common.{arith}
use Rattle.std.proofs.lemmas.Grind.{common_steps}
use Rattle.std.proofs.Common.{◌++◌, map, ap, ◌∙◌}
use Rattle.c_types.specs.declared.ctype.Layer.{out-Layer}
use Rattle.c_types.specs.declared.ctype.Layer.TheVariants as layer
use Rattle.c_types.specs.declared.ctype.Layer.TheOpen.{Layer-F}
use Rattle.c_type_refs.specs.Codes.{function_code, type_code}
use Rattle.c_type_refs.proofs.Coded.{of_layer}
use Rattle.c_type_refs.proofs.code.+write.Goals as goal

pub write_layer-returns-in_ok-push-in-Pointer : goal.write_layer-returns-in_ok-push-in-Pointer
write_layer-returns-in_ok-push-in-Pointer t c =
    of_layer c.args.layer.now Layer-F.Pointer c.args.code.now c.push.new.self
    (ap out-Layer c.in-Pointer.is ∙ layer.outs-Pointer) c.in_ok-push-in-Pointer.ensures.ok

pub write_layer-returns-in_ok-push-in-Unlisted : goal.write_layer-returns-in_ok-push-in-Unlisted
write_layer-returns-in_ok-push-in-Unlisted t c =
    of_layer c.args.layer.now Layer-F.Unlisted c.args.code.now c.push-in-Unlisted.new.self
    (ap out-Layer c.in-Unlisted.is ∙ layer.outs-Unlisted) c.in_ok-push-in-Unlisted.ensures.ok

pub write_layer-returns-in_ok-push-in-Cspec : goal.write_layer-returns-in_ok-push-in-Cspec
write_layer-returns-in_ok-push-in-Cspec t c =
    of_layer c.args.layer.now Layer-F.Cspec c.args.code.now c.push-in-Cspec.new.self
    (ap out-Layer c.in-Cspec.is ∙ layer.outs-Cspec) c.in_ok-push-in-Cspec.ensures.ok

pub write_layer-returns-in_ok-push-in-Vspec : goal.write_layer-returns-in_ok-push-in-Vspec
write_layer-returns-in_ok-push-in-Vspec t c =
    of_layer c.args.layer.now Layer-F.Vspec c.args.code.now c.push-in-Vspec.new.self
    (ap out-Layer c.in-Vspec.is ∙ layer.outs-Vspec) c.in_ok-push-in-Vspec.ensures.ok

pub write_layer-returns-in_ok-write_function-in-Function : goal.write_layer-returns-in_ok-write_function-in-Function
write_layer-returns-in_ok-write_function-in-Function t c =
    of_layer c.args.layer.now (Layer-F.Function c.in-Function.list) c.args.code.now c.write_function.new.code
    (ap out-Layer c.in-Function.is ∙ layer.outs-Function c.in-Function.list)
    (c.in_ok-write_function-in-Function.ensures
    ∙ ap (λ list. c.args.code.now ++ function_code (map type_code list)) c.as_slice.ensures)

pub write_layer-returns-in_ok-write_array-in-Array : goal.write_layer-returns-in_ok-write_array-in-Array
write_layer-returns-in_ok-write_array-in-Array t c =
    of_layer c.args.layer.now (Layer-F.Array c.in-Array.count) c.args.code.now c.write_array.new.code
    (ap out-Layer c.in-Array.is ∙ layer.outs-Array c.in-Array.count) c.in_ok-write_array-in-Array.ensures

pub write_function-returns-in-empty : goal.write_function-returns-in-empty
write_function-returns-in-empty t c = grind (arith, common_steps)

pub write_layers-returns : goal.write_layers-returns
write_layers-returns t c = grind (arith, common_steps)
