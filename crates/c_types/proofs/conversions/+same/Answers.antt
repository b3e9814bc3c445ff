use Rattle.c_types.proofs.SameLaws
use Rattle.std.proofs.Common.{arith}
use Rattle.std.proofs.lemmas.Grind.{common_steps}
use Rattle.std.proofs.Common.{◌≡◌, ap, ◌∙◌}
use Rattle.c_types.specs.Types as spec
use Rattle.c_types.proofs.SameLaws.{arrays, functions}
use Rattle.c_types.proofs.conversions.+same.Goals as goal

pub same_layer-returns-in-Array-b : goal.same_layer-returns-in-Array-b
same_layer-returns-in-Array-b t c =
    arrays c.args.a.now c.args.b.now c.in-Array.n c.in-Array-b.m c.in-Array.is c.in-Array-b.is

pub same_layer-returns-in-Function-b : goal.same_layer-returns-in-Function-b
same_layer-returns-in-Function-b t c =
    let lists : c.same_lists.result ≡ spec.same_lists c.in-Function.list c.in-Function-b.other =
    c.same_lists.ensures
    ∙ ap (λ xs. spec.same_lists xs c.as_slice-in-Function-b.result.now) c.as_slice.ensures
    ∙ ap (λ ys. spec.same_lists c.in-Function.list ys) c.as_slice-in-Function-b.ensures in
    lists ∙ functions c.args.a.now c.args.b.now c.in-Function.list c.in-Function-b.other c.in-Function.is
    c.in-Function-b.is

pub same_ctypes-returns-then-eq : goal.same_ctypes-returns-then-eq
same_ctypes-returns-then-eq t c = let h = c.if-eq.ensures in grind (arith, SameLaws.by_parts)

pub same_ctypes-returns-else-eq : goal.same_ctypes-returns-else-eq
same_ctypes-returns-else-eq t c = let h = c.if-eq.ensures in grind (arith, SameLaws.by_parts)

pub same_layer-returns-in-Pointer-matches : goal.same_layer-returns-in-Pointer-matches
same_layer-returns-in-Pointer-matches t c = grind (arith, SameLaws.by_layer)

pub same_layer-returns-in-Unlisted-matches : goal.same_layer-returns-in-Unlisted-matches
same_layer-returns-in-Unlisted-matches t c = grind (arith, SameLaws.by_layer)

pub same_layer-returns-in-Cspec-matches : goal.same_layer-returns-in-Cspec-matches
same_layer-returns-in-Cspec-matches t c = grind (arith, SameLaws.by_layer)

pub same_layer-returns-in-Vspec-matches : goal.same_layer-returns-in-Vspec-matches
same_layer-returns-in-Vspec-matches t c = grind (arith, SameLaws.by_layer)

pub same_layers-returns-then-a-b : goal.same_layers-returns-then-a-b
same_layers-returns-then-a-b t c = grind (arith, SameLaws.other_layers)

pub same_layers-returns-then-not-same_layer : goal.same_layers-returns-then-not-same_layer
same_layers-returns-then-not-same_layer t c = let h = c.if-not-same_layer.ensures in grind (arith, common_steps)

pub same_layers-loop-i-preserved : goal.same_layers-loop-i-preserved
same_layers-loop-i-preserved t c = let h = c.if-not-same_layer.ensures in grind (arith, common_steps)

pub same_layers-returns : goal.same_layers-returns
same_layers-returns t c = grind (arith, common_steps)

pub same_lists-returns-then-a-b : goal.same_lists-returns-then-a-b
same_lists-returns-then-a-b t c = grind (arith, SameLaws.other_lists)

pub same_lists-returns-then-not-same_ctypes : goal.same_lists-returns-then-not-same_ctypes
same_lists-returns-then-not-same_ctypes t c = let h = c.if-not-same_ctypes.ensures in grind (arith, common_steps)

pub same_lists-loop-i-preserved : goal.same_lists-loop-i-preserved
same_lists-loop-i-preserved t c = let h = c.if-not-same_ctypes.ensures in grind (arith, common_steps)

pub same_lists-returns : goal.same_lists-returns
same_lists-returns t c = grind (arith, common_steps)
