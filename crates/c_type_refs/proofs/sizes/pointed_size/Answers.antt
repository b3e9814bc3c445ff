use Rattle.std.proofs.Common.{◌≡◌, true, false, refl, ap, sym, ◌∙◌}
use Rattle.c_types.specs.Types.{base_of, layers_of, under, outermost, is_pointer}
use Rattle.c_type_refs.specs.Sizes.{pointed_size}
use Rattle.c_type_refs.specs.Extents.{limited}
use Rattle.c_type_refs.proofs.ExtentLaws.{limits}
use Rattle.c_type_refs.proofs.sizes.pointed_size.Goals as goal

pub returns-then-is_pointer : goal.returns-then-is_pointer
unfolding pointed_size
returns-then-is_pointer c =
    let pointer : is_pointer (outermost (layers_of c.args.t.now)) ≡ true =
    ap (λ ls. is_pointer (outermost ls)) (sym c.layers.ensures) ∙ sym c.is_pointer.ensures.value ∙
    c.if-is_pointer.true in
    rw pointer (c.limited.ensures ∙ ap limited c.extent_under.ensures ∙
    limits (base_of c.args.t.now) (under (layers_of c.args.t.now)))

pub returns-else-is_pointer : goal.returns-else-is_pointer
unfolding pointed_size
returns-else-is_pointer c =
    let pointer : is_pointer (outermost (layers_of c.args.t.now)) ≡ false =
    ap (λ ls. is_pointer (outermost ls)) (sym c.layers.ensures) ∙ sym c.is_pointer.ensures.value ∙
    c.if-is_pointer.false in
    rw pointer refl
