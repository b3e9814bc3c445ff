use Rattle.std.proofs.Common.{◌≡◌, length, take, ap, sym, ◌∙◌, arith}
use Rattle.c_types.specs.Types.{base_of, layers_of}
use Rattle.c_type_refs.specs.Extents.{start, after}
use Rattle.c_type_refs.proofs.ExtentLaws.{kept}
use Rattle.c_type_refs.proofs.row.Row.extent.Goals as goal

pub returns-in-Some : goal.returns-in-Some
returns-in-Some c =
    let long : length c.self.inside.layers ≡ length (layers_of c.args.self.now) =
    ap (λ t. length (layers_of t)) c.self.view_is in
    kept (start c.self.inside.base) c.self.inside.layers c.self.inside.extents c.args.len c.in-Some.extent.now
    (omega (arith, long, c.requires)) c.self.invariant.counted (sym c.in-Some.ensures.value)
    ∙ ap (λ t. after (start (base_of t)) (take c.args.len (layers_of t))) c.self.view_is
