use Rattle.std.proofs.Common.{take, ap, ◌∙◌}
use Rattle.c_types.specs.Types.{base_of, layers_of}
use Rattle.c_type_refs.specs.Extents.{start, after}
use Rattle.c_type_refs.specs.Shared.{row_layers}
use Rattle.c_type_refs.proofs.ExtentLaws.{joined}
use Rattle.c_type_refs.proofs.shared.TypeRef.extent.Goals as goal

pub returns : goal.returns
returns c =
    let t = c.self.inside in
    c.after.ensures
    ∙ ap (λ e. after e c.as_slice.result.now) c.row_extent.ensures
    ∙ ap (after (after (start t.base) (take t.len (row_layers t.row)))) c.as_slice.ensures
    ∙ joined (start t.base) (take t.len (row_layers t.row)) t.more
    ∙ ap (λ t. after (start (base_of t)) (layers_of t)) c.self.view_is
