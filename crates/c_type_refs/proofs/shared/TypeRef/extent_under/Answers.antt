use Rattle.std.proofs.Common.{arith}
use Rattle.std.proofs.lemmas.Grind.{common_steps}
use Rattle.std.proofs.Common.{take, length, ◌-◌, ◌≡◌, ap, ◌∙◌, arith}
use Rattle.c_types.specs.Types.{base_of, layers_of, under}
use Rattle.c_type_refs.specs.Extents.{start, after}
use Rattle.c_type_refs.specs.Shared.{row_layers}
use Rattle.c_type_refs.proofs.ExtentLaws.{joined, under_more}
use Rattle.c_type_refs.proofs.shared.TypeRef.extent_under.Goals as goal

pub returns-else-on_top-eq0 : goal.returns-else-on_top-eq0
returns-else-on_top-eq0 c =
    let t = c.self.inside in
    let below = take t.len (row_layers t.row) in
    let more = c.as_slice-more.result.now in
    let long : length more ≡ length t.more = ap length c.as_slice-more.ensures in
    c.after.ensures
    ∙ ap (λ e. after e (take (length more - 1) more)) c.row_extent-else-on_top-eq0.ensures
    ∙ ap (λ m. after (after (start t.base) below) (take (length m - 1) m)) c.as_slice-more.ensures
    ∙ joined (start t.base) below (take (length t.more - 1) t.more)
    ∙ ap (after (start t.base)) (under_more below t.more (omega (arith, long, c.if-on_top-eq0.false)))
    ∙ ap (λ t. after (start (base_of t)) (under (layers_of t))) c.self.view_is

pub returns-then-on_top-eq0 : goal.returns-then-on_top-eq0
returns-then-on_top-eq0 c = grind (arith, common_steps)
