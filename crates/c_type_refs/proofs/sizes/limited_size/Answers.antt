use Rattle.std.proofs.Common.{ap, ◌∙◌}
use Rattle.c_types.specs.Types.{base_of, layers_of}
use Rattle.c_type_refs.specs.Sizes.{limited_size}
use Rattle.c_type_refs.specs.Extents.{limited}
use Rattle.c_type_refs.proofs.ExtentLaws.{limits}
use Rattle.c_type_refs.proofs.sizes.limited_size.Goals as goal

pub returns : goal.returns
unfolding limited_size
returns c = c.limited.ensures ∙ ap limited c.extent.ensures ∙ limits (base_of c.args.t.now) (layers_of c.args.t.now)
