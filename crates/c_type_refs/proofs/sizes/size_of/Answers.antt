use Rattle.std.proofs.Common.{ap, ◌∙◌}
use Rattle.c_types.specs.Types.{base_of, layers_of}
use Rattle.c_type_refs.proofs.ExtentLaws.{whole}
use Rattle.c_type_refs.proofs.sizes.size_of.Goals as goal

pub returns : goal.returns
returns c = ap (λ e. e.size) c.extent.ensures ∙ whole (base_of c.args.t.now) (layers_of c.args.t.now) c.requires.small
