use Rattle.icode_expand.proofs.Most.{template_most}
use Rattle.icode_expand.proofs.laws.templates_are_short.Goals as goal

pub returns : goal.returns
returns c = template_most
