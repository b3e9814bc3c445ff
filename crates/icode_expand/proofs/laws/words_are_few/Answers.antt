use Rattle.icode_expand.proofs.Most.{words_most}
use Rattle.icode_expand.proofs.laws.words_are_few.Goals as goal

pub returns : goal.returns
returns c = words_most
