use Rattle.wf_walk.proofs.Assembly.{walk_good}
use Rattle.wf_walk.proofs.laws.statements_are_good.Goals as goal

pub returns : goal.returns
returns c = λ many s h a may. walk_good many (λ d. d) s h a may
