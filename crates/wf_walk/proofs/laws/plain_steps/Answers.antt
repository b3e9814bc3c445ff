use Rattle.wf_walk.proofs.Plain.{plain_refl, plain_more, plain_keeps}
use Rattle.wf_walk.proofs.laws.plain_steps.Goals as goal

pub returns : goal.returns
returns c = record {
  none = plain_refl;
  more = λ g s t new p q. plain_more p q;
  keeps = λ g s new p. plain_keeps p;
}
