use Rattle.wf_walk.proofs.Beginning.{nothing_good, value_good, list_good, declared_good, none_good, more_good}
use Rattle.wf_walk.proofs.Typing.{type_good}
use Rattle.wf_walk.proofs.laws.declarations_are_good.Goals as goal

pub returns : goal.returns
returns c = record {
  type = type_good;
  nothing = nothing_good;
  value = value_good;
  list = list_good;
  one =
      declared_good;
  none = none_good;
  more = more_good;
}
