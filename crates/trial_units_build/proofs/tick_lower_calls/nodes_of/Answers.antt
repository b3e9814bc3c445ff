use Rattle.trial_units_build.proofs.ReturnLists.{ready_item}
use Rattle.trial_units_build.proofs.tick_lower_calls.nodes_of.Goals as goal

pub size-requires : goal.size-requires
size-requires c = ready_item c.args.list.now c.loop-f.f-index c.f-item.result c.loop-f-test.true c.f-item.is c.requires
