use Rattle.std.proofs.Common.{rules}
use Rattle.collections.proofs.room.push_in_room.Goals as goal

pub returns-clause-items : goal.returns-clause-items
returns-clause-items g c = search rules

pub returns-clause-len : goal.returns-clause-len
returns-clause-len g c = search rules
