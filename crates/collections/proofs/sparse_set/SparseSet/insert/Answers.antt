use Rattle.std.proofs.Common.{rules}
use Rattle.collections.proofs.sparse_set.SparseSet.insert.Goals as goal

pub push-requires-clause-new : goal.push-requires-clause-new
push-requires-clause-new c = search rules
