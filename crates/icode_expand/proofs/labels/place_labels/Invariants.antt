use Rattle.std.proofs.Common.{◌≡◌, ◌+◌, ◌*◌, ◌≤◌, length}
use Rattle.icode_templates.specs.Layout.{laid}
use Rattle.icode_expand.proofs.Placed.{Placed, address_at}
use Rattle.icode_expand.proofs.labels.place_labels.Given as goal

abbrev pub invariant-loop-op : goal.invariant-loop-op
invariant-loop-op l =
    (l.end ≡ address_at (laid l.layout.places.now l.layout.frame l.layout.objects) l.fn.start l.ops l.op-index)
    × (l.end ≤ l.fn.start + 64 * l.op-index)
    × Placed (laid l.layout.places.now l.layout.frame l.layout.objects) l.fn.start l.ops l.op-index l.labels
    × (length l.labels ≡ length l.fn.labels)
