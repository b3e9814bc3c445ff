use Rattle.std.proofs.Common.{sym, ◌∙◌, subst, ◌<◌, length}
use Rattle.linked_row.specs.Sorted.{SortedList}
use Rattle.linear_scan.proofs.Visiting.{shorter}
use Rattle.linear_scan.proofs.empty.Goals as goal

pub loop-number-smaller : goal.loop-number-smaller
loop-number-smaller c =
    subst (λ (v : SortedList). length v.items < length c.loop-number.keepers.items)
    (sym c.remove.ensures)
    (shorter c.loop-number.keepers.items (c.in-Some.number, c.in-Some.field-0-1)
    (sym c.first.ensures ∙ c.in-Some.is))
