use Rattle.std.proofs.Common.{sym, ◌∙◌, ap, subst, ◌<◌, length}
use Rattle.linked_row.specs.Sorted.{SortedList}
use Rattle.linear_scan.specs.Held.{from_end, ApartIds}
use Rattle.linear_scan.proofs.Pairs.{first-out}
use Rattle.linear_scan.proofs.expire.Goals as goal

pub loop-number-smaller : goal.loop-number-smaller
loop-number-smaller c =
    let o = first-out c.args.start c.loop-number.keepers.items (c.in-Some.number, c.in-Some.end)
    (sym c.first.ensures ∙ c.in-Some.is) c.loop-number.invariant.apart c.if-end-start.false in
    subst (λ (v : SortedList). length v.items < length c.loop-number.keepers.items)
    (sym c.remove.ensures) o.fewer

pub loop-number-preserved : goal.loop-number-preserved
loop-number-preserved c =
    let o = first-out c.args.start c.loop-number.keepers.items (c.in-Some.number, c.in-Some.end)
    (sym c.first.ensures ∙ c.in-Some.is) c.loop-number.invariant.apart c.if-end-start.false in
    record {
      room = ap (λ (v : SortedList). v.room) c.remove.ensures ∙ c.loop-number.invariant.room;
      same =
          ap (λ (v : SortedList). from_end c.args.start v.items) c.remove.ensures ∙
          (o.same ∙ c.loop-number.invariant.same);
      apart = subst (λ (v : SortedList). ApartIds v.items) (sym c.remove.ensures) o.apart;
    }
