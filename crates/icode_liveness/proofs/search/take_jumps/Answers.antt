use Rattle.std.proofs.Common.{arith, sym, ◌∙◌, ap, subst, refl, ℕ, ◌≡◌, ◌<◌, ◌≤◌, ◌/◌, List, [], Some, length, get_or}
use Rattle.std.specs.Prelude.{IfSome}
use Rattle.icode_ranges.specs.Search.{Taken, Grown, PlaceOf}
use Rattle.icode_ranges.specs.Tables.{GoesFrom}
use Rattle.icode_ranges.proofs.Lists.{Each-In}
use Rattle.icode_liveness.proofs.Reaching.{slots-within}
use Rattle.icode_liveness.proofs.Taking.{grown-twice, taken-later}
use Rattle.icode_ranges.proofs.Walking.{Standing, walk-at, walk-next, slots_left, within-weaker, left-falls}
use Rattle.icode_liveness.proofs.search.take_jumps.Goals as goal

pub take-range-requires-clause-place : goal.take-range-requires-clause-place
take-range-requires-clause-place c =
    let st = walk-at _ _ c.in-Some.slot _ c.in-Some.is c.loop-at.invariant.walk in
    let ops = c.args.code.now.ops.now in
    Each-In (λ s. s / 3 < length ops) (get_or c.args.code.now.jumps.now.buckets c.args.label [])
    (slots-within (GoesFrom ops (length ops)) (length ops) c.args.label c.args.code.now.jumps.now.buckets
    (λ b p h. h.0) c.requires.listed.jumps)
    c.in-Some.slot st.there

pub loop-at-smaller : goal.loop-at-smaller
loop-at-smaller c =
    let st = walk-at _ _ c.in-Some.slot _ c.in-Some.is c.loop-at.invariant.walk in
    subst (λ o. slots_left c.next-at.result < slots_left o) (sym c.in-Some.is)
    (left-falls c.next-at.result c.in-Some.slot
    (c.next-at.ensures.falls c.args.label st.after c.requires.label (st.before, st.split)))

pub loop-at-preserved : goal.loop-at-preserved
loop-at-preserved c =
    let i = c.loop-at.invariant in
    let t = c.take-range.ensures in
    let ops = c.args.code.now.ops.now in
    let defining = c.args.defining.now.members in
    let slots = get_or c.args.code.now.jumps.now.buckets c.args.label [] in
    let room = c.args.code.now.jumps.now.slot_room in
    let st = walk-at _ _ c.in-Some.slot _ c.in-Some.is i.walk in
    let w : c.in-Some.slot < room = subst (λ o. IfSome o (λ s. s < room)) c.in-Some.is i.within in
    let w' : c.in-Some.slot ≤ room = omega arith in
    record {
      room = t.room ∙ i.room;
      within = within-weaker c.next-at.result c.in-Some.slot room w'
          (c.next-at.ensures.falls c.args.label st.after c.requires.label (st.before, st.split));
      walk =
          walk-next slots c.in-Some.slot
          (λ slot. Taken ops defining c.loop-at.found.members c.loop-at.range (slot / 3))
          (λ slot. Taken ops defining c.take-range.new.found.members c.take-range.result (slot / 3))
          c.next-at.result st
          (c.next-at.ensures.rest c.args.label st.after c.requires.label (st.before, st.split))
          (λ u d. taken-later (λ p. p ≡ c.in-Some.slot / 3) ops defining c.loop-at.range c.take-range.result
          c.loop-at.found.members c.take-range.new.found.members (u / 3) t.grown d)
          t.taken;
      grown =
          grown-twice (PlaceOf slots) (λ p. p ≡ c.in-Some.slot / 3) (PlaceOf slots) ops defining c.args.range
          c.loop-at.range c.take-range.result c.args.found.now.members c.loop-at.found.members
          c.take-range.new.found.members (λ p h. h) (λ p h. (c.in-Some.slot, st.there, sym h)) i.grown t.grown;
    }
