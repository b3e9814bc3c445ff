use Rattle.std.proofs.Common.{arith, sym, ◌∙◌, ap, subst, refl, ℕ, ◌≡◌, ◌<◌, ◌≤◌, ◌/◌, List, [], Some, length, get_or}
use Rattle.std.specs.Prelude.{IfSome}
use Rattle.collections.specs.Members.{Members, with_member}
use Rattle.icode_ranges.specs.Blocks.{block_of}
use Rattle.icode_ranges.specs.Lists.{In, Extends}
use Rattle.icode_ranges.specs.Search.{BlockIn}
use Rattle.icode_ranges.proofs.Lists.{Each-In, extends-In, extends-twice}
use Rattle.icode_ranges.proofs.Walking.{Standing, walk-at, walk-next, slots_left, within-weaker, left-falls}
use Rattle.icode_ranges.proofs.Walking.{member-there, member-extends}
use Rattle.icode_liveness.proofs.search.add_blocks.Goals as goal

pub block-requires-clause-place : goal.block-requires-clause-place
block-requires-clause-place c =
    let st = walk-at _ _ c.in-Some.slot _ c.in-Some.is c.loop-at.invariant.walk in
    Each-In (λ s. s / 3 < length c.args.code.now.ops.now) (get_or c.args.table.now.buckets c.args.bucket [])
    c.requires.places c.in-Some.slot st.there

pub insert-requires : goal.insert-requires
insert-requires c =
    let st = walk-at _ _ c.in-Some.slot _ c.in-Some.is c.loop-at.invariant.walk in
    let l = Each-In (λ s. s / 3 < length c.args.code.now.ops.now)
    (get_or c.args.table.now.buckets c.args.bucket []) c.requires.places c.in-Some.slot st.there in
    omega (arith, l, c.block.ensures.low, c.requires.room, c.loop-at.invariant.room)

pub loop-at-smaller : goal.loop-at-smaller
loop-at-smaller c =
    let st = walk-at _ _ c.in-Some.slot _ c.in-Some.is c.loop-at.invariant.walk in
    subst (λ o. slots_left c.next-at.result < slots_left o) (sym c.in-Some.is)
    (left-falls c.next-at.result c.in-Some.slot
    (c.next-at.ensures.falls c.args.bucket st.after c.requires.bucket (st.before, st.split)))

pub loop-at-preserved : goal.loop-at-preserved
loop-at-preserved c =
    let i = c.loop-at.invariant in
    let ops = c.args.code.now.ops.now in
    let slots = get_or c.args.table.now.buckets c.args.bucket [] in
    let st = walk-at _ _ c.in-Some.slot _ c.in-Some.is i.walk in
    let w : c.in-Some.slot < c.args.table.now.slot_room =
    subst (λ o. IfSome o (λ s. s < c.args.table.now.slot_room)) c.in-Some.is i.within in
    let w' : c.in-Some.slot ≤ c.args.table.now.slot_room = omega arith in
    let e : c.insert.new.self.members ≡ with_member (block_of ops (c.in-Some.slot / 3)) c.loop-at.found.members =
    ap (λ (v : Members). v.members) c.insert.ensures
    ∙ ap (λ z. with_member z c.loop-at.found.members) c.block.ensures.block in
    let one : Extends (BlockIn ops slots) c.loop-at.found.members c.insert.new.self.members =
    subst (Extends (BlockIn ops slots) c.loop-at.found.members) (sym e)
    (member-extends (BlockIn ops slots) (block_of ops (c.in-Some.slot / 3)) c.loop-at.found.members
    (c.in-Some.slot, st.there, refl)) in
    record {
      room = ap (λ (v : Members). v.room) c.insert.ensures ∙ i.room;
      within = within-weaker c.next-at.result c.in-Some.slot c.args.table.now.slot_room w'
          (c.next-at.ensures.falls c.args.bucket st.after c.requires.bucket (st.before, st.split));
      walk =
          walk-next slots c.in-Some.slot (λ slot. In (block_of ops (slot / 3)) c.loop-at.found.members)
          (λ slot. In (block_of ops (slot / 3)) c.insert.new.self.members) c.next-at.result st
          (c.next-at.ensures.rest c.args.bucket st.after c.requires.bucket (st.before, st.split))
          (λ t d. extends-In (BlockIn ops slots) c.loop-at.found.members c.insert.new.self.members one _ d)
          (subst (In (block_of ops (c.in-Some.slot / 3))) (sym e)
          (member-there (block_of ops (c.in-Some.slot / 3)) c.loop-at.found.members));
      extends =
          extends-twice (BlockIn ops slots) (BlockIn ops slots) (BlockIn ops slots) c.args.found.now.members
          c.loop-at.found.members c.insert.new.self.members (λ y p. p) (λ y p. p) i.extends one;
    }
