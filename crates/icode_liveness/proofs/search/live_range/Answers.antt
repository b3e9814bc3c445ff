use Rattle.std.proofs.Common.{arith, sym, ◌∙◌, ap, subst, ◌≡◌, ◌<◌, ◌≤◌, [], length, get_or}
use Rattle.collections.specs.Members.{Members}
use Rattle.icode_ranges.specs.Lists.{Extends}
use Rattle.icode_ranges.specs.Search.{BlockIn}
use Rattle.icode_liveness.proofs.Reaching.{defining-are, reaching-start, reaching-more, found-within, exact}
use Rattle.icode_liveness.proofs.Taking.{found-longer}
use Rattle.icode_liveness.proofs.search.live_range.Goals as goal

pub loop-looked_at-init : goal.loop-looked_at-init
loop-looked_at-init c =
    let ops = c.args.code.now.ops.now in
    let v = c.args.range.reg in
    let shown = c.args.code.now.exposed.now.buckets in
    let defined = c.args.code.now.definitions.now.buckets in
    let a = c.add_blocks.ensures in
    let b = c.add_blocks-2.ensures in
    let x : Extends (BlockIn ops (get_or shown v [])) [] c.add_blocks.new.found.members =
    subst (λ (m : Members). Extends (BlockIn ops (get_or shown v [])) m.members c.add_blocks.new.found.members)
    c.clear.ensures a.extends in
    let y : Extends (BlockIn ops (get_or defined v [])) [] c.add_blocks-2.new.found.members =
    subst (λ (m : Members). Extends (BlockIn ops (get_or defined v [])) m.members c.add_blocks-2.new.found.members)
    c.clear-2.ensures b.extends in
    record {
      room = a.room ∙ ap (λ (m : Members). m.room) c.clear.ensures;
      same = b.room ∙ ap (λ (m : Members). m.room) c.clear-2.ensures;
      within = omega arith;
      defining =
          defining-are ops v defined c.add_blocks-2.new.found.members c.requires.listed.definitions
          c.requires.register b.all y;
      reaching =
          reaching-start ops v shown c.add_blocks-2.new.found.members c.add_blocks.new.found.members c.args.range
          c.requires.listed.exposed (omega (arith, c.requires.register, c.requires.listed.each_exposed))
          c.requires.range a.all x;
    }

pub take_before-range-requires-clause-block : goal.take_before-range-requires-clause-block
take_before-range-requires-clause-block c =
    let i = c.loop-looked_at.looked_at in
    let at = ap (λ xs. get_or xs i 0) c.as_slice-in-loop-looked_at.ensures.members in
    let lt : i < length c.loop-looked_at.found.members = omega (arith, ap length c.as_slice.ensures.members) in
    found-within c.args.code.now.ops.now c.args.range.reg c.add_blocks-2.new.found.members
    c.loop-looked_at.found.members i _ c.loop-looked_at.range lt at c.loop-looked_at.invariant.reaching

pub loop-looked_at-preserved : goal.loop-looked_at-preserved
loop-looked_at-preserved c =
    let n = c.loop-looked_at.looked_at in
    let i = c.loop-looked_at.invariant in
    let t = c.take_before-range.ensures in
    let at = ap (λ xs. get_or xs n 0) c.as_slice-in-loop-looked_at.ensures.members in
    let lt : n < length c.loop-looked_at.found.members = omega (arith, ap length c.as_slice.ensures.members) in
    let longer = found-longer _ _ _ _ _ c.loop-looked_at.found.members c.take_before-range.new.found.members t.grown in
    record {
      room = t.room ∙ i.room;
      same = i.same;
      within = omega (arith, longer, lt);
      defining = i.defining;
      reaching =
          reaching-more c.args.code.now.ops.now c.args.range.reg c.add_blocks-2.new.found.members
          c.loop-looked_at.found.members c.take_before-range.new.found.members n
          (get_or c.as_slice-in-loop-looked_at.result.now n 0) c.loop-looked_at.range c.widened.result
          c.take_before-range.result lt at i.reaching i.defining c.widened.ensures.wider c.widened.ensures.low
          t.grown t.taken;
    }

pub returns-clause-interval : goal.returns-clause-interval
returns-clause-interval c =
    let le : length c.loop-looked_at.found.members ≤ c.loop-looked_at.looked_at =
    omega (arith, ap length c.as_slice.ensures.members) in
    exact c.args.code.now.ops.now c.args.range.reg c.add_blocks-2.new.found.members c.loop-looked_at.found.members
    c.loop-looked_at.looked_at c.loop-looked_at.range c.loop-looked_at.invariant.reaching
    (λ b k. c.loop-looked_at.invariant.defining) le
