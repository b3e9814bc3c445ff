use Rattle.std.proofs.Common.{sym, ◌∙◌, ap, subst, ◌≡◌, false}
use Rattle.collections.specs.Members.{Members, is_in, with_member}
use Rattle.icode_ranges.specs.Blocks.{block_of}
use Rattle.icode_ranges.specs.Lists.{In}
use Rattle.icode_ranges.proofs.Walking.{member-there}
use Rattle.icode_ranges.proofs.take.Goals as goal
use Rattle.icode_ranges.proofs.take.Goals.{then-not-contains, else-not-contains}

pub returns-clause-taken : goal.returns-clause-taken
returns-clause-taken c =
    let b = block_of c.args.code.now.ops.now c.args.place in (
      c.widened.ensures.high,
      λ n. elim c.if-not-contains.branch [
        | then-not-contains w ↦
            let e : w.insert.new.self.members ≡ with_member b c.args.found.now.members =
            ap (λ (v : Members). v.members) w.insert.ensures
            ∙ ap (λ z. with_member z c.args.found.now.members) c.block-block.ensures.block in
            subst (λ (v : Members). In b v.members) (sym w.found-is)
            (subst (In b) (sym e) (member-there b c.args.found.now.members))
        | else-not-contains w ↦
            let t = w.if-not-contains.false in
            absurd (cc (n, t, c.contains.ensures, c.block-block.ensures.block))
      ],
    )
