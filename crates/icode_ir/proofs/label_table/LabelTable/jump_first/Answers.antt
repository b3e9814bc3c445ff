use Rattle.std.proofs.Common.{sym, ◌∙◌, ap, cond, ◌+◌, ◌≤◌, length, arith, not}
use Rattle.collections.specs.Members.{is_in}
use Rattle.icode_ir.proofs.Marking.{first-jump, tally-length}
use Rattle.icode_ir.proofs.label_table.LabelTable.jump_first.Goals as goal
use Rattle.icode_ir.proofs.label_table.LabelTable.jump_first.Goals.{then-placed, else-placed}

pub overflow_add-self : goal.overflow_add-self
overflow_add-self c =
    let i = c.self.inside in
    let few : length i.jumped.members ≤ 4294967294 =
    omega (arith, ap (λ m. length m.jumped) c.self.view_is, c.requires.few) in
    omega (arith, few, c.self.invariant.counted, tally-length (λ l. not (is_in l i.placed.members)) i.jumped.members)

pub invariant_of-self : goal.invariant_of-self
invariant_of-self c =
    let i = c.self.inside in
    let f = ap (λ m. is_in c.args.label m.jumped) c.self.view_is ∙ c.requires.first in
    elim c.if-placed.branch [
      | then-placed w ↦ first-jump i.jumped i.placed c.insert.new.self i.unplaced c.if-placed.self c.args.label
          c.self.invariant f c.insert.ensures
          (w.self-is ∙ ap (λ b. cond b i.unplaced (i.unplaced + 1)) (sym w.if-placed.true ∙ c.contains-placed.ensures))
      | else-placed w ↦ first-jump i.jumped i.placed c.insert.new.self i.unplaced c.if-placed.self c.args.label
          c.self.invariant f c.insert.ensures
          (w.self-is ∙ ap (λ b. cond b i.unplaced (i.unplaced + 1)) (sym w.if-placed.false ∙ c.contains-placed.ensures))
    ]
