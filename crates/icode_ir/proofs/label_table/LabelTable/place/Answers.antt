use Rattle.std.proofs.Common.{sym, ◌∙◌, ap, cond, arith, ℕ}
use Rattle.collections.specs.Members.{is_in}
use Rattle.icode_ir.proofs.Marking.{label-placed, counted-one}
use Rattle.icode_ir.proofs.label_table.LabelTable.place.Goals as goal
use Rattle.icode_ir.proofs.label_table.LabelTable.place.Goals.{then-jumped, else-jumped}

pub overflow_sub-self : goal.overflow_sub-self
overflow_sub-self c =
    let i = c.self.inside in
    counted-one i.jumped i.placed i.unplaced c.args.label c.self.invariant
    (ap (λ m. is_in c.args.label m.placed) c.self.view_is ∙ c.requires.first)
    (sym c.contains-jumped.ensures ∙ c.if-jumped.true)

pub invariant_of-self : goal.invariant_of-self
invariant_of-self c =
    let i = c.self.inside in
    let f = ap (λ m. is_in c.args.label m.placed) c.self.view_is ∙ c.requires.first in
    elim c.if-jumped.branch [
      | then-jumped w ↦
          let t = sym c.contains-jumped.ensures ∙ w.if-jumped.true in
          let one = counted-one i.jumped i.placed i.unplaced c.args.label c.self.invariant f t in
          label-placed i.jumped i.placed c.insert.new.self i.unplaced c.if-jumped.self c.args.label c.self.invariant f
          c.insert.ensures
          (omega (arith, one, w.self-is, ap {B = ℕ} (λ b. cond b 1 0) t))
      | else-jumped w ↦
          let t = sym c.contains-jumped.ensures ∙ w.if-jumped.false in
          label-placed i.jumped i.placed c.insert.new.self i.unplaced c.if-jumped.self c.args.label c.self.invariant f
          c.insert.ensures
          (omega (arith, w.self-is, ap {B = ℕ} (λ b. cond b 1 0) t))
    ]
