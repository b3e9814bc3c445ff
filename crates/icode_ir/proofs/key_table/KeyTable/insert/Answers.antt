use Rattle.std.proofs.Common.{◌∙◌, ap, ◌++◌, ◌∷◌, [], ◌<◌, length, set, arith}
use Rattle.icode_ir.specs.Build.{find}
use Rattle.icode_ir.specs.Tables.{with_registers}
use Rattle.icode_ir.proofs.Keying.{inserted, out-find}
use Rattle.icode_ir.proofs.key_table.KeyTable.insert.Goals as goal

pub returns : goal.returns
returns c =
    let i = c.self.inside in
    let o = out-find c.args.key i.registers.items i.keys.members
    (ap (find c.args.key) c.self.view_is ∙ c.requires.first) in
    let l : c.args.key < length i.registers.items = omega (arith, c.requires.key, c.self.invariant.1) in
    let h = inserted c.args.key c.args.register i.registers.items i.keys.members o l in
    ap (λ z. with_registers (set i.registers.items c.args.key c.args.register) z.members) c.insert.ensures
    ∙ (h ∙ ap (λ z. z ++ (c.args.key, c.args.register) ∷ []) c.self.view_is)
