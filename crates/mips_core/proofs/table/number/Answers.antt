use Rattle.std.proofs.Common.{◌∙◌, ◌+◌, ap}
use Rattle.code_arena.specs.Rows.{published}
use Rattle.mips_core.proofs.Numbered.{numbered_none, numbered_more}
use Rattle.mips_core.proofs.table.number.Goals as goal

pub loop-i-init : goal.loop-i-init
loop-i-init c = c.requires.none ∙ numbered_none

pub loop-i-preserved : goal.loop-i-preserved
loop-i-preserved c =
    c.set.ensures
    ∙ ap (published (c.loop-i.i + 1) _ _) c.loop-i.invariant
    ∙ numbered_more c.args.functions.now c.loop-i.i _ c.loop-i-test.true
