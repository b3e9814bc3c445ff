use Rattle.std.proofs.Common.{◌≡◌, ◌*◌, ◌≤◌, length, take}
use Rattle.icode_templates.specs.Layout.{laid}
use Rattle.icode_templates.specs.Expansion.{nowhere, templates}
use Rattle.icode_expand.proofs.counts.ops_words.Given as goal

abbrev pub invariant-loop-op : goal.invariant-loop-op
invariant-loop-op l =
    (l.count
    ≡ length
    (templates (laid l.layout.places.now l.layout.frame l.layout.objects) nowhere (take l.op-index l.ops)))
    × (l.count ≤ 16 * l.op-index)
