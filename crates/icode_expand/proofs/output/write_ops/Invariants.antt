use Rattle.std.proofs.Common.{ℕ, ◌≡◌, ◌+◌, length, take}
use Rattle.icode_templates.specs.Layout.{laid}
use Rattle.icode_templates.specs.Templates.{Aim}
use Rattle.icode_templates.specs.Words.{words}
use Rattle.icode_templates.specs.Expansion.{nowhere, templates}
use Rattle.icode_expand.specs.Labels.{IsTable, spliced}
use Rattle.icode_expand.proofs.output.write_ops.Given as goal

abbrev pub invariant-loop-op : goal.invariant-loop-op
invariant-loop-op l =
    (l.end ≡ l.fn.filled + length
    (templates (laid l.layout.places.now l.layout.frame l.layout.objects) nowhere (take l.op-index l.ops)))
    × ((address : Aim → ℕ) → IsTable address l.ops l.labels l.epilogue →
    l.out ≡ spliced l.fn.out l.fn.filled
    (words (templates (laid l.layout.places.now l.layout.frame l.layout.objects) address (take l.op-index l.ops))))
    × (length l.out ≡ length l.fn.out)
