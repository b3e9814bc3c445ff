use Rattle.std.proofs.Common.{◌≡◌, ◌+◌, ◌++◌, ◌≤◌, length}
use Rattle.icode_templates.specs.Words.{words}
use Rattle.icode_templates.specs.Frames.{saves}
use Rattle.icode_expand.proofs.Marked.{so_far}
use Rattle.icode_expand.proofs.saved.save.Given as goal

abbrev pub invariant-loop-place : goal.invariant-loop-place
invariant-loop-place l =
    (l.code ≡ l.fn.code ++ words (saves (so_far l.fn.saved l.place))) ×
    (length l.code ≤ length l.fn.code + l.place)
